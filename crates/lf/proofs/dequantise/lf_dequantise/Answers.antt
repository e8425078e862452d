use Rattle.lf.proofs.Grids.{viewed_lent, same_planes}
use Rattle.lf.proofs.Dequantising.{writable}
use Rattle.lf.proofs.dequantise.lf_dequantise.Goals as goal

pub paint_all-requires : goal.paint_all-requires
paint_all-requires c =
    let x = viewed_lent c.view.result c.args.x.now c.view.ensures.list c.view.ensures.shape in
    let y = viewed_lent c.view-2.result c.args.y.now c.view-2.ensures.list c.view-2.ensures.shape in
    let b = viewed_lent c.view-3.result c.args.b.now c.view-3.ensures.list c.view-3.ensures.shape in
    let found = writable _ _ _ _ _ _ _ _ (same_planes _ _ _ _ _ _ x y b) c.in_ok-numbers.ensures.1 c.in_ok-numbers.ensures.0 in
    record { lawful = found.0.lawful; can = found.0.can }

pub paint_all-requires-2 : goal.paint_all-requires-2
paint_all-requires-2 c =
    let x = viewed_lent c.view.result c.args.x.now c.view.ensures.list c.view.ensures.shape in
    let y = viewed_lent c.view-2.result c.args.y.now c.view-2.ensures.list c.view-2.ensures.shape in
    let b = viewed_lent c.view-3.result c.args.b.now c.view-3.ensures.list c.view-3.ensures.shape in
    let found = writable _ _ _ _ _ _ _ _ (same_planes _ _ _ _ _ _ x y b) c.in_ok-numbers.ensures.1 c.in_ok-numbers.ensures.0 in
    record { lawful = found.1.lawful; can = found.1.can }

pub paint_all-requires-3 : goal.paint_all-requires-3
paint_all-requires-3 c =
    let x = viewed_lent c.view.result c.args.x.now c.view.ensures.list c.view.ensures.shape in
    let y = viewed_lent c.view-2.result c.args.y.now c.view-2.ensures.list c.view-2.ensures.shape in
    let b = viewed_lent c.view-3.result c.args.b.now c.view-3.ensures.list c.view-3.ensures.shape in
    let found = writable _ _ _ _ _ _ _ _ (same_planes _ _ _ _ _ _ x y b) c.in_ok-numbers.ensures.1 c.in_ok-numbers.ensures.0 in
    record { lawful = found.2.lawful; can = found.2.can }
