use Rattle.grid.specs.Plane.{viewed, seen}
use Rattle.lf.proofs.Correlating.{accepted, gaining}
use Rattle.lf.proofs.correlate.lf_correlate.Goals as goal

pub paint_all-requires : goal.paint_all-requires
paint_all-requires c =
    let fits = accepted _ _ _ (viewed c.view.result) (viewed c.args.y) (viewed c.view-2.result) c.args.by c.in_ok-luma.ensures.0 in
    let found = gaining _ _ c.view.result c.args.x.now _ (seen c.in_ok-luma.luma) c.view.ensures.list c.view.ensures.shape c.in_ok-luma.ensures.1.0 fits.0 fits.1 in
    record { lawful = found.lawful; can = found.can }

pub paint_all-requires-2 : goal.paint_all-requires-2
paint_all-requires-2 c =
    let fits = accepted _ _ _ (viewed c.view.result) (viewed c.args.y) (viewed c.view-2.result) c.args.by c.in_ok-luma.ensures.0 in
    let found = gaining _ _ c.view-2.result c.args.b.now _ (seen c.in_ok-luma.luma) c.view-2.ensures.list c.view-2.ensures.shape c.in_ok-luma.ensures.1.0 fits.2 fits.1 in
    record { lawful = found.lawful; can = found.can }
