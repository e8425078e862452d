use Rattle.std.proofs.Common.{List, sym, ap, ◌∙◌, arith}
use Rattle.grid.specs.declared.Shape.{Shape}
use Rattle.kinds.proofs.Sizes.{size_bounded}
use Rattle.varmap.specs.declared.cells.Cell.{Cell}
use Rattle.frame.specs.Placing.{place_judged}
use Rattle.frame.proofs.Accepted.{accepted}
use Rattle.frame.proofs.frame.Frame.place.Goals as goal

pub paint-requires : goal.paint-requires
paint-requires c =
    let frame = c.args.self.now in
    let map = c.args.map.now in
    let found =
    accepted frame.w8 frame.h8 frame.stage map.shape map.list.now c.args.kind c.args.x c.args.y
    c.args.hf_mul c.in_ok-width.field-0
    (ap (λ (s : Shape). place_judged frame.w8 frame.h8 frame.stage s map.list.now c.args.kind c.args.x c.args.y c.args.hf_mul)
    (sym c.view.ensures.shape)
    ∙ ap
    (λ (xs : List Cell). place_judged frame.w8 frame.h8 frame.stage c.view.result.shape xs c.args.kind c.args.x c.args.y c.args.hf_mul)
    (sym c.view.ensures.list)
    ∙ sym c.in_ok-width.ensures) in
    let bounds = size_bounded _ _ found.carried in
    let narrow = bounds.narrow in
    let low = bounds.low in
    record {
      lawful = found.sized.lawful;
      across = omega (arith, found.across, found.sized.width);
      down = omega (arith, found.down, found.sized.height);
      can = λ i j a b. (omega arith, omega arith);
    }
