use Rattle.std.proofs.Common.{Bool, sym, ap, ◌∙◌}
use Rattle.dct_2d.specs.Plane.{Patch}
use Rattle.cells.specs.Cells.{cell, flipped, dct8x4}
use Rattle.cells.specs.Passes.{downs, half_downs, by_turn}
use Rattle.cells.proofs.Steps.{dct4x8_steps}
use Rattle.cells.proofs.columns.transform_dct4x8.Goals as goal

pub returns-then-tr : goal.returns-then-tr
unfolding dct8x4
returns-then-tr c =
    let p = cell c.args.coeff.now in
    c.flip.ensures
    ∙ ap flipped
    (c.inverse_half_rows-samples.ensures
    ∙ ap (λ (q : Patch). half_downs (flipped (downs (flipped q)))) c.pair.ensures
    ∙ dct4x8_steps p)
    ∙ ap (λ (b : Bool). by_turn b p) (sym c.if-tr.true)

pub returns-else-tr : goal.returns-else-tr
returns-else-tr c =
    let p = cell c.args.coeff.now in
    c.inverse_half_rows-samples.ensures
    ∙ ap (λ (q : Patch). half_downs (flipped (downs (flipped q)))) c.pair.ensures
    ∙ dct4x8_steps p
    ∙ ap (λ (b : Bool). by_turn b p) (sym c.if-tr.false)
