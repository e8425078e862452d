use Rattle.std.proofs.Common.{ap, ◌∙◌}
use Rattle.dct_2d.specs.Plane.{Patch}
use Rattle.cells.specs.Cells.{cell, flipped}
use Rattle.cells.specs.Passes.{swapped, half_downs}
use Rattle.cells.proofs.Steps.{dct4_steps}
use Rattle.cells.proofs.columns.transform_dct4.Goals as goal

pub returns : goal.returns
returns c =
    c.inverse_quarters.ensures
    ∙ ap (λ (p : Patch). swapped (half_downs (flipped (half_downs p)))) c.aux_idct2_in_place.ensures
    ∙ dct4_steps (cell c.args.coeff.now)
