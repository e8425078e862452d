use Rattle.std.proofs.Common.{ap, ◌∙◌}
use Rattle.dct_2d.specs.Plane.{Patch}
use Rattle.cells.specs.Cells.{cell, flipped}
use Rattle.cells.specs.Passes.{downs}
use Rattle.cells.proofs.Steps.{dct8_steps}
use Rattle.cells.proofs.columns.transform_dct8.Goals as goal

pub returns : goal.returns
returns c =
    c.inverse_rows-2.ensures
    ∙ ap (λ (p : Patch). downs (flipped p)) c.inverse_rows.ensures
    ∙ dct8_steps (cell c.args.coeff.now)
