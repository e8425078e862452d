use Rattle.std.proofs.Common.{◌≡◌, List, ap, ◌∙◌, rules}
use lib.Ieee.{Float}
use Rattle.dct.specs.declared.dct_common.DctDirection.TheVariants.{Inverse}
use Rattle.dct_2d.specs.Plane.{down}
use Rattle.dct.specs.Transform.{at, idct}
use Rattle.cells.specs.Cells.{cell, flipped}
use Rattle.cells.specs.Passes.{row, downs}
use Rattle.cells.proofs.Steps.{row_down}
use Rattle.cells.proofs.columns.inverse_rows.Goals as goal

pub returns : goal.returns
unfolding downs
returns c = c.rows_to_columns.ensures (down Inverse 3 (flipped (cell c.args.block.now))) (λ x y v hx hy p. let e : v ≡ idct 3 (row c.args.block.now x) = search rules in ap (λ (t : List Float). at t y) e ∙ row_down c.args.block.now x y hx hy)
