use Rattle.std.proofs.Common.{◌≡◌, ◌+◌, ◌*◌, ◌/◌, ◌%◌, List, ap, ◌∙◌, rules}
use lib.Ieee.{Float}
use Rattle.dct.specs.declared.dct_common.DctDirection.TheVariants.{Inverse}
use Rattle.dct_2d.specs.Plane.{line}
use Rattle.dct.specs.Transform.{at}
use Rattle.cells.specs.Cells.{cell, flipped}
use Rattle.cells.specs.Passes.{row, halves, half_downs}
use Rattle.cells.proofs.Steps.{row_halves}
use Rattle.cells.proofs.columns.half_rows.Goals as goal

pub returns : goal.returns
unfolding half_downs
returns c = c.rows_to_columns.ensures (λ x y. line Inverse 2 (λ j. flipped (cell c.args.block.now) x (2 * j + y / 4)) (y % 4)) (λ x y v hx hy p. let e : v ≡ halves (row c.args.block.now x) = search rules in ap (λ (t : List Float). at t y) e ∙ row_halves c.args.block.now x y hx hy)
