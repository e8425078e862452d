use Rattle.std.proofs.Common.{◌≡◌, ◌+◌, ◌*◌, ◌/◌, ◌%◌, List, ap, ◌∙◌, arith}
use lib.Ieee.{Float}
use Rattle.dct.specs.declared.dct_common.DctDirection.TheVariants.{Inverse}
use Rattle.dct_2d.specs.Plane.{line}
use Rattle.dct.specs.Transform.{at}
use Rattle.cells.specs.Cells.{cell}
use Rattle.cells.specs.Passes.{column, halves, half_downs}
use Rattle.cells.proofs.Framing.{cell_is}
use Rattle.cells.proofs.Steps.{column_halves, column_written}
use Rattle.cells.proofs.columns.half_columns.Goals as goal

pub loop-x-preserved : goal.loop-x-preserved
loop-x-preserved c =
    column_written (λ p v. v ≡ halves (column c.args.block.now p)) c.loop-x.out c.put_column.new.out c.inverse_halves.result c.loop-x.x (omega arith)
    (c.inverse_halves.ensures ∙ ap halves c.column.ensures) c.loop-x.invariant c.put_column.ensures

pub returns : goal.returns
unfolding half_downs
returns c =
    cell_is c.loop-x.out (λ x y. line Inverse 2 (λ j. cell c.args.block.now x (2 * j + y / 4)) (y % 4))
    (λ x y hx hy. let i = c.loop-x.invariant x y (omega arith) hy in i.2 ∙ ap (λ (t : List Float). at t y) i.1 ∙ column_halves c.args.block.now x y hx hy)
