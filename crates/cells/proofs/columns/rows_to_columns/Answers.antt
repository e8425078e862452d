use Rattle.std.proofs.Common.{◌∙◌, arith, rules}
use Rattle.std.specs.Fn.{FnReturnsAt}
use Rattle.cells.specs.Passes.{row}
use Rattle.cells.proofs.Framing.{cell_is}
use Rattle.cells.proofs.Steps.{column_written}
use Rattle.cells.proofs.columns.rows_to_columns.Goals as goal

pub loop-y-preserved : goal.loop-y-preserved
loop-y-preserved g c =
    column_written (λ p v. FnReturnsAt g.F.Fn c.args.made (row c.args.block.now p) v) c.loop-y.out c.put_column.new.out c.made.result c.loop-y.y (omega arith) (search rules)
    c.loop-y.invariant c.put_column.ensures

pub returns : goal.returns
returns g c f h = cell_is c.loop-y.out f (λ p q hp hq. let i = c.loop-y.invariant p q (omega arith) hq in i.2 ∙ h p q i.0 hp hq i.1)
