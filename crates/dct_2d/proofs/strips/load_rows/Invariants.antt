-- The lines below x are read.
use Rattle.std.proofs.Common.{◌≡◌, ℕ, ◌+◌, ◌<◌}
use Rattle.dct_2d.specs.declared.lines.Axis.TheVariants.{Rows}
use Rattle.dct_2d.specs.Lines.{read_line}
use Rattle.dct.specs.Strips.{lane}
use Rattle.dct_2d.proofs.strips.load_rows.Given as goal

abbrev pub invariant-loop-x : goal.invariant-loop-x
invariant-loop-x l = (x k : ℕ) → x < l.x → k < l.canvas.shape.width → lane l.strip x k ≡ read_line l.canvas.shape Rows (l.y + x) l.canvas.list.now k
