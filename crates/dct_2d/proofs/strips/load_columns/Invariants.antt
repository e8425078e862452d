-- The rows below k are read.
use Rattle.std.proofs.Common.{◌≡◌, ℕ, ◌+◌, ◌<◌}
use Rattle.dct_2d.specs.declared.lines.Axis.TheVariants.{Columns}
use Rattle.dct_2d.specs.Lines.{read_line}
use Rattle.dct.specs.Strips.{lane}
use Rattle.dct_2d.proofs.strips.load_columns.Given as goal

abbrev pub invariant-loop-k : goal.invariant-loop-k
invariant-loop-k l = (x k : ℕ) → x < 8 → k < l.k → lane l.strip x k ≡ read_line l.canvas.shape Columns (l.x + x) l.canvas.list.now k
