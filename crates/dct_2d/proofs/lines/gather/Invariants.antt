-- The places below k are read.
use Rattle.std.proofs.Common.{◌≡◌, ℕ, ◌<◌}
use Rattle.dct_2d.specs.Lines.{read_line}
use Rattle.dct.specs.Transform.{at}
use Rattle.dct_2d.proofs.lines.gather.Given as goal

abbrev pub invariant-loop-k : goal.invariant-loop-k
invariant-loop-k l = (k : ℕ) → k < l.k → at l.line k ≡ read_line l.canvas.shape l.axis l.i l.canvas.list.now k
