-- The rows below i are there.
use Rattle.std.proofs.Common.{◌≡◌, ℕ, ◌*◌, ◌<◌}
use Rattle.dct.specs.Strips.{lane}
use Rattle.dct.proofs.strips.even_rows.Given as goal

abbrev pub invariant-loop-i : goal.invariant-loop-i
invariant-loop-i l = (x k : ℕ) → x < 8 → k < l.i → lane l.front x k ≡ lane l.strip x (2 * k)
