-- The rows below i are there.
use Rattle.std.proofs.Common.{◌≡◌, ℕ, ◌<◌}
use Rattle.dct.specs.Strips.{lane, odd_lane}
use Rattle.dct.proofs.strips.odd_rows.Given as goal

abbrev pub invariant-loop-i : goal.invariant-loop-i
invariant-loop-i l = (x k : ℕ) → x < 8 → k < l.i → lane l.back x k ≡ odd_lane l.strip x k
