-- The rows below i, and as many from the end, are there.
use Rattle.std.proofs.Common.{◌≡◌, ℕ, ◌-◌, ◌*◌, ◌<◌, length}
use Rattle.dct.specs.Strips.{lane, sum_lane, difference_lane}
use Rattle.dct.specs.Transform.{at}
use Rattle.dct.proofs.strips.join_rows.Given as goal

abbrev pub invariant-loop-i : goal.invariant-loop-i
invariant-loop-i l =
    ((x k : ℕ) → x < 8 → k < l.i → lane l.strip x k ≡ sum_lane (at l.sec k) l.front l.back k x)
    × ((x k : ℕ) → x < 8 → k < l.i → lane l.strip x (2 * length l.sec - 1 - k) ≡ difference_lane (at l.sec k) l.front l.back k x)
