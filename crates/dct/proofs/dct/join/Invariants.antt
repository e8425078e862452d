-- The places below i, and as many from the end, are written.
use Rattle.std.proofs.Common.{◌≡◌, ℕ, ◌+◌, ◌-◌, ◌<◌, length}
use Rattle.dct.specs.Transform.{at, sum_at, difference_at}
use Rattle.dct.proofs.dct.join.Given as goal

abbrev pub invariant-loop-i : goal.invariant-loop-i
invariant-loop-i l = ((k : ℕ) → k < l.i → at l.io k ≡ sum_at l.sec l.front l.back k) × ((k : ℕ) → k < l.i → at l.io (length l.front + length l.front - 1 - k) ≡ difference_at l.sec l.front l.back k)
