-- The places below i are written.
use Rattle.std.proofs.Common.{◌≡◌, ℕ, ◌*◌, ◌<◌}
use Rattle.dct.specs.Transform.{at, odd_sum}
use Rattle.dct.proofs.dct.deal.Given as goal

abbrev pub invariant-loop-i : goal.invariant-loop-i
invariant-loop-i l = ((k : ℕ) → k < l.i → at l.front k ≡ at l.io (2 * k)) × ((k : ℕ) → k < l.i → at l.back k ≡ odd_sum l.io k)
