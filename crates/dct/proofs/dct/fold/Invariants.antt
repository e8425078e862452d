-- The places below i are written.
use Rattle.std.proofs.Common.{◌≡◌, ℕ, ◌<◌, length}
use Rattle.dct.specs.Transform.{at, mean_at, slope_at}
use Rattle.dct.proofs.dct.fold.Given as goal

abbrev pub invariant-loop-i : goal.invariant-loop-i
invariant-loop-i l = ((k : ℕ) → k < l.i → at l.front k ≡ mean_at (length l.initial.front) l.io k) × ((k : ℕ) → k < l.i → at l.back k ≡ slope_at (length l.initial.front) l.sec l.io k)
