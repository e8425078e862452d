-- The pairs below i are written.
use Rattle.std.proofs.Common.{◌≡◌, ℕ, ◌+◌, ◌*◌, ◌<◌, length}
use Rattle.dct.specs.Transform.{at, gathered}
use Rattle.dct.proofs.dct.weave.Given as goal

abbrev pub invariant-loop-i : goal.invariant-loop-i
invariant-loop-i l = ((k : ℕ) → k < l.i → at l.io (2 * k) ≡ at l.front k) × ((k : ℕ) → k < l.i → at l.io (2 * k + 1) ≡ gathered (length l.front) l.back k)
