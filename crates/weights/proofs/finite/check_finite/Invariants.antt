use Rattle.std.proofs.Common.{◌≡◌, ℕ, ◌<◌, true}
use Rattle.weights.specs.Weights.{finite_at}
use Rattle.weights.proofs.finite.check_finite.Given as goal

abbrev pub invariant-loop-i : goal.invariant-loop-i
invariant-loop-i l = (k : ℕ) → k < l.i → finite_at l.weights k ≡ true
