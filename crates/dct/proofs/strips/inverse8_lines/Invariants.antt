-- The lines below x are transformed, the others as they were.
use Rattle.std.proofs.Common.{◌≡◌, ℕ, ◌<◌, ◌≤◌}
use Rattle.dct.specs.Strips.{lane, lanes}
use Rattle.dct.specs.Transform.{at, idct}
use Rattle.dct.proofs.strips.inverse8_lines.Given as goal

abbrev pub invariant-loop-x : goal.invariant-loop-x
invariant-loop-x l =
    ((y k : ℕ) → y < l.x → k < 8 → lane l.strip y k ≡ at (idct 3 (lanes 8 l.initial.strip y)) k)
    × ((y k : ℕ) → y < 8 → l.x ≤ y → lane l.strip y k ≡ lane l.initial.strip y k)
