use Rattle.std.proofs.Common.{◌≡◌, ℕ, ◌+◌, ◌*◌, ◌/◌, ◌%◌, ◌<◌, cond, ◌&&◌, eqb, ltb, length}
use Rattle.dct.specs.Transform.{at}
use Rattle.cells.proofs.transform.place.Given as goal

abbrev pub invariant-loop-i : goal.invariant-loop-i
invariant-loop-i l = (length l.out ≡ 64) × ((p q : ℕ) → p < 8 → q < 8 → at l.out (q * 8 + p) ≡ cond ((eqb (p / 4) l.x && eqb (q / 4) l.y) && ltb (q % 4 * 4 + p % 4) l.i) (at l.quarter (q % 4 * 4 + p % 4)) (at l.initial.out (q * 8 + p)))
