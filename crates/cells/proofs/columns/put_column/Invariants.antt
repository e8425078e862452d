use Rattle.std.proofs.Common.{◌≡◌, ℕ, ◌+◌, ◌*◌, ◌<◌, cond, ◌&&◌, eqb, ltb, length}
use Rattle.dct.specs.Transform.{at}
use Rattle.cells.proofs.columns.put_column.Given as goal

abbrev pub invariant-loop-y : goal.invariant-loop-y
invariant-loop-y l =
    (length l.out ≡ 64)
    × ((p q : ℕ) → p < 8 → q < 8 → at l.out (q * 8 + p) ≡ cond (eqb p l.x && ltb q l.y) (at l.values q) (at l.initial.out (q * 8 + p)))
