use Rattle.std.proofs.Common.{◌≡◌, ℕ, ◌+◌, ◌*◌, ◌<◌, List}
use lib.Ieee.{Float}
use Rattle.dct.specs.Transform.{at}
use Rattle.cells.specs.Passes.{column, halves}
use Rattle.cells.proofs.columns.half_columns.Given as goal

abbrev pub invariant-loop-x : goal.invariant-loop-x
invariant-loop-x l = (p q : ℕ) → p < l.x → q < 8 → (v : List Float) × (v ≡ halves (column l.block p)) × (at l.out (q * 8 + p) ≡ at v q)
