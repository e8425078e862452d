-- The columns before y are what calls at the rows gave.
use Rattle.std.proofs.Common.{◌≡◌, ℕ, ◌+◌, ◌*◌, ◌<◌, List}
use lib.Ieee.{Float}
use Rattle.std.specs.Fn.{FnReturnsAt}
use Rattle.dct.specs.Transform.{at}
use Rattle.cells.specs.Passes.{row}
use Rattle.cells.proofs.columns.rows_to_columns.Given as goal

abbrev pub invariant-loop-y : goal.invariant-loop-y
invariant-loop-y g l = (p q : ℕ) → p < l.y → q < 8 → (v : List Float) × FnReturnsAt g.F.Fn l.made (row l.block p) v × (at l.out (q * 8 + p) ≡ at v q)
