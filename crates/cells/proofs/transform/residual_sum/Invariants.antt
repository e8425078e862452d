-- The sum of as many numbers as were taken.
use Rattle.std.proofs.Common.{◌≡◌}
use Rattle.cells.specs.Cells.{residual_sum}
use Rattle.cells.specs.Passes.{four_by_four}
use Rattle.cells.proofs.transform.residual_sum.Given as goal

abbrev pub invariant-loop-number : goal.invariant-loop-number
invariant-loop-number l = l.sum ≡ residual_sum (four_by_four l.q) l.number-index
