use Rattle.std.proofs.Common.{◌≡◌, ap, ◌∙◌, arith}
use Rattle.std.proofs.lemmas.Grind.{common_steps}
use Rattle.cells.specs.Cells.{residual_sum}
use Rattle.cells.specs.Passes.{four_by_four}
use Rattle.cells.proofs.Parts.{residual_more}
use Rattle.cells.proofs.transform.residual_sum.Goals as goal

pub loop-number-preserved : goal.loop-number-preserved
loop-number-preserved c = residual_more c.args.q.now c.loop-number.number-index _ _ c.loop-number.invariant (grind (arith, common_steps))

pub returns : goal.returns
returns c = let i : c.loop-number.number-index ≡ 15 = grind (arith, common_steps) in c.loop-number.invariant ∙ ap (residual_sum (four_by_four c.args.q.now)) i
