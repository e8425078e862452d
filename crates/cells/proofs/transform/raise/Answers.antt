use Rattle.std.proofs.Common.{rules, cond, eqb}
use lib.Ieee.{nan}
use Rattle.floats.specs.Arith.{plus}
use Rattle.dct.specs.Transform.{at}
use Rattle.cells.specs.Cells.{nil}
use Rattle.cells.proofs.Made.{made_all}
use Rattle.cells.proofs.transform.raise.Goals as goal

pub returns : goal.returns
returns c =
    made_all _ _ (λ k. plus (cond (eqb k 0) (at c.args.q.now 5) (cond (eqb k 5) nil (at c.args.q.now k))) c.args.average) (λ i r q s. search rules) _ 16 nan c.from_fn.ensures.items
