-- A turn writes one more sum and one more difference.
use Rattle.std.proofs.Common.{length, arith}
use Rattle.dct.proofs.Steps.{joined_all}
use Rattle.dct.proofs.dct.join.Goals as goal

pub returns : goal.returns
returns c =
    joined_all (length c.args.front.now) c.args.sec.now c.args.front.now c.args.back.now c.loop-i.io (omega arith)
    (λ k l. c.loop-i.invariant.0 k (omega arith)) (λ k l. c.loop-i.invariant.1 k (omega arith))
