use Rattle.std.proofs.Common.{length, arith}
use Rattle.dct.proofs.Lanes.{joined_from}
use Rattle.dct.proofs.strips.join_rows.Goals as goal

pub returns : goal.returns
returns c x l =
    joined_from (length c.args.sec.now) c.args.sec.now c.args.front.now c.args.back.now c.loop-i.strip x
    (λ k m. c.loop-i.invariant.0 x k l (omega arith)) (λ k m. c.loop-i.invariant.1 x k l (omega arith))
