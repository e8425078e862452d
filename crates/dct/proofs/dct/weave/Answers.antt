-- A turn writes one more pair.
use Rattle.std.proofs.Common.{length, arith}
use Rattle.dct.proofs.Steps.{interleaved_all}
use Rattle.dct.proofs.dct.weave.Goals as goal

pub returns : goal.returns
returns c =
    interleaved_all (length c.args.front.now) c.args.front.now c.args.back.now c.loop-i.io (omega arith)
    (λ k l. c.loop-i.invariant.0 k (omega arith)) (λ k l. c.loop-i.invariant.1 k (omega arith))
