use Rattle.std.proofs.Common.{arith}
use Rattle.tablet.proofs.Codes.{encoded_is}
use Rattle.tablet.proofs.encode.Goals as goal

pub returns : goal.returns
returns c = encoded_is c.args.block.now c.loop-i.bytes (omega arith) (λ k h. c.loop-i.invariant k (omega arith))
