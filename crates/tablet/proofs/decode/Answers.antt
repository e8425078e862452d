use Rattle.std.proofs.Common.{arith}
use Rattle.tablet.proofs.Codes.{decoded_is}
use Rattle.tablet.proofs.decode.Goals as goal

pub returns : goal.returns
returns c = decoded_is c.args.bytes.now c.loop-i.block (omega arith) (λ k h. c.loop-i.invariant k (omega arith))
