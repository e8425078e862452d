use Rattle.std.proofs.Common.{arith}
use Rattle.dct.proofs.Lanes.{evens_from}
use Rattle.dct.proofs.strips.even_rows.Goals as goal

pub returns : goal.returns
returns c x h = evens_from c.args.half c.args.strip.now c.loop-i.front x (λ k l. c.loop-i.invariant x k h (omega arith))
