use Rattle.std.proofs.Common.{arith}
use Rattle.dct.proofs.Lanes.{odds_from}
use Rattle.dct.proofs.strips.odd_rows.Goals as goal

pub returns : goal.returns
returns c x h = odds_from c.args.half c.args.strip.now c.loop-i.back x (λ k l. c.loop-i.invariant x k h (omega arith))
