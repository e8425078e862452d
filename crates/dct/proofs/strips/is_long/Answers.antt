use Rattle.std.proofs.Common.{arith}
use Rattle.std.proofs.lemmas.Bool.{leb-true}
use Rattle.dct.proofs.Lanes.{long_from, long_eight}
use Rattle.dct.proofs.strips.is_long.Goals as goal

pub returns-then-n-ge8 : goal.returns-then-n-ge8
returns-then-n-ge8 c = (
  (λ e. let s = c.is_side.ensures.0 e in long_from c.args.n s.0 s.1 s.2 (omega arith)),
  (λ l. c.is_side.ensures.1 (l.0, l.2, l.3)),
)

pub returns-else-n-ge8 : goal.returns-else-n-ge8
returns-else-n-ge8 c = (λ e. absurd (omega (arith, leb-true 8 c.args.n e)), λ l. absurd (omega (arith, long_eight c.args.n l)))
