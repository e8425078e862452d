use Rattle.std.proofs.Common.{sym, ◌∙◌}
use Rattle.dct.proofs.Sides.{power_sided, sided_power}
use Rattle.dct.proofs.dct.is_side.Goals as goal

pub returns-then-n-le256 : goal.returns-then-n-le256
returns-then-n-le256 c = (λ t. power_sided c.args.n c.if-n-le256.true (sym c.is_power_of_two.ensures ∙ t), λ s. c.is_power_of_two.ensures ∙ sided_power c.args.n s)
