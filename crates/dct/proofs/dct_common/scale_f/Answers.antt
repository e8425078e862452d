use Rattle.std.proofs.Common.{arith}
use Rattle.dct.proofs.Scales.{no_scale, scale_found, scale_past, scale_beyond}
use Rattle.dct.proofs.dct_common.scale_f.Goals as goal

pub returns-then-logb-ge6-clause-table : goal.returns-then-logb-ge6-clause-table
returns-then-logb-ge6-clause-table c h = scale_beyond c.args.c c.args.logb (omega (arith, c.then-logb-ge6.either))

pub returns-then-logb-ge6-clause-none : goal.returns-then-logb-ge6-clause-none
returns-then-logb-ge6-clause-none c h = no_scale

pub returns-then-i-lt32-clause-table : goal.returns-then-i-lt32-clause-table
returns-then-i-lt32-clause-table c h = scale_found c.args.c c.args.logb c.scale_at.result c.if-c-ge32.false h c.scale_at.ensures

pub returns-else-i-lt32-clause-table : goal.returns-else-i-lt32-clause-table
returns-else-i-lt32-clause-table c h = scale_past c.args.c c.args.logb c.if-c-ge32.false h c.if-i-lt32.false
