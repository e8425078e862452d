use Rattle.std.proofs.Common.{rules}
use Rattle.dct_2d.proofs.Passes.{line_of_two, line_of_dct, sided_exponent}
use Rattle.dct_2d.proofs.dct_line.Goals as goal

pub returns-in-len2 : goal.returns-in-len2
returns-in-len2 c k e = line_of_two c.args.direction k c.args.line.now c.pair_factor-mul.result c.pair_factor-mul.ensures (search rules) e

pub returns-in_default : goal.returns-in_default
returns-in_default c k e = line_of_dct c.args.direction k c.args.line.now c.dct_1d.new.io (c.dct_1d.ensures.works k (sided_exponent c.args.line.now k c.requires.sided e) e c.requires.room) (search rules) e (search rules)
