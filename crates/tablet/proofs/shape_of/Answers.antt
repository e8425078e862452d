use Rattle.std.proofs.Common.{sym, rules}
use Rattle.kinds.proofs.Sizes.{size_bounded}
use Rattle.tablet.proofs.shape_of.Goals as goal

pub overflow_mul-size : goal.overflow_mul-size
overflow_mul-size c = let b = (size_bounded c.args.kind c.in-Some.size (sym c.in-Some.ensures)).narrow in search rules

pub overflow_mul-size-in-Some : goal.overflow_mul-size-in-Some
overflow_mul-size-in-Some c = let b = (size_bounded c.args.kind c.in-Some.size (sym c.in-Some.ensures)).low in search rules
