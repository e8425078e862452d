use Rattle.std.proofs.Common.{sym, rules}
use Rattle.kinds.proofs.Sizes.{size_bounded}
use Rattle.transform.proofs.Calls.{found_inverts, none_inverts}
use Rattle.transform.proofs.patches.is_block.Goals as goal

pub overflow_mul-size : goal.overflow_mul-size
overflow_mul-size c = let b = (size_bounded c.args.kind c.in-Some.size (sym c.in-Some.ensures)).narrow in search rules

pub overflow_mul-size-in-Some : goal.overflow_mul-size-in-Some
overflow_mul-size-in-Some c = let b = (size_bounded c.args.kind c.in-Some.size (sym c.in-Some.ensures)).low in search rules

pub returns-in-Some : goal.returns-in-Some
returns-in-Some c =
    found_inverts c.args.kind c.in-Some.size c.args.shape c.args.len c.args.room c.is_sized.result
    (sym c.in-Some.ensures) c.is_sized.ensures

pub returns-in-None : goal.returns-in-None
returns-in-None c = none_inverts c.args.kind c.args.shape c.args.len c.args.room (sym c.in-None.ensures)
