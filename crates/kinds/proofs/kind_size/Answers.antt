use Rattle.std.proofs.Common.{inl, inr, arith}
use Rattle.kinds.specs.Kinds.{found, size_of}
use Rattle.kinds.proofs.Sizes.{one_cell, large_size, size_at, not_carried}
use Rattle.std.proofs.lemmas.Bool.Decides.{nat_tests}
use Rattle.kinds.proofs.kind_size.Goals as goal

pub returns-in-4 : goal.returns-in-4
unfolding size_of found
returns-in-4 c = size_at c.args.kind 4 c.in-4.is

pub returns-in-5 : goal.returns-in-5
unfolding size_of found
returns-in-5 c = size_at c.args.kind 5 c.in-5.is

pub returns-in-6 : goal.returns-in-6
unfolding size_of found
returns-in-6 c = size_at c.args.kind 6 c.in-6.is

pub returns-in-7 : goal.returns-in-7
unfolding size_of found
returns-in-7 c = size_at c.args.kind 7 c.in-7.is

pub returns-in-8 : goal.returns-in-8
unfolding size_of found
returns-in-8 c = size_at c.args.kind 8 c.in-8.is

pub returns-in-9 : goal.returns-in-9
unfolding size_of found
returns-in-9 c = size_at c.args.kind 9 c.in-9.is

pub returns-in-10 : goal.returns-in-10
unfolding size_of found
returns-in-10 c = size_at c.args.kind 10 c.in-10.is

pub returns-in-11 : goal.returns-in-11
unfolding size_of found
returns-in-11 c = size_at c.args.kind 11 c.in-11.is

pub returns-in-0-to-3 : goal.returns-in-0-to-3
returns-in-0-to-3 c = one_cell c.args.kind (omega arith) (grind arith)

pub returns-in-18-to-26 : goal.returns-in-18-to-26
returns-in-18-to-26 c =
    let s = large_size c.args.kind (omega arith) (omega arith) in
    grind (arith, nat_tests)

pub returns-in-18-to-26-2 : goal.returns-in-18-to-26-2
returns-in-18-to-26-2 c =
    let s = large_size c.args.kind (omega arith) (omega arith) in
    grind (arith, nat_tests)

pub returns-in-18-to-26-3 : goal.returns-in-18-to-26-3
returns-in-18-to-26-3 c =
    let s = large_size c.args.kind (omega arith) (omega arith) in
    grind (arith, nat_tests)

pub returns-in_default : goal.returns-in_default
returns-in_default c = not_carried c.args.kind (inr (omega arith, omega arith))

pub returns-in_default-2 : goal.returns-in_default-2
returns-in_default-2 c = not_carried c.args.kind (inl (omega arith))
