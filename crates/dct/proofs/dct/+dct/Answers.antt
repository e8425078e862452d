-- The small lengths are their definitions. From 8 on: the halves have half the length, and the whole is made from them.
use Rattle.std.proofs.Common.{◌≡◌, ℕ, suc, ◌^◌, length, sym, ◌∙◌, subst, arith, pow_pos, rules}
use Rattle.dct.specs.Transform.{dct_of, evens, odd_sums, joined, means, slopes, interleaved}
use Rattle.floats.proofs.Powers.{pow_inj}
use Rattle.dct.proofs.Halves.{large, factor_count, apart, one_of, two_forward, two_inverse, four_of, from_forward, from_inverse}
use Rattle.dct.proofs.dct.+dct.Goals as goal
use Rattle.dct.proofs.dct.+dct.Goals.{in-Forward-direction, in-Inverse-direction, in_default-via-then-io-lt4, in_default-via-else-io-lt4+else-io-lt5}

pub fold-requires-clause-whole : goal.fold-requires-clause-whole
fold-requires-clause-whole t c =
    let n = length c.args.io.now in
    let b = large n c.requires.sided (search rules) (search rules) (search rules) in
    omega (arith, b.halves)

pub fold-requires-clause-factors : goal.fold-requires-clause-factors
fold-requires-clause-factors t c =
    let n = length c.args.io.now in
    let b = large n c.requires.sided (search rules) (search rules) (search rules) in
    omega (arith, b.halves, factor_count b.j n c.sec_half-sec.result.now b.bound b.whole c.sec_half-sec.ensures.table)

pub deal-requires-clause-whole : goal.deal-requires-clause-whole
deal-requires-clause-whole t c =
    let n = length c.args.io.now in
    let b = large n c.requires.sided (search rules) (search rules) (search rules) in
    omega (arith, b.halves)

pub dct-requires : goal.dct-requires
dct-requires t c =
    let n = length c.args.io.now in
    let b = large n c.requires.sided (search rules) (search rules) (search rules) in
    (omega (arith, b.halves, pow_pos (suc (suc b.j))), ((suc (suc b.j), omega (arith, b.bound), omega (arith, b.halves)), omega (arith, b.halves)))

pub dct-requires-in_default : goal.dct-requires-in_default
dct-requires-in_default t c =
    let n = length c.args.io.now in
    let b = large n c.requires.sided (search rules) (search rules) (search rules) in
    (omega (arith, b.halves, pow_pos (suc (suc b.j))), ((suc (suc b.j), omega (arith, b.bound), omega (arith, b.halves)), omega (arith, b.halves)))

pub weave-requires-clause-whole : goal.weave-requires-clause-whole
weave-requires-clause-whole t c =
    let n = length c.args.io.now in
    let b = large n c.requires.sided (search rules) (search rules) (search rules) in
    omega (arith, b.halves)

pub join-requires-clause-whole : goal.join-requires-clause-whole
join-requires-clause-whole t c =
    let n = length c.args.io.now in
    let b = large n c.requires.sided (search rules) (search rules) (search rules) in
    omega (arith, b.halves)

pub join-requires-clause-factors : goal.join-requires-clause-factors
join-requires-clause-factors t c =
    let n = length c.args.io.now in
    let b = large n c.requires.sided (search rules) (search rules) (search rules) in
    omega (arith, b.halves, factor_count b.j n c.sec_half-sec.result.now b.bound b.whole c.sec_half-sec.ensures.table)

pub returns-in-empty : goal.returns-in-empty
returns-in-empty t c k e = one_of c.args.direction c.args.io.now k (search rules) e

pub returns-in-Forward : goal.returns-in-Forward
returns-in-Forward t c k e = two_forward c.args.direction c.args.io.now k c.in-Forward.is (search rules) e

pub returns-in-Inverse : goal.returns-in-Inverse
returns-in-Inverse t c k e = two_inverse c.args.direction c.args.io.now k c.in-Inverse.is (search rules) e

pub returns-in-len4 : goal.returns-in-len4
returns-in-len4 t c k e = c.copy_from_slice.ensures.after ∙ c.dct4-out.ensures ∙ four_of c.args.direction c.args.io.now k (search rules) e

pub returns-in-Forward-direction-2 : goal.returns-in-Forward-direction-2
returns-in-Forward-direction-2 t c k e =
    let v = c.args.io.now in
    let d = c.args.direction in
    let s = c.sec_half-sec.result.now in
    let m = length c.split_at_mut-front.result.0.now in
    let b = large (length v) c.requires.sided (search rules) (search rules) (search rules) in
    let j = b.j in
    let f : c.match-direction-2.front ≡ means m v = elim c.match-direction-2.branch [
      | in-Forward-direction w ↦ w.front-is ∙ w.fold.ensures.front
      | in-Inverse-direction w ↦ absurd (apart d c.in-Forward-direction-2.is w.in-Inverse-direction.is)
    ] in
    let g : c.match-direction-2.back ≡ slopes m s v = elim c.match-direction-2.branch [
      | in-Forward-direction w ↦ w.back-is ∙ w.fold.ensures.back
      | in-Inverse-direction w ↦ absurd (apart d c.in-Forward-direction-2.is w.in-Inverse-direction.is)
    ] in
    let size : m ≡ 2 ^ suc (suc j) = omega (arith, b.halves) in
    let long : length c.dct.new.io ≡ m = omega arith in
    subst (λ (i : ℕ). c.weave.new.io ≡ dct_of d i v) (pow_inj (suc (suc (suc j))) k (sym b.whole ∙ e))
    (from_forward j m d v s c.match-direction-2.front c.match-direction-2.back c.dct.new.io c.dct-in_default.new.io c.weave.new.io
    size (c.sec_half-sec.ensures.table (suc (suc (suc j))) (omega arith) b.bound b.whole)
    (c.dct.ensures (suc (suc j)) (omega (arith, b.halves))) (c.dct-in_default.ensures (suc (suc j)) (omega (arith, b.halves)))
    c.in-Forward-direction-2.is f g
    (subst (λ (x : ℕ). c.weave.new.io ≡ interleaved x c.dct.new.io c.dct-in_default.new.io) long c.weave.ensures))

pub returns-in-Inverse-direction-2 : goal.returns-in-Inverse-direction-2
returns-in-Inverse-direction-2 t c k e =
    let v = c.args.io.now in
    let d = c.args.direction in
    let s = c.sec_half-sec.result.now in
    let m = length c.split_at_mut-front.result.0.now in
    let b = large (length v) c.requires.sided (search rules) (search rules) (search rules) in
    let j = b.j in
    let f : c.match-direction-2.front ≡ evens m v = elim c.match-direction-2.branch [
      | in-Forward-direction w ↦ absurd (apart d w.in-Forward-direction.is c.in-Inverse-direction-2.is)
      | in-Inverse-direction w ↦ w.front-is ∙ w.deal.ensures.front
    ] in
    let g : c.match-direction-2.back ≡ odd_sums m v = elim c.match-direction-2.branch [
      | in-Forward-direction w ↦ absurd (apart d w.in-Forward-direction.is c.in-Inverse-direction-2.is)
      | in-Inverse-direction w ↦ w.back-is ∙ w.deal.ensures.back
    ] in
    let size : m ≡ 2 ^ suc (suc j) = omega (arith, b.halves) in
    let long : length c.dct.new.io ≡ m = omega arith in
    subst (λ (i : ℕ). c.join.new.io ≡ dct_of d i v) (pow_inj (suc (suc (suc j))) k (sym b.whole ∙ e))
    (from_inverse j m d v s c.match-direction-2.front c.match-direction-2.back c.dct.new.io c.dct-in_default.new.io c.join.new.io
    size (c.sec_half-sec.ensures.table (suc (suc (suc j))) (omega arith) b.bound b.whole)
    (c.dct.ensures (suc (suc j)) (omega (arith, b.halves))) (c.dct-in_default.ensures (suc (suc j)) (omega (arith, b.halves)))
    c.in-Inverse-direction-2.is f g
    (subst (λ (x : ℕ). c.join.new.io ≡ joined x s c.dct.new.io c.dct-in_default.new.io) long c.join.ensures))
