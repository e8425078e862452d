-- Halves and ones as factors, a zero on the left, twice a number less the number, a number and its opposite.
use Rattle.std.proofs.Common.{◌≡◌, ℕ, zero, suc, ◌-◌, ◌*◌, ◌<◌, ◌≤◌, Bool, true, false, not, T, ltb, ◌⊎◌, pos, negsuc, sym, refl, ap, ◌∙◌, subst, inl, inr, zero-lt-suc, mul_assoc, mul_comm, mul-pos, zero-add, mul-one, mul_left_comm, arith, ltb→lt, lt→ltb}
use native.Mathlib.Nat.{sub-zero, sub_self}
use lib.Ieee.{Float, nan, inf, fin, binary32, up, down, round, sum, add, sub, mul, neg, of_bits}
use lib.Ieee.Bits.{is_true}
use lib.Ieee.Fits.{up_pos, down_pos, neg-fits}
use Rattle.floats.specs.Same.{Zero, Same, Finite, Number}
use Rattle.floats.specs.Arith.{half, one, plus, minus, times}
use Rattle.floats.proofs.Exact.{round_zero, ltb_self, none_of, no_factor, like_false, zero_plus, zero_minus, zero_neg, zero_times, zero_twice, zero_of_twice, bump, bump_is, twice, cross_half}
use Rattle.floats.proofs.Rounding.{round_fin}

-- ---- times one half, and times one

pub half_is : half ≡ fin false 1 (negsuc 0)
unfolding of_bits
half_is = refl

pub one_is : one ≡ fin false 1 (pos 0)
unfolding of_bits
one_is = refl

pub half_finite : Finite half
half_finite = subst Finite (sym half_is) tt

pub one_finite : Finite one
one_finite = subst Finite (sym one_is) tt

half_of_twice : (c : Float) → Number c → Same (times (twice c) (fin false 1 (negsuc 0))) c
unfolding mul
half_of_twice nan n = absurd n.0
half_of_twice (inf s) n = absurd n.0
half_of_twice (fin s zero e) n = inr (zero_times (fin s zero e) (fin false 1 (negsuc 0)) refl tt, refl)
half_of_twice (fin s (suc m) e) n =
    let b = bump e in
    inl (ap (λ (t : Bool). round binary32 t (suc m * up b * 1) (down b * 2)) (like_false s)
    ∙ round_fin binary32 s (suc m) e (suc m * up b * 1) (down b * 2) n.1 (mul-pos (down_pos b) (zero-lt-suc 1))
    (ap (λ (x : ℕ). x * down e) (mul-one (suc m * up b)) ∙ cross_half (suc m) (up e) (up b) (down e) (down b) 2 (bump_is e) ∙ ap (λ (x : ℕ). suc m * up e * x) (mul_comm 2 (down b))))

once : (c : Float) → Number c → Same (times c (fin false 1 (pos 0))) c
unfolding mul
once nan n = absurd n.0
once (inf s) n = absurd n.0
once (fin s m e) n =
    inl (ap (λ (t : Bool). round binary32 t (m * up e * 1) (down e * 1)) (like_false s)
    ∙ round_fin binary32 s m e (m * up e * 1) (down e * 1) n.1 (mul-pos (down_pos e) (zero-lt-suc 0)) (simp (mul_assoc, mul_comm, mul_left_comm)))

pub times_half : (x c : Float) → Number c → Same x (twice c) → Same (times x half) c
times_half x c n (inl p) = subst (λ (z : Float). Same (times z half) c) (sym p) (subst (λ (z : Float). Same (times (twice c) z) c) (sym half_is) (half_of_twice c n))
times_half x c n (inr p) = inr (zero_times x half p.0 half_finite, zero_of_twice c p.1)

pub times_one : (x c : Float) → Number c → Same x c → Same (times x one) c
times_one x c n (inl p) = subst (λ (z : Float). Same (times z one) c) (sym p) (subst (λ (z : Float). Same (times c z) c) (sym one_is) (once c n))
times_one x c n (inr p) = inr (zero_times x one p.0 one_finite, p.1)

-- ---- a zero on the left

none_sum : (s t : Bool) (b c : ℕ) → (sum binary32 s 0 t b c ≡ round binary32 t b c) ⊎ ((b ≡ 0) × (sum binary32 s 0 t b c ≡ round binary32 false 0 c))
unfolding sum
none_sum true true b c = inl (ap (λ (x : ℕ). round binary32 true x c) (zero-add b))
none_sum false false b c = inl (ap (λ (x : ℕ). round binary32 false x c) (zero-add b))
none_sum false true zero c = inr (refl, refl)
none_sum true false zero c = inr (refl, refl)
none_sum false true (suc b) c = inl (rw (is_true (ltb 0 (suc b)) (lt→ltb 0 (suc b) (zero-lt-suc b)), sub-zero (suc b)) refl)
none_sum true false (suc b) c = inl (rw (is_true (ltb 0 (suc b)) (lt→ltb 0 (suc b) (zero-lt-suc b)), sub-zero (suc b)) refl)

none_plus : (z x : Float) → Zero z → Number x → Same (plus z x) x
unfolding add
none_plus nan x p n = absurd p
none_plus (inf s) x p n = absurd p
none_plus (fin s m e) nan p n = absurd n.0
none_plus (fin s m e) (inf t) p n = absurd n.0
none_plus (fin s m e) (fin t k d) p n =
    let b = k * up d * down e in
    let c = down e * down d in
    subst (λ (y : ℕ). Same (sum binary32 s y t b c) (fin t k d)) (sym (none_of m (up e) (down d) p))
    (elim (none_sum s t b c) [
      | inl h ↦ inl (h ∙ round_fin binary32 t k d b c n.1 (mul-pos (down_pos e) (down_pos d)) (simp (mul_assoc, mul_comm, mul_left_comm)))
      | inr h ↦ inr (subst Zero (sym h.1) (round_zero false 0 c refl (mul-pos (down_pos e) (down_pos d))), no_factor k (up d) (down e) (up_pos d) (down_pos e) h.0)
    ])

pub zero_first : (z x c : Float) → Number c → Zero z → Same x c → Same (plus z x) c
zero_first z x c n p (inl h) = subst (λ (y : Float). Same (plus z y) c) (sym h) (none_plus z c p n)
zero_first z x c n p (inr h) = inr (zero_plus z x p h.0, h.1)

-- ---- twice a number less the number

not_below : (a b : ℕ) → b ≤ a → ltb a b ≡ false
not_below a b h = go (ltb a b) refl
  where
    clash : (a b : ℕ) → b ≤ a → a < b → ⊥
    clash a b p q = omega arith

    go : (t : Bool) → ltb a b ≡ t → ltb a b ≡ false
    go false e = e
    go true e = absurd (clash a b h (ltb→lt a b (subst T (sym e) tt)))

less_once : (s : Bool) (a b c : ℕ) → a ≡ 2 * b → 0 < b → sum binary32 s a (not s) b c ≡ round binary32 s b c
unfolding sum
less_once true a b c h p =
    let le : b ≤ a = omega arith in
    let lt : b < a = omega arith in
    let d : a - b ≡ b = omega arith in
    rw (not_below a b le, is_true (ltb b a) (lt→ltb b a lt), d) refl
less_once false a b c h p =
    let le : b ≤ a = omega arith in
    let d : a - b ≡ b = omega arith in
    rw (not_below a b le, d) refl

twice_less : (c : Float) → Number c → Same (minus (twice c) c) c
unfolding sub add neg
twice_less nan n = absurd n.0
twice_less (inf s) n = absurd n.0
twice_less (fin s zero e) n = inr (zero_minus (fin s zero e) (fin s zero e) refl refl, refl)
twice_less (fin s (suc m) e) n =
    let b = bump e in
    let p = suc m * up b * down e in
    let q = suc m * up e * down b in
    let c = down b * down e in
    let h : p ≡ 2 * q = cross_half (suc m) (up e) (up b) (down e) (down b) 2 (bump_is e) ∙ swap (suc m * up e) (down b) in
    inl (less_once s p q c h (mul-pos (mul-pos (zero-lt-suc m) (up_pos e)) (down_pos b))
    ∙ round_fin binary32 s (suc m) e q c n.1 (mul-pos (down_pos b) (down_pos e)) (mul_assoc (suc m * up e) (down b) (down e)))
  where
    swap : (a b : ℕ) → a * (2 * b) ≡ 2 * (a * b)
    swap a b = mul_left_comm a 2 b

pub minus_twice : (x y c : Float) → Number c → Same x (twice c) → Same y c → Same (minus x y) c
minus_twice x y c n (inl p) (inl q) = subst (λ (z : Float). Same (minus z y) c) (sym p) (subst (λ (z : Float). Same (minus (twice c) z) c) (sym q) (twice_less c n))
minus_twice x y c n (inl p) (inr q) = inr (zero_minus x y (subst Zero (sym p) (zero_twice c q.1)) q.0, q.1)
minus_twice x y c n (inr p) (inl q) = inr (zero_minus x y p.0 (subst Zero (sym q) (zero_of_twice c p.1)), zero_of_twice c p.1)
minus_twice x y c n (inr p) (inr q) = inr (zero_minus x y p.0 q.0, q.1)

-- ---- a number's opposite and the number

sum_opposite : (s : Bool) (a c : ℕ) → 0 < c → Zero (sum binary32 (not s) a s a c)
unfolding sum
sum_opposite true a c h = rw (ltb_self a) (round_zero false (a - a) c (sub_self a) h)
sum_opposite false a c h = rw (ltb_self a) (round_zero false (a - a) c (sub_self a) h)

plus_opposite : (c : Float) → Finite c → Zero (plus (neg c) c)
unfolding add neg
plus_opposite nan f = absurd f
plus_opposite (inf s) f = absurd f
plus_opposite (fin s m e) f = sum_opposite s (m * up e * down e) (down e * down e) (mul-pos (down_pos e) (down_pos e))

neg_finite : (c : Float) → Finite c → Finite (neg c)
unfolding neg
neg_finite nan f = f
neg_finite (inf s) f = f
neg_finite (fin s m e) f = tt

zero_neg_back : (c : Float) → Zero (neg c) → Zero c
unfolding neg
zero_neg_back nan h = h
zero_neg_back (inf s) h = h
zero_neg_back (fin s m e) h = h

same_neg : (y c : Float) → Same y c → Same (neg y) (neg c)
same_neg y c (inl h) = inl (ap neg h)
same_neg y c (inr h) = inr (zero_neg y h.0, zero_neg c h.1)

pub opposite : (z y w c : Float) → Number c → Zero z → Same y c → Same w c → Zero (plus (minus z y) w)
unfolding sub
opposite z y w c n p q r =
    join (zero_first z (neg y) (neg c) (neg_finite c n.0, neg-fits binary32 c n.1) p (same_neg y c q)) r
  where
    join : Same (plus z (neg y)) (neg c) → Same w c → Zero (plus (plus z (neg y)) w)
    join (inl g) (inl h) = subst (λ (u : Float). Zero (plus u w)) (sym g) (subst (λ (u : Float). Zero (plus (neg c) u)) (sym h) (plus_opposite c n.0))
    join (inl g) (inr h) = zero_plus (plus z (neg y)) w (subst Zero (sym g) (zero_neg c h.1)) h.0
    join (inr g) (inl h) = zero_plus (plus z (neg y)) w g.0 (subst Zero (sym h) (zero_neg_back c g.1))
    join (inr g) (inr h) = zero_plus (plus z (neg y)) w g.0 h.0
