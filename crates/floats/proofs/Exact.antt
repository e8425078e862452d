-- Sums, products and quotients with a zero, and of a number with itself: doubling and halving are exact.
use Rattle.std.proofs.Common.{◌≡◌, ℕ, zero, suc, ◌+◌, ◌-◌, ◌*◌, ◌%◌, ◌^◌, ◌<◌, ◌≤◌, Bool, true, false, cond, not, ◌&&◌, T, eqb, ltb, leb, ◌⊎◌, ℤ, pos, negsuc, sym, refl, ap, ◌∙◌, subst, subst₂, inl, inr, le_trans, le_refl, add-zero, lt_irrefl, zero-lt-suc, mul_assoc, mul_comm, lt_of_mul-lt-mul_right, mul-lt-mul_of_pos_right, mul-pos, one-mul, mul-one, mul_right_comm, mul_left_comm, arith, lit<, lit≤, le→leb, ltb→lt, lt→ltb, pow_pos, pow_mono}
use native.Mathlib.Nat.{sub_self, sub-zero, eq_of_mul-eq-mul_right, pow-succ'}
use lib.Dec.{leb-suc-zero, eqb-suc-zero}
use lib.Ieee.{Float, nan, inf, fin, binary32, emax, up, down, unlike, round, sum, add, sub, mul, div, neg, fits, of_bits}
use lib.Ieee.Fits.{and_i, eq→eqb, up_pos, down_pos}
use lib.Ieee.Bits.{is_true}
use Rattle.floats.specs.Same.{Zero, Same, Finite, Number, Room}
use Rattle.floats.specs.Arith.{plus, minus, times, over, two, four}
use Rattle.floats.proofs.Rounding.{parts, nothing, zero_factor, round_fin}

-- ---- zeros

pub round_zero : (s : Bool) (num den : ℕ) → num ≡ 0 → 0 < den → Zero (round binary32 s num den)
unfolding fits
round_zero s num den h p =
    subst Zero (sym (round_fin binary32 s 0 (pos 0) num den tt p (mul-one num ∙ h ∙ sym (nothing 1 den)))) refl

pub ltb_zero : (a : ℕ) → ltb a 0 ≡ false
ltb_zero a = leb-suc-zero a

pub ltb_self : (a : ℕ) → ltb a a ≡ false
ltb_self a = go (ltb a a) refl
  where
    go : (b : Bool) → ltb a a ≡ b → ltb a a ≡ false
    go false e = e
    go true e = absurd (lt_irrefl a (ltb→lt a a (subst T (sym e) tt)))

-- a sum with nothing on the right
sum_none : (s t : Bool) (a c : ℕ) → (sum binary32 s a t 0 c ≡ round binary32 s a c) ⊎ ((a ≡ 0) × (sum binary32 s a t 0 c ≡ round binary32 false 0 c))
unfolding sum
sum_none true true a c = inl (ap (λ (x : ℕ). round binary32 true x c) (add-zero a))
sum_none false false a c = inl (ap (λ (x : ℕ). round binary32 false x c) (add-zero a))
sum_none false true a c = inl (rw (ltb_zero a, sub-zero a) refl)
sum_none true false zero c = inr (refl, refl)
sum_none true false (suc a) c = inl (rw (ltb_zero (suc a), is_true (ltb 0 (suc a)) (lt→ltb 0 (suc a) (zero-lt-suc a)), sub-zero (suc a)) refl)

sum_zeros : (s t : Bool) (a b c : ℕ) → a ≡ 0 → b ≡ 0 → 0 < c → Zero (sum binary32 s a t b c)
sum_zeros s t a b c p q h =
    subst (λ (y : ℕ). Zero (sum binary32 s a t y c)) (sym q)
    (elim (sum_none s t a c) [ inl e ↦ subst Zero (sym e) (round_zero s a c p h) | inr e ↦ subst Zero (sym e.1) (round_zero false 0 c refl h) ])

pub none_of : (m u d : ℕ) → m ≡ 0 → m * u * d ≡ 0
none_of m u d h = ap (λ (x : ℕ). x * u * d) h ∙ nothing u d

pub zero_plus : (x z : Float) → Zero x → Zero z → Zero (plus x z)
unfolding add
zero_plus nan z p q = absurd p
zero_plus (inf s) z p q = absurd p
zero_plus (fin s m e) nan p q = absurd q
zero_plus (fin s m e) (inf t) p q = absurd q
zero_plus (fin s m e) (fin t n d) p q =
    sum_zeros s t (m * up e * down d) (n * up d * down e) (down e * down d) (none_of m (up e) (down d) p) (none_of n (up d) (down e) q) (mul-pos (down_pos e) (down_pos d))

pub zero_neg : (x : Float) → Zero x → Zero (neg x)
unfolding neg
zero_neg nan p = p
zero_neg (inf s) p = p
zero_neg (fin s m e) p = p

pub zero_minus : (x z : Float) → Zero x → Zero z → Zero (minus x z)
unfolding sub
zero_minus x z p q = zero_plus x (neg z) p (zero_neg z q)

pub zero_times : (x y : Float) → Zero x → Finite y → Zero (times x y)
unfolding mul
zero_times nan y p q = absurd p
zero_times (inf s) y p q = absurd p
zero_times (fin s m e) nan p q = absurd q
zero_times (fin s m e) (inf t) p q = absurd q
zero_times (fin s m e) (fin t n d) p q =
    round_zero (unlike s t) (m * up e * (n * up d)) (down e * down d) (none_of m (up e) (n * up d) p) (mul-pos (down_pos e) (down_pos d))

-- what a zero may be divided by
abbrev pub Divisor : Float → Type 0
Divisor nan = ⊥
Divisor (inf s) = ⊥
Divisor (fin s m e) = 0 < m

pub zero_over : (x y : Float) → Zero x → Divisor y → Zero (over x y)
unfolding div
zero_over nan y p q = absurd p
zero_over (inf s) y p q = absurd p
zero_over (fin s m e) nan p q = absurd q
zero_over (fin s m e) (inf t) p q = absurd q
zero_over (fin s m e) (fin t zero d) p q = absurd (lt_irrefl 0 q)
zero_over (fin s m e) (fin t (suc n) d) p q =
    subst (λ (b : Bool). Zero (cond b (cond (eqb m 0) nan (inf (unlike s t))) (round binary32 (unlike s t) (m * up e * down d) (suc n * up d * down e))))
    (sym (eqb-suc-zero n))
    (round_zero (unlike s t) (m * up e * down d) (suc n * up d * down e) (none_of m (up e) (down d) p) (mul-pos (mul-pos (zero-lt-suc n) (up_pos d)) (down_pos e)))

-- ---- a number and a zero

pub no_factor : (m u d : ℕ) → 0 < u → 0 < d → m * u * d ≡ 0 → m ≡ 0
no_factor zero u d p q h = refl
no_factor (suc m) u d p q h = absurd (zero_factor m u d p q h)

plus_none : (x z : Float) → Number x → Zero z → Same (plus x z) x
unfolding add
plus_none nan z p q = absurd p.0
plus_none (inf s) z p q = absurd p.0
plus_none (fin s m e) nan p q = absurd q
plus_none (fin s m e) (inf t) p q = absurd q
plus_none (fin s m e) (fin t n d) p q =
    let a = m * up e * down d in
    let c = down e * down d in
    subst (λ (y : ℕ). Same (sum binary32 s a t y c) (fin s m e)) (sym (none_of n (up d) (down e) q))
    (elim (sum_none s t a c) [
      | inl h ↦ inl (h ∙ round_fin binary32 s m e a c p.1 (mul-pos (down_pos e) (down_pos d)) (simp (mul_assoc, mul_comm, mul_left_comm)))
      | inr h ↦ inr (subst Zero (sym h.1) (round_zero false 0 c refl (mul-pos (down_pos e) (down_pos d))), no_factor m (up e) (down d) (up_pos e) (down_pos d) h.0)
    ])

pub plus_zero : (x z c : Float) → Number c → Same x c → Zero z → Same (plus x z) c
plus_zero x z c n (inl e) q = subst (λ (y : Float). Same (plus y z) c) (sym e) (plus_none c z n q)
plus_zero x z c n (inr p) q = inr (zero_plus x z p.0 q, p.1)

pub minus_zero : (x z c : Float) → Number c → Same x c → Zero z → Same (minus x z) c
unfolding sub
minus_zero x z c n h q = plus_zero x (neg z) c n h (zero_neg z q)

-- ---- a number less itself

sum_self : (s : Bool) (a c : ℕ) → 0 < c → Zero (sum binary32 s a (not s) a c)
unfolding sum
sum_self true a c h = rw (ltb_self a) (round_zero false (a - a) c (sub_self a) h)
sum_self false a c h = rw (ltb_self a) (round_zero false (a - a) c (sub_self a) h)

minus_self : (c : Float) → Finite c → Zero (minus c c)
unfolding sub add neg
minus_self nan p = absurd p
minus_self (inf s) p = absurd p
minus_self (fin s m e) p = sum_self s (m * up e * down e) (down e * down e) (mul-pos (down_pos e) (down_pos e))

pub minus_same : (x y c : Float) → Finite c → Same x c → Same y c → Zero (minus x y)
minus_same x y c f (inl p) (inl q) = subst (λ (z : Float). Zero (minus z y)) (sym p) (subst (λ (z : Float). Zero (minus c z)) (sym q) (minus_self c f))
minus_same x y c f (inl p) (inr q) = zero_minus x y (subst Zero (sym p) q.1) q.0
minus_same x y c f (inr p) (inl q) = zero_minus x y p.0 (subst Zero (sym q) p.1)
minus_same x y c f (inr p) (inr q) = zero_minus x y p.0 q.0

-- ---- a number and itself

abbrev pub bump : ℤ → ℤ
bump (pos k) = pos (suc k)
bump (negsuc zero) = pos zero
bump (negsuc (suc k)) = negsuc k

-- 2 ^ (e + 1) is twice 2 ^ e
pub bump_is : (e : ℤ) → up (bump e) * down e ≡ 2 * up e * down (bump e)
bump_is (pos k) = ap (λ (x : ℕ). x * 1) (pow-succ' 2 k)
bump_is (negsuc zero) = refl
bump_is (negsuc (suc k)) = one-mul (2 ^ suc (suc k)) ∙ pow-succ' 2 (suc k)

bump_down : (e : ℤ) → down (bump e) ≤ down e
bump_down (pos k) = le_refl 1
bump_down (negsuc zero) = lit≤ tt
bump_down (negsuc (suc k)) = pow_mono (omega arith)

abbrev pub twice : Float → Float
twice nan = nan
twice (inf s) = inf s
twice (fin s zero e) = fin s zero e
twice (fin s (suc m) e) = fin s (suc m) (bump e)

add_self : (a : ℕ) → a + a ≡ 2 * a
add_self a = omega arith

-- products, regrouped around v * e ≡ 2 * u * b
cross_scaled : (m u v e b r : ℕ) → v * e ≡ 2 * u * b → m * v * r * e ≡ m * u * (2 * r) * b
cross_scaled m u v e b r q =
    let l : m * v * r * e ≡ m * r * (v * e) = simp (mul_assoc, mul_comm, mul_left_comm) in
    let k : m * r * (2 * u * b) ≡ m * u * (2 * r) * b = simp (mul_assoc, mul_comm, mul_left_comm) in
    l ∙ ap (λ (x : ℕ). m * r * x) q ∙ k

cross_sum : (m u v e b : ℕ) → v * e ≡ 2 * u * b → (m * u * e + m * u * e) * b ≡ m * v * (e * e)
cross_sum m u v e b q =
    let a : (m * u * e + m * u * e) * b ≡ 2 * (m * u * e) * b = ap (λ (x : ℕ). x * b) (add_self (m * u * e)) in
    let l : 2 * (m * u * e) * b ≡ m * e * (2 * u * b) = simp (mul_assoc, mul_comm, mul_left_comm) in
    let k : m * e * (v * e) ≡ m * v * (e * e) = simp (mul_assoc, mul_comm, mul_left_comm) in
    a ∙ l ∙ ap (λ (x : ℕ). m * e * x) (sym q) ∙ k

pub cross_half : (m u v e b : ℕ) (w : ℕ) → v * e ≡ w * u * b → m * v * e ≡ m * u * (w * b)
cross_half m u v e b w q =
    let l : m * v * e ≡ m * (v * e) = simp (mul_assoc, mul_comm, mul_left_comm) in
    let k : m * (w * u * b) ≡ m * u * (w * b) = simp (mul_assoc, mul_comm, mul_left_comm) in
    l ∙ ap (λ (x : ℕ). m * x) q ∙ k

cross_two : (u v w e b d : ℕ) → v * e ≡ 2 * u * b → w * b ≡ 2 * v * d → 0 < b → w * e ≡ 4 * u * d
cross_two u v w e b d p q B =
    let l : w * e * b ≡ w * b * e = mul_right_comm w e b in
    let k : 2 * v * d * e ≡ 2 * d * (v * e) = simp (mul_assoc, mul_comm, mul_left_comm) in
    let n : 2 * d * (2 * u * b) ≡ 2 * 2 * u * d * b = regroup u b d in
    eq_of_mul-eq-mul_right b B (w * e) (4 * u * d) (l ∙ ap (λ (x : ℕ). x * e) q ∙ k ∙ ap (λ (x : ℕ). 2 * d * x) p ∙ n)
  where
    regroup : (u b d : ℕ) → 2 * d * (2 * u * b) ≡ 2 * 2 * u * d * b
    regroup u b d = mul_assoc 2 d (2 * u * b) ∙ ap (λ (x : ℕ). 2 * x) (swap u b d) ∙ sym (mul_assoc 2 2 (u * d * b)) ∙ sym (mul_assoc 4 (u * d) b) ∙ ap (λ (x : ℕ). x * b) (sym (mul_assoc 4 u d))
      where
        swap : (u b d : ℕ) → d * (2 * u * b) ≡ 2 * (u * d * b)
        swap u b d = simp (mul_assoc, mul_comm, mul_left_comm)

cross_up : (m u v e b r p : ℕ) → v * e ≡ 2 * u * b → 0 < b → m * u * (2 * r) < p * e → m * v * r < p * b
cross_up m u v e b r p q B h =
    lt_of_mul-lt-mul_right e (subst₂ (λ (x y : ℕ). x < y) (sym (cross_scaled m u v e b r q)) (mul_right_comm p e b) (mul-lt-mul_of_pos_right h B))

room_up : (m : ℕ) (e : ℤ) (r : ℕ) → m * up e * (2 * r) < 2 ^ suc (emax binary32) * down e → m * up (bump e) * r < 2 ^ suc (emax binary32) * down (bump e)
room_up m e r h = cross_up m (up e) (up (bump e)) (down e) (down (bump e)) r (2 ^ suc (emax binary32)) (bump_is e) (down_pos (bump e)) h

pub room_twice : (r : ℕ) (c : Float) → Room (2 * r) c → Room r (twice c)
room_twice r nan h = h
room_twice r (inf s) h = h
room_twice r (fin s zero e) h = subst (λ (x : ℕ). x < 2 ^ suc (emax binary32) * down e) (sym (nothing (up e) r)) (mul-pos (pow_pos (suc (emax binary32))) (down_pos e))
room_twice r (fin s (suc m) e) h = room_up (suc m) e r h

pub room_less : (c : Float) → Room 4 c → Room 2 c
room_less nan r = r
room_less (inf s) r = r
room_less (fin s m e) r = less (m * up e) (2 ^ suc (emax binary32) * down e) r
  where
    less : (a b : ℕ) → a * 4 < b → a * 2 < b
    less a b h = omega arith

pub number_twice : (c : Float) → Number c → Room 2 c → Number (twice c)
unfolding fits
number_twice nan n h = n
number_twice (inf s) n h = n
number_twice (fin s zero e) n h = n
number_twice (fin s (suc m) e) n h =
    let p = parts binary32 s m e n.1 in
    let b = bump e in
    let a0 = eqb (suc m % 2) 1 in
    let a1 = ltb (suc m) (2 ^ 24) in
    let a2 = leb (down b) (2 ^ 149) in
    let a3 = ltb (suc m * up b) (2 ^ 128 * down b) in (
      tt,
      and_i (a0 && a1 && a2) a3
          (and_i (a0 && a1) a2 (and_i a0 a1 (eq→eqb p.odd) (lt→ltb (suc m) (2 ^ 24) p.small))
          (le→leb (down b) (2 ^ 149) (le_trans (bump_down e) p.fine)))
          (lt→ltb (suc m * up b) (2 ^ 128 * down b) (subst (λ (x : ℕ). x < 2 ^ 128 * down b) (mul-one (suc m * up b)) (room_up (suc m) e 1 h))),
    )

pub zero_twice : (c : Float) → Zero c → Zero (twice c)
zero_twice nan h = h
zero_twice (inf s) h = h
zero_twice (fin s zero e) h = h
zero_twice (fin s (suc m) e) h = h

pub sum_like : (s : Bool) (a b c : ℕ) → sum binary32 s a s b c ≡ round binary32 s (a + b) c
unfolding sum
sum_like true a b c = refl
sum_like false a b c = refl

plus_self : (c : Float) → Number c → Room 2 c → Same (plus c c) (twice c)
unfolding add
plus_self nan n h = absurd h
plus_self (inf s) n h = absurd h
plus_self (fin s zero e) n h = inr (zero_plus (fin s zero e) (fin s zero e) refl refl, refl)
plus_self (fin s (suc m) e) n h =
    let a = suc m * up e * down e in
    let c = down e * down e in
    let b = bump e in
    let q : (a + a) * down b ≡ suc m * up b * c = cross_sum (suc m) (up e) (up b) (down e) (down b) (bump_is e) in
    inl (sum_like s a a c ∙ round_fin binary32 s (suc m) b (a + a) c (number_twice (fin s (suc m) e) n h).1 (mul-pos (down_pos e) (down_pos e)) q)

pub plus_same : (x y c : Float) → Number c → Room 2 c → Same x c → Same y c → Same (plus x y) (twice c)
plus_same x y c n r (inl p) (inl q) = subst (λ (z : Float). Same (plus z y) (twice c)) (sym p) (subst (λ (z : Float). Same (plus c z) (twice c)) (sym q) (plus_self c n r))
plus_same x y c n r (inl p) (inr q) = inr (zero_plus x y (subst Zero (sym p) q.1) q.0, zero_twice c q.1)
plus_same x y c n r (inr p) (inl q) = inr (zero_plus x y p.0 (subst Zero (sym q) p.1), zero_twice c p.1)
plus_same x y c n r (inr p) (inr q) = inr (zero_plus x y p.0 q.0, zero_twice c p.1)

pub two_is : two ≡ fin false 1 (pos 1)
unfolding of_bits
two_is = refl

pub four_is : four ≡ fin false 1 (pos 2)
unfolding of_bits
four_is = refl

pub two_divides : Divisor two
two_divides = subst Divisor (sym two_is) (lit< tt)

pub four_divides : Divisor four
four_divides = subst Divisor (sym four_is) (lit< tt)

pub like_false : (s : Bool) → unlike s false ≡ s
like_false true = refl
like_false false = refl

half_twice : (c : Float) → Number c → Same (over (twice c) (fin false 1 (pos 1))) c
unfolding div
half_twice nan n = absurd n.0
half_twice (inf s) n = absurd n.0
half_twice (fin s zero e) n = inr (zero_over (fin s zero e) (fin false 1 (pos 1)) refl (lit< tt), refl)
half_twice (fin s (suc m) e) n =
    let b = bump e in
    inl (ap (λ (t : Bool). round binary32 t (suc m * up b * 1) (2 * down b)) (like_false s)
    ∙ round_fin binary32 s (suc m) e (suc m * up b * 1) (2 * down b) n.1 (mul-pos (zero-lt-suc 1) (down_pos b))
    (ap (λ (x : ℕ). x * down e) (mul-one (suc m * up b)) ∙ cross_half (suc m) (up e) (up b) (down e) (down b) 2 (bump_is e)))

quarter_twice : (c : Float) → Number c → Same (over (twice (twice c)) (fin false 1 (pos 2))) c
unfolding div
quarter_twice nan n = absurd n.0
quarter_twice (inf s) n = absurd n.0
quarter_twice (fin s zero e) n = inr (zero_over (fin s zero e) (fin false 1 (pos 2)) refl (lit< tt), refl)
quarter_twice (fin s (suc m) e) n =
    let b = bump e in
    let d = bump b in
    inl (ap (λ (t : Bool). round binary32 t (suc m * up d * 1) (4 * down d)) (like_false s)
    ∙ round_fin binary32 s (suc m) e (suc m * up d * 1) (4 * down d) n.1 (mul-pos (zero-lt-suc 3) (down_pos d))
    (ap (λ (x : ℕ). x * down e) (mul-one (suc m * up d)) ∙ cross_half (suc m) (up e) (up d) (down e) (down d) 4 (cross_two (up e) (up b) (up d) (down e) (down b) (down d) (bump_is e) (bump_is b) (down_pos b))))

pub zero_of_twice : (c : Float) → Zero (twice c) → Zero c
zero_of_twice nan h = h
zero_of_twice (inf s) h = h
zero_of_twice (fin s zero e) h = h
zero_of_twice (fin s (suc m) e) h = h

-- half of what is twice c, and a quarter of what is four times c
pub over_two : (x c : Float) → Number c → Same x (twice c) → Same (over x two) c
over_two x c n (inl p) = subst (λ (z : Float). Same (over z two) c) (sym p) (subst (λ (z : Float). Same (over (twice c) z) c) (sym two_is) (half_twice c n))
over_two x c n (inr p) = inr (zero_over x two p.0 two_divides, zero_of_twice c p.1)

pub over_four : (x c : Float) → Number c → Same x (twice (twice c)) → Same (over x four) c
over_four x c n (inl p) = subst (λ (z : Float). Same (over z four) c) (sym p) (subst (λ (z : Float). Same (over (twice (twice c)) z) c) (sym four_is) (quarter_twice c n))
over_four x c n (inr p) = inr (zero_over x four p.0 four_divides, zero_of_twice c (zero_of_twice (twice c) p.1))
