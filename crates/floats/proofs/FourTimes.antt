-- c + c + c + c is four times c for every c of which four are below the format's end, though c + c + c may be rounded.
-- In units of the format's smallest value c is C = M * 2 ^ i with M of 24 digits, or C is below 2 ^ 23. Then 3C is rounded to a number at most 2 * 2 ^ i away
-- from it, and C more is rounded to 4C: to the nearest, and at a tie to the even one. All that is linear in M.
use Rattle.std.proofs.Common.{◌≡◌, ℕ, zero, suc, ◌+◌, ◌-◌, ◌*◌, ◌/◌, ◌%◌, ◌^◌, ◌<◌, ◌≤◌, Bool, ℤ, pos, negsuc, sym, refl, ap, ◌∙◌, subst, ap₂, subst₂, inl, inr, lt_of_lt_of_le, lt_of_le_of_lt, mul-le-mul_right, zero-lt-suc, mul_assoc, mul_comm, add-mul, lt_of_mul-lt-mul_right, mul-lt-mul_of_pos_right, mul-pos, mul-one, mul_right_comm, mul-div_cancel, mul_left_comm, arith, pow_pos, pow_mono, pow-add}
use Prim.Native.Nat.{compare}
use native.Mathlib.Nat.{add-mul-mod_self_left, eq_of_mul-eq-mul_right}
use lib.Ieee.{Float, nan, inf, fin, binary32, size, nearest, units, round, sum, add, up, down}
use lib.Ieee.Digits.{size-lt, size-le, size_reaches}
use lib.Ieee.Exact.{HasValue, units_val, round_exact}
use lib.Ieee.Fits.{round_is, down_pos}
use lib.Ieee.Nearest.{closest, closest_same}
use Rattle.std.proofs.lemmas.Bool.{cases_lt}
use lib.Ieee.Scale.{round_same}
use Rattle.floats.specs.Same.{Zero, Same, Number, Room}
use Rattle.floats.specs.Arith.{plus}
use Rattle.floats.proofs.Exact.{zero_plus, plus_same, sum_like, bump, bump_is, twice, number_twice, room_twice, room_less}
use Rattle.floats.proofs.Powers.{pow_le}
use Rattle.floats.proofs.Rounding.{parts, round_fin}

-- ---- the digits of a number between two powers

pub size_between : (x a : ℕ) → 2 ^ a ≤ x → x < 2 ^ suc a → size x ≡ suc a
size_between x a l u =
    let p : size x ≤ suc a = size-le x (suc a) u in
    let q : suc a ≤ size x = elim (cases_lt a (size x)) [ inl h ↦ h | inr h ↦ absurd (clash (2 ^ a) x (2 ^ size x) l (size-lt x) (pow_mono h)) ] in
    omega arith
  where
    clash : (a x s : ℕ) → a ≤ x → x < s → s ≤ a → ⊥
    clash a x s p q r = omega arith

shifted_low : (y i a : ℕ) → 2 ^ a ≤ y → 2 ^ (a + i) ≤ y * 2 ^ i
shifted_low y i a h = subst (λ (z : ℕ). z ≤ y * 2 ^ i) (sym (pow-add 2 a i)) (mul-le-mul_right (2 ^ i) h)

shifted_high : (y i a : ℕ) → y < 2 ^ a → y * 2 ^ i < 2 ^ (a + i)
shifted_high y i a h = subst (λ (z : ℕ). y * 2 ^ i < z) (sym (pow-add 2 a i)) (mul-lt-mul_of_pos_right h (pow_pos i))

-- y * 2 ^ i units, y of 24 + k digits: the last k digits are rounded off
pub round_units : (s : Bool) (y i k : ℕ) → 2 ^ (23 + k) ≤ y → y < 2 ^ suc (23 + k) → round binary32 s (y * 2 ^ i) (2 ^ 149) ≡ units binary32 s (closest y (2 ^ k)) (i + k)
round_units s y i k l u =
    let x = y * 2 ^ i in
    let d = 2 ^ 149 in
    let z : size (x * d / d) ≡ suc (23 + k + i) = ap size (mul-div_cancel x (pow_pos 149)) ∙ size_between x (23 + k + i) (shifted_low y i (23 + k) l) (subst (λ (w : ℕ). x < 2 ^ w) (suc_add (23 + k) i) (shifted_high y i (suc (23 + k)) u)) in
    let c : size (x * d / d) - 24 ≡ i + k = ap (λ (w : ℕ). w - 24) z ∙ back k i in
    round_is binary32 s x d
    ∙ ap (λ (w : ℕ). units binary32 s (closest (x * d) (d * 2 ^ w)) w) c
    ∙ ap (λ (w : ℕ). units binary32 s w (i + k)) (closest_same (x * d) (d * 2 ^ (i + k)) y (2 ^ k) (mul-pos (pow_pos 149) (pow_pos (i + k))) (pow_pos k) (regroup y (2 ^ i) d (2 ^ k) (2 ^ (i + k)) (pow-add 2 i k)))
  where
    back : (k i : ℕ) → suc (23 + k + i) - 24 ≡ i + k
    back k i = omega arith

    suc_add : (a i : ℕ) → suc a + i ≡ suc (a + i)
    suc_add a i = omega arith

    regroup : (y p d q r : ℕ) → r ≡ p * q → y * p * d * q ≡ y * (d * r)
    regroup y p d q r e =
        let a : y * p * d * q ≡ y * (d * (p * q)) = simp (mul_assoc, mul_comm, mul_left_comm) in
        a ∙ ap (λ (w : ℕ). y * (d * w)) (sym e)

-- ---- to the nearest, at 2 and at 4

even_two : (y : ℕ) → y % 2 ≡ 0 → closest y 2 ≡ y / 2
even_two y e = ap (λ (r : ℕ). nearest (y / 2) (compare (r * 2) 2)) e

odd_two : (y : ℕ) → y % 2 ≡ 1 → closest y 2 ≡ y / 2 + y / 2 % 2
odd_two y e = ap (λ (r : ℕ). nearest (y / 2) (compare (r * 2) 2)) e

zero_four : (y : ℕ) → y % 4 ≡ 0 → closest y 4 ≡ y / 4
zero_four y e = ap (λ (r : ℕ). nearest (y / 4) (compare (r * 2) 4)) e

one_four : (y : ℕ) → y % 4 ≡ 1 → closest y 4 ≡ y / 4
one_four y e = ap (λ (r : ℕ). nearest (y / 4) (compare (r * 2) 4)) e

two_four : (y : ℕ) → y % 4 ≡ 2 → closest y 4 ≡ y / 4 + y / 4 % 2
two_four y e = ap (λ (r : ℕ). nearest (y / 4) (compare (r * 2) 4)) e

three_four : (y : ℕ) → y % 4 ≡ 3 → closest y 4 ≡ suc (y / 4)
three_four y e = ap (λ (r : ℕ). nearest (y / 4) (compare (r * 2) 4)) e

-- remainders go through a multiple
three_rest : (m r : ℕ) → m % 4 ≡ r → 3 * m % 4 ≡ 3 * r % 4
three_rest m r h = let e : 3 * m ≡ 3 * r + 4 * (3 * (m / 4)) = omega arith in ap (λ (z : ℕ). z % 4) e ∙ add-mul-mod_self_left (3 * r) 4 (3 * (m / 4))

three_bit : (m r : ℕ) → m % 2 ≡ r → 3 * m % 2 ≡ 3 * r % 2
three_bit m r h = let e : 3 * m ≡ 3 * r + 2 * (3 * (m / 2)) = omega arith in ap (λ (z : ℕ). z % 2) e ∙ add-mul-mod_self_left (3 * r) 2 (3 * (m / 2))

bit_of : (m r : ℕ) → m % 4 ≡ r → m % 2 ≡ r % 2
bit_of m r h = let e : m ≡ r + 2 * (2 * (m / 4)) = omega arith in ap (λ (z : ℕ). z % 2) e ∙ add-mul-mod_self_left r 2 (2 * (m / 4))

odd_of : (m : ℕ) → 3 * m % 2 ≡ 1 → m % 2 ≡ 1
odd_of m e = go (m % 2) refl
  where
    go : (r : ℕ) → m % 2 ≡ r → m % 2 ≡ 1
    go zero h = absurd (omega (arith, three_bit m 0 h))
    go (suc zero) h = h
    go (suc (suc r)) h = absurd (omega arith)

rest_of : (m r : ℕ) → 3 * m % 4 ≡ r → (m % 4 ≡ 0 → r ≡ 0) × (m % 4 ≡ 1 → r ≡ 3) × (m % 4 ≡ 2 → r ≡ 2) × (m % 4 ≡ 3 → r ≡ 1)
rest_of m r e = (λ h. sym e ∙ three_rest m 0 h, λ h. sym e ∙ three_rest m 1 h, λ h. sym e ∙ three_rest m 2 h, λ h. sym e ∙ three_rest m 3 h)

rest_from : (m : ℕ) → (3 * m % 4 ≡ 1 → m % 4 ≡ 3) × (3 * m % 4 ≡ 2 → m % 4 ≡ 2) × (3 * m % 4 ≡ 3 → m % 4 ≡ 1)
rest_from m = go (m % 4) refl (rest_of m (3 * m % 4) refl)
  where
    go : (r : ℕ) → m % 4 ≡ r → (m % 4 ≡ 0 → 3 * m % 4 ≡ 0) × (m % 4 ≡ 1 → 3 * m % 4 ≡ 3) × (m % 4 ≡ 2 → 3 * m % 4 ≡ 2) × (m % 4 ≡ 3 → 3 * m % 4 ≡ 1)
        → (3 * m % 4 ≡ 1 → m % 4 ≡ 3) × (3 * m % 4 ≡ 2 → m % 4 ≡ 2) × (3 * m % 4 ≡ 3 → m % 4 ≡ 1)
    go zero h k = let z = k.0 h in (λ e. omega (arith, z), λ e. omega (arith, z), λ e. omega (arith, z))
    go (suc zero) h k = let z = k.1 h in (λ e. omega (arith, z), λ e. omega (arith, z), λ e. h)
    go (suc (suc zero)) h k = let z = k.2 h in (λ e. omega (arith, z), λ e. h, λ e. omega (arith, z))
    go (suc (suc (suc zero))) h k = let z = k.3 h in (λ e. h, λ e. omega (arith, z), λ e. omega (arith, z))
    go (suc (suc (suc (suc r)))) h k = absurd (omega arith)

-- how far x is from three times m
data Off (m x : ℕ) : Type 0 where
  on : x ≡ 3 * m → Off m x
  over : x ≡ 3 * m + 1 → m % 2 ≡ 1 → Off m x
  under : x + 1 ≡ 3 * m → m % 2 ≡ 1 → Off m x
  far_over : x ≡ 3 * m + 2 → m % 4 ≡ 2 → Off m x
  far_under : x + 2 ≡ 3 * m → m % 4 ≡ 2 → Off m x

off_two : (m : ℕ) → Off m (closest (3 * m) 2 * 2)
off_two m = go (3 * m % 2) refl
  where
    bit : (y q : ℕ) → y % 2 ≡ 1 → q ≡ y / 2 + y / 2 % 2 → (y / 2 % 2 ≡ 0 → q * 2 + 1 ≡ y) × (y / 2 % 2 ≡ 1 → q * 2 ≡ y + 1)
    bit y q e h = (λ z. omega arith, λ z. omega arith)

    even : (y q : ℕ) → y % 2 ≡ 0 → q ≡ y / 2 → q * 2 ≡ y
    even y q e h = omega arith

    tie : (r : ℕ) → 3 * m / 2 % 2 ≡ r → 3 * m % 2 ≡ 1 → Off m (closest (3 * m) 2 * 2)
    tie zero z e = under ((bit (3 * m) (closest (3 * m) 2) e (odd_two (3 * m) e)).0 z) (odd_of m e)
    tie (suc zero) z e = over ((bit (3 * m) (closest (3 * m) 2) e (odd_two (3 * m) e)).1 z) (odd_of m e)
    tie (suc (suc r)) z e = absurd (omega arith)

    go : (r : ℕ) → 3 * m % 2 ≡ r → Off m (closest (3 * m) 2 * 2)
    go zero e = on (even (3 * m) (closest (3 * m) 2) e (even_two (3 * m) e))
    go (suc zero) e = tie (3 * m / 2 % 2) refl e
    go (suc (suc r)) e = absurd (omega arith)

off_four : (m : ℕ) → Off m (closest (3 * m) 4 * 4)
off_four m = go (3 * m % 4) refl
  where
    at_zero : (y q : ℕ) → y % 4 ≡ 0 → q ≡ y / 4 → q * 4 ≡ y
    at_zero y q e h = omega arith

    at_one : (y q : ℕ) → y % 4 ≡ 1 → q ≡ y / 4 → q * 4 + 1 ≡ y
    at_one y q e h = omega arith

    at_three : (y q : ℕ) → y % 4 ≡ 3 → q ≡ suc (y / 4) → q * 4 ≡ y + 1
    at_three y q e h = omega arith

    at_two : (y q : ℕ) → y % 4 ≡ 2 → q ≡ y / 4 + y / 4 % 2 → (y / 4 % 2 ≡ 0 → q * 4 + 2 ≡ y) × (y / 4 % 2 ≡ 1 → q * 4 ≡ y + 2)
    at_two y q e h = (λ z. omega arith, λ z. omega arith)

    one_odd : (m : ℕ) → 3 * m % 4 ≡ 1 → m % 2 ≡ 1
    one_odd m e = bit_of m 3 ((rest_from m).0 e)

    three_odd : (m : ℕ) → 3 * m % 4 ≡ 3 → m % 2 ≡ 1
    three_odd m e = bit_of m 1 ((rest_from m).2 e)

    two_even : (m : ℕ) → 3 * m % 4 ≡ 2 → m % 4 ≡ 2
    two_even m e = (rest_from m).1 e

    tie : (r : ℕ) → 3 * m / 4 % 2 ≡ r → 3 * m % 4 ≡ 2 → Off m (closest (3 * m) 4 * 4)
    tie zero z e = far_under ((at_two (3 * m) (closest (3 * m) 4) e (two_four (3 * m) e)).0 z) (two_even m e)
    tie (suc zero) z e = far_over ((at_two (3 * m) (closest (3 * m) 4) e (two_four (3 * m) e)).1 z) (two_even m e)
    tie (suc (suc r)) z e = absurd (omega arith)

    go : (r : ℕ) → 3 * m % 4 ≡ r → Off m (closest (3 * m) 4 * 4)
    go zero e = on (at_zero (3 * m) (closest (3 * m) 4) e (zero_four (3 * m) e))
    go (suc zero) e = under (at_one (3 * m) (closest (3 * m) 4) e (one_four (3 * m) e)) (one_odd m e)
    go (suc (suc zero)) e = tie (3 * m / 4 % 2) refl e
    go (suc (suc (suc zero))) e = over (at_three (3 * m) (closest (3 * m) 4) e (three_four (3 * m) e)) (three_odd m e)
    go (suc (suc (suc (suc r)))) e = absurd (omega arith)

-- m more is nearest to four times m: at 24 digits and more
back_four : (m x : ℕ) → 2 ^ 23 ≤ m → Off m x → closest (x + m) 4 ≡ m
back_four m x l (on e) = zero_four (x + m) (omega arith) ∙ omega arith
back_four m x l (over e o) = one_four (x + m) (omega arith) ∙ omega arith
back_four m x l (under e o) = three_four (x + m) (omega arith) ∙ omega arith
back_four m x l (far_over e o) = two_four (x + m) (omega arith) ∙ omega arith
back_four m x l (far_under e o) = two_four (x + m) (omega arith) ∙ omega arith

low_four : (m x : ℕ) → 2 ^ 23 ≤ m → Off m x → 2 ^ 25 ≤ x + m
low_four m x l (on e) = omega arith
low_four m x l (over e o) = omega arith
low_four m x l (under e o) = omega arith
low_four m x l (far_over e o) = omega arith
low_four m x l (far_under e o) = omega arith

high_four : (m x : ℕ) → 2 ^ 23 ≤ m → m < 2 ^ 24 → Off m x → x + m < 2 ^ 26
high_four m x l u (on e) = omega arith
high_four m x l u (over e o) = omega arith
high_four m x l u (under e o) = omega arith
high_four m x l u (far_over e o) = omega arith
high_four m x l u (far_under e o) = omega arith

off_le : (m x : ℕ) → 2 ≤ m → Off m x → x ≤ 4 * m
off_le m x l (on e) = omega arith
off_le m x l (over e o) = omega arith
off_le m x l (under e o) = omega arith
off_le m x l (far_over e o) = omega arith
off_le m x l (far_under e o) = omega arith

-- the same below 2 ^ 23, where the places are the format's smallest
back_two : (m x : ℕ) → 0 < m → Off m x → (m % 4 ≡ 2 → x ≡ 3 * m) → closest (x + m) 2 ≡ 2 * m
back_two m x l (on e) h = even_two (x + m) (omega arith) ∙ omega arith
back_two m x l (over e o) h = odd_two (x + m) (omega arith) ∙ omega arith
back_two m x l (under e o) h = odd_two (x + m) (omega arith) ∙ omega arith
back_two m x l (far_over e o) h = absurd (omega (arith, h o))
back_two m x l (far_under e o) h = absurd (omega (arith, h o))

-- ---- three times a number of units, rounded, and the number once more

record Fourth (s : Bool) (c : ℕ) : Type 0 where
  t : ℕ
  value : HasValue (round binary32 s (3 * c) (2 ^ 149)) s t (2 ^ 149)
  whole : round binary32 s (t + c) (2 ^ 149) ≡ round binary32 s (4 * c) (2 ^ 149)

-- three times the number is exact
fourth_exact : (s : Bool) (c : ℕ) → 3 * c < 2 ^ 24 → Fourth s c
fourth_exact s c u = record {
  t = 3 * c;
  value = round_exact binary32 s (3 * c) (2 ^ 149) (3 * c) 0 (pow_pos 149) u (omega arith) (ap (λ (x : ℕ). x * 2 ^ 149) (sym (mul-one (3 * c))));
  whole = ap (λ (x : ℕ). round binary32 s x (2 ^ 149)) (four c);
}
  where
    four : (c : ℕ) → 3 * c + c ≡ 4 * c
    four c = omega arith

units_low : (s : Bool) (y : ℕ) → 2 ^ 24 ≤ y → y < 2 ^ 25 → round binary32 s y (2 ^ 149) ≡ units binary32 s (closest y 2) 1
units_low s y l u = ap (λ (w : ℕ). round binary32 s w (2 ^ 149)) (sym (mul-one y)) ∙ round_units s y 0 1 l u

fourth_low : (s : Bool) (c : ℕ) → c < 2 ^ 23 → 2 ^ 24 ≤ 3 * c → Fourth s c
fourth_low s c u l =
    let q = closest (3 * c) 2 in
    let o = off_two c in
    let x_le : q * 2 ≤ 4 * c = off_le c (q * 2) (omega arith) o in
    let far : c % 4 ≡ 2 → q * 2 ≡ 3 * c = λ h. exact (3 * c) q (three_bit c 0 (bit_of c 2 h)) (even_two (3 * c) (three_bit c 0 (bit_of c 2 h))) in
    let b : closest (q * 2 + c) 2 ≡ 2 * c = back_two c (q * 2) (omega arith) o far in
    let lo : 2 ^ 24 ≤ q * 2 + c = low c (q * 2) l o in
    let d : closest (4 * c) 2 ≡ 2 * c = even_two (4 * c) (omega arith) ∙ omega arith in
    record {
      t = q * 2;
      value = subst (λ (x : Float). HasValue x s (q * 2) (2 ^ 149)) (sym (units_low s (3 * c) l (omega arith))) (units_val binary32 s q 1 (omega arith));
      whole = units_low s (q * 2 + c) lo (high c (q * 2) u o) ∙ ap (λ (w : ℕ). units binary32 s w 1) (b ∙ sym d) ∙ sym (units_low s (4 * c) (omega arith) (omega arith));
    }
  where
    exact : (y q : ℕ) → y % 2 ≡ 0 → q ≡ y / 2 → q * 2 ≡ y
    exact y q e h = omega arith

    low : (m x : ℕ) → 2 ^ 24 ≤ 3 * m → Off m x → 2 ^ 24 ≤ x + m
    low m x l (on e) = omega arith
    low m x l (over e o) = omega arith
    low m x l (under e o) = omega arith
    low m x l (far_over e o) = omega arith
    low m x l (far_under e o) = omega arith

    high : (m x : ℕ) → m < 2 ^ 23 → Off m x → x + m < 2 ^ 25
    high m x l (on e) = omega arith
    high m x l (over e o) = omega arith
    high m x l (under e o) = omega arith
    high m x l (far_over e o) = omega arith
    high m x l (far_under e o) = omega arith

-- m * 2 ^ i units, m of 24 digits; k is 1 or 2
fourth_step : (s : Bool) (m i k x : ℕ) → 2 ^ 23 ≤ m → m < 2 ^ 24 → 4 * m * 2 ^ i < 2 ^ 277 → 2 ^ (23 + k) ≤ 3 * m → 3 * m < 2 ^ suc (23 + k) → closest (3 * m) (2 ^ k) * 2 ^ k ≡ x → Off m x → Fourth s (m * 2 ^ i)
fourth_step s m i k x l u top lo hi is o =
    let q = closest (3 * m) (2 ^ k) in
    let p = 2 ^ i in
    let val : q * 2 ^ (i + k) ≡ x * p = ap (λ (w : ℕ). q * w) (pow-add 2 i k) ∙ swap q p (2 ^ k) ∙ ap (λ (w : ℕ). w * p) is in
    let fine : x * p < 2 ^ 277 = lt_of_le_of_lt (mul-le-mul_right p (off_le m x (omega arith) o)) top in
    let first : round binary32 s (3 * (m * p)) (2 ^ 149) ≡ units binary32 s q (i + k) = ap (λ (w : ℕ). round binary32 s w (2 ^ 149)) (sym (mul_assoc 3 m p)) ∙ round_units s (3 * m) i k lo hi in
    record {
      t = x * p;
      value = subst₂ (λ (z : Float) (w : ℕ). HasValue z s w (2 ^ 149)) (sym first) val (units_val binary32 s q (i + k) (subst (λ (w : ℕ). w < 2 ^ 277) (sym val) fine));
      whole =
          ap (λ (w : ℕ). round binary32 s w (2 ^ 149)) (sym (add-mul x m p))
          ∙ round_units s (x + m) i 2 (low_four m x l o) (high_four m x l u o)
          ∙ ap (λ (w : ℕ). units binary32 s w (i + 2)) (back_four m x l o ∙ sym (zero_four (4 * m) (omega arith) ∙ omega arith))
          ∙ sym (round_units s (4 * m) i 2 (omega arith) (omega arith))
          ∙ ap (λ (w : ℕ). round binary32 s w (2 ^ 149)) (mul_assoc 4 m p);
    }
  where
    swap : (q p k : ℕ) → q * (p * k) ≡ q * k * p
    swap q p k = simp (mul_assoc, mul_comm, mul_left_comm)

fourth_high : (s : Bool) (m i : ℕ) → 2 ^ 23 ≤ m → m < 2 ^ 24 → 4 * m * 2 ^ i < 2 ^ 277 → Fourth s (m * 2 ^ i)
fourth_high s m i l u top = elim (cases_lt (3 * m) (2 ^ 25)) [
  | inl h ↦ fourth_step s m i 1 (closest (3 * m) 2 * 2) l u top (omega arith) h refl (off_two m)
  | inr h ↦ fourth_step s m i 2 (closest (3 * m) 4 * 4) l u top h (omega arith) refl (off_four m)
]

-- a number of at most 24 digits times a power of two
fourth : (s : Bool) (m j : ℕ) → 0 < m → m < 2 ^ 24 → 4 * (m * 2 ^ j) < 2 ^ 277 → Fourth s (m * 2 ^ j)
fourth s m j p u top = go (size m) (size-le m 24 u) (size-lt m) (size_reaches m)
  where
    shift : (z t j : ℕ) → z + t ≡ 24 → t ≤ j → (m * 2 ^ t) * 2 ^ (j - t) ≡ m * 2 ^ j
    shift z t j e h = mul_assoc m (2 ^ t) (2 ^ (j - t)) ∙ ap (λ (x : ℕ). m * x) (sym (pow-add 2 t (j - t)) ∙ ap (λ (x : ℕ). 2 ^ x) (sums t j h))
      where
        sums : (t j : ℕ) → t ≤ j → t + (j - t) ≡ j
        sums t j h = omega arith

    small : m * 2 ^ j < 2 ^ 23 → Fourth s (m * 2 ^ j)
    small h = elim (cases_lt (3 * (m * 2 ^ j)) (2 ^ 24)) [ inl a ↦ fourth_exact s (m * 2 ^ j) a | inr a ↦ fourth_low s (m * 2 ^ j) h a ]

    go : (z : ℕ) → z ≤ 24 → m < 2 ^ z → ((j : ℕ) → j < z → 2 ^ j ≤ m) → Fourth s (m * 2 ^ j)
    go zero a b c = absurd (omega arith)
    go (suc z) a b c =
        let t = 23 - z in
        let e₁ : z + t ≡ 23 = omega arith in
        let e₂ : suc z + t ≡ 24 = omega arith in
        let lo : 2 ^ 23 ≤ m * 2 ^ t = subst (λ (x : ℕ). 2 ^ x ≤ m * 2 ^ t) e₁ (shifted_low m t z (c z (omega arith))) in
        let hi : m * 2 ^ t < 2 ^ 24 = subst (λ (x : ℕ). m * 2 ^ t < 2 ^ x) e₂ (shifted_high m t (suc z) b) in
        elim (cases_lt j t) [
          | inl h ↦ let le : suc z + j ≤ 23 = omega arith in small (lt_of_lt_of_le (shifted_high m j (suc z) b) (pow_mono le))
          | inr h ↦
              let e : (m * 2 ^ t) * 2 ^ (j - t) ≡ m * 2 ^ j = shift (suc z) t j e₂ h in
              subst (λ (x : ℕ). Fourth s x) e
              (fourth_high s (m * 2 ^ t) (j - t) lo hi (subst (λ (x : ℕ). x < 2 ^ 277) (sym (mul_assoc 4 (m * 2 ^ t) (2 ^ (j - t)) ∙ ap (λ (x : ℕ). 4 * x) e)) top))
        ]

-- ---- floats

-- the sum of two values of one sign, over one denominator
add_values : (x y : Float) (s : Bool) (a b d : ℕ) → 0 < d → HasValue x s a d → HasValue y s b d → plus x y ≡ round binary32 s (a + b) d
unfolding add
add_values nan y s a b d D h k = absurd h
add_values (inf t) y s a b d D h k = absurd h
add_values (fin t m e) nan s a b d D h k = absurd k
add_values (fin t m e) (inf r) s a b d D h k = absurd k
add_values (fin t m e) (fin r n g) s a b d D h k =
    let p = m * up e * down g in
    let q = n * up g * down e in
    let c = down e * down g in
    ap₂ (λ (x y : Bool). sum binary32 x p y q c) h.0 k.0
    ∙ sum_like s p q c
    ∙ round_same binary32 s (p + q) c (a + b) d (mul-pos (down_pos e) (down_pos g)) D
    (add-mul p q d ∙ ap₂ ◌+◌ (part (m * up e) (down g) d a (down e) h.1) (part (n * up g) (down e) d b (down g) k.1 ∙ ap (λ (x : ℕ). b * x) (mul_comm (down g) (down e))) ∙ sym (add-mul a b c))
  where
    part : (m g d a e : ℕ) → m * d ≡ a * e → m * g * d ≡ a * (e * g)
    part m g d a e h = mul_right_comm m g d ∙ ap (λ (x : ℕ). x * g) h ∙ mul_assoc a e g

-- a float in units of the smallest
in_units : (m : ℕ) (e : ℤ) → down e ≤ 2 ^ 149 → (j : ℕ) × (m * up e * 2 ^ 149 ≡ m * 2 ^ j * down e)
in_units m (pos a) h = (a + 149, mul_assoc m (2 ^ a) (2 ^ 149) ∙ ap (λ (x : ℕ). m * x) (sym (pow-add 2 a 149)) ∙ sym (mul-one (m * 2 ^ (a + 149))))
in_units m (negsuc a) h =
    let l : suc a ≤ 149 = pow_le (suc a) 149 h in
    let k = 149 - suc a in
    let sum : k + suc a ≡ 149 = omega arith in
    let e : 2 ^ k * 2 ^ suc a ≡ 2 ^ 149 = sym (pow-add 2 k (suc a)) ∙ ap (λ (x : ℕ). 2 ^ x) sum in
    (k, ap (λ (x : ℕ). x * 2 ^ 149) (mul-one m) ∙ ap (λ (x : ℕ). m * x) (sym e) ∙ sym (mul_assoc m (2 ^ k) (2 ^ suc a)))

-- twice the float has twice the value
twice_value : (m : ℕ) (u v e b c d : ℕ) → 0 < e → v * e ≡ 2 * u * b → m * u * d ≡ c * e → m * v * d ≡ 2 * c * b
twice_value m u v e b c d E q h =
    let l : m * v * d * e ≡ m * d * (v * e) = simp (mul_assoc, mul_comm, mul_left_comm) in
    let k : m * d * (2 * u * b) ≡ 2 * b * (m * u * d) = simp (mul_assoc, mul_comm, mul_left_comm) in
    let n : 2 * b * (c * e) ≡ 2 * c * b * e = simp (mul_assoc, mul_comm, mul_left_comm) in
    eq_of_mul-eq-mul_right e E (m * v * d) (2 * c * b) (l ∙ ap (λ (x : ℕ). m * d * x) q ∙ k ∙ ap (λ (x : ℕ). 2 * b * x) h ∙ n)

plus_fourth : (s : Bool) (m : ℕ) (e : ℤ) → Number (fin s (suc m) e) → Room 4 (fin s (suc m) e)
    → plus (plus (twice (fin s (suc m) e)) (fin s (suc m) e)) (fin s (suc m) e) ≡ twice (twice (fin s (suc m) e))
plus_fourth s m e n r =
    let c = fin s (suc m) e in
    let p = parts binary32 s m e n.1 in
    let w = in_units (suc m) e p.fine in
    let u = suc m * 2 ^ w.0 in
    let d = 2 ^ 149 in
    let b = bump e in
    let g = bump b in
    let two_v : suc m * up b * d ≡ 2 * u * down b = twice_value (suc m) (up e) (up b) (down e) (down b) u d (down_pos e) (bump_is e) w.1 in
    let four_v : suc m * up g * d ≡ 2 * (2 * u) * down g = twice_value (suc m) (up b) (up g) (down b) (down g) (2 * u) d (down_pos b) (bump_is b) two_v in
    let top : 4 * u < 2 ^ 277 = below_top (suc m * up e) u (down e) (down_pos e) w.1 r in
    let f = fourth s (suc m) w.0 (zero-lt-suc m) p.small top in
    let three : plus (twice c) c ≡ round binary32 s (3 * u) d = add_values (twice c) c s (2 * u) u d (pow_pos 149) (refl, two_v) (refl, w.1) ∙ ap (λ (x : ℕ). round binary32 s x d) (sum_three u) in
    let num : Number (twice (twice c)) = number_twice (twice c) (number_twice c n (room_less c r)) (room_twice 2 c r) in
    ap (λ (x : Float). plus x c) three
    ∙ add_values (round binary32 s (3 * u) d) c s f.t u d (pow_pos 149) f.value (refl, w.1)
    ∙ f.whole
    ∙ round_fin binary32 s (suc m) g (4 * u) d num.1 (pow_pos 149) (ap (λ (x : ℕ). x * down g) (four_twos u) ∙ sym four_v)
  where
    sum_three : (u : ℕ) → 2 * u + u ≡ 3 * u
    sum_three u = omega arith

    four_twos : (u : ℕ) → 4 * u ≡ 2 * (2 * u)
    four_twos u = omega arith

    below_top : (a u e : ℕ) → 0 < e → a * 2 ^ 149 ≡ u * e → a * 4 < 2 ^ 128 * e → 4 * u < 2 ^ 277
    below_top a u e E h k =
        let l : a * 4 * 2 ^ 149 ≡ 4 * u * e = mul_right_comm a 4 (2 ^ 149) ∙ ap (λ (x : ℕ). x * 4) h ∙ mul_right_comm u e 4 ∙ ap (λ (x : ℕ). x * e) (mul_comm u 4) in
        lt_of_mul-lt-mul_right e (subst₂ (λ (x y : ℕ). x < y) l (top_is e) (mul-lt-mul_of_pos_right k (pow_pos 149)))
      where
        top_is : (e : ℕ) → 2 ^ 128 * e * 2 ^ 149 ≡ 2 ^ 277 * e
        top_is e = mul_right_comm (2 ^ 128) e (2 ^ 149)

-- the sum of four that are the same
pub plus_four_times : (a b c d x : Float) → Number x → Room 4 x → Same a x → Same b x → Same c x → Same d x → Same (plus (plus (plus a b) c) d) (twice (twice x))
plus_four_times a b c d nan n r p q o s = absurd r
plus_four_times a b c d (inf t) n r p q o s = absurd r
plus_four_times a b c d (fin t zero e) n r p q o s =
    inr (zero_plus (plus (plus a b) c) d (zero_plus (plus a b) c (zero_plus a b (none a p) (none b q)) (none c o)) (none d s), refl)
  where
    none : (y : Float) → Same y (fin t zero e) → Zero y
    none y (inl h) = subst Zero (sym h) refl
    none y (inr h) = h.0
plus_four_times a b c d (fin t (suc m) e) n r p q o s =
    let x = fin t (suc m) e in
    let two : plus a b ≡ twice x = exact (plus a b) (bump e) (plus_same a b x n (room_less x r) p q) in
    inl (ap₂ plus (ap₂ plus two (exact c e o)) (exact d e s) ∙ plus_fourth t m e n r)
  where
    exact : (y : Float) (g : ℤ) → Same y (fin t (suc m) g) → y ≡ fin t (suc m) g
    exact y g (inl h) = h
    exact y g (inr h) = absurd (not_suc m h.1)
      where
        not_suc : (m : ℕ) → suc m ≡ 0 → ⊥
        not_suc m h = omega arith
