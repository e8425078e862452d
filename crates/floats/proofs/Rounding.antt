-- A float that fits is what its own fraction rounds to: the way it is written is the only one.
use Rattle.std.proofs.Common.{◌≡◌, ℕ, zero, suc, pred, ◌+◌, ◌-◌, ◌*◌, ◌%◌, ◌^◌, ◌<◌, ◌≤◌, Bool, ◌&&◌, T, eqb, ltb, leb, ℤ, pos, negsuc, sym, refl, ap, ◌∙◌, subst, subst₂, inl, inr, lt_irrefl, zero-lt-suc, mul_assoc, mul_comm, lt_of_mul-lt-mul_right, mul-lt-mul_of_pos_right, mul-pos, one-mul, zero-mul, mul-one, mul_right_comm, mul_left_comm, arith, eqb→eq, ltb→lt, leb→le, pow_pos, pow-add}
use native.Mathlib.Nat.{eq_of_mul-eq-mul_right, pow-succ'}
use lib.Pow.{pow-lt}
use lib.Ieee.{Float, nan, inf, fin, Format, prec, emax, low, up, down, round, fits}
use lib.Ieee.Exact.{HasValue, round_exact}
use lib.Ieee.Fits.{round-fits, and_l, and_r, up_pos, down_pos}
use lib.Ieee.Scale.{round_same}
use Rattle.std.proofs.lemmas.Bool.{cases_lt}

-- ---- an odd number times a power of two is so in one way

pow_suc : (n k : ℕ) → n ^ suc k ≡ n ^ k * n
pow_suc n k = pow-succ' n k ∙ mul_comm n (n ^ k)

even_odd : (m t : ℕ) → m % 2 ≡ 1 → m ≡ 2 * t → ⊥
even_odd m t o h = omega arith

odd_pow : (m n a b : ℕ) → m % 2 ≡ 1 → n % 2 ≡ 1 → m * 2 ^ a ≡ n * 2 ^ b → (m ≡ n) × (a ≡ b)
odd_pow m n zero zero o p h = (sym (mul-one m) ∙ h ∙ mul-one n, refl)
odd_pow m n zero (suc b) o p h = absurd (even_odd m (n * 2 ^ b) o (sym (mul-one m) ∙ h ∙ ap (λ (x : ℕ). n * x) (pow-succ' 2 b) ∙ mul_left_comm n 2 (2 ^ b)))
odd_pow m n (suc a) zero o p h = absurd (even_odd n (m * 2 ^ a) p (sym (mul-one n) ∙ sym h ∙ ap (λ (x : ℕ). m * x) (pow-succ' 2 a) ∙ mul_left_comm m 2 (2 ^ a)))
odd_pow m n (suc a) (suc b) o p h =
    let r = odd_pow m n a b o p (eq_of_mul-eq-mul_right 2 (zero-lt-suc 1) (m * 2 ^ a) (n * 2 ^ b)
    (mul_assoc m (2 ^ a) 2 ∙ ap (λ (x : ℕ). m * x) (sym (pow_suc 2 a)) ∙ h ∙ ap (λ (x : ℕ). n * x) (pow_suc 2 b) ∙ sym (mul_assoc n (2 ^ b) 2))) in
    (r.0, ap suc r.1)

-- ---- what `fits` says, taken apart

pub record Parts (f : Format) (m : ℕ) (e : ℤ) : Type 0 where
  pub odd : m % 2 ≡ 1
  pub small : m < 2 ^ prec f
  pub fine : down e ≤ 2 ^ low f
  pub under : m * up e < 2 ^ suc (emax f) * down e

pub parts : (f : Format) (s : Bool) (m : ℕ) (e : ℤ) → T (fits f (fin s (suc m) e)) → Parts f (suc m) e
unfolding fits
parts f s m e t =
    let a = eqb (suc m % 2) 1 in
    let b = ltb (suc m) (2 ^ prec f) in
    let c = leb (down e) (2 ^ low f) in
    let d = ltb (suc m * up e) (2 ^ suc (emax f) * down e) in
    let abc = and_l (a && b && c) d t in
    let ab = and_l (a && b) c abc in
    record {
      odd = eqb→eq (suc m % 2) 1 (and_l a b ab);
      small = ltb→lt (suc m) (2 ^ prec f) (and_r a b ab);
      fine = leb→le (down e) (2 ^ low f) (and_r (a && b) c abc);
      under = ltb→lt (suc m * up e) (2 ^ suc (emax f) * down e) (and_r (a && b && c) d t);
    }

two_up : (p : ℕ) → 0 < p → 2 * p ≡ 1 → ⊥
two_up p h e = omega arith

flat : (e : ℤ) → up e * down e ≡ 1 → e ≡ pos 0
flat (pos zero) h = refl
flat (pos (suc k)) h = absurd (two_up (2 ^ k) (pow_pos k) (sym (pow-succ' 2 k) ∙ sym (mul-one (2 ^ suc k)) ∙ h))
flat (negsuc k) h = absurd (two_up (2 ^ k) (pow_pos k) (sym (pow-succ' 2 k) ∙ sym (one-mul (2 ^ suc k)) ∙ h))

pub zero_exp : (f : Format) (s : Bool) (e : ℤ) → T (fits f (fin s zero e)) → e ≡ pos 0
unfolding fits
zero_exp f s e t = flat e (eqb→eq (up e * down e) 1 t)

-- ---- one value, one float

no_sum : (a b : ℕ) → a + suc b ≡ 0 → ⊥
no_sum a b h = omega arith

odd_unique : (m n : ℕ) (e d : ℤ) → m % 2 ≡ 1 → n % 2 ≡ 1 → m * up e * down d ≡ n * up d * down e → (m ≡ n) × (e ≡ d)
odd_unique m n (pos a) (pos b) o p h =
    let r = odd_pow m n a b o p (sym (mul-one (m * 2 ^ a)) ∙ h ∙ mul-one (n * 2 ^ b)) in
    (r.0, ap pos r.1)
odd_unique m n (pos a) (negsuc b) o p h =
    let r = odd_pow m n (a + suc b) 0 o p (ap (λ (x : ℕ). m * x) (pow-add 2 a (suc b)) ∙ sym (mul_assoc m (2 ^ a) (2 ^ suc b)) ∙ h ∙ mul-one (n * 1)) in
    absurd (no_sum a b r.1)
odd_unique m n (negsuc a) (pos b) o p h =
    let r = odd_pow n m (b + suc a) 0 p o (ap (λ (x : ℕ). n * x) (pow-add 2 b (suc a)) ∙ sym (mul_assoc n (2 ^ b) (2 ^ suc a)) ∙ sym h ∙ mul-one (m * 1)) in
    absurd (no_sum b a r.1)
odd_unique m n (negsuc a) (negsuc b) o p h =
    let r = odd_pow m n (suc b) (suc a) o p (ap (λ (x : ℕ). x * 2 ^ suc b) (sym (mul-one m)) ∙ h ∙ ap (λ (x : ℕ). x * 2 ^ suc a) (mul-one n)) in
    (r.0, ap (λ (x : ℕ). negsuc (pred x)) (sym r.1))

pub zero_factor : (m u c : ℕ) → 0 < u → 0 < c → suc m * u * c ≡ 0 → ⊥
zero_factor m u c p q h = lt_irrefl 0 (subst (λ (x : ℕ). 0 < x) h (mul-pos (mul-pos (zero-lt-suc m) p) q))

pub nothing : (u c : ℕ) → zero * u * c ≡ 0
nothing u c = ap (λ (x : ℕ). x * c) (zero-mul u) ∙ zero-mul c

pub value_unique : (f : Format) (x : Float) (s : Bool) (m : ℕ) (e : ℤ) → T (fits f x) → T (fits f (fin s m e)) → HasValue x s (m * up e) (down e) → x ≡ fin s m e
value_unique f nan s m e p q v = absurd v
value_unique f (inf t) s m e p q v = absurd v
value_unique f (fin t zero d) s zero e p q v = λ i. fin (v.0 i) zero ((zero_exp f t d p ∙ sym (zero_exp f s e q)) i)
value_unique f (fin t zero d) s (suc m) e p q v = absurd (zero_factor m (up e) (down d) (up_pos e) (down_pos d) (sym v.1 ∙ nothing (up d) (down e)))
value_unique f (fin t (suc n) d) s zero e p q v = absurd (zero_factor n (up d) (down e) (up_pos d) (down_pos e) (v.1 ∙ nothing (up e) (down d)))
value_unique f (fin t (suc n) d) s (suc m) e p q v =
    let r = odd_unique (suc n) (suc m) d e (parts f t n d p).odd (parts f s m e q).odd v.1 in
    λ i. fin (v.0 i) (r.0 i) (r.1 i)

-- ---- a float's own fraction rounds to it

back : (a l : ℕ) → a ≤ l → l - a + a ≡ l
back a l h = omega arith

pow_le : (a b : ℕ) → 2 ^ a ≤ 2 ^ b → a ≤ b
pow_le a b h = elim (cases_lt b a) [ inl l ↦ absurd (clash (2 ^ a) (2 ^ b) h (pow-lt l)) | inr g ↦ g ]
  where
    clash : (x y : ℕ) → x ≤ y → y < x → ⊥
    clash x y p q = omega arith

-- q units of 2 ^ -low, where q * 2 ^ j is the whole of it
under_top : (u v l t : ℕ) → u < 2 ^ t * v → 0 < 2 ^ l → u * 2 ^ l < 2 ^ (l + t) * v
under_top u v l t h p = subst (λ (x : ℕ). u * 2 ^ l < x) (mul_right_comm (2 ^ t) v (2 ^ l) ∙ ap (λ (x : ℕ). x * v) (mul_comm (2 ^ t) (2 ^ l) ∙ sym (pow-add 2 l t))) (mul-lt-mul_of_pos_right h p)

own : (f : Format) (s : Bool) (m : ℕ) (e : ℤ) → T (fits f (fin s m e)) → HasValue (round f s (m * up e) (down e)) s (m * up e) (down e)
own f s zero e t =
    round_exact f s (zero * up e) (down e) 0 0 (down_pos e) (pow_pos (prec f)) (pow_pos (low f + suc (emax f)))
    (nothing (up e) (2 ^ low f) ∙ sym (zero-mul (down e)))
own f s (suc m) (pos a) t =
    let p = parts f s m (pos a) t in
    let e : suc m * 2 ^ a * 2 ^ low f ≡ suc m * 2 ^ (a + low f) = mul_assoc (suc m) (2 ^ a) (2 ^ low f) ∙ ap (λ (x : ℕ). suc m * x) (sym (pow-add 2 a (low f))) in
    round_exact f s (suc m * 2 ^ a) 1 (suc m) (a + low f) (zero-lt-suc 0) p.small
    (subst₂ (λ (x y : ℕ). x < y) e (mul-one (2 ^ (low f + suc (emax f)))) (under_top (suc m * 2 ^ a) 1 (low f) (suc (emax f)) p.under (pow_pos (low f))))
    (e ∙ sym (mul-one (suc m * 2 ^ (a + low f))))
own f s (suc m) (negsuc a) t =
    let p = parts f s m (negsuc a) t in
    let le : suc a ≤ low f = pow_le (suc a) (low f) p.fine in
    let k = low f - suc a in
    let e : 2 ^ k * 2 ^ suc a ≡ 2 ^ low f = sym (pow-add 2 k (suc a)) ∙ ap (λ (x : ℕ). 2 ^ x) (back (suc a) (low f) le) in
    let w : suc m * 1 * 2 ^ low f ≡ suc m * 2 ^ k * 2 ^ suc a = ap (λ (x : ℕ). suc m * 1 * x) (sym e) ∙ ap (λ (x : ℕ). x * (2 ^ k * 2 ^ suc a)) (mul-one (suc m)) ∙ sym (mul_assoc (suc m) (2 ^ k) (2 ^ suc a)) in
    round_exact f s (suc m * 1) (2 ^ suc a) (suc m) k (pow_pos (suc a)) p.small
    (lt_of_mul-lt-mul_right (2 ^ suc a) (subst (λ (x : ℕ). x < 2 ^ (low f + suc (emax f)) * 2 ^ suc a) w (under_top (suc m * 1) (2 ^ suc a) (low f) (suc (emax f)) p.under (pow_pos (low f)))))
    w

pub round_own : (f : Format) (s : Bool) (m : ℕ) (e : ℤ) → T (fits f (fin s m e)) → round f s (m * up e) (down e) ≡ fin s m e
round_own f s m e t = value_unique f (round f s (m * up e) (down e)) s m e (round-fits f s (m * up e) (down e)) t (own f s m e t)

pub round_fin : (f : Format) (s : Bool) (m : ℕ) (e : ℤ) (num den : ℕ) → T (fits f (fin s m e)) → 0 < den → num * down e ≡ m * up e * den → round f s num den ≡ fin s m e
round_fin f s m e num den t p h = round_same f s num den (m * up e) (down e) p (down_pos e) h ∙ round_own f s m e t
