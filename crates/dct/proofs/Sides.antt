-- The powers of two up to 256 are the lengths that are transformed, by one test of each number that antt computes.
use Rattle.std.proofs.Common.{◌≡◌, ℕ, zero, suc, ◌^◌, ◌<◌, ◌≤◌, Bool, true, not, ◌&&◌, ◌||◌, eqb, refl, ap, ◌∙◌, subst, inl, inr, arith}
use lib.Count.{ones}
use Rattle.std.specs.Int.{is_power_of_two}
use Rattle.std.proofs.lemmas.Bool.{cases_eq, cases_Bool, and_parts, eqb-true}
use Rattle.dct.specs.Sides.{Sided}

-- whether n is 2 ^ j for a j of up to k
abbrev is_power_upto : ℕ → ℕ → Bool
is_power_upto n zero = eqb n 1
is_power_upto n (suc k) = eqb n (2 ^ suc k) || is_power_upto n k

power_found : (n k : ℕ) → is_power_upto n k ≡ true → (j : ℕ) × (j ≤ k) × (n ≡ 2 ^ j)
power_found n zero t = (0, omega arith, eqb-true n 1 t)
power_found n (suc k) t = elim (cases_Bool (eqb n (2 ^ suc k))) [
  | inl e ↦ (suc k, omega arith, eqb-true n (2 ^ suc k) e)
  | inr e ↦
      let r = power_found n k (subst (λ (b : Bool). (b || is_power_upto n k) ≡ true) e t) in
      (r.0, omega (arith, r.1), r.2)
]

-- the test of a number, and of all below m
abbrev is_tested : ℕ → Bool
is_tested n = not (is_power_of_two n) || is_power_upto n 8

abbrev all_tested : ℕ → Bool
all_tested zero = true
all_tested (suc m) = is_tested m && all_tested m

tested_below : (m : ℕ) → all_tested m ≡ true → (n : ℕ) → n < m → is_tested n ≡ true
tested_below zero t n h = absurd (omega arith)
tested_below (suc m) t n h = elim (cases_eq n m) [
  | inl e ↦ ap is_tested e ∙ (and_parts (is_tested m) (all_tested m) t).0
  | inr ne ↦ tested_below m (and_parts (is_tested m) (all_tested m) t).1 n (omega arith)
]

pub power_sided : (n : ℕ) → n ≤ 256 → is_power_of_two n ≡ true → Sided n
unfolding ones
power_sided n l t = power_found n 8 (subst (λ (b : Bool). (not b || is_power_upto n 8) ≡ true) t (tested_below 257 refl n (omega arith)))

pub sided_power : (n : ℕ) → Sided n → is_power_of_two n ≡ true
unfolding ones
sided_power n s = ap is_power_of_two s.2 ∙ go s.0 s.1
  where
    go : (k : ℕ) → k ≤ 8 → is_power_of_two (2 ^ k) ≡ true
    go zero l = refl
    go (suc zero) l = refl
    go (suc (suc zero)) l = refl
    go (suc (suc (suc zero))) l = refl
    go (suc (suc (suc (suc zero)))) l = refl
    go (suc (suc (suc (suc (suc zero))))) l = refl
    go (suc (suc (suc (suc (suc (suc zero)))))) l = refl
    go (suc (suc (suc (suc (suc (suc (suc zero))))))) l = refl
    go (suc (suc (suc (suc (suc (suc (suc (suc zero)))))))) l = refl
    go (suc (suc (suc (suc (suc (suc (suc (suc (suc k))))))))) l = absurd (omega arith)
