-- The laws of a check in row order.
use Rattle.std.proofs.Common.{◌≡◌, ℕ, zero, suc, ◌+◌, ◌*◌, ◌/◌, ◌%◌, ◌<◌, ◌≤◌, Bool, true, false, Ok, Err, sym, refl, ap, ◌∙◌, inl, inr, mul-le-mul_right, suc-mul, mul_comm, arith}
use Rattle.std.proofs.lemmas.Bool.{cases_Bool, cond-true, cond-false, cases_lt}
use Rattle.std.proofs.lemmas.Bool.Decides.{nat_tests}
use Rattle.std.proofs.lemmas.Nat.{mul-add-lt, div-mul-add, mod-mul-add, div-add-mod', div_below, mod_below}
use Rattle.refusal.specs.Verdicts.{before}
use Rattle.refusal.specs.Verdicts.{checked_from, checked_cells}

module _ {E : Type 0} (ok : ℕ → Bool) (err : ℕ → E) where
  pub from_pass : (n k : ℕ) → ((j : ℕ) → k ≤ j → j < k + n → ok j ≡ true) → checked_from ok err n k ≡ Ok tt
  unfolding checked_from
  from_pass zero k h = refl
  from_pass (suc n) k h = cond-true _ _ _ (h k (omega arith) (omega arith)) ∙ from_pass n (suc k) (λ j a b. h j (omega arith) (omega arith))

  pub from_fail : (n k m : ℕ) → k ≤ m → m < k + n → ok m ≡ false → ((j : ℕ) → k ≤ j → j < m → ok j ≡ true) → checked_from ok err n k ≡ Err (err m)
  unfolding checked_from
  from_fail zero k m a b f h = absurd (omega arith)
  from_fail (suc n) k m a b f h =
      elim (cases_lt k m) [
        | inl less ↦ cond-true _ _ _ (h k (omega arith) less) ∙ from_fail n (suc k) m (omega arith) (omega arith) f (λ j c d. h j (omega arith) d)
        | inr most ↦ let e : m ≡ k = omega arith in let g : ok k ≡ false = rw (sym e) f in cond-false _ _ _ g ∙ ap (λ (i : ℕ). Err (err i)) (sym e)
      ]

  pub from_passed : (n k j : ℕ) → checked_from ok err n k ≡ Ok tt → k ≤ j → j < k + n → ok j ≡ true
  unfolding checked_from
  from_passed zero k j e a b = absurd (omega arith)
  from_passed (suc n) k j e a b =
      elim (cases_Bool (ok k)) [
        | inl t ↦ elim (cases_lt k j) [
          | inl less ↦ from_passed n (suc k) j (sym (cond-true _ _ _ t) ∙ e) (omega arith) (omega arith)
          | inr most ↦ let i : j ≡ k = omega arith in rw i t
        ]
        | inr f ↦ let bad : Err (err k) ≡ Ok tt = sym (cond-false _ _ _ f) ∙ e in let z : ◌≡◌ {A = ℕ} 0 1 = cc in absurd (omega arith)
      ]

-- a place before (X, Y), by its number
earlier : (w X Y j : ℕ) → 0 < w → X < w → j < Y * w + X → before X Y (j % w) (j / w) ≡ true
earlier w X Y j p a h =
    let d = div-add-mod' j w in
    let m = mod_below j w p in
    elim (cases_lt Y (j / w)) [
      | inl over ↦ let g = mul-le-mul_right {m = suc Y} {n = j / w} w over in absurd (omega (arith, suc-mul Y w))
      | inr most ↦ elim (cases_lt (j / w) Y) [
        | inl less ↦ grind (arith, nat_tests)
        | inr same ↦ let e : j / w ≡ Y = omega arith in let l : j % w < X = omega (arith, ap (λ (q : ℕ). q * w) e) in grind (arith, nat_tests)
      ]
    ]

module _ {E : Type 0} (w h : ℕ) (ok : ℕ → ℕ → Bool) (err : ℕ → ℕ → E) (wide : 1 ≤ w) where
  pub checked_pass : ((x y : ℕ) → x < w → y < h → ok x y ≡ true) → checked_cells w h ok err ≡ Ok tt
  unfolding checked_cells
  checked_pass all' = from_pass _ _ (w * h) 0 (λ j a b. all' (j % w) (j / w) (mod_below j w wide) (div_below j w h wide (omega (arith, mul_comm w h))))

  pub checked_fail : (X Y : ℕ) → X < w → Y < h → ok X Y ≡ false → ((x y : ℕ) → x < w → before X Y x y ≡ true → ok x y ≡ true) → checked_cells w h ok err ≡ Err (err X Y)
  unfolding checked_cells
  checked_fail X Y a b f clear =
      let m = mod-mul-add Y w X a in
      let d = div-mul-add Y w X a in
      from_fail (λ k. ok (k % w) (k / w)) (λ k. err (k % w) (k / w)) (w * h) 0 (Y * w + X) (omega arith) (omega (arith, mul-add-lt Y w X h b a)) (rw (m, d) f) (λ j c e. clear (j % w) (j / w) (mod_below j w wide) (earlier w X Y j wide a e))
      ∙ rw (m, d) refl

  pub checked_passed : checked_cells w h ok err ≡ Ok tt → (x y : ℕ) → x < w → y < h → ok x y ≡ true
  unfolding checked_cells
  checked_passed e x y a b =
      let g = from_passed (λ k. ok (k % w) (k / w)) (λ k. err (k % w) (k / w)) (w * h) 0 (y * w + x) e (omega arith) (omega (arith, mul-add-lt y w x h b a)) in
      rw (mod-mul-add y w x a, div-mul-add y w x a) at g

-- ---- a loop that checks row by row: every place before (X, Y) has passed
abbrev pub Clear : ℕ → (ℕ → ℕ → Bool) → ℕ → ℕ → Type 0
Clear w ok X Y = (x y : ℕ) → x < w → before X Y x y ≡ true → ok x y ≡ true

pub clear_none : (w : ℕ) (ok : ℕ → ℕ → Bool) → Clear w ok 0 0
clear_none w ok x y a b = absurd (grind (arith, nat_tests))

pub clear_more : (w : ℕ) (ok : ℕ → ℕ → Bool) (X Y : ℕ) → ok X Y ≡ true → Clear w ok X Y → Clear w ok (X + 1) Y
clear_more w ok X Y t c x y a b =
    elim (cases_Bool (before X Y x y)) [
      | inl in' ↦ c x y a in'
      | inr out ↦ let ex : x ≡ X = grind (arith, nat_tests) in let ey : y ≡ Y = grind (arith, nat_tests) in rw (ex, ey) t
    ]

pub clear_row : (w : ℕ) (ok : ℕ → ℕ → Bool) (X Y : ℕ) → w ≤ X → Clear w ok X Y → Clear w ok 0 (Y + 1)
clear_row w ok X Y e c x y a b = c x y a (grind (arith, nat_tests))

pub clear_all : (w h : ℕ) (ok : ℕ → ℕ → Bool) (Y : ℕ) → h ≤ Y → Clear w ok 0 Y → (x y : ℕ) → x < w → y < h → ok x y ≡ true
clear_all w h ok Y e c x y a b = c x y a (grind (arith, nat_tests))
