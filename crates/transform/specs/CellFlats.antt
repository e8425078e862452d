-- The flat law of one cell: a number at (0, 0) and zeros become the number throughout, for every finite number.
use Rattle.std.specs.Prelude.{◌≡◌, ℕ, zero, suc, ◌+◌, ◌*◌, ◌/◌, ◌%◌, ◌<◌, ◌≤◌, true, false, cond, ◌&&◌, ◌≢◌, ◌⊎◌, pos, ◌==◌, nat_lt, refl, Float}
use Rattle.std.proofs.Common.{sym, ap₂, subst, ◌∙◌, inl, inr, ⊎_elim, arith, lit<, lit≤}
use Rattle.std.specs.Float.{fin}
use Rattle.std.specs.Float.Ieee.{of_bits}
use Rattle.std.proofs.lemmas.Bool.{cases_eq, cases_Bool, lt-ltb, le-ltb, cond-true, cond-false}
use Rattle.std.proofs.lemmas.Bool.Decides.{nat_tests}
use Rattle.floats.specs.Arith.{plus, minus, over}
use Rattle.floats.specs.Same.{Zero, Same, Number}
use Rattle.floats.proofs.Exact.{Divisor, zero_plus, zero_over, plus_zero, minus_zero}
use Rattle.floats.proofs.Factors.{zero_first}
use Rattle.dct.specs.declared.dct_common.DctDirection.TheVariants.{Inverse}
use Rattle.dct_2d.specs.Flat.{Even, Peak}
use Rattle.dct_2d.specs.Plane.{Patch, plane}
use Rattle.dct_2d.proofs.Planes.{plane_inverse}
use Rattle.cells.specs.Framed.{turned}
use Rattle.cells.specs.Cells.{butterfly, butterfly_at, butterflies, dct2, quarter, dct4_quarter, dct4, nil, residual_sum, sixteen, average, residual, hornuss_quarter, hornuss, paired, half_rows, dct4x8, flipped, dct8x4, dct8}
use Rattle.cells.proofs.Framing.{framed_in}

-- c in the top left n × n numbers, and zeros elsewhere
pub record Corner (n : ℕ) (p : Patch) (c : Float) : Type 0 where
  pub within : (x y : ℕ) → x < n → y < n → Same (p x y) c
  pub beyond : (x y : ℕ) → x < 8 → y < 8 → (n ≤ x) ⊎ (n ≤ y) → Zero (p x y)

peak_corner : (p : Patch) (c : Float) → Peak 8 8 p c → Corner 1 p c
peak_corner p c k = record {
  within = λ x y hx hy.
      let ex : 0 ≡ x = omega arith in
      let ey : 0 ≡ y = omega arith in
      subst (λ (z : Float). Same z c) (ap₂ p ex ey) k.first;
  beyond = λ x y hx hy o. k.others x y hx hy (⊎_elim (λ (a : 1 ≤ x). omega arith) (λ (a : 1 ≤ y). omega arith) o);
}

-- ---- butterflies

butterfly_flat : (i j : ℕ) (a b d e c : Float) → Number c → Same a c → Zero b → Zero d → Zero e → Same (butterfly i j a b d e) c
butterfly_flat zero zero a b d e c n s zb zd ze = plus_zero (plus (plus a b) d) e c n (plus_zero (plus a b) d c n (plus_zero a b c n s zb) zd) ze
butterfly_flat (suc i) zero a b d e c n s zb zd ze = minus_zero (minus (plus a b) d) e c n (minus_zero (plus a b) d c n (plus_zero a b c n s zb) zd) ze
butterfly_flat zero (suc j) a b d e c n s zb zd ze = minus_zero (plus (minus a b) d) e c n (plus_zero (minus a b) d c n (minus_zero a b c n s zb) zd) ze
butterfly_flat (suc i) (suc j) a b d e c n s zb zd ze = plus_zero (minus (minus a b) d) e c n (minus_zero (minus a b) d c n (minus_zero a b c n s zb) zd) ze

butterflies_corner : (half : ℕ) (p : Patch) (c : Float) → half ≤ 4 → Number c → Corner half p c → Corner (half + half) (butterflies half p) c
unfolding butterflies
butterflies_corner half p c l n k = record {
  within = λ x y hx hy.
      let ux : x / 2 < half = omega arith in
      let uy : y / 2 < half = omega arith in
      let e : (nat_lt (x / 2) half && nat_lt (y / 2) half) ≡ true = ap₂ ◌&&◌ (lt-ltb (x / 2) half ux) (lt-ltb (y / 2) half uy) in
      subst (λ (z : Float). Same z c)
      (sym (framed_in 8 8 f x y (omega arith) (omega arith) ∙ cond-true (nat_lt (x / 2) half && nat_lt (y / 2) half) (butterfly_at half p x y) (p x y) e))
      (butterfly_flat (x % 2) (y % 2) (p (x / 2) (y / 2)) (p (x / 2 + half) (y / 2)) (p (x / 2) (y / 2 + half)) (p (x / 2 + half) (y / 2 + half)) c n
      (k.within (x / 2) (y / 2) ux uy)
      (k.beyond (x / 2 + half) (y / 2) (omega arith) (omega arith) (inl (omega arith)))
      (k.beyond (x / 2) (y / 2 + half) (omega arith) (omega arith) (inr (omega arith)))
      (k.beyond (x / 2 + half) (y / 2 + half) (omega arith) (omega arith) (inl (omega arith))));
  beyond = λ x y hx hy o.
      subst Zero
      (sym (framed_in 8 8 f x y hx hy ∙ cond-false (nat_lt (x / 2) half && nat_lt (y / 2) half) (butterfly_at half p x y) (p x y) (outside x y o)))
      (k.beyond x y hx hy (further x y o));
}
  where
    f : Patch
    f = λ x y. cond (nat_lt (x / 2) half && nat_lt (y / 2) half) (butterfly_at half p x y) (p x y)

    outside : (x y : ℕ) → (half + half ≤ x) ⊎ (half + half ≤ y) → (nat_lt (x / 2) half && nat_lt (y / 2) half) ≡ false
    outside x y (inl a) = let u : half ≤ x / 2 = omega arith in let t = le-ltb (x / 2) half u in grind (arith, nat_tests)
    outside x y (inr a) = let u : half ≤ y / 2 = omega arith in let t = le-ltb (y / 2) half u in grind (arith, nat_tests)

    further : (x y : ℕ) → (half + half ≤ x) ⊎ (half + half ≤ y) → (half ≤ x) ⊎ (half ≤ y)
    further x y (inl a) = inl (omega arith)
    further x y (inr a) = inr (omega arith)

first_step : (p : Patch) (c : Float) → Number c → Peak 8 8 p c → Corner 2 (butterflies 1 p) c
first_step p c n k = butterflies_corner 1 p c (lit≤ tt) n (peak_corner p c k)

pub dct2_flat : (p : Patch) (c : Float) → Number c → Peak 8 8 p c → Even 8 8 (dct2 p) c
unfolding dct2
dct2_flat p c n k =
    (butterflies_corner 4 (butterflies 2 (butterflies 1 p)) c (lit≤ tt) n (butterflies_corner 2 (butterflies 1 p) c (lit≤ tt) n (first_step p c n k))).within

-- ---- quarters

quarter_peak : (qx qy : ℕ) (p : Patch) (c : Float) → qx < 2 → qy < 2 → Corner 2 p c → Peak 4 4 (quarter qx qy p) c
quarter_peak qx qy p c hx hy k = record {
  first = k.within (qx + 0) (qy + 0) (omega arith) (omega arith);
  others = λ x y lx ly o. k.beyond (qx + 2 * x) (qy + 2 * y) (omega arith) (omega arith) (far x y o);
}
  where
    far : (x y : ℕ) → 0 < x + y → (2 ≤ qx + 2 * x) ⊎ (2 ≤ qy + 2 * y)
    far zero y o = inr (omega arith)
    far (suc x) y o = inl (omega arith)

turned_peak : (p : Patch) (c : Float) → Peak 4 4 p c → Peak 4 4 (turned p) c
turned_peak p c k = record { first = k.first; others = λ x y lx ly o. k.others y x ly lx (omega arith) }

pub dct4_flat : (p : Patch) (c : Float) → Number c → Peak 8 8 p c → Even 8 8 (dct4 p) c
unfolding dct4
dct4_flat p c n k x y hx hy =
    let ux : x / 4 < 2 = omega arith in
    let uy : y / 4 < 2 = omega arith in
    subst (λ (z : Float). Same z c)
    (sym (framed_in 8 8 (λ x y. dct4_quarter (butterflies 1 p) (x / 4) (y / 4) (x % 4) (y % 4)) x y hx hy))
    (plane_inverse 2 2 (turned (quarter (x / 4) (y / 4) (butterflies 1 p))) c (lit≤ tt) (lit≤ tt) n
    (turned_peak (quarter (x / 4) (y / 4) (butterflies 1 p)) c (quarter_peak (x / 4) (y / 4) (butterflies 1 p) c ux uy (first_step p c n k)))
    (x % 4) (y % 4) (omega arith) (omega arith))

-- ---- Hornuss

nil_zero : Zero nil
unfolding of_bits
nil_zero = refl

sixteen_is : sixteen ≡ fin false 1 (pos 4)
unfolding of_bits
sixteen_is = refl

sixteen_divides : Divisor sixteen
sixteen_divides = subst Divisor (sym sixteen_is) (lit< tt)

residual_sum_zero : (s : Patch) (c : Float) → Peak 4 4 s c → (n : ℕ) → n ≤ 15 → Zero (residual_sum s n)
residual_sum_zero s c k zero l = nil_zero
residual_sum_zero s c k (suc n) l =
    zero_plus (residual_sum s n) (s (suc n % 4) (suc n / 4)) (residual_sum_zero s c k n (omega arith))
    (k.others (suc n % 4) (suc n / 4) (omega arith) (omega arith) (omega arith))

average_flat : (s : Patch) (c : Float) → Number c → Peak 4 4 s c → Same (average s) c
average_flat s c n k =
    minus_zero (s 0 0) (over (residual_sum s 15) sixteen) c n k.first (zero_over (residual_sum s 15) sixteen (residual_sum_zero s c k 15 (lit≤ tt)) sixteen_divides)

residual_zero : (s : Patch) (c : Float) → Peak 4 4 s c → (i j : ℕ) → i < 4 → j < 4 → Zero (residual s i j)
residual_zero s c k i j hi hj = go (cases_Bool (i == 0 && j == 0)) (cases_Bool (i == 1 && j == 1))
  where
    some : (i == 0 && j == 0) ≡ false → (i ≡ 0) ⊎ (i ≢ 0) → (j ≡ 0) ⊎ (j ≢ 0) → 0 < i + j
    some f (inl a) (inl b) = let z : ◌≡◌ {A = ℕ} 0 1 = grind (arith, nat_tests) in absurd (omega arith)
    some f (inl a) (inr b) = omega arith
    some f (inr a) b = omega arith

    go : ((i == 0 && j == 0) ≡ true) ⊎ ((i == 0 && j == 0) ≡ false) → ((i == 1 && j == 1) ≡ true) ⊎ ((i == 1 && j == 1) ≡ false) → Zero (residual s i j)
    go (inl t) q = subst Zero (sym (cond-true (i == 0 && j == 0) (s 1 1) (cond (i == 1 && j == 1) nil (s i j)) t)) (k.others 1 1 (lit< tt) (lit< tt) (lit< tt))
    go (inr f) (inl t) =
        subst Zero (sym (cond-false (i == 0 && j == 0) (s 1 1) (cond (i == 1 && j == 1) nil (s i j)) f ∙ cond-true (i == 1 && j == 1) nil (s i j) t)) nil_zero
    go (inr f) (inr g) =
        subst Zero (sym (cond-false (i == 0 && j == 0) (s 1 1) (cond (i == 1 && j == 1) nil (s i j)) f ∙ cond-false (i == 1 && j == 1) nil (s i j) g))
        (k.others i j hi hj (some f (cases_eq i 0) (cases_eq j 0)))

pub hornuss_flat : (p : Patch) (c : Float) → Number c → Peak 8 8 p c → Even 8 8 (hornuss p) c
unfolding hornuss
hornuss_flat p c n k x y hx hy =
    let ux : x / 4 < 2 = omega arith in
    let uy : y / 4 < 2 = omega arith in
    let s = quarter (x / 4) (y / 4) (butterflies 1 p) in
    let q = quarter_peak (x / 4) (y / 4) (butterflies 1 p) c ux uy (first_step p c n k) in
    subst (λ (z : Float). Same z c)
    (sym (framed_in 8 8 (λ x y. hornuss_quarter (butterflies 1 p) (x / 4) (y / 4) (x % 4) (y % 4)) x y hx hy))
    (zero_first (residual s (x % 4) (y % 4)) (average s) c n (residual_zero s c q (x % 4) (y % 4) (omega arith) (omega arith)) (average_flat s c n q))

-- ---- halves

paired_first : (p : Patch) (c : Float) → Number c → Peak 8 8 p c → (h : ℕ) → h < 2 → Same (paired p 0 h) c
unfolding paired
paired_first p c n k zero l = plus_zero (p 0 0) (p 0 1) c n k.first (k.others 0 1 (lit< tt) (lit< tt) (lit< tt))
paired_first p c n k (suc zero) l = minus_zero (p 0 0) (p 0 1) c n k.first (k.others 0 1 (lit< tt) (lit< tt) (lit< tt))
paired_first p c n k (suc (suc h)) l = absurd (omega arith)

paired_other : (p : Patch) (c : Float) → Peak 8 8 p c → (x y : ℕ) → x < 8 → y < 8 → (0 < x) ⊎ (2 ≤ y) → Zero (paired p x y)
unfolding paired
paired_other p c k x y hx hy o =
    subst Zero
    (sym (framed_in 8 8 (λ x y. cond (x == 0 && y == 0) (plus (p 0 0) (p 0 1)) (cond (x == 0 && y == 1) (minus (p 0 0) (p 0 1)) (p x y))) x y hx hy
    ∙ cond-false (x == 0 && y == 0) _ _ (a o) ∙ cond-false (x == 0 && y == 1) _ _ (b o)))
    (k.others x y hx hy (⊎_elim (λ (u : 0 < x). omega arith) (λ (u : 2 ≤ y). omega arith) o))
  where
    a : (0 < x) ⊎ (2 ≤ y) → (x == 0 && y == 0) ≡ false
    a (inl u) = grind (arith, nat_tests)
    a (inr u) = grind (arith, nat_tests)

    b : (0 < x) ⊎ (2 ≤ y) → (x == 0 && y == 1) ≡ false
    b (inl u) = grind (arith, nat_tests)
    b (inr u) = grind (arith, nat_tests)

half_peak : (h : ℕ) (p : Patch) (c : Float) → h < 2 → Number c → Peak 8 8 p c → Peak 8 4 (half_rows h (paired p)) c
half_peak h p c l n k = record {
  first = subst (λ (t : ℕ). Same (paired p 0 t) c) (let e : h ≡ 0 + h = omega arith in e) (paired_first p c n k h l);
  others = λ x y lx ly o. paired_other p c k x (2 * y + h) lx (omega arith) (far x y o);
}
  where
    far : (x y : ℕ) → 0 < x + y → (0 < x) ⊎ (2 ≤ 2 * y + h)
    far zero y o = inr (omega arith)
    far (suc x) y o = inl (omega arith)

pub dct4x8_flat : (p : Patch) (c : Float) → Number c → Peak 8 8 p c → Even 8 8 (dct4x8 p) c
unfolding dct4x8
dct4x8_flat p c n k x y hx hy =
    let uy : y / 4 < 2 = omega arith in
    subst (λ (z : Float). Same z c)
    (sym (framed_in 8 8 (λ x y. plane Inverse 3 2 (half_rows (y / 4) (paired p)) x (y % 4)) x y hx hy))
    (plane_inverse 3 2 (half_rows (y / 4) (paired p)) c (lit≤ tt) (lit≤ tt) n (half_peak (y / 4) p c uy n k) x (y % 4) hx (omega arith))

pub dct8x4_flat : (p : Patch) (c : Float) → Number c → Peak 8 8 p c → Even 8 8 (dct8x4 p) c
unfolding dct8x4 flipped
dct8x4_flat p c n k x y hx hy =
    subst (λ (z : Float). Same z c) (sym (framed_in 8 8 (λ x y. dct4x8 p y x) x y hx hy)) (dct4x8_flat p c n k y x hy hx)

-- ---- the plain DCT

pub dct8_flat : (p : Patch) (c : Float) → Number c → Peak 8 8 p c → Even 8 8 (dct8 p) c
unfolding dct8
dct8_flat p c n k x y hx hy =
    subst (λ (z : Float). Same z c) (sym (framed_in 8 8 (plane Inverse 3 3 p) x y hx hy))
    (plane_inverse 3 3 p c (lit≤ tt) (lit≤ tt) n k x y hx hy)
