-- The flat law of a kernel whose forward map is the DCT: it is enough that the inverse takes a number with zeros to that number throughout.
use Rattle.std.specs.Prelude.{◌≡◌, ℕ, zero, suc, ◌+◌, ◌-◌, ◌*◌, ◌^◌, ◌<◌, ◌≤◌, Bool, true, false, ◌&&◌, ◌⊎◌, pos, nat_lt, refl, Float}
use Rattle.std.proofs.Common.{sym, ap, ap₂, subst, subst₂, ◌∙◌, inl, inr, arith, zero-mul, mul-one, one-mul, mul-pos, mul-lt-mul_of_pos_right, zero-lt-suc, lit<, pow-add, pow_pos}
use Rattle.std.specs.Float.{nan, inf, fin, binary32}
use Rattle.std.specs.Float.Ieee.{up, down, round, mul, div, of_bits}
use Rattle.std.specs.Float.Ieee.Fits.{down_pos}
use Rattle.std.proofs.lemmas.Nat.{mul-le}
use Rattle.std.proofs.lemmas.Bool.{cases_lt, ltb-true, lt-ltb, le-ltb, and_from, cond-true, cond-false}
use Rattle.std.proofs.lemmas.Bool.Decides.{nat_tests}
use Rattle.floats.specs.Arith.{times, over, one}
use Rattle.floats.specs.Same.{Zero, Same, Number, Room}
use Rattle.floats.proofs.Exact.{Divisor, zero_over, like_false}
use Rattle.floats.proofs.Factors.{one_is}
use Rattle.floats.proofs.Rounding.{round_fin}
use Rattle.floats.proofs.Wholes.{wholes}
use Rattle.kinds.specs.Kinds.{wide, high}
use Rattle.dct_2d.specs.Flat.{Even, Peak}
use Rattle.dct_2d.specs.Plane.{Patch}
use Rattle.dct.specs.Scale.{scales, scale}
use Rattle.dct.specs.Transform.{at}
use Rattle.dct_2d.proofs.Planes.{plane_forward}
use Rattle.kernel.specs.Maps.{maps}
use Rattle.kernel.specs.Corner.{log2, divisor, gathered, corner, cornered, block_image}
use Rattle.kernel.specs.Flat.{whole, Bare, Flat}
use Rattle.transform.specs.Maps.{forward, mean}
use Rattle.transform.specs.Sides.{all_below, by_test, Side, Sides, carried_sides}

-- ---- a number over one

once : (c : Float) → Number c → Same (over c (fin false 1 (pos 0))) c
unfolding div
once nan n = absurd n.0
once (inf s) n = absurd n.0
once (fin s zero e) n = inr (zero_over (fin s zero e) (fin false 1 (pos 0)) refl (lit< tt), refl)
once (fin s (suc m) e) n =
    inl (ap (λ (t : Bool). round binary32 t (suc m * up e * 1) (1 * down e)) (like_false s)
    ∙ round_fin binary32 s (suc m) e (suc m * up e * 1) (1 * down e) n.1 (mul-pos (zero-lt-suc 0) (down_pos e))
    (ap (λ (x : ℕ). x * down e) (mul-one (suc m * up e)) ∙ ap (λ (x : ℕ). suc m * up e * x) (sym (one-mul (down e)))))

one_divides : Divisor one
one_divides = subst Divisor (sym one_is) (lit< tt)

pub over_one : (x c : Float) → Number c → Same x c → Same (over x one) c
over_one x c n (inl p) = subst (λ (z : Float). Same (over z one) c) (sym p) (subst (λ (z : Float). Same (over c z) c) (sym one_is) (once c n))
over_one x c n (inr p) = inr (zero_over x one p.0 one_divides, p.1)

-- ---- the divisors

abbrev above : Float → Bool
above nan = false
above (inf s) = false
above (fin s m e) = nat_lt 0 m

above_divides : (x : Float) → above x ≡ true → Divisor x
above_divides nan e = let z : ◌≡◌ {A = ℕ} 0 1 = cc in absurd (omega arith)
above_divides (inf s) e = let z : ◌≡◌ {A = ℕ} 0 1 = cc in absurd (omega arith)
above_divides (fin s m k) e = ltb-true 0 m e

abbrev good : ℕ → ℕ → Bool
good j i = above (times (at scales j) (at scales i))

-- each of the 1,024 products is above zero
products : all_below (λ j. all_below (good j) 32) 32 ≡ true
unfolding mul of_bits
products = refl

scales_divide : (j i : ℕ) → j < 32 → i < 32 → Divisor (times (at scales j) (at scales i))
scales_divide j i l m = above_divides (times (at scales j) (at scales i)) (by_test (good j) 32 (by_test (λ j. all_below (good j) 32) 32 products j l) i m)

first_scale : times (at scales 0) (at scales 0) ≡ one
unfolding mul of_bits
first_scale = refl

pub divisor_first : (w h : ℕ) → divisor w h 0 0 ≡ one
unfolding scale
divisor_first w h =
    ap₂ (λ (i j : ℕ). times (at scales i) (at scales j)) (zero-mul (2 ^ (5 - log2 h))) (zero-mul (2 ^ (5 - log2 w))) ∙ first_scale

in_table : (a x : ℕ) → a ≤ 5 → x < 2 ^ a → x * 2 ^ (5 - a) < 32
in_table a x l h =
    let e : a + (5 - a) ≡ 5 = omega arith in
    subst (λ (n : ℕ). x * 2 ^ (5 - a) < n) (sym (pow-add 2 a (5 - a)) ∙ ap (λ (n : ℕ). 2 ^ n) e)
    (mul-lt-mul_of_pos_right h (pow_pos (5 - a)))

pub divisor_divides : (w h i j : ℕ) → Side w → Side h → i < w → j < h → Divisor (divisor w h i j)
unfolding scale
divisor_divides w h i j sw sh hi hj =
    scales_divide (j * 2 ^ (5 - log2 h)) (i * 2 ^ (5 - log2 w))
    (in_table (log2 h) j sh.low (subst (λ (n : ℕ). j < n) sh.power hj))
    (in_table (log2 w) i sw.low (subst (λ (n : ℕ). i < n) sw.power hi))

-- ---- the corner

forward_peak : (w h : ℕ) (lf : Patch) (c : Float) → Side w → Side h → Number c → Room 4 c → Even w h lf c → Peak w h (forward w h lf) c
forward_peak w h lf c sw sh n r e =
    subst₂ (λ (i j : ℕ). Peak i j (forward w h lf) c) (sym sw.power) (sym sh.power)
    (plane_forward (log2 w) (log2 h) lf c (omega (arith, sw.low)) (omega (arith, sh.low)) n r
    (subst₂ (λ (i j : ℕ). Even i j lf c) sw.power sh.power e))

gathered_peak : (w h : ℕ) (lf : Patch) (c : Float) → Side w → Side h → 1 ≤ w → 1 ≤ h → Number c → Room 4 c → Even w h lf c
    → Peak w h (gathered forward w h lf) c
gathered_peak w h lf c sw sh lw lh n r e = go (cases_lt 1 (w * h))
  where
    go : (1 < w * h) ⊎ (w * h ≤ 1) → Peak w h (gathered forward w h lf) c
    go (inl m) =
        let k = forward_peak w h lf c sw sh n r e in
        let t : (i j : ℕ) → forward w h lf i j ≡ gathered forward w h lf i j =
        λ i j. sym (cond-true (nat_lt 1 (w * h)) (forward w h lf i j) (lf i j) (lt-ltb 1 (w * h) m)) in
        record {
          first = subst (λ (z : Float). Same z c) (t 0 0) k.first;
          others = λ i j hi hj o. subst Zero (t i j) (k.others i j hi hj o);
        }
    go (inr m) =
        let a : w * 1 ≤ w * h = mul-le w 1 w h (omega arith) lh in
        let b : 1 * h ≤ w * h = mul-le 1 h w h lw (omega arith) in
        let ew : w ≤ 1 = omega (arith, mul-one w) in
        let eh : h ≤ 1 = omega (arith, one-mul h) in
        record {
          first = subst (λ (z : Float). Same z c) (sym (cond-false (nat_lt 1 (w * h)) (forward w h lf 0 0) (lf 0 0) (le-ltb 1 (w * h) m))) (e 0 0 lw lh);
          others = λ i j hi hj o. absurd (omega arith);
        }

-- the block that rebuild hands to the inverse has c at (0, 0) and zeros elsewhere
pub block_peak : (kind : ℕ) (lf block : Patch) (c : Float) → Sides kind → Number c → Room 4 c
    → Even (wide kind) (high kind) lf c → Bare kind block → Peak (8 * wide kind) (8 * high kind) (cornered forward kind lf block) c
unfolding cornered corner
block_peak kind lf block c s n r e bare = record {
  first =
      subst (λ (z : Float). Same z c) (sym (inside 0 0 s.wide_some s.high_some))
      (subst (λ (d : Float). Same (over (g 0 0) d) c) (sym (divisor_first w h)) (over_one (g 0 0) c n pk.first));
  others = λ i j hi hj o. rest i j hi hj o (cases_lt i w) (cases_lt j h);
}
  where
    w : ℕ
    w = wide kind

    h : ℕ
    h = high kind

    g : Patch
    g = gathered forward (wide kind) (high kind) lf

    pk : Peak (wide kind) (high kind) g c
    pk = gathered_peak (wide kind) (high kind) lf c s.wide_side s.high_side s.wide_some s.high_some n r e

    inside : (i j : ℕ) → i < wide kind → j < high kind → cornered forward kind lf block i j ≡ over (g i j) (divisor (wide kind) (high kind) i j)
    inside i j hi hj = cond-true (nat_lt i (wide kind) && nat_lt j (high kind)) _ (block i j) (and_from _ _ (lt-ltb i (wide kind) hi) (lt-ltb j (high kind) hj))

    outside : (i j : ℕ) → (wide kind ≤ i) ⊎ (high kind ≤ j) → cornered forward kind lf block i j ≡ block i j
    outside i j o = cond-false (nat_lt i (wide kind) && nat_lt j (high kind)) (corner forward kind lf i j) (block i j) (test o)
      where
        test : (wide kind ≤ i) ⊎ (high kind ≤ j) → (nat_lt i (wide kind) && nat_lt j (high kind)) ≡ false
        test (inl a) = let t = le-ltb i (wide kind) a in grind (arith, nat_tests)
        test (inr a) = let t = le-ltb j (high kind) a in grind (arith, nat_tests)

    rest : (i j : ℕ) → i < 8 * wide kind → j < 8 * high kind → 0 < i + j → (i < wide kind) ⊎ (wide kind ≤ i) → (j < high kind) ⊎ (high kind ≤ j)
        → Zero (cornered forward kind lf block i j)
    rest i j hi hj o (inl a) (inl b) =
        subst Zero (sym (inside i j a b))
        (zero_over (g i j) (divisor (wide kind) (high kind) i j) (pk.others i j a b o)
        (divisor_divides (wide kind) (high kind) i j s.wide_side s.high_side a b))
    rest i j hi hj o (inl a) (inr b) = subst Zero (sym (outside i j (inr b))) (bare i j hi hj (inr b))
    rest i j hi hj o (inr a) b = subst Zero (sym (outside i j (inl a))) (bare i j hi hj (inl a))

-- what the inverse owes, for every finite number
abbrev pub PeaksEven : (ℕ → Patch → Patch) → Type 0
PeaksEven inv =
    (kind : ℕ) (p : Patch) (c : Float) → Sides kind → Number c → Peak (8 * wide kind) (8 * high kind) p c
    → Even (8 * wide kind) (8 * high kind) (inv kind p) c

-- of one number throughout, four of which stay below the format's end
pub even_image : (inv : ℕ → Patch → Patch) → PeaksEven inv → (kind : ℕ) (lf block : Patch) (c : Float) → Sides kind → Number c → Room 4 c
    → Even (wide kind) (high kind) lf c → Bare kind block → Even (8 * wide kind) (8 * high kind) (block_image (maps forward inv) kind lf block) c
unfolding block_image
even_image inv owed kind lf block c s n r e bare =
    owed kind (cornered forward kind lf block) c s n (block_peak kind lf block c s n r e bare)

pub flat_by_peaks : (inv : ℕ → Patch → Patch) → PeaksEven inv → Flat (maps forward inv)
unfolding Flat
flat_by_peaks inv owed kind z known n small lf block e bare =
    let w = wholes n small in
    even_image inv owed kind lf block (whole n) (carried_sides kind z known) w.0 w.1 e bare

pub mean_flat : Flat (maps forward mean)
mean_flat = flat_by_peaks mean (λ kind p c s n pk x y hx hy. pk.first)
