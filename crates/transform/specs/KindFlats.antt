-- The inverse map of the crate kernel, kind by kind, and its flat law.
use Rattle.std.specs.Prelude.{◌≡◌, ℕ, ◌*◌, ◌^◌, ◌<◌, Bool, true, false, cond, ◌&&◌, ◌⊎◌, ◌==◌, refl, Float}
use Rattle.std.proofs.Common.{sym, ap, subst, subst₂, ◌∙◌, inl, inr, ⊎_elim, arith}
use Rattle.std.proofs.lemmas.Bool.{cases_Bool, cases_lt, cond-true, cond-false}
use Rattle.std.proofs.lemmas.Bool.Decides.{nat_tests}
use Rattle.floats.specs.Same.{Number}
use Rattle.kinds.specs.Kinds.{size_of, found, wide, high}
use Rattle.dct.specs.declared.dct_common.DctDirection.TheVariants.{Inverse}
use Rattle.dct_2d.specs.Flat.{Even, Peak}
use Rattle.dct_2d.specs.Plane.{Patch, plane}
use Rattle.dct_2d.proofs.Planes.{plane_inverse}
use Rattle.kernel.specs.Corner.{log2}
use Rattle.kernel.specs.Flat.{Flat}
use Rattle.kernel.specs.Maps.{maps}
use Rattle.cells.specs.Cells.{hornuss, dct2, dct4, dct4x8, dct8x4}
use Rattle.transform.specs.Maps.{forward, single, cell_inverse, inverse}
use Rattle.transform.specs.Sides.{all_below, by_test, Sides}
use Rattle.transform.specs.Flats.{flat_by_peaks}
use Rattle.transform.specs.CellFlats.{dct2_flat, dct4_flat, hornuss_flat, dct4x8_flat, dct8x4_flat, dct8_flat}

-- ---- the kinds of one cell

singles_stand : all_below (λ k. cond (single k) (wide k == 1 && high k == 1) true) 14 ≡ true
unfolding wide high size_of found
singles_stand = refl

single_below : (kind : ℕ) → single kind ≡ true → kind < 14
single_below kind e =
    ⊎_elim (λ (a : kind < 14). a) (λ b. let z : ◌≡◌ {A = ℕ} 0 1 = grind (arith, nat_tests) in absurd (omega arith)) (cases_lt kind 14)

single_sides : (kind : ℕ) → single kind ≡ true → (wide kind == 1 && high kind == 1) ≡ true
single_sides kind e =
    subst (λ (b : Bool). cond b (wide kind == 1 && high kind == 1) true ≡ true) e
    (by_test (λ k. cond (single k) (wide k == 1 && high k == 1) true) 14 singles_stand kind (single_below kind e))

pub single_wide : (kind : ℕ) → single kind ≡ true → wide kind ≡ 1
single_wide kind e = let t = single_sides kind e in grind (arith, nat_tests)

pub single_high : (kind : ℕ) → single kind ≡ true → high kind ≡ 1
single_high kind e = let t = single_sides kind e in grind (arith, nat_tests)

pub inverse_single : (kind : ℕ) (p : Patch) → single kind ≡ true → cell_inverse kind p ≡ inverse kind p
unfolding inverse
inverse_single kind p e = sym (cond-true (single kind) (cell_inverse kind p) _ e)

pub inverse_plain : (kind : ℕ) (p : Patch) → single kind ≡ false → plane Inverse (log2 (8 * wide kind)) (log2 (8 * high kind)) p ≡ inverse kind p
unfolding inverse
inverse_plain kind p e = sym (cond-false (single kind) (cell_inverse kind p) _ e)

-- ---- the flat law

cell_even : (kind : ℕ) (p : Patch) (c : Float) → Number c → Peak 8 8 p c → Even 8 8 (cell_inverse kind p) c
cell_even kind p c n k =
    pick (kind == 1) (hornuss p) _ (hornuss_flat p c n k)
    (pick (kind == 2) (dct2 p) _ (dct2_flat p c n k)
    (pick (kind == 3) (dct4 p) _ (dct4_flat p c n k)
    (pick (kind == 12) (dct4x8 p) _ (dct4x8_flat p c n k) (pick (kind == 13) (dct8x4 p) _ (dct8x4_flat p c n k) (dct8_flat p c n k)))))
  where
    pick : (b : Bool) (q r : Patch) → Even 8 8 q c → Even 8 8 r c → Even 8 8 (cond b q r) c
    pick true q r f g = f
    pick false q r f g = g

single_even : (kind : ℕ) (p : Patch) (c : Float) → single kind ≡ true → Number c → Peak (8 * wide kind) (8 * high kind) p c
    → Even (8 * wide kind) (8 * high kind) (cell_inverse kind p) c
single_even kind p c e n k =
    let w = single_wide kind e in
    let h = single_high kind e in
    subst₂ (λ (i j : ℕ). Even (8 * i) (8 * j) (cell_inverse kind p) c) (sym w) (sym h)
    (cell_even kind p c n (subst₂ (λ (i j : ℕ). Peak (8 * i) (8 * j) p c) w h k))

plain_even : (kind : ℕ) (p : Patch) (c : Float) → Sides kind → Number c → Peak (8 * wide kind) (8 * high kind) p c
    → Even (8 * wide kind) (8 * high kind) (plane Inverse (log2 (8 * wide kind)) (log2 (8 * high kind)) p) c
plain_even kind p c s n k =
    let w : 8 * wide kind ≡ 2 ^ log2 (8 * wide kind) = s.wide_side.block ∙ ap (λ (m : ℕ). 2 ^ m) (sym s.wide_side.more) in
    let h : 8 * high kind ≡ 2 ^ log2 (8 * high kind) = s.high_side.block ∙ ap (λ (m : ℕ). 2 ^ m) (sym s.high_side.more) in
    subst₂ (λ (i j : ℕ). Even i j (plane Inverse (log2 (8 * wide kind)) (log2 (8 * high kind)) p) c) (sym w) (sym h)
    (plane_inverse (log2 (8 * wide kind)) (log2 (8 * high kind)) p c (omega (arith, s.wide_side.low, s.wide_side.more))
    (omega (arith, s.high_side.low, s.high_side.more)) n (subst₂ (λ (i j : ℕ). Peak i j p c) w h k))

-- a number with zeros becomes the number throughout, for every finite number
pub inverse_even : (kind : ℕ) (p : Patch) (c : Float) → Sides kind → Number c → Peak (8 * wide kind) (8 * high kind) p c
    → Even (8 * wide kind) (8 * high kind) (inverse kind p) c
inverse_even kind p c s n k = go (cases_Bool (single kind))
  where
    go : (single kind ≡ true) ⊎ (single kind ≡ false) → Even (8 * wide kind) (8 * high kind) (inverse kind p) c
    go (inl e) = subst (λ (q : Patch). Even (8 * wide kind) (8 * high kind) q c) (inverse_single kind p e) (single_even kind p c e n k)
    go (inr e) = subst (λ (q : Patch). Even (8 * wide kind) (8 * high kind) q c) (inverse_plain kind p e) (plain_even kind p c s n k)

pub vardct_flat : Flat (maps forward inverse)
vardct_flat = flat_by_peaks inverse inverse_even
