-- A walk over the tiles, row by row: the samples of the tiles before the tile (X, Y) have gained their part.
use Rattle.std.proofs.Common.{◌≡◌, ℕ, ◌+◌, ◌-◌, ◌*◌, ◌/◌, ◌<◌, ◌≤◌, Bool, true, false, cond, ◌&&◌, ltb, leb, ◌⊎◌, List, length, ℤ, sym, refl, ap, ◌∙◌, subst, inl, inr, arith}
use lib.Ieee.{Float, binary32, add, mul}
use Rattle.std.proofs.lemmas.Bool.{cases_Bool, cond-true, cond-false}
use Rattle.std.proofs.lemmas.Bool.Decides.{nat_tests}
use Rattle.std.proofs.lemmas.Nat.{div-add-mod', mod_below}
use Rattle.grid.specs.declared.Shape.{Shape}
use Rattle.grid.specs.declared.brush.Area.{Area}
use Rattle.grid.specs.Index.{Inside, Lawful}
use Rattle.grid.specs.Painted.{painted, patch}
use Rattle.grid.specs.Plane.{Plane, sample, numeral}
use Rattle.grid.proofs.Laws.{painted_none, painted_alike, painted_twice}
use Rattle.refusal.specs.Verdicts.{before}
use Rattle.channels.specs.Correlated.{gain, gained}
use Rattle.hf_correlate.specs.Tiles.{span, tile_area}
use Rattle.hf_correlate.specs.Correlated.{hf_correlated_at}

-- ---- tiles in one direction

pub tile_of : (t p : ℕ) → 64 * t ≤ p → p < 64 * t + 64 → p / 64 ≡ t
tile_of t p a b =
    let d = div-add-mod' p 64 in
    let m = mod_below p 64 (omega arith) in
    omega arith

pub of_tile : (t p : ℕ) → p / 64 ≡ t → (64 * t ≤ p) × (p < 64 * t + 64)
of_tile t p e =
    let d = div-add-mod' p 64 in
    let m = mod_below p 64 (omega arith) in
    (omega arith, omega arith)

pub tile_below : (n p : ℕ) → p < 64 * n → p / 64 < n
tile_below n p h = let d = div-add-mod' p 64 in omega arith

-- what lies in a tile that begins at a
pub span_most : (n a : ℕ) → span n a ≤ 64
span_most n a = grind (arith, nat_tests)

pub span_within : (n a : ℕ) → a ≤ n → a + span n a ≤ n
span_within n a h = grind (arith, nat_tests)

span_all : (n a p : ℕ) → p < n → p < a + 64 → p < a + span n a
span_all n a p h k = grind (arith, nat_tests)

-- ---- the order of tiles

same_tests : (a b : Bool) → (a ≡ true → b ≡ true) → (a ≡ false → b ≡ false) → a ≡ b
same_tests true b t f = sym (t refl)
same_tests false b t f = sym (f refl)

not_first : (x y : ℕ) → before 0 0 x y ≡ false
not_first x y = grind (arith, nat_tests)

not_yet : (X Y : ℕ) → before X Y X Y ≡ false
not_yet X Y = grind (arith, nat_tests)

just_now : (X Y : ℕ) → before (X + 1) Y X Y ≡ true
just_now X Y = grind (arith, nat_tests)

other_tile : (X Y x y : ℕ) → (x ≡ X → y ≡ Y → ⊥) → before X Y x y ≡ before (X + 1) Y x y
other_tile X Y x y ne =
    same_tests _ _ (λ t. grind (arith, nat_tests))
    (λ f.
    elim (cases_Bool (before (X + 1) Y x y)) [
      | inl t ↦ absurd (ne (grind (arith, nat_tests)) (grind (arith, nat_tests)))
      | inr g ↦ g
    ])

next_row : (w X Y x y : ℕ) → w ≤ X → x < w → before X Y x y ≡ before 0 (Y + 1) x y
next_row w X Y x y a b = same_tests _ _ (λ t. grind (arith, nat_tests)) (λ f. grind (arith, nat_tests))

before_all : (h Y x y : ℕ) → h ≤ Y → y < h → before 0 Y x y ≡ true
before_all h Y x y a b = grind (arith, nat_tests)

-- ---- the walk

module _ (s : Shape) (luma : Plane Float) (tiles : Plane ℤ) (base : Float) (colour : ℕ) where
  abbrev pub upto : ℕ → ℕ → ℕ → ℕ → Float → Float
  upto X Y p q old = cond (before X Y (p / 64) (q / 64)) (hf_correlated_at luma tiles base colour p q old) old

  abbrev new : ℕ → ℕ → Float → Float
  new p q old = hf_correlated_at luma tiles base colour p q old

  -- (p, q) lies in the tile (X, Y)
  abbrev in_tile : ℕ → ℕ → ℕ → ℕ → Bool
  in_tile X Y p q =
      (leb (64 * X) p && ltb p (64 * X + span s.width (64 * X))) && (leb (64 * Y) q && ltb q (64 * Y + span s.height (64 * Y)))

  module _ (xs : List Float) (l : Lawful s (length xs)) where
    pub upto_none : xs ≡ painted s (upto 0 0) xs
    upto_none =
        painted_none s (upto 0 0) xs l
        (λ p q old k. cond-false _ (hf_correlated_at luma tiles base colour p q old) old (not_first (p / 64) (q / 64)))

    pub upto_row : (w X Y : ℕ) → w ≤ X → s.width ≤ 64 * w → painted s (upto X Y) xs ≡ painted s (upto 0 (Y + 1)) xs
    upto_row w X Y a wide =
        painted_alike s (upto X Y) (upto 0 (Y + 1)) xs l
        (λ p q old k.
        ap (λ t. cond t (hf_correlated_at luma tiles base colour p q old) old)
        (next_row w X Y (p / 64) (q / 64) a (tile_below w p (omega (arith, k.across)))))

    pub upto_all : (h Y : ℕ) → h ≤ Y → s.height ≤ 64 * h
        → painted s (upto 0 Y) xs ≡ painted s (hf_correlated_at luma tiles base colour) xs
    upto_all h Y a high =
        painted_alike s (upto 0 Y) (hf_correlated_at luma tiles base colour) xs l
        (λ p q old k.
        cond-true _ (hf_correlated_at luma tiles base colour p q old) old
        (before_all h Y (p / 64) (q / 64) a (tile_below h q (omega (arith, k.down)))))

    -- one tile
    pub upto_more : (X Y : ℕ) (k : Float) → k ≡ gain base colour (numeral tiles X Y)
        → painted s (patch (64 * X) (64 * Y) (span s.width (64 * X)) (span s.height (64 * Y)) (gained k luma (64 * X) (64 * Y))) (painted s (upto X Y) xs)
        ≡ painted s (upto (X + 1) Y) xs
    upto_more X Y k e =
        painted_twice s (upto X Y) (patch (64 * X) (64 * Y) (span s.width (64 * X)) (span s.height (64 * Y)) (gained k luma (64 * X) (64 * Y)))
        (upto (X + 1) Y) xs l (λ p q old i. at p q old i (cases_Bool (in_tile X Y p q)))
      where
        inside : (p q : ℕ) → in_tile X Y p q ≡ true → (64 * X ≤ p) × (p < 64 * X + 64) × (64 * Y ≤ q) × (q < 64 * Y + 64)
        inside p q t =
            let a = span_most s.width (64 * X) in
            let b = span_most s.height (64 * Y) in
            (grind (arith, nat_tests), grind (arith, nat_tests), grind (arith, nat_tests), grind (arith, nat_tests))

        at : (p q : ℕ) (old : Float) → Inside s p q → (in_tile X Y p q ≡ true) ⊎ (in_tile X Y p q ≡ false)
            → patch (64 * X) (64 * Y) (span s.width (64 * X)) (span s.height (64 * Y)) (gained k luma (64 * X) (64 * Y)) p q (upto X Y p q old)
            ≡ upto (X + 1) Y p q old
        at p q old i (inl t) =
            let r = inside p q t in
            let r0 = r.0 in
            let r2 = r.2 in
            let x = tile_of X p r.0 r.1 in
            let y = tile_of Y q r.2 r.3 in
            let px : 64 * X + (p - 64 * X) ≡ p = omega arith in
            let qy : 64 * Y + (q - 64 * Y) ≡ q = omega arith in
            let still : upto X Y p q old ≡ old =
            ap (λ u. cond (before X Y u (q / 64)) (new p q old) old) x
            ∙ ap (λ u. cond (before X Y X u) (new p q old) old) y
            ∙ cond-false (before X Y X Y) (new p q old) old (not_yet X Y) in
            let done : upto (X + 1) Y p q old ≡ new p q old =
            ap (λ u. cond (before (X + 1) Y u (q / 64)) (new p q old) old) x
            ∙ ap (λ u. cond (before (X + 1) Y X u) (new p q old) old) y
            ∙ cond-true (before (X + 1) Y X Y) (new p q old) old (just_now X Y) in
            cond-true (in_tile X Y p q) _ _ t
            ∙ ap (gained k luma (64 * X) (64 * Y) (p - 64 * X) (q - 64 * Y)) still
            ∙ ap (λ u. add binary32 old (mul binary32 k (sample luma u (64 * Y + (q - 64 * Y))))) px
            ∙ ap (λ u. add binary32 old (mul binary32 k (sample luma p u))) qy
            ∙ ap (λ g. add binary32 old (mul binary32 g (sample luma p q))) e
            ∙ ap (λ u. add binary32 old (mul binary32 (gain base colour (numeral tiles u Y)) (sample luma p q))) (sym x)
            ∙ ap (λ u. add binary32 old (mul binary32 (gain base colour (numeral tiles (p / 64) u)) (sample luma p q))) (sym y)
            ∙ sym done
        at p q old i (inr f) =
            cond-false (in_tile X Y p q) _ _ f
            ∙ ap (λ t. cond t (new p q old) old)
            (other_tile X Y (p / 64) (q / 64)
            (λ a b.
            let u = of_tile X p a in
            let v = of_tile Y q b in
            let u0 = u.0 in
            let v0 = v.0 in
            let u1 = span_all s.width (64 * X) p i.across u.1 in
            let v1 = span_all s.height (64 * Y) q i.down v.1 in
            let bad : ◌≡◌ {A = ℕ} 0 1 = grind (arith, nat_tests) in
            omega arith))

    -- the same, as the loop comes by it
    pub tile_done : (X Y : ℕ) (k : Float) (t : Shape) (a : Area) (ys zs : List Float) → t ≡ s → a ≡ tile_area t X Y
        → k ≡ gain base colour (numeral tiles X Y) → ys ≡ painted s (upto X Y) xs
        → zs ≡ painted t (patch a.x a.y a.width a.height (gained k luma a.x a.y)) ys
        → zs ≡ painted s (upto (X + 1) Y) xs
    tile_done X Y k t a ys zs same area e before' painting =
        painting
        ∙ ap (λ (r : Area). painted t (patch r.x r.y r.width r.height (gained k luma r.x r.y)) ys) area
        ∙ ap
        (λ (u : Shape).
        painted u (patch (64 * X) (64 * Y) (span u.width (64 * X)) (span u.height (64 * Y)) (gained k luma (64 * X) (64 * Y))) ys)
        same
        ∙ ap (painted s (patch (64 * X) (64 * Y) (span s.width (64 * X)) (span s.height (64 * Y)) (gained k luma (64 * X) (64 * Y)))) before'
        ∙ upto_more X Y k e

-- a tile's samples lie in the grid
pub area_across : (s : Shape) (X Y : ℕ) (a : Area) → a ≡ tile_area s X Y → 64 * X ≤ s.width → a.x + a.width ≤ s.width
area_across s X Y a e h = subst (λ (r : Area). r.x + r.width ≤ s.width) (sym e) (span_within s.width (64 * X) h)

pub area_down : (s : Shape) (X Y : ℕ) (a : Area) → a ≡ tile_area s X Y → 64 * Y ≤ s.height → a.y + a.height ≤ s.height
area_down s X Y a e h = subst (λ (r : Area). r.y + r.height ≤ s.height) (sym e) (span_within s.height (64 * Y) h)
