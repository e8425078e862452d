-- What LF smooth rests on.
use Rattle.std.proofs.Common.{◌≡◌, ℕ, ◌+◌, ◌-◌, ◌*◌, ◌<◌, ◌≤◌, true, false, cond, ◌&&◌, ltb, leb, ◌⊎◌, List, length, get_or, is_err, sym, refl, ap, ◌∙◌, subst, inl, inr, arith}
use lib.Ieee.{Float, nan, binary32, add, mul}
use Rattle.std.proofs.lemmas.Bool.{cases_Bool, cond-true, cond-false, and_parts, leb-true, ltb-true}
use Rattle.std.proofs.lemmas.Bool.Decides.{nat_tests}
use Rattle.grid.specs.declared.Shape.{Shape}
use Rattle.grid.specs.declared.brush.Area.{Area}
use Rattle.grid.specs.declared.xyb.Xyb.{Xyb}
use Rattle.grid.specs.Index.{index, dense, Lawful}
use Rattle.grid.specs.Painted.{painted, patch}
use Rattle.grid.specs.Plane.{Plane, fitting, sample}
use Rattle.grid.specs.Channels.{planes, all_fit}
use Rattle.grid.proofs.Laws.{painted_in, painted_alike}
use Rattle.grid.proofs.Sized.{sized_true}
use Rattle.refusal.proofs.Rows.{and_ok, demand_ok, not_err}
use Rattle.frame.specs.declared.stages.Stage.{Stage}
use Rattle.lf.specs.Smooth.{lf_smooth_answer, change, share_of, share, shared, smoothed, inner, within_border, lf_smoothed, Holds, Fits, AllFit, moved}
use Rattle.channels.proofs.Fitting.{fits_three}
use Rattle.lf.proofs.Grids.{painted_own, rows}

-- what an accepted LF smooth has found
pub record Accepted (w h : ℕ) (lf : Xyb (Plane Float)) (n : ℕ) : Type 0 where
  pub x : fitting w h lf.x ≡ true
  pub y : fitting w h lf.y ≡ true
  pub b : fitting w h lf.b ≡ true
  pub room : 3 * (w * h) ≤ n

pub accepted : (w h : ℕ) (st : Stage) (lf : Xyb (Plane Float)) (steps : Xyb Float) (room : ℕ)
    → is_err (lf_smooth_answer w h st lf steps room) ≡ false → Accepted w h lf room
accepted w h st lf steps room e =
    let ok = not_err _ e in
    let turn = and_ok _ _ _ ok.1 in
    let shape = and_ok _ _ _ turn.1 in
    let long = and_ok _ _ _ shape.1 in
    let fits = fits_three w h lf (demand_ok _ _ shape.0) in
    record { x = fits.0; y = fits.1; b = fits.2; room = leb-true _ _ (demand_ok _ _ long.0) }

-- ---- places within the border
pub record Inner (w h x y : ℕ) : Type 0 where
  pub left : 1 ≤ x
  pub right : x + 1 < w
  pub top : 1 ≤ y
  pub bottom : y + 1 < h

pub inner_true : (w h x y : ℕ) → inner w h x y ≡ true → Inner w h x y
inner_true w h x y e =
    let p = and_parts (leb 1 x && ltb (x + 1) w) (leb 1 y && ltb (y + 1) h) e in
    let horizontal = and_parts (leb 1 x) (ltb (x + 1) w) p.0 in
    let vertical = and_parts (leb 1 y) (ltb (y + 1) h) p.1 in
    record { left = leb-true _ _ horizontal.0; right = ltb-true _ _ horizontal.1; top = leb-true _ _ vertical.0; bottom = ltb-true _ _ vertical.1 }

-- a part of scratch that is long enough is a lawful grid as large as another
pub dense_lawful : (w h n : ℕ) (p : Plane Float) (s : Shape) → fitting w h p ≡ true → s ≡ dense w h → w * h ≤ n → Lawful s n
dense_lawful w h n p s f e room =
    let z = sized_true w h p.shape (length p.list) f in
    let l = z.lawful in
    let wide : 1 ≤ w = omega (arith, l.wide, z.width) in
    let tall : 1 ≤ h = omega (arith, l.tall, z.height) in
    subst (λ (t : Shape). Lawful t n) (sym e)
    (record { wide = wide; tall = tall; within = omega arith; small = omega (arith, l.within, l.small, z.width); long = omega (arith, rows w h tall) })

-- ---- a walk over all but the border
-- f at the place to the right and below, as a brush sees it whose area begins at (1, 1)
abbrev pub shifted : (ℕ → ℕ → Float → Float) → ℕ → ℕ → Float → Float
shifted f i j old = f (i + 1) (j + 1) old

abbrev pub inner_area : ℕ → ℕ → Area
inner_area w h = record { x = 1; y = 1; width = w - 2; height = h - 2 }

-- its sides, in a grid of w × h
pub record Sides (w h : ℕ) (a : Area) : Type 0 where
  pub across : a.x + a.width ≤ w
  pub down : a.y + a.height ≤ h
  pub width : a.width ≡ w - 2
  pub height : a.height ≡ h - 2

pub sides : (w h : ℕ) (p : Plane Float) (a : Area) → fitting w h p ≡ true → a ≡ inner_area w h → Sides w h a
sides w h p a f e =
    let z = sized_true w h p.shape (length p.list) f in
    let l = z.lawful in
    let wide : 1 ≤ w = omega (arith, l.wide, z.width) in
    let tall : 1 ≤ h = omega (arith, l.tall, z.height) in
    subst (Sides w h) (sym e) (record { across = omega arith; down = omega arith; width = refl; height = refl })

shift : (w h : ℕ) (f : ℕ → ℕ → Float → Float) (x y : ℕ) (old : Float) → patch 1 1 (w - 2) (h - 2) (shifted f) x y old ≡ within_border w h f x y old
shift w h f x y old =
    elim (cases_Bool (inner w h x y)) [
      | inl e ↦
          let i = inner_true w h x y e in
          let across : x - 1 + 1 ≡ x = omega arith in
          let down : y - 1 + 1 ≡ y = omega arith in
          rw (across, down) (grind (arith, nat_tests))
      | inr e ↦ grind (arith, nat_tests)
    ]

pub painted_inner : (s : Shape) (w h : ℕ) (a : Area) (f : ℕ → ℕ → Float → Float) (xs : List Float) → Lawful s (length xs) → a ≡ inner_area w h
    → painted s (patch a.x a.y a.width a.height (shifted f)) xs ≡ painted s (within_border w h f) xs
painted_inner s w h a f xs l e =
    ap (λ (v : Area). painted s (patch v.x v.y v.width v.height (shifted f)) xs) e
    ∙ painted_alike s (patch 1 1 (w - 2) (h - 2) (shifted f)) (within_border w h f) xs l (λ x y old k. shift w h f x y old)

-- ---- what scratch holds
abbrev pub fresh : (ℕ → ℕ → Float) → ℕ → ℕ → Float → Float
fresh g x y old = g x y

pub holds : (s t : Shape) (a : Area) (g : ℕ → ℕ → Float) (old xs : List Float) → Lawful s (length old) → a ≡ inner_area s.width s.height
    → t ≡ s → xs ≡ painted s (patch a.x a.y a.width a.height (shifted (fresh g))) old
    → Holds s.width s.height (record { shape = t; list = xs }) g
unfolding Holds
holds s t a g old xs l e same q x y k =
    let i = inner_true s.width s.height x y k in
    ap (λ (u : Shape). get_or xs (index u x y) nan) same
    ∙ ap (λ (zs : List Float). get_or zs (index s x y) nan) (q ∙ painted_inner s s.width s.height a (fresh g) old l e)
    ∙ painted_in s (within_border s.width s.height (fresh g)) old x y nan l (record { across = omega arith; down = omega arith })
    ∙ cond-true (inner s.width s.height x y) (g x y) _ k

pub holds_share : (w h : ℕ) (steps : Xyb Float) (shares cx cy x y b : Plane Float) → Holds w h shares (shared steps cx cy b)
    → Holds w h cx (change x) → Holds w h cy (change y) → Holds w h shares (share (planes x y b) steps)
unfolding share Holds
holds_share w h steps shares cx cy x y b s hx hy i j k =
    s i j k
    ∙ ap (λ (v : Float). share_of steps v (sample cy i j) (change b i j)) (hx i j k)
    ∙ ap (λ (v : Float). share_of steps (change x i j) v (change b i j)) (hy i j k)

-- ---- a channel that has moved is smoothed
pub moved_smoothed : (w h : ℕ) (lf : Xyb (Plane Float)) (steps : Xyb Float) (p changes shares : Plane Float) → Lawful p.shape (length p.list)
    → Holds w h changes (change p) → Holds w h shares (share lf steps)
    → painted p.shape (within_border w h (moved changes shares)) p.list ≡ lf_smoothed w h lf steps p
unfolding smoothed Holds
moved_smoothed w h lf steps p changes shares f hc hs =
    painted_own p.shape (within_border w h (moved changes shares)) (within_border w h (smoothed lf steps p)) p.list nan f
    (λ x y k. at x y (cases_Bool (inner w h x y)))
  where
    at : (x y : ℕ) → (inner w h x y ≡ true) ⊎ (inner w h x y ≡ false)
        → within_border w h (moved changes shares) x y (sample p x y) ≡ within_border w h (smoothed lf steps p) x y (sample p x y)
    at x y (inl e) =
        ap (λ (v : Float). cond (inner w h x y) (add binary32 (mul binary32 v (sample shares x y)) (sample p x y)) (sample p x y)) (hc x y e)
        ∙ ap (λ (v : Float). cond (inner w h x y) (add binary32 (mul binary32 (change p x y) v) (sample p x y)) (sample p x y)) (hs x y e)
    at x y (inr e) = cond-false (inner w h x y) _ (sample p x y) e ∙ sym (cond-false (inner w h x y) _ (sample p x y) e)

-- three grids that fit
pub all_fit_by : (w h : ℕ) (lf : Xyb (Plane Float)) (s : Shape) → all_fit w h lf ≡ true → s ≡ dense w h → AllFit lf s
all_fit_by w h lf s f e =
    let three = fits_three w h lf f in
    subst (AllFit lf) (sym e) (record { x = fits w h lf.x three.0; y = fits w h lf.y three.1; b = fits w h lf.b three.2 })
  where
    fits : (w h : ℕ) (p : Plane Float) → fitting w h p ≡ true → Fits p (dense w h)
    fits w h p f = let z = sized_true w h p.shape (length p.list) f in record { lawful = z.lawful; width = z.width; height = z.height }
