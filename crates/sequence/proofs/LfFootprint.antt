-- The footprints of the stages on LF samples: which numbers an LF sample depends on.
use Rattle.std.proofs.Common.{◌≡◌, ℕ, ◌+◌, ◌-◌, ◌<◌, ◌≤◌, true, false, ◌⊎◌, ℤ, sym, ap, ◌∙◌, inl, inr, arith}
use lib.Ieee.{Float, nan, binary32, add, mul, of_int}
use Rattle.std.proofs.lemmas.Bool.{cases_Bool, cond-true, cond-false}
use Rattle.grid.specs.declared.xyb.Xyb.{Xyb}
use Rattle.grid.specs.Plane.{Plane, fitting, sample, numeral}
use Rattle.grid.proofs.Laws.{painted_in}
use Rattle.channels.proofs.Fitting.{fits_lawful, fits_inside}
use Rattle.lf.specs.Dequantise.{dequantised, lf_dequantised}
use Rattle.lf.specs.Correlate.{correlated, lf_correlated}
use Rattle.lf.specs.Smooth.{change, share_of, share, smoothed, inner, within_border, lf_smoothed}
use Rattle.lf.proofs.Smoothing.{Inner, inner_true}
use Rattle.sequence.specs.Runs.{holding}

-- LF dequantise: on the LF number at its own place
pub lf_dequantise_footprint : (w h : ℕ) (n n' : Plane ℤ) (scale : Float) (p q : Plane Float)
    → fitting w h p ≡ true → fitting w h q ≡ true → (x y : ℕ) → x < w → y < h → numeral n x y ≡ numeral n' x y
    → sample (holding p (lf_dequantised n scale p)) x y ≡ sample (holding q (lf_dequantised n' scale q)) x y
lf_dequantise_footprint w h n n' scale p q fp fq x y a b e =
    painted_in p.shape (dequantised n scale) p.list x y nan (fits_lawful w h p fp) (fits_inside w h p fp x y a b)
    ∙ ap (λ v. mul binary32 (of_int binary32 v) scale) e
    ∙ sym (painted_in q.shape (dequantised n' scale) q.list x y nan (fits_lawful w h q fq) (fits_inside w h q fq x y a b))

-- LF correlate: on itself and on Y at its own place
pub lf_correlate_footprint : (w h : ℕ) (k : Float) (luma luma' p q : Plane Float)
    → fitting w h p ≡ true → fitting w h q ≡ true → (x y : ℕ) → x < w → y < h
    → sample p x y ≡ sample q x y → sample luma x y ≡ sample luma' x y
    → sample (holding p (lf_correlated k luma p)) x y ≡ sample (holding q (lf_correlated k luma' q)) x y
lf_correlate_footprint w h k luma luma' p q fp fq x y a b own same =
    painted_in p.shape (correlated k luma) p.list x y nan (fits_lawful w h p fp) (fits_inside w h p fp x y a b)
    ∙ ap (λ v. add binary32 v (mul binary32 k (sample luma x y))) own
    ∙ ap (λ v. add binary32 (sample q x y) (mul binary32 k v)) same
    ∙ sym (painted_in q.shape (correlated k luma') q.list x y nan (fits_lawful w h q fq) (fits_inside w h q fq x y a b))

-- two grids of w × h hold the same within one cell of (x, y), diagonally too
abbrev pub SameAround : ℕ → ℕ → ℕ → ℕ → Plane Float → Plane Float → Type 0
SameAround w h x y p q =
    (i j : ℕ) → i < w → j < h → i ≤ x + 1 → x ≤ i + 1 → j ≤ y + 1 → y ≤ j + 1 → sample p i j ≡ sample q i j

change_same : (w h x y : ℕ) (p q : Plane Float) → Inner w h x y → SameAround w h x y p q → change p x y ≡ change q x y
change_same w h x y p q k e =
    let l = k.left in
    let r = k.right in
    let t = k.top in
    let b = k.bottom in
    let e0 = e (x - 1) (y - 1) (omega arith) (omega arith) (omega arith) (omega arith) (omega arith) (omega arith) in
    let e1 = e x (y - 1) (omega arith) (omega arith) (omega arith) (omega arith) (omega arith) (omega arith) in
    let e2 = e (x + 1) (y - 1) (omega arith) (omega arith) (omega arith) (omega arith) (omega arith) (omega arith) in
    let e3 = e (x - 1) y (omega arith) (omega arith) (omega arith) (omega arith) (omega arith) (omega arith) in
    let e4 = e x y (omega arith) (omega arith) (omega arith) (omega arith) (omega arith) (omega arith) in
    let e5 = e (x + 1) y (omega arith) (omega arith) (omega arith) (omega arith) (omega arith) (omega arith) in
    let e6 = e (x - 1) (y + 1) (omega arith) (omega arith) (omega arith) (omega arith) (omega arith) (omega arith) in
    let e7 = e x (y + 1) (omega arith) (omega arith) (omega arith) (omega arith) (omega arith) (omega arith) in
    let e8 = e (x + 1) (y + 1) (omega arith) (omega arith) (omega arith) (omega arith) (omega arith) (omega arith) in
    cc

-- LF smooth: on the samples within one cell, of all three channels
pub lf_smooth_footprint : (w h : ℕ) (lf lf' : Xyb (Plane Float)) (steps : Xyb Float) (p q : Plane Float)
    → fitting w h p ≡ true → fitting w h q ≡ true → (x y : ℕ) → x < w → y < h
    → SameAround w h x y lf.x lf'.x → SameAround w h x y lf.y lf'.y → SameAround w h x y lf.b lf'.b
    → SameAround w h x y p q
    → sample (holding p (lf_smoothed w h lf steps p)) x y ≡ sample (holding q (lf_smoothed w h lf' steps q)) x y
unfolding smoothed share
lf_smooth_footprint w h lf lf' steps p q fp fq x y a b ex ey eb e =
    painted_in p.shape (within_border w h (smoothed lf steps p)) p.list x y nan (fits_lawful w h p fp) (fits_inside w h p fp x y a b)
    ∙ go (cases_Bool (inner w h x y))
    ∙ sym
    (painted_in q.shape (within_border w h (smoothed lf' steps q)) q.list x y nan (fits_lawful w h q fq) (fits_inside w h q fq x y a b))
  where
    own : sample p x y ≡ sample q x y
    own = e x y a b (omega arith) (omega arith) (omega arith) (omega arith)

    go : (inner w h x y ≡ true) ⊎ (inner w h x y ≡ false)
        → within_border w h (smoothed lf steps p) x y (sample p x y) ≡ within_border w h (smoothed lf' steps q) x y (sample q x y)
    go (inl t) =
        let k = inner_true w h x y t in
        let cx = change_same w h x y lf.x lf'.x k ex in
        let cy = change_same w h x y lf.y lf'.y k ey in
        let cb = change_same w h x y lf.b lf'.b k eb in
        let c = change_same w h x y p q k e in
        cond-true (inner w h x y) _ _ t
        ∙ ap (λ v. add binary32 (mul binary32 v (share_of steps (change lf.x x y) (change lf.y x y) (change lf.b x y))) (sample p x y)) c
        ∙ ap (λ v. add binary32 (mul binary32 (change q x y) (share_of steps v (change lf.y x y) (change lf.b x y))) (sample p x y)) cx
        ∙ ap (λ v. add binary32 (mul binary32 (change q x y) (share_of steps (change lf'.x x y) v (change lf.b x y))) (sample p x y)) cy
        ∙ ap (λ v. add binary32 (mul binary32 (change q x y) (share_of steps (change lf'.x x y) (change lf'.y x y) v)) (sample p x y)) cb
        ∙ ap (λ v. add binary32 (mul binary32 (change q x y) (share_of steps (change lf'.x x y) (change lf'.y x y) (change lf'.b x y))) v) own
        ∙ sym (cond-true (inner w h x y) _ _ t)
    go (inr f) = cond-false (inner w h x y) _ _ f ∙ own ∙ sym (cond-false (inner w h x y) _ _ f)
