-- The footprint and the flat fact of rebuild.
use Rattle.std.proofs.Common.{◌≡◌, ℕ, ◌+◌, ◌-◌, ◌*◌, ◌/◌, ◌<◌, ◌≤◌, true, false, cond, ◌&&◌, ltb, ◌⊎◌, List, get_or, Some, None, Option, sym, refl, ap, ◌∙◌, subst, inl, inr, ⊎_elim, arith}
use mathlib.Core.Path.{fun_ext}
use lib.Ieee.{Float, nan}
use Rattle.std.proofs.lemmas.Bool.{cases_Bool, and_parts, and_from, ltb-true, lt-ltb, cond-true, cond-false}
use Rattle.grid.specs.declared.Shape.{Shape}
use Rattle.grid.specs.Index.{index}
use Rattle.grid.specs.Window.{window}
use Rattle.grid.specs.Plane.{Plane, sample}
use Rattle.grid.proofs.Laws.{painted_in}
use Rattle.kinds.specs.Kinds.{wide, high}
use Rattle.kinds.proofs.Sizes.{wide_is, high_is}
use Rattle.floats.specs.Same.{Zero, Same}
use Rattle.varmap.specs.declared.cells.Cell.{Cell}
use Rattle.varmap.specs.declared.cells.Record.{Record}
use Rattle.varmap.specs.Cells.{cells}
use Rattle.varmap.specs.Map.{LawfulMap}
use Rattle.blocks.specs.declared.leads.Varblock.{Varblock}
use Rattle.blocks.specs.Leads.{holder}
use Rattle.blocks.specs.Blocks.{block, of_block, imaged, by_blocks}
use Rattle.blocks.proofs.Holders.{Whole, whole, holds, Held, held}
use Rattle.blocks.proofs.ByBlocks.{sample_of, cell_below, holder_in}
use Rattle.kernel.specs.Maps.{Maps}
use Rattle.kernel.specs.Corner.{block_image}
use Rattle.kernel.specs.Flat as kernel
use Rattle.rebuild.specs.Rebuilt.{lf_patch, rebuilding}
use Rattle.rebuild.specs.Facts.{Fitting, after, Footprint, FlatRebuilt}

window_in : (s : Shape) (x y w h : ℕ) (xs : List Float) (i j : ℕ) → i < w → j < h → window s x y w h xs i j ≡ get_or xs (index s (x + i) (y + j)) nan
unfolding window
window_in s x y w h xs i j a b = cond-true (ltb i w && ltb j h) _ nan (and_from _ _ (lt-ltb _ _ a) (lt-ltb _ _ b))

-- two windows that show the same numbers are one function
window_same : (s t : Shape) (x y w h : ℕ) (xs ys : List Float)
    → ((i j : ℕ) → i < w → j < h → get_or xs (index s (x + i) (y + j)) nan ≡ get_or ys (index t (x + i) (y + j)) nan)
    → window s x y w h xs ≡ window t x y w h ys
unfolding window
window_same s t x y w h xs ys e = fun_ext (λ i. fun_ext (λ j. at i j (cases_Bool (ltb i w && ltb j h))))
  where
    at : (i j : ℕ) → ((ltb i w && ltb j h) ≡ true) ⊎ ((ltb i w && ltb j h) ≡ false)
        → cond (ltb i w && ltb j h) (get_or xs (index s (x + i) (y + j)) nan) nan ≡ cond (ltb i w && ltb j h) (get_or ys (index t (x + i) (y + j)) nan) nan
    at i j (inl t) =
        let p = and_parts (ltb i w) (ltb j h) t in
        ap (λ v. cond (ltb i w && ltb j h) v nan) (e i j (ltb-true _ _ p.0) (ltb-true _ _ p.1))
    at i j (inr f) = cond-false (ltb i w && ltb j h) _ nan f ∙ sym (cond-false (ltb i w && ltb j h) _ nan f)

-- a sample after the call
sample_after : (k : Maps) (map : Plane Cell) (lf p : Plane Float) (w h x y : ℕ) → Fitting w h (cells map.shape map.list) p lf → x < 8 * w → y < 8 * h
    → sample (after k map lf p) x y ≡ imaged p.shape (cells map.shape map.list) (rebuilding k lf) p.list x y (sample p x y)
unfolding by_blocks
sample_after k map lf p w h x y f a b =
    painted_in p.shape (imaged p.shape (cells map.shape map.list) (rebuilding k lf) p.list) p.list x y nan f.samples
    (record { across = omega (arith, f.width); down = omega (arith, f.height) })

-- the varblock of a sample
owner : (w h : ℕ) (m : ℕ → ℕ → Record) (lawful : LawfulMap w h m) (x y : ℕ) (v : Varblock) → x < 8 * w → y < 8 * h → holder m (x / 8) (y / 8) ≡ Some v
    → (Whole w h m v) × (v.x < w) × (Held w h m lawful (x / 8) (y / 8) v)
owner w h m lawful x y v a b e =
    let k = held w h m lawful (x / 8) (y / 8) v (cell_below w x a) (cell_below h y b) e in
    let l = k.left in
    let t = k.top in
    let c = cell_below w x a in
    let d = cell_below h y b in
    (whole w h m lawful v (record { across = omega arith; down = omega arith; lead = k.lead }), omega arith, k)

pub footprint : (k : Maps) → Footprint k
unfolding block rebuilding lf_patch
footprint k w h map p q lf lf' f g same x y a b samples lfs =
    sample_after k map lf p w h x y f a b
    ∙ go (holder m (x / 8) (y / 8)) refl
    ∙ sym (sample_after k map lf' q w h x y g a b)
  where
    m : ℕ → ℕ → Record
    m = cells map.shape map.list

    go : (o : Option Varblock) → holder m (x / 8) (y / 8) ≡ o
        → of_block p.shape (rebuilding k lf) p.list x y (sample p x y) o ≡ of_block q.shape (rebuilding k lf') q.list x y (sample q x y) o
    go None e = samples x y a b refl (inl (refl, refl))
    go (Some v) e =
        let o = owner w h m f.map x y v a b e in
        let n = o.0 in
        let ww = wide_is v.kind n.size n.carried in
        let hh = high_is v.kind n.size n.carried in
        let na = n.across in
        let nd = n.down in
        let blocks =
        window_same p.shape q.shape (8 * v.x) (8 * v.y) (8 * wide v.kind) (8 * high v.kind) p.list q.list
        (λ i j c d.
        samples (8 * v.x + i) (8 * v.y + j) (omega arith) (omega arith)
        (holder_in p.shape w h m (rebuilding k lf) p.list f.samples f.width f.height f.map v n o.1 (8 * v.x + i) (8 * v.y + j) (omega arith) (omega arith)
        (omega arith) (omega arith)
        ∙ sym e) (inr (v, e))) in
        let corners =
        window_same lf.shape lf'.shape v.x v.y (wide v.kind) (high v.kind) lf.list lf'.list
        (λ i j c d. lfs (v.x + i) (v.y + j) v (omega arith) (omega arith) e (holds w h m f.map v n i j (omega arith) (omega arith))) in
        ap (λ b. block_image k v.kind (window lf.shape v.x v.y (wide v.kind) (high v.kind) lf.list) b (x - 8 * v.x) (y - 8 * v.y)) blocks
        ∙ ap (λ c. block_image k v.kind c (window q.shape (8 * v.x) (8 * v.y) (8 * wide v.kind) (8 * high v.kind) q.list) (x - 8 * v.x) (y - 8 * v.y)) corners

pub flat_rebuilt : (k : Maps) → kernel.Flat k → FlatRebuilt k
unfolding block rebuilding lf_patch kernel.Flat
flat_rebuilt k flat w h map p lf z f modest lfs zeros x y v a b e =
    let o = owner w h m f.map x y v a b e in
    let n = o.0 in
    let t = o.2 in
    let ww = wide_is v.kind n.size n.carried in
    let hh = high_is v.kind n.size n.carried in
    let na = n.across in
    let nd = n.down in
    let px = sample_of v.x (wide v.kind) x t.left t.right in
    let py = sample_of v.y (high v.kind) y t.top t.bottom in
    let px0 = px.0 in
    let px1 = px.1 in
    let py0 = py.0 in
    let py1 = py.1 in
    let r =
    flat v.kind n.size n.carried z modest
    (window lf.shape v.x v.y (wide v.kind) (high v.kind) lf.list)
    (window p.shape (8 * v.x) (8 * v.y) (8 * wide v.kind) (8 * high v.kind) p.list)
    (λ i j c1 d1. subst (λ s. Same s (kernel.whole z)) (sym (window_in lf.shape v.x v.y (wide v.kind) (high v.kind) lf.list i j c1 d1)) (lfs (v.x + i) (v.y + j) (omega arith) (omega arith)))
    (λ i j c1 d1 out.
    subst Zero (sym (window_in p.shape (8 * v.x) (8 * v.y) (8 * wide v.kind) (8 * high v.kind) p.list i j c1 d1))
    (zeros (8 * v.x + i) (8 * v.y + j) v (omega arith) (omega arith)
    (holder_in p.shape w h m (rebuilding k lf) p.list f.samples f.width f.height f.map v n o.1 (8 * v.x + i) (8 * v.y + j) (omega arith) (omega arith)
    (omega arith) (omega arith))
    (⊎_elim (λ (l : wide v.kind ≤ i). inl (omega arith)) (λ u. inr (omega arith)) out)))
    (x - 8 * v.x) (y - 8 * v.y) (omega arith) (omega arith) in
    subst (λ s. Same s (kernel.whole z))
    (sym
    (sample_after k map lf p w h x y f a b
    ∙ ap (of_block p.shape (rebuilding k lf) p.list x y (sample p x y)) e))
    r
  where
    m : ℕ → ℕ → Record
    m = cells map.shape map.list
