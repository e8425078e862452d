-- What rebuild and the HF stages make of grids that are the same but for some elements.
use Rattle.std.proofs.Common.{◌≡◌, ℕ, zero, suc, ◌+◌, ◌-◌, ◌*◌, ◌/◌, ◌<◌, ◌≤◌, Bool, true, false, ◌⊎◌, ℤ, Some, None, Option, sym, refl, ◌∙◌, subst, inl, inr, ⊎_elim, arith}
use lib.Ieee.{Float}
use Rattle.std.proofs.lemmas.Bool.{cases_Bool, cases_lt, true≢false}
use Rattle.grid.specs.Index.{Inside}
use Rattle.grid.specs.Plane.{Plane, fitting, sample, numeral}
use Rattle.kinds.specs.Kinds.{wide, high}
use Rattle.kinds.proofs.Sizes.{wide_is, high_is}
use Rattle.varmap.specs.declared.cells.Cell.{Cell}
use Rattle.varmap.specs.declared.cells.Record.{Record}
use Rattle.varmap.specs.Cells.{cells}
use Rattle.varmap.specs.Map.{LawfulMap}
use Rattle.blocks.specs.declared.leads.Varblock.{Varblock}
use Rattle.blocks.specs.Leads.{holder}
use Rattle.blocks.specs.Blocks.{imaged, by_blocks}
use Rattle.blocks.proofs.Holders.{whole, holds, held}
use Rattle.blocks.proofs.ByBlocks.{cell_below}
use Rattle.weights.specs.Weights.{Table}
use Rattle.hf_block.specs.declared.work.Scales.{Scales}
use Rattle.hf_block.specs.Dequantised.{dequantising, hf_dequantised}
use Rattle.hf_block.proofs.Footprint.{hf_footprint}
use Rattle.channels.proofs.Fitting.{fits_inside}
use Rattle.hf_correlate.specs.Correlated.{hf_correlated_at, hf_correlated}
use Rattle.hf_correlate.proofs.Footprint.{hf_correlate_footprint}
use Rattle.kernel.specs.Maps.{Maps}
use Rattle.rebuild.specs.Rebuilt.{rebuilding, rebuilt}
use Rattle.rebuild.specs.Facts.{Fitting}
use Rattle.rebuild.proofs.Facts.{footprint}
use Rattle.sequence.specs.Runs.{holding}
use Rattle.sequence.proofs.SameBut.{SameBut, painted_alike_beyond, within}

-- HF dequantise: samples differ only where they did before, or where the coefficients do
pub hf_dequantise_but : (E : ℕ → ℕ → Type 0) (w8 h8 : ℕ) (map : Plane Cell) (n n' : Plane ℤ) (t : Table) (by : Scales) (p q : Plane Float)
    → LawfulMap w8 h8 (cells map.shape map.list) → fitting (8 * w8) (8 * h8) p ≡ true → fitting (8 * w8) (8 * h8) q ≡ true
    → SameBut E p q → ((x y : ℕ) → x < 8 * w8 → y < 8 * h8 → (numeral n x y ≡ numeral n' x y) ⊎ (E x y))
    → SameBut E (holding p (hf_dequantised map n t by p)) (holding q (hf_dequantised map n' t by q))
unfolding by_blocks
hf_dequantise_but E w8 h8 map n n' t by p q lawful fp fq s e =
    record {
      alike =
          painted_alike_beyond (imaged p.shape m (dequantising n t by) p.list) (imaged q.shape m (dequantising n' t by) q.list) p q s.alike;
      inside =
          λ x y k.
          let c = within (8 * w8) (8 * h8) p fp x y k in
          ⊎_elim
          (λ (own : sample p x y ≡ sample q x y).
          ⊎_elim
          (λ (same : numeral n x y ≡ numeral n' x y).
          inl (hf_footprint w8 h8 map n n' t by p q lawful fp fq x y c.0 c.1 (λ _. own) (λ _ _. same)))
          (λ d. inr d)
          (e x y c.0 c.1))
          (λ d. inr d)
          (s.inside x y k);
    }
  where
    m : ℕ → ℕ → Record
    m = cells map.shape map.list

-- HF correlate: no sample differs that did not before, in its channel or in Y
pub hf_correlate_but : (E : ℕ → ℕ → Type 0) (w8 h8 : ℕ) (luma luma' : Plane Float) (tiles : Plane ℤ) (base : Float) (colour : ℕ) (p q : Plane Float)
    → fitting (8 * w8) (8 * h8) p ≡ true → fitting (8 * w8) (8 * h8) q ≡ true → fitting (8 * w8) (8 * h8) luma ≡ true
    → SameBut E p q → SameBut E luma luma'
    → SameBut E (holding p (hf_correlated luma tiles base colour p)) (holding q (hf_correlated luma' tiles base colour q))
hf_correlate_but E w8 h8 luma luma' tiles base colour p q fp fq fl s t =
    record {
      alike = painted_alike_beyond (hf_correlated_at luma tiles base colour) (hf_correlated_at luma' tiles base colour) p q s.alike;
      inside =
          λ x y i.
          let c = within (8 * w8) (8 * h8) p fp x y i in
          ⊎_elim
          (λ (own : sample p x y ≡ sample q x y).
          ⊎_elim
          (λ (there : sample luma x y ≡ sample luma' x y).
          inl (hf_correlate_footprint w8 h8 luma luma' tiles tiles base colour p q fp fq x y c.0 c.1 own there refl))
          (λ d. inr d)
          (t.inside x y (fits_inside (8 * w8) (8 * h8) luma fl x y c.0 c.1)))
          (λ d. inr d)
          (s.inside x y i);
    }

-- a search: somewhere below n, or nowhere
some_below : (A B : ℕ → Type 0) (n : ℕ) → ((k : ℕ) → (A k) ⊎ (B k)) → ((k : ℕ) × (k < n) × (A k)) ⊎ ((k : ℕ) → k < n → B k)
some_below A B zero d = inr (λ k h. absurd (omega arith))
some_below A B (suc n) d = go (some_below A B n d) (d n)
  where
    last : ((k : ℕ) → k < n → B k) → B n → (k : ℕ) → k < suc n → (k < n) ⊎ (n ≤ k) → B k
    last f b k h (inl l) = f k l
    last f b k h (inr l) = let e : k ≡ n = omega arith in subst B (sym e) b

    go : ((k : ℕ) × (k < n) × (A k)) ⊎ ((k : ℕ) → k < n → B k) → (A n) ⊎ (B n) → ((k : ℕ) × (k < suc n) × (A k)) ⊎ ((k : ℕ) → k < suc n → B k)
    go (inl (k, h, a)) b = inl (k, omega arith, a)
    go (inr f) (inl a) = inl (n, omega arith, a)
    go (inr f) (inr b) = inr (λ k h. last f b k h (cases_lt k n))

-- the cell (x, y) passes T, or is in one varblock with a cell that does
abbrev pub Reached : (ℕ → ℕ → Record) → (ℕ → ℕ → Bool) → ℕ → ℕ → Type 0
Reached m T x y =
    (T x y ≡ true) ⊎ ((v : Varblock) × (i : ℕ) × (j : ℕ) × (holder m x y ≡ Some v) × (holder m i j ≡ Some v) × (T i j ≡ true))

-- rebuild: where samples and LF samples differ only in cells that pass T, samples differ only in those and in varblocks that reach them
module _ (k : Maps) (T : ℕ → ℕ → Bool) (w h : ℕ) (map : Plane Cell) (p q lf lf' : Plane Float) where
  abbrev m : ℕ → ℕ → Record
  m = cells map.shape map.list

  module _ (f : Fitting w h m p lf) (g : Fitting w h m q lf')
      (lw : lf.shape.width ≡ w) (lh : lf.shape.height ≡ h)
      (s : SameBut (λ x y. T (x / 8) (y / 8) ≡ true) p q) (t : SameBut (λ x y. T x y ≡ true) lf lf') where
    in_samples : (x y : ℕ) → x < 8 * w → y < 8 * h → Inside p.shape x y
    in_samples x y a b = record { across = omega (arith, f.width); down = omega (arith, f.height) }

    clear_sample : (x y : ℕ) → x < 8 * w → y < 8 * h → T (x / 8) (y / 8) ≡ false → sample p x y ≡ sample q x y
    clear_sample x y a b c =
        ⊎_elim (λ (same : sample p x y ≡ sample q x y). same) (λ d. absurd (true≢false (sym d ∙ c))) (s.inside x y (in_samples x y a b))

    clear_lf : (x y : ℕ) → x < w → y < h → T x y ≡ false → sample lf x y ≡ sample lf' x y
    clear_lf x y a b c =
        ⊎_elim (λ (same : sample lf x y ≡ sample lf' x y). same) (λ d. absurd (true≢false (sym d ∙ c)))
        (t.inside x y (record { across = omega (arith, lw); down = omega (arith, lh) }))

    -- no cell of the varblock v passes T
    abbrev Clear : Varblock → Type 0
    Clear v = (j : ℕ) → j < high v.kind → (i : ℕ) → i < wide v.kind → T (v.x + i) (v.y + j) ≡ false

    clear_at : (v : Varblock) → Clear v → (x y : ℕ) → x < w → y < h → holder m x y ≡ Some v → T x y ≡ false
    clear_at v c x y a b e =
        let k = held w h m f.map x y v a b e in
        let l = k.left in
        let r = k.right in
        let u = k.top in
        let o = k.bottom in
        let i : v.x + (x - v.x) ≡ x = omega arith in
        let j : v.y + (y - v.y) ≡ y = omega arith in
        subst (λ n. T n y ≡ false) i (subst (λ n. T (v.x + (x - v.x)) n ≡ false) j (c (y - v.y) (omega arith) (x - v.x) (omega arith)))

    by_holder : (x y : ℕ) → x < 8 * w → y < 8 * h → T (x / 8) (y / 8) ≡ false → (o : Option Varblock) → holder m (x / 8) (y / 8) ≡ o
        → (sample (holding p (rebuilt k map lf p)) x y ≡ sample (holding q (rebuilt k map lf' q)) x y) ⊎ (Reached m T (x / 8) (y / 8))
    by_holder x y a b c None e =
        inl
        (footprint k w h map p q lf lf' f g s.alike.shape x y a b
        (λ i j a1 b1 same which. ⊎_elim (λ (here : (i ≡ x) × (j ≡ y)). clear_sample i j a1 b1 (subst (λ n. T (n / 8) (j / 8) ≡ false) (sym here.0) (subst (λ n. T (x / 8) (n / 8) ≡ false) (sym here.1) c)))
        (λ v. let bad : ◌≡◌ {A = ℕ} 0 1 = not_some x y v.0 e v.1 in absurd (omega arith)) which)
        (λ i j v a1 b1 there same. let bad : ◌≡◌ {A = ℕ} 0 1 = not_some x y v e there in absurd (omega arith)))
      where
        not_some : (x y : ℕ) (v : Varblock) → holder m (x / 8) (y / 8) ≡ None → holder m (x / 8) (y / 8) ≡ Some v → ◌≡◌ {A = ℕ} 0 1
        not_some x y v e d = cc
    by_holder x y a b c (Some v) e =
        ⊎_elim
        (λ (found : (j : ℕ) × (j < high v.kind) × ((i : ℕ) × (i < wide v.kind) × (T (v.x + i) (v.y + j) ≡ true))).
        inr (inr (v, v.x + found.2.0, v.y + found.0, e, hold found.2.0 found.0 found.2.1 found.1, found.2.2)))
        (λ clear.
        inl
        (footprint k w h map p q lf lf' f g s.alike.shape x y a b
        (λ i j a1 b1 same which. clear_sample i j a1 b1 (clear_at v clear (i / 8) (j / 8) (cell_below w i a1) (cell_below h j b1) (same ∙ e)))
        (λ i j u a1 b1 there same. clear_lf i j a1 b1 (clear_at v clear i j a1 b1 (same ∙ sym there ∙ e)))))
        (some_below (λ j. (i : ℕ) × (i < wide v.kind) × (T (v.x + i) (v.y + j) ≡ true))
        (λ j. (i : ℕ) → i < wide v.kind → T (v.x + i) (v.y + j) ≡ false) (high v.kind)
        (λ j. some_below (λ i. T (v.x + i) (v.y + j) ≡ true) (λ i. T (v.x + i) (v.y + j) ≡ false) (wide v.kind) (λ i. cases_Bool (T (v.x + i) (v.y + j)))))
      where
        hold : (i j : ℕ) → i < wide v.kind → j < high v.kind → holder m (v.x + i) (v.y + j) ≡ Some v
        hold i j p1 q1 =
            let n = held w h m f.map (x / 8) (y / 8) v (cell_below w x a) (cell_below h y b) e in
            let l = n.left in
            let u = n.top in
            let ca = cell_below w x a in
            let cb = cell_below h y b in
            let z = whole w h m f.map v (record { across = omega arith; down = omega arith; lead = n.lead }) in
            let ww = wide_is v.kind z.size z.carried in
            let hh = high_is v.kind z.size z.carried in
            holds w h m f.map v z i j (omega (arith, ww)) (omega (arith, hh))

    pub rebuild_but : SameBut (λ x y. Reached m T (x / 8) (y / 8)) (holding p (rebuilt k map lf p)) (holding q (rebuilt k map lf' q))
    unfolding by_blocks
    rebuild_but =
        record {
          alike =
              painted_alike_beyond (imaged p.shape m (rebuilding k lf) p.list) (imaged q.shape m (rebuilding k lf') q.list) p q s.alike;
          inside =
              λ x y i.
              let a : x < 8 * w = omega (arith, i.across, f.width) in
              let b : y < 8 * h = omega (arith, i.down, f.height) in
              ⊎_elim (λ (d : T (x / 8) (y / 8) ≡ true). inr (inl d)) (λ c. by_holder x y a b c (holder m (x / 8) (y / 8)) refl)
              (cases_Bool (T (x / 8) (y / 8)));
        }
