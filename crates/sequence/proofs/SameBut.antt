-- Two grids that are the same but for some elements, and what the stages on LF samples make of such grids.
use Rattle.std.proofs.Common.{◌≡◌, ℕ, ◌+◌, ◌-◌, ◌<◌, ◌≤◌, Bool, true, false, ◌⊎◌, length, get_or, ℤ, sym, ap, ◌∙◌, subst, inl, inr, ⊎_elim, arith}
use lib.Ieee.{Float, nan}
use Rattle.std.proofs.lemmas.Bool.{cases_Bool, cases_eq, true≢false}
use Rattle.grid.specs.declared.Shape.{Shape}
use Rattle.grid.specs.declared.xyb.Xyb.{Xyb}
use Rattle.grid.specs.Index.{index, Inside}
use Rattle.grid.specs.Painted.{painted}
use Rattle.grid.specs.Plane.{Plane, fitting, sample, numeral}
use Rattle.grid.proofs.Laws.{length_painted, painted_out}
use Rattle.grid.proofs.Sized.{sized_true}
use Rattle.channels.proofs.Fitting.{fits_inside}
use Rattle.lf.specs.Dequantise.{dequantised, lf_dequantised}
use Rattle.lf.specs.Correlate.{correlated, lf_correlated}
use Rattle.lf.specs.Smooth.{smoothed, within_border, lf_smoothed}
use Rattle.sequence.specs.Runs.{holding}
use Rattle.sequence.proofs.LfFootprint.{SameAround, lf_dequantise_footprint, lf_correlate_footprint, lf_smooth_footprint}

-- one shape and one length, and what lies beyond the width the same
pub record AlikeBeyond (p q : Plane Float) : Type 0 where
  pub shape : p.shape ≡ q.shape
  pub long : length p.list ≡ length q.list
  pub beyond : (i : ℕ) → ((x y : ℕ) → Inside p.shape x y → index p.shape x y ≡ i → ⊥) → get_or p.list i nan ≡ get_or q.list i nan

-- the same, but at places that E allows
pub record SameBut (E : ℕ → ℕ → Type 0) (p q : Plane Float) : Type 0 where
  pub alike : AlikeBeyond p q
  pub inside : (x y : ℕ) → Inside p.shape x y → (sample p x y ≡ sample q x y) ⊎ (E x y)

-- painting keeps what lies beyond the width
pub painted_alike_beyond : (f g : ℕ → ℕ → Float → Float) (p q : Plane Float) → AlikeBeyond p q
    → AlikeBeyond (holding p (painted p.shape f p.list)) (holding q (painted q.shape g q.list))
painted_alike_beyond f g p q a =
    record {
      shape = a.shape;
      long = length_painted p.shape f p.list ∙ a.long ∙ sym (length_painted q.shape g q.list);
      beyond =
          λ i h.
          painted_out p.shape f p.list i nan h
          ∙ a.beyond i h
          ∙ sym
          (painted_out q.shape g q.list i nan
          (λ x y k e.
          h x y (subst (λ (s : Shape). Inside s x y) (sym a.shape) k) (ap (λ (s : Shape). index s x y) a.shape ∙ e)));
    }

-- what is said of the places below w and h is said of those inside
pub within : (w h : ℕ) (p : Plane Float) → fitting w h p ≡ true → (x y : ℕ) → Inside p.shape x y → (x < w) × (y < h)
within w h p f x y k =
    let z = sized_true w h p.shape (length p.list) f in
    let a = k.across in
    let b = k.down in
    (omega (arith, z.width), omega (arith, z.height))

-- LF dequantise: the samples differ only where the LF numbers do
pub lf_dequantise_but : (E : ℕ → ℕ → Type 0) (w h : ℕ) (n n' : Plane ℤ) (scale : Float) (p q : Plane Float)
    → fitting w h p ≡ true → fitting w h q ≡ true → AlikeBeyond p q
    → ((x y : ℕ) → x < w → y < h → (numeral n x y ≡ numeral n' x y) ⊎ (E x y))
    → SameBut E (holding p (lf_dequantised n scale p)) (holding q (lf_dequantised n' scale q))
lf_dequantise_but E w h n n' scale p q fp fq a e =
    record {
      alike = painted_alike_beyond (dequantised n scale) (dequantised n' scale) p q a;
      inside =
          λ x y k.
          let c = within w h p fp x y k in
          ⊎_elim (λ (s : numeral n x y ≡ numeral n' x y). inl (lf_dequantise_footprint w h n n' scale p q fp fq x y c.0 c.1 s)) (λ s. inr s)
          (e x y c.0 c.1);
    }

-- LF correlate: no sample differs that did not before, in its channel or in Y
pub lf_correlate_but : (E : ℕ → ℕ → Type 0) (w h : ℕ) (k : Float) (luma luma' p q : Plane Float)
    → fitting w h p ≡ true → fitting w h q ≡ true → fitting w h luma ≡ true → SameBut E p q → SameBut E luma luma'
    → SameBut E (holding p (lf_correlated k luma p)) (holding q (lf_correlated k luma' q))
lf_correlate_but E w h k luma luma' p q fp fq fl s t =
    record {
      alike = painted_alike_beyond (correlated k luma) (correlated k luma') p q s.alike;
      inside =
          λ x y i.
          let c = within w h p fp x y i in
          ⊎_elim
          (λ (own : sample p x y ≡ sample q x y).
          ⊎_elim
          (λ (there : sample luma x y ≡ sample luma' x y). inl (lf_correlate_footprint w h k luma luma' p q fp fq x y c.0 c.1 own there))
          (λ there. inr there)
          (t.inside x y (fits_inside w h luma fl x y c.0 c.1)))
          (λ own. inr own)
          (s.inside x y i);
    }

-- within one of y: A somewhere, or B throughout
around : (A B : ℕ → Type 0) (y : ℕ) → ((j : ℕ) → (A j) ⊎ (B j))
    → ((j : ℕ) × (A j) × (j ≤ y + 1) × (y ≤ j + 1)) ⊎ ((j : ℕ) → j ≤ y + 1 → y ≤ j + 1 → B j)
around A B y d =
    ⊎_elim (λ (a : A (y - 1)). inl (y - 1, a, omega arith, omega arith))
    (λ b0.
    ⊎_elim (λ (a : A y). inl (y, a, omega arith, omega arith))
    (λ b1.
    ⊎_elim (λ (a : A (y + 1)). inl (y + 1, a, omega arith, omega arith))
    (λ b2. inr (λ j p q. all b0 b1 b2 j p q))
    (d (y + 1)))
    (d y))
    (d (y - 1))
  where
    all : B (y - 1) → B y → B (y + 1) → (j : ℕ) → j ≤ y + 1 → y ≤ j + 1 → B j
    all b0 b1 b2 j p q =
        ⊎_elim (λ (e : j ≡ y). subst B (sym e) b1)
        (λ n.
        ⊎_elim (λ (e : j ≡ y + 1). subst B (sym e) b2) (λ m. let e : j ≡ y - 1 = omega arith in subst B (sym e) b0) (cases_eq j (y + 1)))
        (cases_eq j y)

-- within one cell of a cell of D, diagonally too
abbrev pub Near : (ℕ → ℕ → Bool) → ℕ → ℕ → Type 0
Near D x y = (j : ℕ) × ((i : ℕ) × (D i j ≡ true) × (i ≤ x + 1) × (x ≤ i + 1)) × (j ≤ y + 1) × (y ≤ j + 1)

near_or_clear : (D : ℕ → ℕ → Bool) (x y : ℕ)
    → (Near D x y) ⊎ ((j : ℕ) → j ≤ y + 1 → y ≤ j + 1 → (i : ℕ) → i ≤ x + 1 → x ≤ i + 1 → D i j ≡ false)
near_or_clear D x y =
    around (λ j. (i : ℕ) × (D i j ≡ true) × (i ≤ x + 1) × (x ≤ i + 1)) (λ j. (i : ℕ) → i ≤ x + 1 → x ≤ i + 1 → D i j ≡ false) y
    (λ j. around (λ i. D i j ≡ true) (λ i. D i j ≡ false) x (λ i. cases_Bool (D i j)))

-- LF smooth: samples differ only within one cell of where they did before
pub lf_smooth_but : (D : ℕ → ℕ → Bool) (w h : ℕ) (lf lf' : Xyb (Plane Float)) (steps : Xyb Float) (p q : Plane Float)
    → fitting w h lf.x ≡ true → fitting w h lf.y ≡ true → fitting w h lf.b ≡ true → fitting w h p ≡ true → fitting w h q ≡ true
    → SameBut (λ x y. D x y ≡ true) lf.x lf'.x → SameBut (λ x y. D x y ≡ true) lf.y lf'.y
    → SameBut (λ x y. D x y ≡ true) lf.b lf'.b → SameBut (λ x y. D x y ≡ true) p q
    → SameBut (Near D) (holding p (lf_smoothed w h lf steps p)) (holding q (lf_smoothed w h lf' steps q))
lf_smooth_but D w h lf lf' steps p q fx fy fb fp fq sx sy sb s =
    record {
      alike =
          painted_alike_beyond (within_border w h (smoothed lf steps p)) (within_border w h (smoothed lf' steps q)) p q s.alike;
      inside =
          λ x y k.
          let c = within w h p fp x y k in
          ⊎_elim (λ (near : Near D x y). inr near)
          (λ clear.
          inl
          (lf_smooth_footprint w h lf lf' steps p q fp fq x y c.0 c.1 (there x y clear lf.x lf'.x fx sx)
          (there x y clear lf.y lf'.y fy sy) (there x y clear lf.b lf'.b fb sb) (there x y clear p q fp s)))
          (near_or_clear D x y);
    }
  where
    there : (x y : ℕ) → ((j : ℕ) → j ≤ y + 1 → y ≤ j + 1 → (i : ℕ) → i ≤ x + 1 → x ≤ i + 1 → D i j ≡ false)
        → (a b : Plane Float) → fitting w h a ≡ true → SameBut (λ x y. D x y ≡ true) a b → SameAround w h x y a b
    there x y clear a b f t i j p q e g u v =
        ⊎_elim (λ (same : sample a i j ≡ sample b i j). same) (λ d. absurd (true≢false (sym d ∙ clear j u v i e g)))
        (t.inside i j (fits_inside w h a f i j p q))
