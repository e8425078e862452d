-- The rows of LF dequantise, and what an accepted one has found.
use Rattle.std.proofs.Common.{◌≡◌, ℕ, ◌<◌, true, false, ◌&&◌, length, ℤ, Ok, is_err, sym, ap, ◌∙◌, arith}
use lib.Ieee.{Float}
use Rattle.std.proofs.lemmas.Bool.{and_parts}
use Rattle.grid.specs.declared.xyb.Xyb.{Xyb}
use Rattle.grid.specs.Index.{Lawful, Inside}
use Rattle.grid.specs.Plane.{Plane, fitting}
use Rattle.grid.specs.Channels.{all_fit}
use Rattle.grid.proofs.Sized.{sized_true}
use Rattle.refusal.specs.declared.Reason.TheVariants as reason
use Rattle.refusal.specs.Verdicts.{Verdict, demand, and_then}
use Rattle.refusal.proofs.Rows.{and_ok, demand_ok, not_err}
use Rattle.frame.specs.declared.stages.Stage.{Stage}
use Rattle.frame.specs.Stages.{is_placing}
use Rattle.channels.specs.Ranges.{in_range_at, range_checked}
use Rattle.channels.specs.Checked.{all_judged}
use Rattle.channels.proofs.Fitting.{fits_three, fits_lawful, fits_both, range_passed}
use Rattle.channels.proofs.Judging.{judged_three}
use Rattle.lf.specs.Dequantise.{all_finite, lf_dequantise_answer}

-- where the stage and the shapes pass, what the check of the numbers says comes next
pub judged_by_numbers : (w8 h8 w h : ℕ) (st s : Stage) (lf : Xyb (Plane Float)) (p q : Xyb (Plane ℤ)) (scales : Xyb Float) (v : Verdict)
    → w ≡ w8 → h ≡ h8 → s ≡ st → is_placing s ≡ true → all_fit w h lf ≡ true → all_fit w h p ≡ true → q ≡ p → all_judged q ≡ v
    → lf_dequantise_answer w8 h8 st lf p scales ≡ and_then v (and_then (demand (all_finite scales) reason.Float) (Ok 0))
judged_by_numbers w8 h8 w h st s lf p q scales v ew eh es turn fit sized same said =
    let rest = and_then (demand (all_finite scales) reason.Float) (Ok 0) in
    let checks = and_then (range_checked w h 0 p.x) (and_then (range_checked w h 1 p.y) (and_then (range_checked w h 2 p.b) rest)) in
    ap (λ n. lf_dequantise_answer n h8 st lf p scales) (sym ew)
    ∙ ap (λ n. lf_dequantise_answer w n st lf p scales) (sym eh)
    ∙ ap (λ t. lf_dequantise_answer w h t lf p scales) (sym es)
    ∙ ap (λ b. and_then (demand b reason.Turn) (and_then (demand (all_fit w h lf && all_fit w h p) reason.Shape) checks)) turn
    ∙ ap (λ b. and_then (demand (b && all_fit w h p) reason.Shape) checks) fit
    ∙ ap (λ b. and_then (demand b reason.Shape) checks) sized
    ∙ judged_three w h p rest sized
    ∙ ap (λ u. and_then u rest) (ap all_judged (sym same) ∙ said)

-- a channel of w × h samples, with a number in range for each
pub record Numbered (w h : ℕ) (p : Plane Float) (n : Plane ℤ) : Type 0 where
  pub samples : fitting w h p ≡ true
  pub numbers : fitting w h n ≡ true
  pub range : (x y : ℕ) → x < w → y < h → in_range_at n x y ≡ true

pub accepted : (w h : ℕ) (st : Stage) (lf : Xyb (Plane Float)) (n : Xyb (Plane ℤ)) (scales : Xyb Float)
    → is_err (lf_dequantise_answer w h st lf n scales) ≡ false
    → Numbered w h lf.x n.x × Numbered w h lf.y n.y × Numbered w h lf.b n.b
accepted w h st lf n scales e =
    let ok = not_err _ e in
    let turn = and_ok _ _ _ ok.1 in
    let shape = and_ok _ _ _ turn.1 in
    let x = and_ok _ _ _ shape.1 in
    let y = and_ok _ _ _ x.1 in
    let b = and_ok _ _ _ y.1 in
    let fits = and_parts (all_fit w h lf) (all_fit w h n) (demand_ok _ _ shape.0) in
    let f = fits_three w h lf fits.0 in
    let g = fits_three w h n fits.1 in (
      record { samples = f.0; numbers = g.0; range = range_passed w h 0 n.x g.0 x.0 },
      record { samples = f.1; numbers = g.1; range = range_passed w h 1 n.y g.1 y.0 },
      record { samples = f.2; numbers = g.2; range = range_passed w h 2 n.b g.2 b.0 },
    )

-- where a number may be made a sample
pub can_dequantise : (w h : ℕ) (p : Plane Float) (n : Plane ℤ) → Numbered w h p n
    → (x y : ℕ) → x < p.shape.width → y < p.shape.height
    → Lawful n.shape (length n.list) × Inside n.shape x y × (in_range_at n x y ≡ true)
can_dequantise w h p n k x y a b =
    let z = sized_true w h p.shape (length p.list) k.samples in (
      fits_lawful w h n k.numbers,
      fits_both w h p n k.samples k.numbers x y a b,
      k.range x y (omega (arith, z.width)) (omega (arith, z.height)),
    )

-- a channel of samples that may be written, with a number for each
pub record Writable (p : Plane Float) (n : Plane ℤ) : Type 0 where
  pub lawful : Lawful p.shape (length p.list)
  pub can : (x y : ℕ) → x < p.shape.width → y < p.shape.height → Inside n.shape x y

-- the samples by their views, and the numbers as checked
pub writable : (w h : ℕ) (st : Stage) (p lf : Xyb (Plane Float)) (n q : Xyb (Plane ℤ)) (scales : Xyb Float)
    → p ≡ lf → q ≡ n → lf_dequantise_answer w h st p n scales ≡ Ok 0
    → Writable lf.x q.x × Writable lf.y q.y × Writable lf.b q.b
writable w h st p lf n q scales same checked e =
    let here : lf_dequantise_answer w h st lf q scales ≡ Ok 0 = rw (sym same, checked) e in
    let found = accepted w h st lf q scales (ap is_err here) in
    (one lf.x q.x found.0, one lf.y q.y found.1, one lf.b q.b found.2)
  where
    one : (p : Plane Float) (n : Plane ℤ) → Numbered w h p n → Writable p n
    one p n k = record { lawful = fits_lawful w h p k.samples; can = fits_both w h p n k.samples k.numbers }
