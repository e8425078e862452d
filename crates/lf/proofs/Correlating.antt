-- What an accepted LF correlate has found.
use Rattle.std.proofs.Common.{◌≡◌, ℕ, ◌+◌, ◌<◌, true, length, Ok, sym, ap, ◌∙◌, arith}
use lib.Ieee.{Float}
use Rattle.grid.specs.declared.Grid.{Grid}
use Rattle.grid.specs.declared.View.{View}
use Rattle.grid.specs.Index.{Lawful, Inside}
use Rattle.grid.specs.Plane.{Plane, lent, viewed, fitting}
use Rattle.grid.specs.Channels.{planes}
use Rattle.refusal.proofs.Rows.{and_ok, demand_ok}
use Rattle.frame.specs.declared.stages.Stage.{Stage}
use Rattle.channels.proofs.Fitting.{fits_three, fits_lawful, fits_both}
use Rattle.lf.specs.declared.correlate.Correlation.{Correlation}
use Rattle.lf.specs.Correlate.{lf_correlate_answer}
use Rattle.lf.proofs.Grids.{same_plane}

pub accepted : (w h : ℕ) (st : Stage) (x y b : Plane Float) (by : Correlation) → lf_correlate_answer w h st (planes x y b) by ≡ Ok 0
    → (fitting w h x ≡ true) × (fitting w h y ≡ true) × (fitting w h b ≡ true)
accepted w h st x y b by e =
    let turn = and_ok _ _ _ e in
    let shape = and_ok _ _ _ turn.1 in
    fits_three w h (planes x y b) (demand_ok _ _ shape.0)

-- the grid may be written, and Y has a sample at each of its places
pub record Gaining (g : Grid Float) (luma : Plane Float) : Type 0 where
  pub lawful : Lawful g.shape (length g.list.now)
  pub can : (x y : ℕ) → x < g.shape.width → y < g.shape.height → Inside luma.shape (0 + x) (0 + y)

pub gaining : (w h : ℕ) (v : View Float) (g : Grid Float) (y luma : Plane Float) → v.list.now ≡ g.list.now → v.shape ≡ g.shape → luma ≡ y
    → fitting w h (viewed v) ≡ true → fitting w h y ≡ true → Gaining g luma
gaining w h v g y luma list shape same f fy =
    let fg = ap (fitting w h) (sym (same_plane v.shape g.shape v.list.now g.list.now list shape)) ∙ f in
    let fl = ap (fitting w h) same ∙ fy in
    record { lawful = fits_lawful w h (lent g) fg; can = λ i j a b. fits_both w h (lent g) luma fg fl (0 + i) (0 + j) (omega arith) (omega arith) }
