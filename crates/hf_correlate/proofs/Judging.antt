-- The rows of HF correlate, and what an accepted one has found.
use Rattle.std.proofs.Common.{◌≡◌, ℕ, ◌*◌, true, ◌&&◌, length, ℤ, Ok, sym, ap, ◌∙◌}
use lib.Ieee.{Float}
use Rattle.std.proofs.lemmas.Bool.{and_parts}
use Rattle.grid.specs.declared.Shape.{Shape}
use Rattle.grid.specs.declared.Grid.{Grid}
use Rattle.grid.specs.declared.View.{View}
use Rattle.grid.specs.Index.{Lawful, sized}
use Rattle.grid.specs.Plane.{Plane, lent, viewed, fitting}
use Rattle.grid.specs.Channels.{planes, all_fit}
use Rattle.grid.proofs.Sized.{sized_true}
use Rattle.refusal.specs.declared.Reason.TheVariants as reason
use Rattle.refusal.specs.Verdicts.{Answer, demand, and_then}
use Rattle.refusal.proofs.Rows.{and_ok, demand_ok}
use Rattle.frame.specs.declared.stages.Stage.{Stage}
use Rattle.channels.specs.declared.correlation.Correlation.{Correlation}
use Rattle.channels.specs.Ranges.{range_checked, colour_ok}
use Rattle.channels.specs.Correlated.{bases_ok}
use Rattle.channels.specs.Checked.{judged}
use Rattle.channels.proofs.Fitting.{fits_three}
use Rattle.channels.proofs.Judging.{judged_sized}
use Rattle.hf_correlate.specs.declared.gains.Gains.{Gains}
use Rattle.hf_correlate.specs.Tiles.{tiles_of}
use Rattle.hf_correlate.specs.Gains.{IsGains}
use Rattle.hf_correlate.specs.Correlated.{Correlatable}
use Rattle.hf_correlate.specs.Answer.{hf_correlate_turn, tiles_fit, numbers_judged, hf_correlate_answer}
use Rattle.hf_correlate.proofs.LeastTiles.{least_at}

-- where the stage and the shapes pass, the numbers' rows come next
pub judged_by_numbers : (w8 h8 w h tw th : ℕ) (st s : Stage) (x y b : Plane Float) (tx tb qx qb : Plane ℤ) (by : Correlation) (v : Answer)
    → w ≡ w8 → h ≡ h8 → s ≡ st → tw ≡ tiles_of (8 * w) → th ≡ tiles_of (8 * h) → hf_correlate_turn s ≡ true
    → fitting (8 * w) (8 * h) x ≡ true → fitting (8 * w) (8 * h) y ≡ true → fitting (8 * w) (8 * h) b ≡ true
    → fitting tw th tx ≡ true → fitting tw th tb ≡ true → qx ≡ tx → qb ≡ tb → numbers_judged qx qb by ≡ v
    → hf_correlate_answer w8 h8 st (planes x y b) tx tb by ≡ v
judged_by_numbers w8 h8 w h tw th st s x y b tx tb qx qb by v ew eh es etw eth turn fx fy fb ftx ftb sx sb said =
    let last = and_then (demand (bases_ok by) reason.Float) (Ok 0) in
    let tw' = tiles_of (8 * w) in
    let th' = tiles_of (8 * h) in
    let fits_x : fitting tw' th' tx ≡ true = ap (λ n. fitting n th' tx) (sym etw) ∙ ap (λ n. fitting tw n tx) (sym eth) ∙ ftx in
    let fits_b : fitting tw' th' tb ≡ true = ap (λ n. fitting n th' tb) (sym etw) ∙ ap (λ n. fitting tw n tb) (sym eth) ∙ ftb in
    let checks = and_then (range_checked tw' th' 0 tx) (and_then (range_checked tw' th' 2 tb) last) in
    let rows = and_then (demand (colour_ok by.colour_factor) reason.Range) checks in
    ap (λ n. hf_correlate_answer n h8 st (planes x y b) tx tb by) (sym ew)
    ∙ ap (λ n. hf_correlate_answer w n st (planes x y b) tx tb by) (sym eh)
    ∙ ap (λ t. hf_correlate_answer w h t (planes x y b) tx tb by) (sym es)
    ∙ ap
    (λ c. and_then (demand c reason.Turn) (and_then (demand ((all_fit (8 * w) (8 * h) (planes x y b) && tiles_fit w h tx) && tiles_fit w h tb) reason.Shape) rows))
    turn
    ∙ ap
    (λ c. and_then (demand ((((c && fitting (8 * w) (8 * h) y) && fitting (8 * w) (8 * h) b) && tiles_fit w h tx) && tiles_fit w h tb) reason.Shape) rows)
    fx
    ∙ ap (λ c. and_then (demand (((c && fitting (8 * w) (8 * h) b) && tiles_fit w h tx) && tiles_fit w h tb) reason.Shape) rows) fy
    ∙ ap (λ c. and_then (demand ((c && tiles_fit w h tx) && tiles_fit w h tb) reason.Shape) rows) fb
    ∙ ap (λ c. and_then (demand (c && tiles_fit w h tb) reason.Shape) rows) fits_x
    ∙ ap (λ c. and_then (demand c reason.Shape) rows) fits_b
    ∙ ap
    (λ u. and_then (demand (colour_ok by.colour_factor) reason.Range) (and_then u (and_then (range_checked tw' th' 2 tb) last)))
    (judged_sized tw' th' 0 tx fits_x)
    ∙ ap
    (λ u. and_then (demand (colour_ok by.colour_factor) reason.Range) (and_then (judged 0 tx) (and_then u last)))
    (judged_sized tw' th' 2 tb fits_b)
    ∙ ap (λ q. numbers_judged q tb by) (sym sx)
    ∙ ap (λ q. numbers_judged qx q by) (sym sb)
    ∙ said

-- gains by tiles of another name
pub gains_of : (g : Gains) {tiles : Plane ℤ} (t : Plane ℤ) {base : Float} {colour : ℕ} → tiles ≡ t → IsGains g tiles base colour → IsGains g t base colour
gains_of g {tiles} t {base} {colour} e k = record { tiles_are = k.tiles_are ∙ e; base_is = k.base_is; colour_is = k.colour_is }

-- a channel that may be written, with Y and the tiles by which it gains a part of it
pub record Gaining (g : Grid Float) (luma : Plane Float) (tiles : Plane ℤ) : Type 0 where
  pub lawful : Lawful g.shape (length g.list.now)
  pub can : Correlatable g.shape luma.shape tiles.shape

gaining : (w8 h8 : ℕ) (v : View Float) (g : Grid Float) (y luma : Plane Float) (t tiles : Plane ℤ)
    → v.list.now ≡ g.list.now → v.shape ≡ g.shape → luma ≡ y → tiles ≡ t
    → fitting (8 * w8) (8 * h8) (viewed v) ≡ true → fitting (8 * w8) (8 * h8) y ≡ true → tiles_fit w8 h8 t ≡ true → Gaining g luma tiles
gaining w8 h8 v g y luma t tiles list shape own same fv fy ft =
    let fg : fitting (8 * w8) (8 * h8) (lent g) ≡ true =
    ap (λ (s : Shape). sized (8 * w8) (8 * h8) s (length g.list.now)) (sym shape)
    ∙ ap (λ xs. sized (8 * w8) (8 * h8) v.shape (length xs)) (sym list)
    ∙ fv in
    let zg = sized_true _ _ _ _ fg in
    let zy = sized_true _ _ _ _ (ap (fitting (8 * w8) (8 * h8)) own ∙ fy) in
    let zt = sized_true _ _ _ _ (ap (tiles_fit w8 h8) same ∙ ft) in
    record {
      lawful = zg.lawful;
      can =
          record {
            luma_width = zy.width ∙ sym zg.width;
            luma_height = zy.height ∙ sym zg.height;
            across = least_at (8 * w8) _ _ zg.width zt.width;
            down = least_at (8 * h8) _ _ zg.height zt.height;
          };
    }

-- the grids x and b, lent as the views p and q
pub accepted : (w8 h8 : ℕ) (st : Stage) (p q : View Float) (x b : Grid Float) (y luma : Plane Float) (tx tb qx qb : Plane ℤ) (by : Correlation)
    → p.list.now ≡ x.list.now → p.shape ≡ x.shape → q.list.now ≡ b.list.now → q.shape ≡ b.shape → luma ≡ y → qx ≡ tx → qb ≡ tb
    → hf_correlate_answer w8 h8 st (planes (viewed p) y (viewed q)) tx tb by ≡ Ok 0
    → Gaining x luma qx × Gaining b luma qb
accepted w8 h8 st p q x b y luma tx tb qx qb by lx sx lb sb own ex eb told =
    let turn = and_ok _ _ _ told in
    let shape = and_ok _ _ _ turn.1 in
    let s = and_parts (all_fit (8 * w8) (8 * h8) (planes (viewed p) y (viewed q)) && tiles_fit w8 h8 tx) (tiles_fit w8 h8 tb) (demand_ok _ _ shape.0) in
    let u = and_parts (all_fit (8 * w8) (8 * h8) (planes (viewed p) y (viewed q))) (tiles_fit w8 h8 tx) s.0 in
    let f = fits_three (8 * w8) (8 * h8) (planes (viewed p) y (viewed q)) u.0 in
    (gaining w8 h8 p x y luma tx qx lx sx own ex f.0 f.1 u.1, gaining w8 h8 q b y luma tb qb lb sb own eb f.2 f.1 s.1)
