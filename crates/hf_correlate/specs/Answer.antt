-- What HF correlate answers: the rows of the table, in order.
use Rattle.std.specs.Prelude.{ℕ, ◌*◌, Bool, ◌&&◌, ℤ, Ok, ◌==◌, Float}
use Rattle.grid.specs.declared.xyb.Xyb.{Xyb}
use Rattle.grid.specs.Plane.{Plane, fitting}
use Rattle.refusal.specs.declared.Reason.TheVariants as reason
use Rattle.refusal.specs.Verdicts.{Answer, demand, and_then}
use Rattle.frame.specs.declared.stages.Stage.{Stage}
use Rattle.frame.specs.Stages.{stage_number}
use Rattle.grid.specs.Channels.{all_fit}
use Rattle.channels.specs.declared.correlation.Correlation.{Correlation}
use Rattle.channels.specs.Ranges.{range_checked, colour_ok}
use Rattle.channels.specs.Correlated.{bases_ok}
use Rattle.channels.specs.Checked.{judged}
use Rattle.hf_correlate.specs.Tiles.{tiles_of}

-- TURN: after HF dequantise
abbrev pub hf_correlate_turn : Stage → Bool
hf_correlate_turn st = stage_number st == 4

-- SHAPE: the grid has a number for each tile of w8 × h8 cells
abbrev pub tiles_fit : ℕ → ℕ → Plane ℤ → Bool
tiles_fit w8 h8 tiles = fitting (tiles_of (8 * w8)) (tiles_of (8 * h8)) tiles

-- RANGE and FLOAT: the colour factor, the tiles, the bases
abbrev pub numbers_judged : (x_tiles b_tiles : Plane ℤ) → Correlation → Answer
numbers_judged x_tiles b_tiles by =
    and_then (demand (colour_ok by.colour_factor) reason.Range)
    (and_then (judged 0 x_tiles) (and_then (judged 2 b_tiles) (and_then (demand (bases_ok by) reason.Float) (Ok 0))))

-- all rows, from whether the sample grids fit
abbrev pub hf_correlate_judged : ℕ → ℕ → Stage → Bool → (x_tiles b_tiles : Plane ℤ) → Correlation → Answer
hf_correlate_judged w8 h8 st fit x_tiles b_tiles by =
    and_then (demand (hf_correlate_turn st) reason.Turn)
    (and_then (demand ((fit && tiles_fit w8 h8 x_tiles) && tiles_fit w8 h8 b_tiles) reason.Shape)
    (and_then (demand (colour_ok by.colour_factor) reason.Range)
    (and_then (range_checked (tiles_of (8 * w8)) (tiles_of (8 * h8)) 0 x_tiles)
    (and_then (range_checked (tiles_of (8 * w8)) (tiles_of (8 * h8)) 2 b_tiles)
    (and_then (demand (bases_ok by) reason.Float) (Ok 0))))))

-- what HF correlate answers
abbrev pub hf_correlate_answer : ℕ → ℕ → Stage → Xyb (Plane Float) → (x_tiles b_tiles : Plane ℤ) → Correlation → Answer
hf_correlate_answer w8 h8 st p x_tiles b_tiles by = hf_correlate_judged w8 h8 st (all_fit (8 * w8) (8 * h8) p) x_tiles b_tiles by
