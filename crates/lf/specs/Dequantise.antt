-- LF dequantise.
use Rattle.std.specs.Prelude.{ℕ, Bool, ◌&&◌, List, ℤ, Ok, Float}
use Rattle.std.specs.Float.Ieee.{mul, of_int}
use Rattle.std.specs.Float.{float_is_finite, binary32}
use Rattle.grid.specs.declared.xyb.Xyb.{Xyb}
use Rattle.grid.specs.Painted.{painted}
use Rattle.grid.specs.Plane.{Plane, numeral}
use Rattle.refusal.specs.declared.Reason.TheVariants as reason
use Rattle.refusal.specs.Verdicts.{Answer, demand, and_then}
use Rattle.frame.specs.declared.stages.Stage.{Stage}
use Rattle.frame.specs.Stages.{is_placing}
use Rattle.grid.specs.Channels.{all_fit}
use Rattle.channels.specs.Ranges.{range_checked}

abbrev pub all_finite : Xyb Float → Bool
all_finite v = float_is_finite v.x && float_is_finite v.y && float_is_finite v.b

-- the rows of the table in their order, from whether the LF grids fit
abbrev pub lf_dequantise_judged : ℕ → ℕ → Stage → Bool → Xyb (Plane ℤ) → Xyb Float → Answer
lf_dequantise_judged w8 h8 st fit numbers scales =
    and_then (demand (is_placing st) reason.Turn)
    (and_then (demand (fit && all_fit w8 h8 numbers) reason.Shape)
    (and_then (range_checked w8 h8 0 numbers.x)
    (and_then (range_checked w8 h8 1 numbers.y)
    (and_then (range_checked w8 h8 2 numbers.b) (and_then (demand (all_finite scales) reason.Float) (Ok 0))))))

-- what LF dequantise answers
abbrev pub lf_dequantise_answer : ℕ → ℕ → Stage → Xyb (Plane Float) → Xyb (Plane ℤ) → Xyb Float → Answer
lf_dequantise_answer w8 h8 st lf numbers scales = lf_dequantise_judged w8 h8 st (all_fit w8 h8 lf) numbers scales

-- the LF sample that the number at (x, y) becomes
abbrev pub dequantised : Plane ℤ → Float → ℕ → ℕ → Float → Float
dequantised numbers scale x y old = mul binary32 (of_int binary32 (numeral numbers x y)) scale

-- a channel's list after an accepted LF dequantise
abbrev pub lf_dequantised : Plane ℤ → Float → Plane Float → List Float
lf_dequantised numbers scale p = painted p.shape (dequantised numbers scale) p.list
