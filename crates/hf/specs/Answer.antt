-- What HF dequantise answers: the rows of the table, in order.
use Rattle.std.specs.Prelude.{ℕ, ◌*◌, Bool, ◌&&◌, length, ℤ, Ok, ◌==◌, from_bits, nat_le, Float}
use Rattle.std.specs.Float.Ieee.{lt, le}
use Rattle.std.specs.Float.{float_is_finite, binary32}
use Rattle.grid.specs.declared.xyb.Xyb.{Xyb}
use Rattle.grid.specs.Plane.{Plane, fitting}
use Rattle.refusal.specs.declared.Reason.TheVariants as reason
use Rattle.refusal.specs.Verdicts.{Verdict, Answer, demand, and_then}
use Rattle.varmap.specs.declared.cells.Cell.{Cell}
use Rattle.varmap.specs.declared.cells.Record.{Record}
use Rattle.varmap.specs.Cells.{cells}
use Rattle.varmap.specs.Map.{map_checked}
use Rattle.frame.specs.declared.stages.Stage.{Stage}
use Rattle.frame.specs.Stages.{stage_number}
use Rattle.grid.specs.Channels.{all_fit}
use Rattle.channels.specs.Ranges.{range_checked}
use Rattle.channels.specs.Checked.{all_judged}
use Rattle.weights.specs.Weights.{Table, weights_finite, placed_weighed}
use Rattle.hf.specs.declared.quantiser.Quantiser.{Quantiser}
use Rattle.hf_block.specs.declared.work.Scales.{Scales}

-- TURN: after LF dequantise, LF correlate or LF smooth
abbrev pub hf_dequantise_turn : Stage → Bool
hf_dequantise_turn st = nat_le 1 (stage_number st) && nat_le (stage_number st) 3

-- SHAPE: one start for each kind number
abbrev pub starts_ok : Table → Bool
starts_ok t = length t.starts == 27

abbrev pub starts_full : Xyb Table → Bool
starts_full t = (starts_ok t.x && starts_ok t.y) && starts_ok t.b

-- RANGE
abbrev pub scale_ok : ℕ → Bool
scale_ok s = nat_le 1 s && nat_le s 73728

abbrev pub range_judged : ℕ → ℕ → Xyb (Plane ℤ) → ℕ → Verdict
range_judged w h n scale =
    and_then (demand (scale_ok scale) reason.Range)
    (and_then (range_checked w h 0 n.x) (and_then (range_checked w h 1 n.y) (range_checked w h 2 n.b)))

-- the same of grids of any size
abbrev pub numbers_judged : Xyb (Plane ℤ) → ℕ → Verdict
numbers_judged n scale = and_then (demand (scale_ok scale) reason.Range) (all_judged n)

-- FLOAT: above 0 and at most 16
abbrev pub qm_ok : Float → Bool
qm_ok qm = lt (from_bits binary32 0) qm && le qm (from_bits binary32 0x4180_0000)

abbrev pub floats_ok : Quantiser → Bool
floats_ok by =
    (((((qm_ok by.qm_scale.x && qm_ok by.qm_scale.y) && qm_ok by.qm_scale.b) && float_is_finite by.quant_bias.x)
    && float_is_finite by.quant_bias.y)
    && float_is_finite by.quant_bias.b)
    && float_is_finite by.quant_bias_numerator

abbrev pub floats_judged : Xyb Table → Quantiser → Verdict
floats_judged t by =
    and_then (demand (floats_ok by) reason.Float)
    (and_then (weights_finite 0 t.x.list) (and_then (weights_finite 1 t.y.list) (weights_finite 2 t.b.list)))

-- WEIGHT
abbrev pub weights_judged : ℕ → ℕ → (ℕ → ℕ → Record) → Xyb Table → Verdict
weights_judged w h m t =
    and_then (placed_weighed w h m 0 t.x) (and_then (placed_weighed w h m 1 t.y) (placed_weighed w h m 2 t.b))

-- the rows after SHAPE, of grids of any size
abbrev pub values_judged : Plane Cell → Xyb (Plane ℤ) → Xyb Table → Quantiser → Answer
values_judged map n t by =
    and_then (map_checked map.shape.width map.shape.height (cells map.shape map.list))
    (and_then (numbers_judged n by.global_scale)
    (and_then (floats_judged t by)
    (and_then (weights_judged map.shape.width map.shape.height (cells map.shape map.list) t) (Ok 0))))

-- all rows, from whether the sample grids fit
abbrev pub hf_dequantise_judged : ℕ → ℕ → Stage → Bool → Plane Cell → Xyb (Plane ℤ) → Xyb Table → Quantiser → Answer
hf_dequantise_judged w8 h8 st fit map n t by =
    and_then (demand (hf_dequantise_turn st) reason.Turn)
    (and_then (demand (((fit && fitting w8 h8 map) && all_fit (8 * w8) (8 * h8) n) && starts_full t) reason.Shape)
    (and_then (map_checked w8 h8 (cells map.shape map.list))
    (and_then (range_judged (8 * w8) (8 * h8) n by.global_scale)
    (and_then (floats_judged t by) (and_then (weights_judged w8 h8 (cells map.shape map.list) t) (Ok 0))))))

-- what HF dequantise answers
abbrev pub hf_dequantise_answer : ℕ → ℕ → Stage → Xyb (Plane Float) → Plane Cell → Xyb (Plane ℤ) → Xyb Table → Quantiser → Answer
hf_dequantise_answer w8 h8 st p map n t by = hf_dequantise_judged w8 h8 st (all_fit (8 * w8) (8 * h8) p) map n t by

-- the numbers of each channel
abbrev pub scales : Quantiser → Float → Float → Scales
scales by qm bias =
    record {
      global_scale = by.global_scale;
      qm_scale = qm;
      quant_bias = bias;
      quant_bias_numerator = by.quant_bias_numerator;
    }

abbrev pub scales_x : Quantiser → Scales
scales_x by = scales by by.qm_scale.x by.quant_bias.x

abbrev pub scales_y : Quantiser → Scales
scales_y by = scales by by.qm_scale.y by.quant_bias.y

abbrev pub scales_b : Quantiser → Scales
scales_b by = scales by by.qm_scale.b by.quant_bias.b
