-- LF correlate.
use Rattle.std.specs.Prelude.{ℕ, Bool, ◌&&◌, List, pos, ◌-ℤ◌, Ok, ◌==◌, nat_le, Float}
use Rattle.std.specs.Float.{binary32}
use Rattle.std.specs.Float.Ieee.{add, mul}
use Rattle.grid.specs.declared.xyb.Xyb.{Xyb}
use Rattle.grid.specs.Painted.{painted}
use Rattle.grid.specs.Plane.{Plane, sample}
use Rattle.grid.specs.Channels.{all_fit}
use Rattle.refusal.specs.declared.Reason.TheVariants as reason
use Rattle.refusal.specs.Verdicts.{Answer, demand, and_then}
use Rattle.frame.specs.declared.stages.Stage.{Stage}
use Rattle.frame.specs.Stages.{stage_number}
use Rattle.channels.specs.declared.correlation.Correlation as shared
use Rattle.channels.specs.Ranges.{colour_ok}
use Rattle.channels.specs.Correlated as channel
use Rattle.lf.specs.declared.correlate.Correlation.{Correlation}

abbrev pub lf_correlate_turn : Stage → Bool
lf_correlate_turn st = stage_number st == 1

-- what HF correlate is given too
abbrev pub common : Correlation → shared.Correlation
common by =
    record {
      colour_factor = by.colour_factor;
      base_correlation_x = by.base_correlation_x;
      base_correlation_b = by.base_correlation_b;
    }

abbrev pub factors_ok : Correlation → Bool
factors_ok by = colour_ok by.colour_factor && nat_le by.x_factor_lf 255 && nat_le by.b_factor_lf 255

abbrev pub bases_ok : Correlation → Bool
bases_ok by = channel.bases_ok (common by)

-- the rows of numbers
abbrev pub numbers_judged : Correlation → Answer
numbers_judged by = and_then (demand (factors_ok by) reason.Range) (and_then (demand (bases_ok by) reason.Float) (Ok 0))

-- the rows of the table in their order, from whether the LF grids fit
abbrev pub lf_correlate_judged : Stage → Bool → Correlation → Answer
lf_correlate_judged st fit by =
    and_then (demand (lf_correlate_turn st) reason.Turn) (and_then (demand fit reason.Shape) (numbers_judged by))

-- what LF correlate answers
abbrev pub lf_correlate_answer : ℕ → ℕ → Stage → Xyb (Plane Float) → Correlation → Answer
lf_correlate_answer w8 h8 st lf by = lf_correlate_judged st (all_fit w8 h8 lf) by

-- how much of Y a channel gains: base + (factor − 128) / colour_factor
abbrev pub gain : Float → ℕ → ℕ → Float
gain base factor colour = channel.gain base colour (pos factor -ℤ pos 128)

abbrev pub gain_x : Correlation → Float
gain_x by = gain by.base_correlation_x by.x_factor_lf by.colour_factor

abbrev pub gain_b : Correlation → Float
gain_b by = gain by.base_correlation_b by.b_factor_lf by.colour_factor

-- what was at (x, y), and k times Y there
abbrev pub correlated : Float → Plane Float → ℕ → ℕ → Float → Float
correlated k luma x y old = add binary32 old (mul binary32 k (sample luma x y))

-- a channel's list after an accepted LF correlate
abbrev pub lf_correlated : Float → Plane Float → Plane Float → List Float
lf_correlated k luma p = painted p.shape (correlated k luma) p.list
