-- A call by value, with all that it is given but the frame and what earlier calls wrote; and what a frame and its lent memory hold.
use Rattle.std.specs.Prelude.{ℕ, ℤ, Float}
use Rattle.grid.specs.declared.xyb.Xyb.{Xyb}
use Rattle.grid.specs.Plane.{Plane}
use Rattle.varmap.specs.declared.cells.Cell.{Cell}
use Rattle.frame.specs.declared.stages.Stage.{Stage}
use Rattle.lf.specs.declared.correlate.Correlation.{Correlation}
use Rattle.weights.specs.Weights.{Table}
use Rattle.hf.specs.declared.quantiser.Quantiser.{Quantiser}
use Rattle.channels.specs.declared.correlation.Correlation as hf

-- `Deed`: a call by value
pub data Deed : Type 0 where
  -- kind, x, y, hf_mul
  place : ℕ → ℕ → ℕ → ℕ → Deed
  -- LF numbers, scales
  lf_dequantise : Xyb (Plane ℤ) → Xyb Float → Deed
  lf_correlate : Correlation → Deed
  -- steps, and how long scratch is
  lf_smooth : Xyb Float → ℕ → Deed
  -- coefficients, weights
  hf_dequantise : Xyb (Plane ℤ) → Xyb Table → Quantiser → Deed
  -- tile numbers of X and of B
  hf_correlate : Plane ℤ → Plane ℤ → hf.Correlation → Deed
  -- how long scratch is
  rebuild : ℕ → Deed

pub record State : Type 0 where
  pub w8 : ℕ
  pub h8 : ℕ
  pub stage : Stage
  pub map : Plane Cell
  pub lf : Xyb (Plane Float)
  pub samples : Xyb (Plane Float)
