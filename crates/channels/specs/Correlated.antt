-- How X and B go with Y, and what a channel is that gained its part of Y.
use Rattle.std.specs.Prelude.{ℕ, ◌+◌, Bool, ◌&&◌, ℤ, pos, Float}
use Rattle.std.specs.Float.{float_is_finite, binary32}
use Rattle.std.specs.Float.Ieee.{add, mul, div, of_int}
use Rattle.grid.specs.Plane.{Plane, sample}
use Rattle.channels.specs.declared.correlation.Correlation.{Correlation}

-- FLOAT: both bases are finite
abbrev pub bases_ok : Correlation → Bool
bases_ok by = float_is_finite by.base_correlation_x && float_is_finite by.base_correlation_b

-- how much of Y a channel gains, by a number: base + number / colour_factor
abbrev pub gain : Float → ℕ → ℤ → Float
gain base colour number = add binary32 base (div binary32 (of_int binary32 number) (of_int binary32 (pos colour)))

-- the sample (i, j) of a rectangle at (left, top), and k times Y there
abbrev pub gained : Float → Plane Float → (left top : ℕ) → ℕ → ℕ → Float → Float
gained k luma left top i j old = add binary32 old (mul binary32 k (sample luma (left + i) (top + j)))
