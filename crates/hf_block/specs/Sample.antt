-- The arithmetic of one coefficient, operation by operation.
use Rattle.std.specs.Prelude.{ℕ, cond, ℤ, pos, from_bits, nat_le, unsigned_abs, Float}
use Rattle.std.specs.Float.{binary32}
use Rattle.std.specs.Float.Ieee.{sub, mul, div, of_int}

-- with q the coefficient: q × bias where |q| ≤ 1, otherwise q − numerator / q
abbrev pub unbiased : Float → Float → ℤ → Float
unbiased bias numerator q =
    cond (nat_le (unsigned_abs q) 1) (mul binary32 (of_int binary32 q) bias)
    (sub binary32 (of_int binary32 q) (div binary32 numerator (of_int binary32 q)))

-- then × weight, × mul
abbrev pub dequantised : (bias numerator weight by : Float) → ℤ → Float
dequantised bias numerator weight by q = mul binary32 (mul binary32 (unbiased bias numerator q) weight) by

-- 65536 / (global_scale × hf_mul) × qm_scale, the product rounded
abbrev pub multiplier : ℕ → ℕ → Float → Float
multiplier scale by qm =
    mul binary32 (div binary32 (from_bits binary32 0x4780_0000) (mul binary32 (of_int binary32 (pos scale)) (of_int binary32 (pos by)))) qm
