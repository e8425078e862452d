-- The arithmetic of f32 as the code has it, and its constants by their bits.
use Rattle.std.specs.Prelude.{ℕ, false, pos, from_bits, Float}
use Rattle.std.specs.Float.{fin, binary32}
use Rattle.std.specs.Float.Ieee.{add, sub, mul, div}

-- the f32 of a bit pattern, as the check has each constant of the code
abbrev pub float : ℕ → Float
float b = from_bits binary32 b

abbrev pub plus : Float → Float → Float
plus x y = add binary32 x y

abbrev pub minus : Float → Float → Float
minus x y = sub binary32 x y

abbrev pub times : Float → Float → Float
times x y = mul binary32 x y

abbrev pub over : Float → Float → Float
over x y = div binary32 x y

abbrev pub nought : Float
nought = fin false 0 (pos 0)

abbrev pub half : Float
half = float 1056964608

abbrev pub one : Float
one = float 1065353216

abbrev pub two : Float
two = float 1073741824

abbrev pub four : Float
four = float 1082130432
