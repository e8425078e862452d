-- Numbers as bytes: four to a number, lowest first. Any NaN pattern is read as nan, and nan is written as 7FC00000 hexadecimal.
use Rattle.std.specs.Prelude.{ℕ, zero, suc, ◌+◌, ◌*◌, ◌/◌, ◌%◌, List, map, length, from_bits, slice_index, to_bits, Float}
use Rattle.std.specs.Float.{binary32}
use Rattle.std.specs.List.{range_with_len}
use Rattle.dct.specs.Transform.{at}

-- the i-th number
abbrev pub number : List ℕ → ℕ → Float
number bs i =
    from_bits binary32 (slice_index bs (4 * i) + slice_index bs (4 * i + 1) * 256 + slice_index bs (4 * i + 2) * 65536 + slice_index bs (4 * i + 3) * 16777216)

unfoldable pub decoded : List ℕ → List Float
decoded bs = map (number bs) (range_with_len 0 (length bs / 4))

-- the j-th byte of a number
abbrev pub byte : Float → ℕ → ℕ
byte x zero = to_bits binary32 x % 256
byte x (suc zero) = to_bits binary32 x / 256 % 256
byte x (suc (suc zero)) = to_bits binary32 x / 65536 % 256
byte x (suc (suc (suc j))) = to_bits binary32 x / 16777216 % 256

unfoldable pub encoded : List Float → List ℕ
encoded xs = map (λ k. byte (at xs (k / 4)) (k % 4)) (range_with_len 0 (4 * length xs))
