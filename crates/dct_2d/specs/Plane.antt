-- The two-dimensional transforms of a patch of 2 ^ a × 2 ^ b floats, operation by operation.
-- A patch gives the number at (x, y).
use Rattle.std.specs.Prelude.{ℕ, zero, suc, ◌^◌, map, Float}
use Rattle.std.specs.List.{range_with_len}
use Rattle.dct.specs.declared.dct_common.DctDirection.{DctDirection}
use Rattle.dct.specs.declared.dct_common.DctDirection.TheVariants.{Forward, Inverse}
use Rattle.floats.specs.Arith.{plus, minus, times, half, one}
use Rattle.dct.specs.Transform.{at, dct_of}

abbrev pub Line : Type 0
Line = ℕ → Float

abbrev pub Patch : Type 0
Patch = ℕ → ℕ → Float

abbrev pub factor : DctDirection → Float
factor Forward = half
factor Inverse = one

-- two numbers: their sum and their difference
abbrev pub pair : DctDirection → Line → Line
pair d v zero = times (plus (v 0) (v 1)) (factor d)
pair d v (suc x) = times (minus (v 0) (v 1)) (factor d)

unfoldable pub line : DctDirection → ℕ → Line → Line
line d zero v x = v x
line d (suc zero) v x = pair d v x
line d (suc (suc a)) v x = at (dct_of d (suc (suc a)) (map v (range_with_len 0 (2 ^ suc (suc a))))) x

abbrev pub across : DctDirection → ℕ → Patch → Patch
across d a p x y = line d a (λ i. p i y) x

abbrev pub down : DctDirection → ℕ → Patch → Patch
down d b p x y = line d b (λ j. p x j) y

-- two rows of two
abbrev pub square : DctDirection → Patch → Patch
square d p zero zero = times (times (plus (plus (plus (p 0 0) (p 1 0)) (p 0 1)) (p 1 1)) (factor d)) (factor d)
square d p (suc x) zero = times (times (minus (plus (minus (p 0 0) (p 1 0)) (p 0 1)) (p 1 1)) (factor d)) (factor d)
square d p zero (suc y) = times (times (minus (minus (plus (p 0 0) (p 1 0)) (p 0 1)) (p 1 1)) (factor d)) (factor d)
square d p (suc x) (suc y) = times (times (plus (minus (minus (p 0 0) (p 1 0)) (p 0 1)) (p 1 1)) (factor d)) (factor d)

-- rows first; but of two rows of four and more, the columns first
unfoldable pub plane : DctDirection → ℕ → ℕ → Patch → Patch
plane d zero b p = down d b (across d zero p)
plane d (suc zero) zero p = down d zero (across d 1 p)
plane d (suc zero) (suc zero) p = square d p
plane d (suc zero) (suc (suc b)) p = down d (suc (suc b)) (across d 1 p)
plane d (suc (suc a)) zero p = down d zero (across d (suc (suc a)) p)
plane d (suc (suc a)) (suc zero) p = across d (suc (suc a)) (down d 1 p)
plane d (suc (suc a)) (suc (suc b)) p = down d (suc (suc b)) (across d (suc (suc a)) p)
