-- The inverse transforms of one cell, 8 × 8 numbers, operation by operation.
use Rattle.std.specs.Prelude.{ℕ, zero, suc, ◌+◌, ◌*◌, ◌/◌, ◌%◌, cond, ◌&&◌, List, ◌==◌, nat_lt, Float}
use Rattle.floats.specs.Arith.{float, plus, minus, over}
use Rattle.dct.specs.declared.dct_common.DctDirection.TheVariants.{Inverse}
use Rattle.dct_2d.specs.Plane.{Patch, plane}
use Rattle.dct.specs.Transform.{at}
use Rattle.cells.specs.Framed.{framed, turned}

-- the patch that 64 numbers are, row by row
unfoldable pub cell : List Float → Patch
cell v = framed 8 8 (λ x y. at v (y * 8 + x))

-- ---- butterflies

-- the sum of four numbers, their signs by the place in a square of 2 × 2
abbrev pub butterfly : ℕ → ℕ → Float → Float → Float → Float → Float
butterfly zero zero a b c d = plus (plus (plus a b) c) d
butterfly (suc x) zero a b c d = minus (minus (plus a b) c) d
butterfly zero (suc y) a b c d = minus (plus (minus a b) c) d
butterfly (suc x) (suc y) a b c d = plus (minus (minus a b) c) d

-- of the four numbers that lie half a side apart
abbrev pub butterfly_at : ℕ → Patch → Patch
butterfly_at half p x y =
    butterfly (x % 2) (y % 2) (p (x / 2) (y / 2)) (p (x / 2 + half) (y / 2)) (p (x / 2) (y / 2 + half)) (p (x / 2 + half) (y / 2 + half))

-- the top left square with sides 2 × half; the other numbers stay
unfoldable pub butterflies : ℕ → Patch → Patch
butterflies half p = framed 8 8 (λ x y. cond (nat_lt (x / 2) half && nat_lt (y / 2) half) (butterfly_at half p x y) (p x y))

-- ---- Dct2

unfoldable pub dct2 : Patch → Patch
dct2 p = butterflies 4 (butterflies 2 (butterflies 1 p))

-- ---- quarters

-- every other number, from (qx, qy) on
abbrev pub quarter : ℕ → ℕ → Patch → Patch
quarter qx qy p i j = p (qx + 2 * i) (qy + 2 * j)

-- four patches of 4 × 4 side by side
abbrev pub quartered : (ℕ → ℕ → Patch) → Patch
quartered f = framed 8 8 (λ x y. f (x / 4) (y / 4) (x % 4) (y % 4))

-- ---- Dct4: each quarter's coefficients are transposed

abbrev pub dct4_quarter : Patch → ℕ → ℕ → Patch
dct4_quarter p qx qy = plane Inverse 2 2 (turned (quarter qx qy p))

unfoldable pub dct4 : Patch → Patch
dct4 p = quartered (dct4_quarter (butterflies 1 p))

-- ---- Hornuss

abbrev pub nil : Float
nil = float 0

abbrev pub sixteen : Float
sixteen = float 1098907648

-- the sum of the n numbers of a quarter after the first, row by row, from +0 on
abbrev pub residual_sum : Patch → ℕ → Float
residual_sum s zero = nil
residual_sum s (suc n) = plus (residual_sum s n) (s (suc n % 4) (suc n / 4))

abbrev pub average : Patch → Float
average s = minus (s 0 0) (over (residual_sum s 15) sixteen)

-- the number at (1, 1) goes to (0, 0), and a zero takes its place
abbrev pub residual : Patch → Patch
residual s i j = cond (i == 0 && j == 0) (s 1 1) (cond (i == 1 && j == 1) nil (s i j))

abbrev pub hornuss_quarter : Patch → ℕ → ℕ → Patch
hornuss_quarter p qx qy i j = plus (residual (quarter qx qy p) i j) (average (quarter qx qy p))

unfoldable pub hornuss : Patch → Patch
hornuss p = quartered (hornuss_quarter (butterflies 1 p))

-- ---- Dct4x8 and Dct8x4

-- the first two numbers of the first column become their sum and their difference
unfoldable pub paired : Patch → Patch
paired p =
    framed 8 8
    (λ x y. cond (x == 0 && y == 0) (plus (p 0 0) (p 0 1)) (cond (x == 0 && y == 1) (minus (p 0 0) (p 0 1)) (p x y)))

-- every other row, from the row h on
abbrev pub half_rows : ℕ → Patch → Patch
half_rows h p i j = p i (2 * j + h)

-- two halves of 8 × 4 under one another
unfoldable pub dct4x8 : Patch → Patch
dct4x8 p = framed 8 8 (λ x y. plane Inverse 3 2 (half_rows (y / 4) (paired p)) x (y % 4))

-- rows for columns
unfoldable pub flipped : Patch → Patch
flipped p = framed 8 8 (turned p)

unfoldable pub dct8x4 : Patch → Patch
dct8x4 p = flipped (dct4x8 p)

-- ---- Dct8

unfoldable pub dct8 : Patch → Patch
dct8 p = framed 8 8 (plane Inverse 3 3 p)
