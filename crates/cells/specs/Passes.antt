-- The passes over columns in which the code makes the transforms of a cell, and the lists that it holds between them.
use Rattle.std.specs.Prelude.{◌≡◌, ℕ, ◌+◌, ◌*◌, ◌/◌, ◌%◌, ◌<◌, Bool, true, false, List, [], ◌∷◌, ◌++◌, map, Float}
use Rattle.std.specs.List.{range_with_len}
use Rattle.floats.specs.Arith.{plus, minus, over}
use Rattle.dct.specs.declared.dct_common.DctDirection.TheVariants.{Inverse}
use Rattle.dct_2d.specs.Plane.{Patch, line, down}
use Rattle.dct.specs.Transform.{at, inverse4}
use Rattle.cells.specs.Framed.{framed}
use Rattle.cells.specs.Cells.{butterfly, nil, sixteen, residual_sum, dct4x8, dct8x4}

-- the sums of four numbers, row by row
abbrev pub square : Float → Float → Float → Float → List Float
square a b c d = butterfly 0 0 a b c d ∷ butterfly 1 0 a b c d ∷ butterfly 0 1 a b c d ∷ butterfly 1 1 a b c d ∷ []

-- ---- quarters

-- 16 numbers hold a patch of 4 × 4, row by row
abbrev pub Quarter : List Float → Patch → Type 0
Quarter v f = (x y : ℕ) → x < 4 → y < 4 → at v (y * 4 + x) ≡ f x y

-- the patch that 16 numbers are
abbrev pub four_by_four : List Float → Patch
four_by_four v i j = at v (j * 4 + i)

-- the quarter (x, y) of 64 numbers
abbrev pub taken : List Float → ℕ → ℕ → List Float
taken v x y = map (λ k. at v ((y + 2 * (k / 4)) * 8 + (x + 2 * (k % 4)))) (range_with_len 0 16)

-- Hornuss's average and samples of a quarter
abbrev pub average_of : List Float → Float
average_of q = minus (at q 0) (over (residual_sum (four_by_four q) 15) sixteen)

abbrev pub raised : List Float → Float → List Float
raised q a =
    plus (at q 5) a ∷ plus (at q 1) a ∷ plus (at q 2) a ∷ plus (at q 3) a
    ∷ plus (at q 4) a ∷ plus nil a ∷ plus (at q 6) a ∷ plus (at q 7) a
    ∷ plus (at q 8) a ∷ plus (at q 9) a ∷ plus (at q 10) a ∷ plus (at q 11) a
    ∷ plus (at q 12) a ∷ plus (at q 13) a ∷ plus (at q 14) a ∷ plus (at q 15) a ∷ []

-- the quarters beside the diagonal for one another
unfoldable pub swapped : Patch → Patch
swapped p = framed 8 8 (λ x y. p (4 * (y / 4) + x % 4) (4 * (x / 4) + y % 4))

-- ---- rows and columns

-- the row y and the column x of 64 numbers
abbrev pub row : List Float → ℕ → List Float
row v y = map (λ x. at v (y * 8 + x)) (range_with_len 0 8)

abbrev pub column : List Float → ℕ → List Float
column v x = map (λ y. at v (y * 8 + x)) (range_with_len 0 8)

-- the even and the odd of 8 numbers, each four transformed
abbrev pub halves : List Float → List Float
halves v = inverse4 (at v 0) (at v 2) (at v 4) (at v 6) ++ inverse4 (at v 1) (at v 3) (at v 5) (at v 7)

-- each column transformed
unfoldable pub downs : Patch → Patch
downs p = framed 8 8 (down Inverse 3 p)

-- the even and the odd numbers of each column
unfoldable pub half_downs : Patch → Patch
half_downs p = framed 8 8 (λ x y. line Inverse 2 (λ j. p x (2 * j + y / 4)) (y % 4))

-- Dct4x8, or its transpose
abbrev pub by_turn : Bool → Patch → Patch
by_turn false p = dct4x8 p
by_turn true p = dct8x4 p
