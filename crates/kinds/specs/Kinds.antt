-- The kinds that are carried, with their sizes in cells.
use Rattle.std.specs.Prelude.{ℕ, cond, List, [], ◌∷◌, Some, None, Option, ◌==◌}
use Rattle.kinds.specs.declared.Size.{Size}

pub record Kind : Type 0 where
  pub kind : ℕ
  pub width : ℕ
  pub height : ℕ

abbrev of : ℕ → ℕ → ℕ → Kind
of k w h = record { kind = k; width = w; height = h }

-- kind, width, height
abbrev pub kinds : List Kind
kinds =
    of 0 1 1 ∷ of 1 1 1 ∷ of 2 1 1 ∷ of 3 1 1 ∷ of 4 2 2 ∷ of 5 4 4
    ∷ of 6 1 2 ∷ of 7 2 1 ∷ of 8 1 4 ∷ of 9 4 1 ∷ of 10 2 4 ∷ of 11 4 2
    ∷ of 12 1 1 ∷ of 13 1 1
    ∷ of 18 8 8 ∷ of 19 4 8 ∷ of 20 8 4
    ∷ of 21 16 16 ∷ of 22 8 16 ∷ of 23 16 8
    ∷ of 24 32 32 ∷ of 25 16 32 ∷ of 26 32 16 ∷ []

unfoldable pub found : ℕ → List Kind → Option Size
found k [] = None
found k (e ∷ es) = cond (k == e.kind) (Some (record { width = e.width; height = e.height })) (found k es)

-- the size of a kind, if it is carried
unfoldable pub size_of : ℕ → Option Size
size_of k = found k kinds

-- the sides of a kind's varblock in cells, 0 of a kind that is not carried
abbrev pub width_of : Option Size → ℕ
width_of None = 0
width_of (Some z) = z.width

abbrev pub height_of : Option Size → ℕ
height_of None = 0
height_of (Some z) = z.height

unfoldable pub wide : ℕ → ℕ
wide kind = width_of (size_of kind)

unfoldable pub high : ℕ → ℕ
high kind = height_of (size_of kind)
