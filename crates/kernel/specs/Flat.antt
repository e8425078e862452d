-- The flat law: what a kernel owes of a picture that is one whole number throughout.
use Rattle.std.specs.Prelude.{◌≡◌, ℕ, ◌*◌, ◌<◌, ◌≤◌, ◌⊎◌, ℤ, Some, Float}
use Rattle.std.specs.Float.{binary32}
use Rattle.std.specs.Float.Ieee.{of_int}
use Rattle.floats.specs.Same.{Zero, Modest}
use Rattle.kinds.specs.declared.Size.{Size}
use Rattle.kinds.specs.Kinds.{size_of, wide, high}
use Rattle.dct_2d.specs.Flat.{Even}
use Rattle.dct_2d.specs.Plane.{Patch}
use Rattle.kernel.specs.Maps.{Maps}
use Rattle.kernel.specs.Corner.{block_image}

-- a whole number as f32
abbrev pub whole : ℤ → Float
whole n = of_int binary32 n

-- a block that is zero outside its corner; either zero is zero
abbrev pub Bare : ℕ → Patch → Type 0
Bare kind b = (i j : ℕ) → i < 8 * wide kind → j < 8 * high kind → (wide kind ≤ i) ⊎ (high kind ≤ j) → Zero (b i j)

-- for whole c of at most 4,194,304 either way: a block that is zero outside its corner, with the corner that rebuild makes of LF
-- samples all c, becomes c throughout
unfoldable pub Flat : Maps → Type 0
Flat m =
    (kind : ℕ) (z : Size) → size_of kind ≡ Some z → (n : ℤ) → Modest n → (lf block : Patch) → Even (wide kind) (high kind) lf (whole n)
    → Bare kind block → Even (8 * wide kind) (8 * high kind) (block_image m kind lf block) (whole n)
