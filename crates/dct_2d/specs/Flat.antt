-- What the flat laws of patches speak of: one number throughout, and one number first with zeros elsewhere.
use Rattle.std.specs.Prelude.{ℕ, ◌+◌, ◌<◌, Float}
use Rattle.floats.specs.Same.{Zero, Same}
use Rattle.dct_2d.specs.Plane.{Patch}

-- c at (0, 0), and zeros elsewhere in the w × h places
pub record Peak (w h : ℕ) (p : Patch) (c : Float) : Type 0 where
  pub first : Same (p 0 0) c
  pub others : (x y : ℕ) → x < w → y < h → 0 < x + y → Zero (p x y)

-- c throughout the w × h places
abbrev pub Even : ℕ → ℕ → Patch → Float → Type 0
Even w h p c = (x y : ℕ) → x < w → y < h → Same (p x y) c
