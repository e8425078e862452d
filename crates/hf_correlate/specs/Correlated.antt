-- What an accepted HF correlate writes.
use Rattle.std.specs.Prelude.{◌≡◌, ℕ, ◌/◌, List, ℤ, Float}
use Rattle.std.specs.Float.{binary32}
use Rattle.std.specs.Float.Ieee.{add, mul}
use Rattle.grid.specs.declared.Shape.{Shape}
use Rattle.grid.specs.Painted.{painted}
use Rattle.grid.specs.Plane.{Plane, sample, numeral}
use Rattle.channels.specs.Correlated.{gain}
use Rattle.hf_correlate.specs.Tiles.{LeastTiles}

-- what was at (x, y), and as much of Y there as its tile's number says
abbrev pub hf_correlated_at : (luma : Plane Float) → (tiles : Plane ℤ) → Float → ℕ → ℕ → ℕ → Float → Float
hf_correlated_at luma tiles base colour x y old =
    add binary32 old (mul binary32 (gain base colour (numeral tiles (x / 64) (y / 64))) (sample luma x y))

-- a channel's list after an accepted HF correlate
abbrev pub hf_correlated : (luma : Plane Float) → (tiles : Plane ℤ) → Float → ℕ → Plane Float → List Float
hf_correlated luma tiles base colour p = painted p.shape (hf_correlated_at luma tiles base colour) p.list

-- ---- on the way

-- a channel of the first shape can be written: Y is as large, and the tiles span it
pub record Correlatable (s luma tiles : Shape) : Type 0 where
  pub luma_width : luma.width ≡ s.width
  pub luma_height : luma.height ≡ s.height
  pub across : LeastTiles s.width tiles.width
  pub down : LeastTiles s.height tiles.height
