-- Tiles of 64 × 64 samples.
use Rattle.std.specs.Prelude.{ℕ, ◌+◌, ◌-◌, ◌*◌, ◌/◌, ◌≤◌, cond, nat_lt}
use Rattle.grid.specs.declared.Shape.{Shape}
use Rattle.grid.specs.declared.brush.Area.{Area}

-- r tiles reach the end of n samples, and fewer do not
pub record LeastTiles (n r : ℕ) : Type 0 where
  pub reach : n ≤ 64 * r
  pub least : (k : ℕ) → n ≤ 64 * k → r ≤ k

-- how many tiles that is
unfoldable pub tiles_of : ℕ → ℕ
tiles_of n = (n + 63) / 64

-- how many of n samples lie in a tile that begins at `start`
abbrev pub span : ℕ → ℕ → ℕ
span n start = cond (nat_lt (n - start) 64) (n - start) 64

-- the samples of the tile (tx, ty)
abbrev pub tile_area : Shape → ℕ → ℕ → Area
tile_area s tx ty = record { x = 64 * tx; y = 64 * ty; width = span s.width (64 * tx); height = span s.height (64 * ty) }
