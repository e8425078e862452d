-- How much of Y a channel gains, by value.
use Rattle.std.specs.Prelude.{◌≡◌, ℕ, ℤ, Float}
use Rattle.grid.specs.Plane.{Plane, seen}
use Rattle.hf_correlate.specs.declared.gains.Gains.{Gains}

-- by the numbers of these tiles, a base and a colour factor
pub record IsGains (g : Gains) (tiles : Plane ℤ) (base : Float) (colour : ℕ) : Type 0 where
  pub tiles_are : seen g.tiles.grid ≡ tiles
  pub base_is : g.base ≡ base
  pub colour_is : g.colour.value ≡ colour
