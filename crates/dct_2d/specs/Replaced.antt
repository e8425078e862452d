-- A list in which the numbers of a grid were replaced by their image, and the grids that are transformed.
use Rattle.std.specs.Prelude.{◌≡◌, ℕ, ◌^◌, ◌≤◌, List, Float}
use Rattle.grid.specs.declared.Shape.{Shape}
use Rattle.grid.specs.Index.{Lawful}
use Rattle.grid.specs.Painted.{painted}
use Rattle.grid.specs.Window.{elements}
use Rattle.dct_2d.specs.Plane.{Patch}

-- the grid's elements become the numbers of a patch
unfoldable pub poured : Patch → Shape → List Float → List Float
poured p s xs = painted s (λ x y _. p x y) xs

-- the grid's numbers replaced by their image; nothing else is written
abbrev pub replaced : (Patch → Patch) → Shape → List Float → List Float
replaced f s xs = poured (f (elements s xs)) s xs

-- a grid of 2 ^ a × 2 ^ b numbers, sides up to 256, in a list of n, with 512 numbers of scratch
pub record Ready (a b : ℕ) (s : Shape) (n scratch : ℕ) : Type 0 where
  pub narrow : a ≤ 8
  pub low : b ≤ 8
  pub width : s.width ≡ 2 ^ a
  pub height : s.height ≡ 2 ^ b
  pub lawful : Lawful s n
  pub room : 512 ≤ scratch
