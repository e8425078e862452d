-- What a call on a lawful grid leaves, and when a grid is one.
use Rattle.std.specs.Prelude.{◌≡◌, Bool, true, false, List, Option, MatchOption}
use Rattle.grid.specs.declared.canvas.Canvas.{Canvas}
use Rattle.grid.specs.declared.canvas.Raster.{Raster}
use Rattle.grid.specs.Plane.{Plane, seen}

-- the grid a came back as b: over the same list, which now holds xs, with the same shape
pub record Drawn {X : Type 0} (a b : Canvas X) (xs : List X) : Type 0 where
  pub same : b.list.ghost_name ≡ a.list.ghost_name
  pub shape : b.shape ≡ a.shape
  pub list : b.list.now ≡ xs

-- the grid p for reading, exactly where `ok`
abbrev pub IsRaster : {X : Type 0} → Bool → Plane X → Option (Raster X) → Type 0
IsRaster ok p o = MatchOption o (ok ≡ false) (λ r. (ok ≡ true) × (seen r ≡ p))
