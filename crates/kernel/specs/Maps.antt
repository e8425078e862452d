-- What a kernel means: two maps of patches. A patch gives the number at (x, y), and nan past its sides, so that equal patches are
-- equal functions.
use Rattle.std.specs.Prelude.{◌≡◌, ℕ, ◌*◌, Bool, cond, ◌&&◌, ◌||◌, List, length, ◌==◌, nat_le, Float}
use Rattle.grid.specs.declared.Shape.{Shape}
use Rattle.grid.specs.declared.brush.Area.{Area}
use Rattle.grid.specs.Index.{lawful, sized}
use Rattle.grid.specs.Painted.{painted, patch}
use Rattle.grid.specs.Window.{window}
use Rattle.kinds.specs.Kinds.{wide, high}
use Rattle.dct_2d.specs.Plane.{Patch}
use Rattle.dct_2d.specs.Replaced.{replaced}

-- forward takes the width, the height and the patch; inverse the kind and its block
pub record Maps : Type 0 where
  pub fwd : ℕ → ℕ → Patch → Patch
  pub inv : ℕ → Patch → Patch

abbrev pub maps : (ℕ → ℕ → Patch → Patch) → (ℕ → Patch → Patch) → Maps
maps f i = record { fwd = f; inv = i }

-- a power of two up to 32
abbrev pub side : ℕ → Bool
side n = (((((n == 1 || n == 2) || n == 4) || n == 8) || n == 16) || n == 32)

-- what a forward call leaves, with so many numbers of scratch
unfoldable pub forwarded : (ℕ → ℕ → Patch → Patch) → Shape → ℕ → List Float → List Float
forwarded fwd s room xs =
    cond ((lawful s (length xs) && (side s.width && side s.height)) && nat_le 512 room)
    (replaced (fwd s.width s.height) s xs) xs

-- what an inverse call leaves
unfoldable pub inverted : (ℕ → Patch → Patch) → ℕ → Shape → ℕ → List Float → List Float
inverted inv kind s room xs =
    cond (sized (8 * wide kind) (8 * high kind) s (length xs) && nat_le 512 room) (replaced (inv kind) s xs) xs

-- the number (i, j) of the image of an area
abbrev pub image_at : Shape → Area → (Patch → Patch) → List Float → ℕ → ℕ → Float → Float
image_at s a image xs i j old = image (window s a.x a.y a.width a.height xs) i j

-- an area of a grid replaced by its image
unfoldable pub imaged : Shape → Area → (Patch → Patch) → List Float → List Float
imaged s a image xs = painted s (patch a.x a.y a.width a.height (image_at s a image xs)) xs

-- the area is as large as a block of the kind
pub record BlockOf (kind : ℕ) (a : Area) : Type 0 where
  pub across : a.width ≡ 8 * wide kind
  pub down : a.height ≡ 8 * high kind
