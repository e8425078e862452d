-- What a walk over the varblocks of a map leaves of a grid's samples.
use Rattle.std.specs.Prelude.{ℕ, ◌-◌, ◌*◌, ◌/◌, List, Some, None, Option, Float}
use Rattle.grid.specs.declared.Shape.{Shape}
use Rattle.grid.specs.Painted.{painted, patch}
use Rattle.grid.specs.Window.{window}
use Rattle.kinds.specs.Kinds.{wide, high}
use Rattle.varmap.specs.declared.cells.Record.{Record}
use Rattle.blocks.specs.declared.leads.Varblock.{Varblock}
use Rattle.blocks.specs.Leads.{holder}

-- what the work on a block makes: from the varblock and its block's samples, the sample (i, j) of the block
abbrev pub Image : Type 0
Image = Varblock → (ℕ → ℕ → Float) → ℕ → ℕ → Float

-- the samples of a varblock's block
unfoldable pub block : Shape → Varblock → List Float → ℕ → ℕ → Float
block s v xs = window s (8 * v.x) (8 * v.y) (8 * wide v.kind) (8 * high v.kind) xs

-- the sample (i, j) of a block whose samples were `old`
abbrev pub renewed : Image → Varblock → (ℕ → ℕ → Float) → ℕ → ℕ → Float → Float
renewed image v old i j was = image v old i j

-- one block is replaced by its image
unfoldable pub one_block : Shape → Image → Varblock → List Float → List Float
one_block s image v xs =
    painted s (patch (8 * v.x) (8 * v.y) (8 * wide v.kind) (8 * high v.kind) (renewed image v (block s v xs))) xs

-- the sample (p, q), old before, if its cell belongs to this varblock or to none
abbrev pub of_block : Shape → Image → List Float → ℕ → ℕ → Float → Option Varblock → Float
of_block s image xs p q old None = old
of_block s image xs p q old (Some v) = image v (block s v xs) (p - 8 * v.x) (q - 8 * v.y)

-- each sample of a varblock is its varblock's image at its place, and every other sample stays
abbrev pub imaged : Shape → (ℕ → ℕ → Record) → Image → List Float → ℕ → ℕ → Float → Float
imaged s m image xs p q old = of_block s image xs p q old (holder m (p / 8) (q / 8))

unfoldable pub by_blocks : Shape → (ℕ → ℕ → Record) → Image → List Float → List Float
by_blocks s m image xs = painted s (imaged s m image xs) xs
