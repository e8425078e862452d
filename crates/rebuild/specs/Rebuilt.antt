-- What rebuild makes of a varblock, and when it can.
use Rattle.std.specs.Prelude.{◌≡◌, ℕ, ◌+◌, ◌*◌, ◌≤◌, List, length, Float}
use Rattle.grid.specs.Index.{Lawful}
use Rattle.grid.specs.Plane.{Plane, sample}
use Rattle.grid.specs.Window.{window}
use Rattle.kinds.specs.Kinds.{wide, high}
use Rattle.floats.specs.Arith.{over}
use Rattle.dct_2d.specs.Plane.{Patch}
use Rattle.varmap.specs.declared.cells.Cell.{Cell}
use Rattle.varmap.specs.Cells.{cells}
use Rattle.varmap.specs.declared.map.Map.{Map}
use Rattle.blocks.specs.declared.leads.Varblock.{Varblock}
use Rattle.blocks.specs.Blocks.{Image, by_blocks}
use Rattle.kernel.specs.Maps.{Maps}
use Rattle.kernel.specs.Corner.{divisor, block_image}

-- the LF samples of a varblock's cells
unfoldable pub lf_patch : Plane Float → Varblock → Patch
lf_patch lf v = window lf.shape v.x v.y (wide v.kind) (high v.kind) lf.list

-- the block's samples become the kernel's image of them, with the corner made of the LF samples
unfoldable pub rebuilding : Maps → Plane Float → Image
rebuilding m lf v block = block_image m v.kind (lf_patch lf v) block

-- a channel's list after an accepted rebuild
abbrev pub rebuilt : Maps → Plane Cell → Plane Float → Plane Float → List Float
rebuilt m map lf p = by_blocks p.shape (cells map.shape map.list) (rebuilding m lf) p.list

-- the steps that make the corner: the LF sample (i, j) of the varblock at (x, y), and the division
abbrev pub lf_at : Plane Float → ℕ → ℕ → ℕ → ℕ → Float → Float
lf_at lf x y i j old = sample lf (x + i) (y + j)

abbrev pub divided : ℕ → ℕ → ℕ → ℕ → Float → Float
divided w h i j old = over old (divisor w h i j)

-- when a varblock can be rebuilt: the LF samples of its cells are there, and scratch is long enough
pub record Ready (lf : Plane Float) (room : ℕ) (v : Varblock) : Type 0 where
  pub across : v.x + wide v.kind ≤ lf.shape.width
  pub down : v.y + high v.kind ≤ lf.shape.height
  pub enough : 512 ≤ room

-- a channel that can be rebuilt: its samples, its LF samples and the map fit each other
pub record Rebuildable (map : Map) (lf samples : Plane Float) (room : ℕ) : Type 0 where
  pub lawful : Lawful samples.shape (length samples.list)
  pub width : samples.shape.width ≡ 8 * map.grid.shape.width
  pub height : samples.shape.height ≡ 8 * map.grid.shape.height
  pub lf_width : lf.shape.width ≡ map.grid.shape.width
  pub lf_height : lf.shape.height ≡ map.grid.shape.height
  pub enough : 512 ≤ room
