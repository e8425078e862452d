-- Two facts on rebuild in one channel, over any maps of a kernel.
use Rattle.std.specs.Prelude.{◌≡◌, ℕ, ◌+◌, ◌*◌, ◌/◌, ◌<◌, ◌≤◌, ◌⊎◌, length, ℤ, Some, Float}
use Rattle.grid.specs.Index.{Lawful}
use Rattle.grid.specs.Plane.{Plane, sample}
use Rattle.kinds.specs.Kinds.{wide, high}
use Rattle.floats.specs.Same.{Zero, Same, Modest}
use Rattle.varmap.specs.declared.cells.Cell.{Cell}
use Rattle.varmap.specs.declared.cells.Record.{Record}
use Rattle.varmap.specs.Cells.{cells}
use Rattle.varmap.specs.Map.{LawfulMap}
use Rattle.blocks.specs.declared.leads.Varblock.{Varblock}
use Rattle.blocks.specs.Leads.{holder}
use Rattle.kernel.specs.Maps.{Maps}
use Rattle.kernel.specs.Flat.{whole}
use Rattle.rebuild.specs.Rebuilt.{rebuilt}

-- a lawful map of w × h cells, with the samples and the LF samples of a channel
pub record Fitting (w h : ℕ) (m : ℕ → ℕ → Record) (p lf : Plane Float) : Type 0 where
  pub map : LawfulMap w h m
  pub samples : Lawful p.shape (length p.list)
  pub width : p.shape.width ≡ 8 * w
  pub height : p.shape.height ≡ 8 * h
  pub lf_samples : Lawful lf.shape (length lf.list)

-- the channel after the call
abbrev pub after : Maps → Plane Cell → Plane Float → Plane Float → Plane Float
after k map lf p = record { shape = p.shape; list = rebuilt k map lf p }

-- footprint: a rebuilt sample depends only on the samples whose cell belongs to the same varblock (or, in none, on itself), and on the LF samples of its varblock's cells
abbrev pub Footprint : Maps → Type 0
Footprint k = (w h : ℕ) (map : Plane Cell) (p q lf lf' : Plane Float)
    → Fitting w h (cells map.shape map.list) p lf → Fitting w h (cells map.shape map.list) q lf' → p.shape ≡ q.shape
    → (x y : ℕ) → x < 8 * w → y < 8 * h
    → ((i j : ℕ) → i < 8 * w → j < 8 * h → holder (cells map.shape map.list) (i / 8) (j / 8) ≡ holder (cells map.shape map.list) (x / 8) (y / 8)
    → ((i ≡ x) × (j ≡ y)) ⊎ ((v : Varblock) × (holder (cells map.shape map.list) (x / 8) (y / 8) ≡ Some v)) → sample p i j ≡ sample q i j)
    → ((i j : ℕ) (v : Varblock) → i < w → j < h → holder (cells map.shape map.list) (x / 8) (y / 8) ≡ Some v
    → holder (cells map.shape map.list) i j ≡ Some v → sample lf i j ≡ sample lf' i j)
    → sample (after k map lf p) x y ≡ sample (after k map lf' q) x y

-- flat: LF samples all one whole number n, and zeros in all varblocks outside their corners, become n throughout every varblock
abbrev pub FlatRebuilt : Maps → Type 0
FlatRebuilt k = (w h : ℕ) (map : Plane Cell) (p lf : Plane Float) (n : ℤ) → Fitting w h (cells map.shape map.list) p lf → Modest n
    → ((x y : ℕ) → x < w → y < h → Same (sample lf x y) (whole n))
    → ((x y : ℕ) (v : Varblock) → x < 8 * w → y < 8 * h → holder (cells map.shape map.list) (x / 8) (y / 8) ≡ Some v
    → (8 * v.x + wide v.kind ≤ x) ⊎ (8 * v.y + high v.kind ≤ y) → Zero (sample p x y))
    → (x y : ℕ) (v : Varblock) → x < 8 * w → y < 8 * h → holder (cells map.shape map.list) (x / 8) (y / 8) ≡ Some v
    → Same (sample (after k map lf p) x y) (whole n)
