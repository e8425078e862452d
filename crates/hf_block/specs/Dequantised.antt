-- What an accepted HF dequantise writes.
use Rattle.std.specs.Prelude.{◌≡◌, ℕ, ◌+◌, ◌*◌, ◌<◌, ◌≤◌, true, List, length, ℤ, slice_index_or, Float}
use Rattle.std.specs.Float.{nan}
use Rattle.grid.specs.declared.brush.Area.{Area}
use Rattle.grid.specs.Index.{Lawful, Inside}
use Rattle.grid.specs.Plane.{Plane, numeral}
use Rattle.kinds.specs.Kinds.{wide, high}
use Rattle.channels.specs.Ranges.{in_range_at}
use Rattle.varmap.specs.declared.cells.Cell.{Cell}
use Rattle.varmap.specs.Cells.{cells}
use Rattle.varmap.specs.declared.map.Map.{Map}
use Rattle.blocks.specs.declared.leads.Varblock.{Varblock}
use Rattle.blocks.specs.Leads.{OfMap}
use Rattle.blocks.specs.Blocks.{Image, by_blocks}
use Rattle.blocks.specs.Walk.{records}
use Rattle.weights.specs.Weights.{Table, start, weight}
use Rattle.hf_block.specs.declared.work.Scales.{Scales}
use Rattle.hf_block.specs.Sample.{dequantised, multiplier}

-- the sample (i, j) of a varblock's block: its coefficient, dequantised
unfoldable pub dequantising : Plane ℤ → Table → Scales → Image
dequantising n t by v old i j =
    dequantised by.quant_bias by.quant_bias_numerator (weight t v.kind i j)
    (multiplier by.global_scale v.hf_mul by.qm_scale) (numeral n (8 * v.x + i) (8 * v.y + j))

-- a channel's list after an accepted HF dequantise: in each varblock of the map its coefficients, dequantised, and elsewhere what was there
abbrev pub hf_dequantised : Plane Cell → Plane ℤ → Table → Scales → Plane Float → List Float
hf_dequantised map n t by p = by_blocks p.shape (cells map.shape map.list) (dequantising n t by) p.list

-- ---- on the way, for one block

-- the sample (i, j) of the block of this area, whose weights ws follow each other row by row
abbrev pub sample_at : Plane ℤ → List Float → Area → Scales → Float → ℕ → ℕ → Float → Float
sample_at n ws area by mul i j old =
    dequantised by.quant_bias by.quant_bias_numerator (slice_index_or ws (j * area.width + i) nan) mul (numeral n (area.x + i) (area.y + j))

-- when a varblock can be dequantised: its coefficients are there and in range, and its kind has its weights
pub record Ready (n : Plane ℤ) (t : Table) (by : Scales) (v : Varblock) : Type 0 where
  pub lawful : Lawful n.shape (length n.list)
  pub across : 8 * v.x + 8 * wide v.kind ≤ n.shape.width
  pub down : 8 * v.y + 8 * high v.kind ≤ n.shape.height
  pub range : (x y : ℕ) → Inside n.shape x y → in_range_at n x y ≡ true
  pub starts : v.kind < length t.starts
  pub weights : start t v.kind + 64 * (wide v.kind * high v.kind) ≤ length t.list
  pub small : by.global_scale ≤ 73728
  pub mul : v.hf_mul ≤ 255

-- when a channel can be written: its grid and the map fit together, and each varblock of the map can be dequantised
pub record Writable (map : Map) (n : Plane ℤ) (t : Table) (by : Scales) (p : Plane Float) : Type 0 where
  pub samples_lawful : Lawful p.shape (length p.list)
  pub width : p.shape.width ≡ 8 * map.grid.shape.width
  pub height : p.shape.height ≡ 8 * map.grid.shape.height
  pub ready : (v : Varblock) → OfMap map.grid.shape.width map.grid.shape.height (records map) v → Ready n t by v
