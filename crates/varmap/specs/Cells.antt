-- The cells of a map.
use Rattle.std.specs.Prelude.{ℕ, Bool, true, false, List, slice_index_or}
use Rattle.grid.specs.declared.Shape.{Shape}
use Rattle.grid.specs.Index.{index}
use Rattle.varmap.specs.declared.cells.Cell.{Cell}
use Rattle.varmap.specs.declared.cells.Record.{Record}
use Rattle.varmap.specs.declared.cells.Record.TheVariants.{Empty, Lead, Covered}

abbrev pub cell : Record → Cell
cell r = record { holds = r }

abbrev pub is_empty : Record → Bool
is_empty Empty = true
is_empty (Lead kind mul) = false
is_empty (Covered dx dy) = false

-- the record at (x, y) of the map over a lent list
abbrev pub cells : Shape → List Cell → ℕ → ℕ → Record
cells s xs x y = (slice_index_or xs (index s x y) (cell Empty)).holds
