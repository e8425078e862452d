-- The walk over the varblocks of a lawful map.
use Rattle.std.specs.Prelude.{ℕ, zero, suc, ◌-◌, ◌*◌, List, [], ◌++◌}
use Rattle.varmap.specs.declared.cells.Record.{Record}
use Rattle.varmap.specs.declared.map.Map.{Map}
use Rattle.varmap.specs.Cells.{cells}
use Rattle.blocks.specs.declared.leads.Varblock.{Varblock}
use Rattle.blocks.specs.declared.walk.Walk.{Walk}
use Rattle.blocks.specs.Leads.{lead_at, one_or_none, leads}

-- the cells of a map
abbrev pub records : Map → ℕ → ℕ → Record
records map = cells map.grid.shape map.grid.list.now

-- its leads, in row order
abbrev pub leads_of : Map → List Varblock
leads_of map = leads map.grid.shape.width map.grid.shape.height (records map)

-- the leads among n cells from number k on, in row order
unfoldable pub leads_from : ℕ → (ℕ → ℕ → Record) → ℕ → ℕ → List Varblock
leads_from w m zero k = []
leads_from w m (suc n) k = one_or_none (lead_at w m k) ++ leads_from w m n (suc k)

-- the varblocks that are still to come
abbrev pub rest : Walk → List Varblock
rest s =
    leads_from s.map.grid.shape.width (records s.map) (s.map.grid.shape.width * s.map.grid.shape.height - s.from) s.from
