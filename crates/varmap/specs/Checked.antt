-- The check of a map.
use Rattle.std.specs.Prelude.{◌≡◌, Ok, Err, Result, MatchResult}
use Rattle.grid.specs.Plane.{Plane, seen}
use Rattle.refusal.specs.declared.Refusal.{Refusal}
use Rattle.varmap.specs.declared.cells.Cell.{Cell}
use Rattle.varmap.specs.declared.map.Map.{Map}
use Rattle.varmap.specs.Cells.{cells}
use Rattle.varmap.specs.Map.{map_checked}

-- the map over the grid p, or the refusal for its first unlawful cell
abbrev pub IsMap : Plane Cell → Result Map Refusal → Type 0
IsMap p r =
    let verdict = map_checked p.shape.width p.shape.height (cells p.shape p.list) in
    MatchResult r (λ m. (verdict ≡ Ok tt) × (seen m.grid ≡ p)) (λ e. verdict ≡ Err e)
