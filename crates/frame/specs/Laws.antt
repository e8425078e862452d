-- Laws of an accepted `place`, over its definitions.
use Rattle.std.specs.Prelude.{◌≡◌, ℕ, ◌+◌, ◌*◌, List, Ok}
use Rattle.grid.specs.declared.Shape.{Shape}
use Rattle.kinds.specs.declared.Size.{Size}
use Rattle.varmap.specs.declared.cells.Cell.{Cell}
use Rattle.frame.specs.declared.stages.Stage.{Stage}
use Rattle.varmap.specs.Cells.{cells}
use Rattle.varmap.specs.Map.{LawfulMap}
use Rattle.frame.specs.Placing.{place_judged, placed}
use Rattle.frame.specs.Counts.{filled}

-- the map stays lawful
abbrev pub KeepsLawful : Type 0
KeepsLawful =
    (w8 h8 : ℕ) (st : Stage) (s : Shape) (xs : List Cell) (kind x y mul : ℕ) (z : Size)
    → place_judged w8 h8 st s xs kind x y mul ≡ Ok z → LawfulMap w8 h8 (cells s (placed s kind x y mul xs))

-- as many cells more are not empty as the varblock has
abbrev pub AddsCells : Type 0
AddsCells =
    (w8 h8 : ℕ) (st : Stage) (s : Shape) (xs : List Cell) (kind x y mul : ℕ) (z : Size)
    → place_judged w8 h8 st s xs kind x y mul ≡ Ok z
    → filled w8 h8 (cells s (placed s kind x y mul xs)) ≡ filled w8 h8 (cells s xs) + z.width * z.height
