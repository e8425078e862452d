-- What `open` and `place` answer and write.
use Rattle.std.specs.Prelude.{◌≡◌, ℕ, ◌+◌, Bool, cond, ◌&&◌, List, length, Some, None, Ok, Err, Option, Result, ◌==◌, nat_le}
use Rattle.grid.specs.declared.Shape.{Shape}
use Rattle.grid.specs.Index.{sized}
use Rattle.grid.specs.Painted.{painted, patch, solid}
use Rattle.kinds.specs.declared.Size.{Size}
use Rattle.kinds.specs.Kinds.{size_of}
use Rattle.refusal.specs.declared.Refusal.{Refusal}
use Rattle.refusal.specs.declared.Reason.TheVariants as reason
use Rattle.refusal.specs.Verdicts.{Verdict, Answer, refusal, demand, and_then, checked_cells}
use Rattle.varmap.specs.declared.cells.Cell.{Cell}
use Rattle.varmap.specs.declared.cells.Record.{Record}
use Rattle.varmap.specs.declared.cells.Record.TheVariants.{Empty, Lead, Covered}
use Rattle.frame.specs.declared.frame.Frame.{Frame}
use Rattle.frame.specs.declared.stages.Stage.{Stage}
use Rattle.frame.specs.declared.stages.Stage.TheVariants as stage
use Rattle.varmap.specs.Cells.{cell, cells, is_empty}
use Rattle.frame.specs.Stages.{is_placing}
use Rattle.varmap.specs.Map.{in_range, map_checked}

-- how many cells a frame may have across or down
abbrev pub cells_ok : ℕ → Bool
cells_ok n = nat_le 1 n && nat_le n 128

-- whether `open` is refused, for a map of the shape s over n elements
abbrev pub open_judged : ℕ → ℕ → Shape → ℕ → Verdict
open_judged w8 h8 s n = demand ((cells_ok w8 && cells_ok h8) && sized w8 h8 s n) reason.Shape

-- what `open` answers: the refusal, or a frame of w8 × h8 cells in which nothing was done
abbrev pub Opened : ℕ → ℕ → Verdict → Result Frame Refusal → Type 0
Opened w8 h8 (Ok _) (Ok f) = (f.w8 ≡ w8) × (f.h8 ≡ h8) × (f.stage ≡ stage.Placing)
Opened w8 h8 (Ok _) (Err e) = ⊥
Opened w8 h8 (Err r) (Ok f) = ⊥
Opened w8 h8 (Err r) (Err e) = e ≡ r

-- the map's list after an accepted `open`: every cell inside is empty, and every other element as before
abbrev pub emptied : Shape → List Cell → List Cell
emptied s xs = painted s (solid (cell Empty)) xs

-- the rectangle of size z at (x, y) lies in the map
abbrev pub rectangle_ok : ℕ → ℕ → ℕ → ℕ → Size → Bool
rectangle_ok w8 h8 x y z = nat_le (x + z.width) w8 && nat_le (y + z.height) h8

-- the cell (i, j) of the rectangle at (x, y) is empty
abbrev pub free_at : (ℕ → ℕ → Record) → ℕ → ℕ → ℕ → ℕ → Bool
free_at m x y i j = is_empty (m (x + i) (y + j))

abbrev pub taken_at : ℕ → ℕ → ℕ → ℕ → Refusal
taken_at x y i j = refusal reason.Taken 0 (x + i) (y + j)

-- the first cell of the rectangle that is not empty
unfoldable pub free_checked : (ℕ → ℕ → Record) → ℕ → ℕ → Size → Verdict
free_checked m x y z = checked_cells z.width z.height (free_at m x y) (taken_at x y)

-- the rows of `place` from KIND on: the size of the varblock, or the refusal
abbrev pub sized_placing : ℕ → ℕ → (ℕ → ℕ → Record) → ℕ → ℕ → ℕ → Option Size → Result Size Refusal
sized_placing w8 h8 m x y mul None = Err (refusal reason.Kind 0 0 0)
sized_placing w8 h8 m x y mul (Some z) =
    and_then (demand (rectangle_ok w8 h8 x y z) reason.Place)
    (and_then (free_checked m x y z) (and_then (demand (in_range mul) reason.Range) (Ok z)))

-- all rows of `place`, for the map of the shape s over xs
abbrev pub place_judged : ℕ → ℕ → Stage → Shape → List Cell → ℕ → ℕ → ℕ → ℕ → Result Size Refusal
place_judged w8 h8 st s xs kind x y mul =
    and_then (demand (is_placing st) reason.Turn)
    (and_then (demand (sized w8 h8 s (length xs)) reason.Shape)
    (and_then (map_checked w8 h8 (cells s xs)) (sized_placing w8 h8 (cells s xs) x y mul (size_of kind))))

abbrev pub answered : Result Size Refusal → Answer
answered (Ok z) = Ok 0
answered (Err e) = Err e

-- what `place` answers
abbrev pub place_answer : ℕ → ℕ → Stage → Shape → List Cell → ℕ → ℕ → ℕ → ℕ → Answer
place_answer w8 h8 st s xs kind x y mul = answered (place_judged w8 h8 st s xs kind x y mul)

-- the cell (i, j) of a varblock: its lead, or one that points back to it
abbrev pub stamp : ℕ → ℕ → ℕ → ℕ → Cell → Cell
stamp kind mul i j old = cell (cond (i == 0 && j == 0) (Lead kind mul) (Covered i j))

abbrev pub stamped : Shape → ℕ → ℕ → ℕ → ℕ → Option Size → List Cell → List Cell
stamped s kind x y mul None xs = xs
stamped s kind x y mul (Some z) xs = painted s (patch x y z.width z.height (stamp kind mul)) xs

-- the map's list after an accepted `place`
abbrev pub placed : Shape → ℕ → ℕ → ℕ → ℕ → List Cell → List Cell
placed s kind x y mul xs = stamped s kind x y mul (size_of kind) xs
