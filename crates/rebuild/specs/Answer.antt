-- What rebuild answers: the rows of the table in their order, and the number of leads.
use Rattle.std.specs.Prelude.{ℕ, ◌*◌, Bool, ◌&&◌, ◌||◌, length, Ok, ◌==◌, nat_le, Float}
use Rattle.grid.specs.declared.xyb.Xyb.{Xyb}
use Rattle.grid.specs.Plane.{Plane, fitting}
use Rattle.refusal.specs.declared.Reason.TheVariants as reason
use Rattle.refusal.specs.Verdicts.{Verdict, Answer, demand, and_then}
use Rattle.varmap.specs.declared.cells.Cell.{Cell}
use Rattle.varmap.specs.Cells.{cells}
use Rattle.varmap.specs.Map.{map_checked}
use Rattle.frame.specs.declared.stages.Stage.{Stage}
use Rattle.frame.specs.Stages.{stage_number}
use Rattle.grid.specs.Channels.{all_fit}
use Rattle.blocks.specs.Leads.{leads}

abbrev pub rebuild_turn : Stage → Bool
rebuild_turn st = stage_number st == 4 || stage_number st == 5

-- the rows, from whether the sample grids fit; scratch has `room` numbers
abbrev pub rebuild_judged : ℕ → ℕ → Stage → Bool → Plane Cell → Xyb (Plane Float) → ℕ → Verdict
rebuild_judged w8 h8 st fit map lf room =
    and_then (demand (rebuild_turn st) reason.Turn)
    (and_then (demand ((fit && fitting w8 h8 map) && all_fit w8 h8 lf) reason.Shape)
    (and_then (demand (nat_le 512 room) reason.Scratch) (map_checked w8 h8 (cells map.shape map.list))))

-- how many leads a map has
abbrev pub lead_count : ℕ → ℕ → Plane Cell → ℕ
lead_count w8 h8 map = length (leads w8 h8 (cells map.shape map.list))

-- what rebuild answers
abbrev pub rebuild_answer : ℕ → ℕ → Stage → Plane Cell → Xyb (Plane Float) → Xyb (Plane Float) → ℕ → Answer
rebuild_answer w8 h8 st map lf samples room =
    and_then (rebuild_judged w8 h8 st (all_fit (8 * w8) (8 * h8) samples) map lf room) (Ok (lead_count w8 h8 map))
