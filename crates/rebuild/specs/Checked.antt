-- What an accepted rebuild works with.
use Rattle.std.specs.Prelude.{◌≡◌, Ok, Err, Result, MatchResult, Float}
use Rattle.grid.specs.declared.xyb.Xyb.{Xyb}
use Rattle.grid.specs.Plane.{Plane, seen}
use Rattle.grid.specs.Channels.{all_seen}
use Rattle.refusal.specs.declared.Refusal.{Refusal}
use Rattle.refusal.specs.Verdicts.{Verdict}
use Rattle.varmap.specs.declared.cells.Cell.{Cell}
use Rattle.rebuild.specs.declared.judge.Checked.{Checked}

-- it holds this map and these LF samples
pub record Holds (cells : Plane Cell) (samples : Xyb (Plane Float)) (c : Checked) : Type 0 where
  pub map : seen c.map.grid ≡ cells
  pub lf : all_seen c.lf ≡ samples

-- they are accepted exactly where `verdict` says so, and refused as it says
abbrev pub IsChecked : Verdict → Plane Cell → Xyb (Plane Float) → Result Checked Refusal → Type 0
IsChecked verdict map lf r = MatchResult r (λ c. (verdict ≡ Ok tt) × Holds map lf c) (λ e. verdict ≡ Err e)
