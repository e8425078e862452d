-- The stages of a frame, with the number of each.
use Rattle.std.specs.Prelude.{◌≡◌, ℕ, Bool, ◌==◌}
use Rattle.frame.specs.declared.stages.Stage.{Stage}
use Rattle.frame.specs.declared.stages.Stage.TheVariants.{Placing, LfDequantised, LfCorrelated, LfSmoothed, HfDequantised, HfCorrelated, Rebuilt}
use Rattle.frame.specs.declared.frame.Frame.{Frame}

abbrev pub stage_number : Stage → ℕ
stage_number Placing = 0
stage_number LfDequantised = 1
stage_number LfCorrelated = 2
stage_number LfSmoothed = 3
stage_number HfDequantised = 4
stage_number HfCorrelated = 5
stage_number Rebuilt = 6

-- varblocks may be placed
abbrev pub is_placing : Stage → Bool
is_placing s = stage_number s == 0

-- the frame g is the frame f, in the stage s
pub record InStage (f g : Frame) (s : Stage) : Type 0 where
  pub width : g.w8 ≡ f.w8
  pub height : g.h8 ≡ f.h8
  pub stage : g.stage ≡ s
