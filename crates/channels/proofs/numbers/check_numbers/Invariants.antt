use Rattle.grid.specs.Plane.{seen}
use Rattle.refusal.proofs.Checked.{Clear}
use Rattle.channels.specs.Ranges.{in_range_at}
use Rattle.channels.proofs.numbers.check_numbers.Given as goal

abbrev pub invariant-loop-y : goal.invariant-loop-y
invariant-loop-y l = Clear l.grid.shape.width (in_range_at (seen l.grid)) 0 l.y

abbrev pub invariant-loop-x : goal.invariant-loop-x
invariant-loop-x l = Clear l.grid.shape.width (in_range_at (seen l.grid)) l.x l.y
