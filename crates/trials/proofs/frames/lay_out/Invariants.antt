use Rattle.std.proofs.Common.{◌+◌, ◌*◌, ◌≤◌}
use Rattle.trials.proofs.frames.lay_out.Given as goal

-- at most one varblock for each cell so far
abbrev pub invariant-loop-y : goal.invariant-loop-y
invariant-loop-y l = l.leads ≤ l.y * l.frame.w8

abbrev pub invariant-loop-x : goal.invariant-loop-x
invariant-loop-x l = l.leads ≤ l.y * l.frame.w8 + l.x
