use Rattle.refusal.proofs.Checked.{Clear}
use Rattle.varmap.specs.Cells.{cells}
use Rattle.frame.specs.Placing.{free_at}
use Rattle.frame.proofs.placing.check_free.Given as goal

abbrev pub invariant-loop-j : goal.invariant-loop-j
invariant-loop-j l = Clear l.size.width (free_at (cells l.map.shape l.map.list.now) l.x l.y) 0 l.j

abbrev pub invariant-loop-i : goal.invariant-loop-i
invariant-loop-i l = Clear l.size.width (free_at (cells l.map.shape l.map.list.now) l.x l.y) l.i l.j
