use Rattle.refusal.proofs.Checked.{Clear}
use Rattle.varmap.specs.Cells.{cells}
use Rattle.varmap.specs.Map.{back_at}
use Rattle.varmap.proofs.lawful.points_back.Given as goal

abbrev pub invariant-loop-j : goal.invariant-loop-j
invariant-loop-j l = Clear l.size.width (back_at (cells l.map.shape l.map.list.now) l.x l.y) 0 l.j

abbrev pub invariant-loop-i : goal.invariant-loop-i
invariant-loop-i l = Clear l.size.width (back_at (cells l.map.shape l.map.list.now) l.x l.y) l.i l.j
