use Rattle.varmap.specs.Cells.{cells}
use Rattle.varmap.specs.Map.{cell_ok}
use Rattle.refusal.proofs.Checked.{Clear}
use Rattle.varmap.proofs.lawful.check_cells.Given as goal

abbrev pub invariant-loop-y : goal.invariant-loop-y
invariant-loop-y l =
    Clear l.map.shape.width (cell_ok l.map.shape.width l.map.shape.height (cells l.map.shape l.map.list.now)) 0 l.y

abbrev pub invariant-loop-x : goal.invariant-loop-x
invariant-loop-x l =
    Clear l.map.shape.width (cell_ok l.map.shape.width l.map.shape.height (cells l.map.shape l.map.list.now)) l.x l.y
