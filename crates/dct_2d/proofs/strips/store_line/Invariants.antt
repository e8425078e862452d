-- The numbers below 8i are written.
use Rattle.std.proofs.Common.{◌*◌}
use Rattle.grid.specs.Drawn.{Drawn}
use Rattle.grid.specs.Painted.{painted}
use Rattle.dct.specs.Strips.{lanes}
use Rattle.dct_2d.specs.declared.lines.Axis.TheVariants.{Rows}
use Rattle.dct_2d.specs.Lines.{drawn}
use Rattle.dct_2d.proofs.strips.store_line.Given as goal

abbrev pub invariant-loop-i : goal.invariant-loop-i
invariant-loop-i l =
    let grid = l.initial.canvas in
    Drawn grid l.canvas (painted grid.shape (drawn Rows l.y (l.i * 8) (lanes grid.shape.width l.strip l.x)) grid.list.now)
