-- The lines below x are written.
use Rattle.grid.specs.Drawn.{Drawn}
use Rattle.grid.specs.Painted.{painted}
use Rattle.dct_2d.specs.declared.lines.Axis.TheVariants.{Rows}
use Rattle.dct_2d.specs.Drawn.{strip_drawn}
use Rattle.dct_2d.proofs.strips.store_rows.Given as goal

abbrev pub invariant-loop-x : goal.invariant-loop-x
invariant-loop-x l =
    let grid = l.initial.canvas in
    Drawn grid l.canvas (painted grid.shape (strip_drawn Rows l.y l.x grid.shape.width l.strip) grid.list.now)
