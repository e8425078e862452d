-- The rows below k are written.
use Rattle.grid.specs.Drawn.{Drawn}
use Rattle.grid.specs.Painted.{painted}
use Rattle.dct_2d.specs.declared.lines.Axis.TheVariants.{Columns}
use Rattle.dct_2d.specs.Drawn.{strip_drawn}
use Rattle.dct_2d.proofs.strips.store_columns.Given as goal

abbrev pub invariant-loop-k : goal.invariant-loop-k
invariant-loop-k l =
    let grid = l.initial.canvas in
    Drawn grid l.canvas (painted grid.shape (strip_drawn Columns l.x 8 l.k l.strip) grid.list.now)
