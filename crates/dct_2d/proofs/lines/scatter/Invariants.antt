-- The places below k are written.
use Rattle.grid.specs.Drawn.{Drawn}
use Rattle.grid.specs.Painted.{painted}
use Rattle.dct_2d.specs.Lines.{drawn}
use Rattle.dct_2d.proofs.lines.scatter.Given as goal

abbrev pub invariant-loop-k : goal.invariant-loop-k
invariant-loop-k l =
    let grid = l.initial.canvas in
    Drawn grid l.canvas (painted grid.shape (drawn l.axis l.i l.k l.line) grid.list.now)
