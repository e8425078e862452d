use Rattle.grid.specs.Drawn.{Drawn}
use Rattle.grid.specs.Painted.{painted}
use Rattle.dct_2d.specs.Drawn.{eight_drawn}
use Rattle.dct_2d.proofs.strips.put_eight.Given as goal

abbrev pub invariant-loop-j : goal.invariant-loop-j
invariant-loop-j l =
    let grid = l.initial.canvas in
    Drawn grid l.canvas (painted grid.shape (eight_drawn l.x l.y l.j l.numbers) grid.list.now)
