use Rattle.std.proofs.Common.{◌≡◌}
use Rattle.grid.specs.Painted.{painted, patch}
use Rattle.grid.specs.Drawn.{Drawn}
use Rattle.grid.proofs.Patch.{strip}
use Rattle.grid.proofs.canvas.Canvas.paint_rows.Given as goal

-- from the list at the row's start
abbrev pub invariant-loop-i : goal.invariant-loop-i
invariant-loop-i g l =
    Drawn l.initial.self l.self (painted l.initial.self.shape (strip (g.B.Brush.made l.brush) l.area.x l.area.y l.j l.i) l.initial.self.list.now)

abbrev pub invariant-loop-j : goal.invariant-loop-j
invariant-loop-j g l =
    Drawn l.initial.self l.self (painted l.initial.self.shape (patch l.area.x l.area.y l.area.width l.j (g.B.Brush.made l.brush)) l.initial.self.list.now)
