-- The numbers below 8i are read.
use Rattle.std.proofs.Common.{◌*◌}
use Rattle.dct.specs.Strips.{Laned}
use Rattle.dct_2d.specs.declared.lines.Axis.TheVariants.{Rows}
use Rattle.dct_2d.specs.Lines.{read_line}
use Rattle.dct_2d.proofs.strips.load_line.Given as goal

abbrev pub invariant-loop-i : goal.invariant-loop-i
invariant-loop-i l = Laned l.x (l.i * 8) (read_line l.canvas.shape Rows l.y l.canvas.list.now) l.initial.strip l.strip
