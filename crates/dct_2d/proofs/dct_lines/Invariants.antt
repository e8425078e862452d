-- The lines below i are transformed.
use Rattle.std.proofs.Common.{◌≡◌, ℕ, ◌^◌}
use Rattle.grid.specs.Drawn.{Drawn}
use Rattle.grid.specs.Painted.{painted}
use Rattle.grid.specs.Window.{elements}
use Rattle.dct_2d.specs.Lines.{back, lined, lined_to}
use Rattle.dct_2d.proofs.dct_lines.Given as goal

abbrev pub invariant-loop-i : goal.invariant-loop-i
invariant-loop-i l =
    let grid = l.initial.canvas in
    record {
      shape : l.canvas.shape ≡ grid.shape;
      lines : (k : ℕ) → back l.axis grid.shape.width grid.shape.height ≡ 2 ^ k
          → Drawn grid l.canvas (painted grid.shape (lined_to l.axis l.i (lined l.direction l.axis k (elements grid.shape grid.list.now))) grid.list.now);
    }
