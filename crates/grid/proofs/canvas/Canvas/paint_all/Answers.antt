use Rattle.std.proofs.Common.{ap, ◌∙◌}
use Rattle.grid.specs.Painted.{painted, patch}
use Rattle.grid.specs.declared.brush.Area.{Area}
use Rattle.grid.proofs.Patch.{patch_whole}
use Rattle.grid.proofs.canvas.Canvas.paint_all.Goals as goal

pub returns : goal.returns
returns g c =
    let grid = c.args.self.now in
    let made = g.B.Brush.made c.args.brush.now in
    record {
      same = c.paint.ensures.same;
      shape = c.paint.ensures.shape;
      list =
          c.paint.ensures.list
          ∙ ap (λ (a : Area). painted grid.shape (patch a.x a.y a.width a.height made) grid.list.now)
          c.area-area.ensures
          ∙ patch_whole grid.shape made grid.list.now grid.lawful;
    }
