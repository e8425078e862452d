use Rattle.std.proofs.Common.{◌∙◌}
use Rattle.cells.proofs.Blocks.{stored_all}
use Rattle.cells.proofs.cell.store.Goals as goal

pub returns : goal.returns
returns c =
    let grid = c.args.canvas.now in
    record {
      same = c.paint_all.ensures.same;
      shape = c.paint_all.ensures.shape;
      list = c.paint_all.ensures.list ∙ stored_all grid.shape c.args.block.now grid.list.now c.requires.wide c.requires.high grid.lawful;
    }
