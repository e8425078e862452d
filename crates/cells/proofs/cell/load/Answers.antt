use Rattle.std.proofs.Common.{arith}
use Rattle.cells.proofs.Blocks.{loaded}
use Rattle.cells.proofs.cell.load.Goals as goal

pub returns : goal.returns
returns c =
    let grid = c.args.raster in
    loaded grid.shape grid.list.now c.loop-y.block c.requires.wide c.requires.high (λ x y a b. c.loop-y.invariant.rows x y a (omega arith))
