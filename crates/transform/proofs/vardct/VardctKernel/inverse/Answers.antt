use Rattle.std.proofs.Common.{length, sym}
use Rattle.transform.specs.Maps.{inverse}
use Rattle.transform.proofs.Calls.{inverse_works, inverse_idle}
use Rattle.transform.proofs.vardct.VardctKernel.inverse.Goals as goal

pub returns-then-is_block : goal.returns-then-is_block
returns-then-is_block c =
    inverse_works inverse c.args.kind c.args.shape (length c.args.scratch.now) c.args.list.now _
    (sym c.if-is_block.ensures) c.transform.ensures

pub returns-else-is_block : goal.returns-else-is_block
returns-else-is_block c =
    inverse_idle inverse c.args.kind c.args.shape (length c.args.scratch.now) c.args.list.now
    (sym c.if-is_block.ensures)
