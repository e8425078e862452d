use Rattle.std.proofs.Common.{length, sym}
use Rattle.transform.specs.Maps.{mean}
use Rattle.transform.proofs.Calls.{is_block, inverse_works, inverse_idle}
use Rattle.transform.proofs.mean.MeanKernel.inverse.Goals as goal

pub spread-requires : goal.spread-requires
spread-requires c =
    (is_block c.args.kind c.args.shape (length c.args.list.now) (length c.args.scratch.now)
    (sym c.if-is_block.ensures)).lawful

pub returns-then-is_block : goal.returns-then-is_block
returns-then-is_block c =
    inverse_works mean c.args.kind c.args.shape (length c.args.scratch.now) c.args.list.now _
    (sym c.if-is_block.ensures) c.spread.ensures

pub returns-else-is_block : goal.returns-else-is_block
returns-else-is_block c =
    inverse_idle mean c.args.kind c.args.shape (length c.args.scratch.now) c.args.list.now
    (sym c.if-is_block.ensures)
