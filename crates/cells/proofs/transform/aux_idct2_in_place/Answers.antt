use Rattle.std.proofs.Common.{◌/◌, arith}
use Rattle.cells.proofs.Blocks.{merging_all}
use Rattle.cells.proofs.transform.aux_idct2_in_place.Goals as goal

pub returns : goal.returns
returns c = merging_all (c.args.size / 2) c.loop-y.y c.args.block.now c.loop-y.block (omega arith) c.loop-y.invariant
