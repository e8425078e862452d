use Rattle.std.proofs.Common.{◌+◌, ◌*◌, ◌/◌, ◌%◌, rules}
use lib.Ieee.{nan}
use Rattle.dct.specs.Transform.{at}
use Rattle.cells.proofs.Made.{made_at}
use Rattle.cells.proofs.Parts.{swapped_is}
use Rattle.cells.proofs.columns.swap.Goals as goal

pub returns : goal.returns
returns c = swapped_is c.args.block.now _ (λ k h. made_at _ _ (λ k. at c.args.block.now ((4 * (k % 8 / 4) + k / 8 % 4) * 8 + (4 * (k / 8 / 4) + k % 8 % 4))) (λ i y q s. search rules) _ 64 c.from_fn.ensures.items k nan h)
