use Rattle.std.proofs.Common.{◌+◌, ◌*◌, ◌/◌, ◌%◌, rules}
use lib.Ieee.{nan}
use Rattle.dct.specs.Transform.{at}
use Rattle.cells.proofs.Made.{made_at}
use Rattle.cells.proofs.Parts.{flipped_is}
use Rattle.cells.proofs.columns.flip.Goals as goal

pub returns : goal.returns
returns c = flipped_is c.args.block.now _ (λ k h. made_at _ _ (λ k. at c.args.block.now (k % 8 * 8 + k / 8)) (λ i y q s. search rules) _ 64 c.from_fn.ensures.items k nan h)
