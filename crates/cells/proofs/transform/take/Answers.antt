use Rattle.std.proofs.Common.{◌+◌, ◌*◌, ◌/◌, ◌%◌, rules}
use lib.Ieee.{nan}
use Rattle.dct.specs.Transform.{at}
use Rattle.cells.proofs.Made.{made_all}
use Rattle.cells.proofs.transform.take.Goals as goal

pub returns : goal.returns
returns c =
    made_all _ _ (λ k. at c.args.coeff.now ((c.args.y + 2 * (k / 4)) * 8 + (c.args.x + 2 * (k % 4)))) (λ i r q s. search rules) _ 16 nan c.from_fn.ensures.items
