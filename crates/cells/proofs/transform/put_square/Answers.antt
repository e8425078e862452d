use Rattle.std.proofs.Common.{ap, rules}
use Rattle.dct.specs.Transform.{at}
use Rattle.cells.proofs.Blocks.{square_written}
use Rattle.cells.proofs.transform.put_square.Goals as goal

pub returns : goal.returns
returns c =
    let e = c.butterfly-sums.ensures in
    square_written c.args.old.now c.args.new.now c.args.half c.args.x c.args.y c.requires.half c.requires.across c.requires.down (search rules)
    _ _ _ _ (ap (λ v. at v 0) e) (ap (λ v. at v 1) e) (ap (λ v. at v 2) e) (ap (λ v. at v 3) e)
