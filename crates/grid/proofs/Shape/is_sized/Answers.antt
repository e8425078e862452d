use Rattle.std.proofs.Common.{◌&&◌, eqb, ap}
use Rattle.grid.specs.Index.{sized}
use Rattle.grid.proofs.Sized.{is_lawful}
use Rattle.grid.proofs.Shape.is_sized.Goals as goal

pub returns : goal.returns
unfolding sized
returns c =
    ap (λ b. (eqb c.args.self.width c.args.w && eqb c.args.self.height c.args.h) && b)
    (is_lawful c.args.self _ c.is_lawful-lawful.result c.is_lawful-lawful.ensures)
