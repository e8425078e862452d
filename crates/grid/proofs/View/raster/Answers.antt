use Rattle.std.proofs.Common.{refl, sym, ◌∙◌}
use Rattle.grid.proofs.Sized.{is_lawful}
use Rattle.grid.proofs.View.raster.Goals as goal

pub returns-then-is_lawful : goal.returns-then-is_lawful
returns-then-is_lawful g c =
    (sym (is_lawful c.args.self.shape _ c.is_lawful.result c.is_lawful.ensures) ∙ c.if-is_lawful.true, refl)

pub returns-else-is_lawful : goal.returns-else-is_lawful
returns-else-is_lawful g c =
    sym (is_lawful c.args.self.shape _ c.is_lawful.result c.is_lawful.ensures) ∙ c.if-is_lawful.false
