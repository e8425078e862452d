use Rattle.std.proofs.Common.{sym, ◌∙◌}
use Rattle.grid.proofs.Sized.{sized_true}
use Rattle.grid.proofs.View.sized.Goals as goal

pub invariant_of-result : goal.invariant_of-result
invariant_of-result g c = record { lawful = (sized_true _ _ _ _ (sym c.fits.ensures ∙ c.if-fits.true)).lawful }
