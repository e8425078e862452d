use Rattle.std.proofs.Common.{sym, ◌∙◌}
use Rattle.std.proofs.lemmas.Bool.{and_parts}
use Rattle.grid.proofs.Sized.{sized_true}
use Rattle.refusal.proofs.Rows.{demand_ok}
use Rattle.frame.proofs.frame.Frame.open.Goals as goal

pub fill_with-requires : goal.fill_with-requires
fill_with-requires c =
    let t = demand_ok _ _ (sym c.in_ok-require.ensures) in
    record { lawful = (sized_true _ _ _ _ (sym c.fits.ensures ∙ (and_parts _ _ t).1)).lawful }
