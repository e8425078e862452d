use Rattle.std.proofs.Common.{ap, ◌∙◌}
use Rattle.grid.specs.declared.Shape.{Shape}
use Rattle.grid.specs.Plane.{lent, seen}
use Rattle.grid.proofs.Laws.{length_painted, became_like, lawful_became}
use Rattle.lf.proofs.Smoothing.{painted_inner, moved_smoothed}
use Rattle.lf.proofs.moves.move_channel.Goals as goal

pub returns-clause-fits : goal.returns-clause-fits
returns-clause-fits c =
    let was = c.requires.fits in
    let became = c.paint.ensures in
    record {
      lawful = lawful_became _ _ _ became (length_painted _ _ _) was.lawful;
      width = ap (λ (s : Shape). s.width) became.shape ∙ was.width;
      height = ap (λ (s : Shape). s.height) became.shape ∙ was.height;
    }

pub returns-clause-smoothed : goal.returns-clause-smoothed
returns-clause-smoothed c lf steps hc hs =
    became_like _ _ _ _
    (painted_inner _ _ _ c.inner.result _ _ c.requires.fits.lawful c.inner.ensures
    ∙ moved_smoothed _ _ lf steps (lent c.args.samples.now) (seen c.args.changes) (seen c.args.shares) c.requires.fits.lawful hc hs)
    c.paint.ensures
