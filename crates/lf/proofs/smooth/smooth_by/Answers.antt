use Rattle.std.proofs.Common.{arith}
use Rattle.grid.specs.Plane.{lent}
use Rattle.grid.specs.Channels.{planes}
use Rattle.channels.proofs.Fitting.{fits_three}
use Rattle.lf.proofs.Smoothing.{dense_lawful, all_fit_by}
use Rattle.lf.proofs.smooth.smooth_by.Goals as goal

pub invariant_of-parts : goal.invariant_of-parts
invariant_of-parts c =
    let x = (fits_three _ _ (planes (lent c.args.x.now) (lent c.args.y.now) (lent c.args.b.now)) c.requires.fit).0 in
    record { lawful = dense_lawful _ _ _ _ _ x c.dense-shape.ensures (omega (arith, c.split_at_mut-first.ensures.front_len)) }

pub smooth_all-requires : goal.smooth_all-requires
smooth_all-requires c = all_fit_by _ _ (planes (lent c.args.x.now) (lent c.args.y.now) (lent c.args.b.now)) _ c.requires.fit c.dense-shape.ensures
