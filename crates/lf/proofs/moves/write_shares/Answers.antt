use Rattle.grid.specs.Plane.{seen}
use Rattle.lf.proofs.Smoothing.{holds, holds_share}
use Rattle.lf.proofs.moves.write_shares.Goals as goal

pub returns-clause-holds : goal.returns-clause-holds
returns-clause-holds c x y hx hy =
    holds_share _ _ _ _ (seen c.args.share.now.x) (seen c.args.share.now.y) x y (seen c.args.share.now.b)
    (holds _ _ c.inner.result _ _ _ c.args.shares.now.lawful c.inner.ensures c.paint.ensures.shape c.paint.ensures.list) hx hy
