use Rattle.lf.proofs.Smoothing.{holds}
use Rattle.lf.proofs.moves.write_changes.Goals as goal

pub returns-clause-holds : goal.returns-clause-holds
returns-clause-holds c =
    holds _ _ c.inner.result _ _ _ c.args.changes.now.lawful c.inner.ensures c.paint.ensures.shape c.paint.ensures.list
