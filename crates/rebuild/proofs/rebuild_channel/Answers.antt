use Rattle.rebuild.proofs.Accepted.{all_ready}
use Rattle.rebuild.proofs.rebuild_channel.Goals as goal

pub each_block-requires-clause-can : goal.each_block-requires-clause-can
each_block-requires-clause-can g c = all_ready _ _ _ _ c.requires
