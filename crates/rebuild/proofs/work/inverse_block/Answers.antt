use Rattle.rebuild.proofs.Sides.{area_block}
use Rattle.rebuild.proofs.work.inverse_block.Goals as goal

pub inverse_patch-requires-clause-block : goal.inverse_patch-requires-clause-block
inverse_patch-requires-clause-block g c = (area_block c.args.block c.area.result c.area.ensures).0

pub inverse_patch-requires-clause-wide : goal.inverse_patch-requires-clause-wide
inverse_patch-requires-clause-wide g c = (area_block c.args.block c.area.result c.area.ensures).1

pub inverse_patch-requires-clause-tall : goal.inverse_patch-requires-clause-tall
inverse_patch-requires-clause-tall g c = (area_block c.args.block c.area.result c.area.ensures).2
