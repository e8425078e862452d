use Rattle.rebuild.proofs.Sides.{corner_sides}
use Rattle.rebuild.proofs.work.forward_corner.Goals as goal

pub forward_patch-requires-clause-wide : goal.forward_patch-requires-clause-wide
forward_patch-requires-clause-wide g c = (corner_sides c.args.block c.corner.result c.corner.ensures).0

pub forward_patch-requires-clause-tall : goal.forward_patch-requires-clause-tall
forward_patch-requires-clause-tall g c = (corner_sides c.args.block c.corner.result c.corner.ensures).1
