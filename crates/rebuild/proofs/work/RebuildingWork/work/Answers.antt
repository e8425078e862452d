use Rattle.std.proofs.Common.{ap, arith}
use Rattle.grid.specs.declared.brush.Area.{Area}
use Rattle.grid.specs.Plane.{seen}
use Rattle.kinds.proofs.Sizes.{wide_is, high_is}
use Rattle.kernel.specs.Maps.{maps}
use Rattle.rebuild.proofs.Sides.{size_sides}
use Rattle.rebuild.proofs.Corner.{work_done}
use Rattle.rebuild.proofs.work.RebuildingWork.work.Goals as goal

pub paint-requires-clause-can : goal.paint-requires-clause-can
paint-requires-clause-can g c i j p q =
    let b = c.args.block in
    let ww = wide_is b.varblock.kind b.size b.carried in
    let hh = high_is b.varblock.kind b.size b.carried in
    let w = ap (λ (a : Area). a.width) c.corner-corner.ensures in
    let h = ap (λ (a : Area). a.height) c.corner-corner.ensures in
    record { across = omega (arith, c.requires.can.across, w); down = omega (arith, c.requires.can.down, h) }

pub paint-requires-2-clause-can : goal.paint-requires-2-clause-can
paint-requires-2-clause-can g c i j p q = size_sides c.args.block.varblock.kind c.args.block.size c.args.block.carried

pub returns : goal.returns
returns g c =
    work_done (maps g.K.Kernel.fwd g.K.Kernel.inv) (seen c.args.self.now.lf) c.args.block c.corner-corner.result
    c.args.canvas.now c.paint.new.self c.forward_corner.new.canvas c.paint-2.new.self c.inverse_block.new.canvas
    c.corner-corner.ensures c.requires.across c.requires.down
    c.paint.ensures c.forward_corner.ensures c.paint-2.ensures c.inverse_block.ensures
