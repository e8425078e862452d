use Rattle.grid.specs.Plane.{seen}
use Rattle.hf_correlate.proofs.Judging.{accepted}
use Rattle.hf_correlate.proofs.correlate.hf_correlate.Goals as goal

pub correlate_channel-requires : goal.correlate_channel-requires
correlate_channel-requires c =
    let to = c.in_ok-to.to in
    let told = c.in_ok-to.ensures in
    let found =
    (accepted _ _ _ c.view.result c.view-2.result c.args.x.now c.args.b.now _ (seen to.luma) _ _ (seen to.x.tiles.grid)
    (seen to.b.tiles.grid) c.args.by c.view.ensures.list c.view.ensures.shape c.view-2.ensures.list c.view-2.ensures.shape told.1.0
    told.1.1.tiles_are told.1.2.tiles_are told.0).0 in
    record { lawful = found.lawful; can = found.can }

pub correlate_channel-requires-2 : goal.correlate_channel-requires-2
correlate_channel-requires-2 c =
    let to = c.in_ok-to.to in
    let told = c.in_ok-to.ensures in
    let found =
    (accepted _ _ _ c.view.result c.view-2.result c.args.x.now c.args.b.now _ (seen to.luma) _ _ (seen to.x.tiles.grid)
    (seen to.b.tiles.grid) c.args.by c.view.ensures.list c.view.ensures.shape c.view-2.ensures.list c.view-2.ensures.shape told.1.0
    told.1.1.tiles_are told.1.2.tiles_are told.0).1 in
    record { lawful = found.lawful; can = found.can }
