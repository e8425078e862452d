use Rattle.hf.proofs.Accepted.{accepted}
use Rattle.hf.proofs.dequantise.hf_dequantise.Goals as goal

pub write_channels-requires : goal.write_channels-requires
write_channels-requires c =
    let frame = c.args.frame.now in
    let k =
    accepted frame.w8 frame.h8 frame.stage _ _ _ c.in_ok-map.map _ _ c.args.by c.views.ensures c.in_ok-map.ensures.0 c.in_ok-map.ensures.1 in
    record { x = k.x; y = k.y; b = k.b }
