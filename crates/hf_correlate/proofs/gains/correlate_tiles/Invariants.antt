use Rattle.grid.specs.Drawn.{Drawn}
use Rattle.grid.specs.Painted.{painted}
use Rattle.grid.specs.Plane.{seen}
use Rattle.hf_correlate.proofs.Tilewise.{upto}
use Rattle.hf_correlate.proofs.gains.correlate_tiles.Given as goal

abbrev pub invariant-loop-ty : goal.invariant-loop-ty
invariant-loop-ty l =
    let out = l.fn.out in
    Drawn out l.out
    (painted out.shape (upto out.shape (seen l.luma) (seen l.gains.tiles.grid) l.gains.base l.gains.colour.value 0 l.ty) out.list.now)

abbrev pub invariant-loop-tx : goal.invariant-loop-tx
invariant-loop-tx l =
    let out = l.fn.out in
    Drawn out l.out
    (painted out.shape (upto out.shape (seen l.luma) (seen l.gains.tiles.grid) l.gains.base l.gains.colour.value l.tx l.ty) out.list.now)
