use Rattle.hf_correlate.proofs.LeastTiles.{least_is}
use Rattle.hf_correlate.proofs.tiles.tiles_over.Goals as goal

pub returns : goal.returns
returns c = least_is _ _ c.tiles.ensures
