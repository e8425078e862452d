use Rattle.std.proofs.Common.{◌≡◌}
use Rattle.blocks.specs.Walk.{records, rest}
use Rattle.weights.specs.Weights.{placed_weighed}
use Rattle.weights.specs.Kinds.{by_kind}
use Rattle.weights.proofs.Weighed.{judged}
use Rattle.weights.proofs.placed.check_placed.Given as goal

abbrev pub invariant-loop-block : goal.invariant-loop-block
invariant-loop-block l =
    goal.iterator-loop-block.can_next l.block-iterator
    × goal.iterator-loop-block.is_finite l.block-iterator
    × (placed_weighed l.map.grid.shape.width l.map.grid.shape.height (records l.map) l.channel (by_kind l.weights)
    ≡ judged l.channel (by_kind l.weights) (rest l.block-iterator))
