use Rattle.blocks.specs.Walk.{rest}
use Rattle.blocks.proofs.Working.{Left}
use Rattle.blocks.proofs.work.work_on_each.Given as goal

abbrev pub invariant-loop-block : goal.invariant-loop-block
invariant-loop-block g l =
    (goal.iterator-loop-block g).can_next l.block-iterator
    × (goal.iterator-loop-block g).is_finite l.block-iterator
    × Left l.map (g.W.Work.made l.work) (rest l.block-iterator) l.count l.initial.canvas l.canvas
