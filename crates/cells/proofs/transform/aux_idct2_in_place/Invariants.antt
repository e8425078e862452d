use Rattle.cells.proofs.Blocks.{Merging}
use Rattle.cells.proofs.transform.aux_idct2_in_place.Given as goal

abbrev pub invariant-loop-x : goal.invariant-loop-x
invariant-loop-x l = Merging l.half l.old l.y l.x l.block

abbrev pub invariant-loop-y : goal.invariant-loop-y
invariant-loop-y l = Merging l.half l.old l.y 0 l.block
