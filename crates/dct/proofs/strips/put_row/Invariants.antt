use Rattle.dct.specs.Strips.{Rowed}
use Rattle.dct.specs.Transform.{at}
use Rattle.dct.proofs.strips.put_row.Given as goal

abbrev pub invariant-loop-x : goal.invariant-loop-x
invariant-loop-x l = Rowed l.k l.x (at l.row) l.initial.strip l.strip
