use Rattle.dct.specs.Strips.{Laned}
use Rattle.dct.specs.Transform.{at}
use Rattle.dct.proofs.strips.put_line.Given as goal

abbrev pub invariant-loop-k : goal.invariant-loop-k
invariant-loop-k l = Laned l.x l.k (at l.numbers) l.initial.strip l.strip
