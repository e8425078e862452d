use Rattle.std.proofs.Common.{◌≡◌, ℕ, ◌<◌}
use Rattle.dct.specs.Transform.{at}
use Rattle.tablet.specs.Bytes.{number}
use Rattle.tablet.proofs.decode.Given as goal

abbrev pub invariant-loop-i : goal.invariant-loop-i
invariant-loop-i l = (k : ℕ) → k < l.i → at l.block k ≡ number l.bytes k
