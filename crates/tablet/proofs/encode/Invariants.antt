use Rattle.std.proofs.Common.{◌≡◌, ℕ, ◌*◌, ◌/◌, ◌%◌, ◌<◌, get_or}
use Rattle.dct.specs.Transform.{at}
use Rattle.tablet.specs.Bytes.{byte}
use Rattle.tablet.proofs.encode.Given as goal

abbrev pub invariant-loop-i : goal.invariant-loop-i
invariant-loop-i l = (k : ℕ) → k < 4 * l.i → get_or l.bytes k 0 ≡ byte (at l.block (k / 4)) (k % 4)
