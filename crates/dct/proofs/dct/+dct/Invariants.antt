-- Each call is at half the length.
use Rattle.std.proofs.Common.{length}
use Rattle.dct.proofs.dct.+dct.Given as goal

abbrev pub decreases-dct : goal.decreases-dct
decreases-dct l = length l.io.now
