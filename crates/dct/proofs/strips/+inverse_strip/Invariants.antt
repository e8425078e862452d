-- Each call is at half the length.
use Rattle.dct.proofs.strips.+inverse_strip.Given as goal

abbrev pub decreases-inverse_strip : goal.decreases-inverse_strip
decreases-inverse_strip l = l.n
