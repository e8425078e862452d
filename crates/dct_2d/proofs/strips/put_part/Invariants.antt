use Rattle.std.proofs.Common.{◌≡◌, ℕ, ◌+◌, ◌*◌, ◌<◌, List}
use lib.Ieee.{Float}
use Rattle.dct.specs.Strips.{Laned}
use Rattle.dct.specs.Transform.{at}
use Rattle.dct_2d.proofs.strips.put_part.Given as goal

abbrev pub invariant-loop-j : goal.invariant-loop-j
invariant-loop-j l =
    (f : ℕ → Float) (v : List Float) → ((j : ℕ) → j < 8 → at l.numbers j ≡ f (l.i * 8 + j)) → Laned l.x (l.i * 8) f v l.initial.strip
    → Laned l.x (l.i * 8 + l.j) f v l.strip
