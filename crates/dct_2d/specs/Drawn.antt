-- Patches after a strip, or part of one, was written over eight lines.
use Rattle.std.specs.Prelude.{ℕ, ◌+◌, ◌-◌, cond, ◌&&◌, List, ◌==◌, nat_le, nat_lt, Float}
use Rattle.dct.specs.Strips.{lane}
use Rattle.dct.specs.Transform.{at}
use Rattle.dct_2d.specs.declared.lines.Axis.{Axis}
use Rattle.dct_2d.specs.Lines.{fore, back}

-- the first m numbers from (x, y) on become a list's
abbrev pub eight_drawn : ℕ → ℕ → ℕ → List Float → ℕ → ℕ → Float → Float
eight_drawn x y m c p q old = cond (q == y && (nat_le x p && nat_lt p (x + m))) (at c (p - x)) old

-- the first n numbers of the m lines from i on become those of a strip
abbrev pub strip_drawn : Axis → ℕ → ℕ → ℕ → List Float → ℕ → ℕ → Float → Float
strip_drawn ax i m n c x y old =
    cond (nat_lt (back ax x y) n && (nat_le i (fore ax x y) && nat_lt (fore ax x y) (i + m))) (lane c (fore ax x y - i) (back ax x y)) old
