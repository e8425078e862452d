-- What a brush that holds 64 numbers makes of an element.
use Rattle.std.specs.Prelude.{ℕ, ◌+◌, ◌*◌, List, Float}
use Rattle.dct.specs.Transform.{at}

abbrev pub stored : List Float → ℕ → ℕ → Float → Float
stored v x y old = at v (y * 8 + x)
