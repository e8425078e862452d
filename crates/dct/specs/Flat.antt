-- What the flat laws speak of: one number throughout, and one number first with zeros after it.
use Rattle.std.specs.Prelude.{ℕ, ◌<◌, List, Float}
use Rattle.floats.specs.Same.{Zero, Same}
use Rattle.dct.specs.Transform.{at}

-- c first, and zeros up to the place n
pub record Pulse (n : ℕ) (v : List Float) (c : Float) : Type 0 where
  pub first : Same (at v 0) c
  pub others : (i : ℕ) → 0 < i → i < n → Zero (at v i)

-- c at each place below n
abbrev pub Level : ℕ → List Float → Float → Type 0
Level n v c = (i : ℕ) → i < n → Same (at v i) c
