-- When two floats count as the same number: equal, or both a zero of any sign. And the floats that can be added to themselves twice.
use Rattle.std.specs.Prelude.{◌≡◌, ℕ, suc, ◌*◌, ◌^◌, ◌<◌, ◌≤◌, T, ◌⊎◌, ℤ, pos, negsuc, Float}
use Rattle.std.specs.Float.{nan, inf, fin, binary32}
use Rattle.std.specs.Float.Ieee.{fits, emax, up, down}

-- a zero, of any sign
abbrev pub Zero : Float → Type 0
Zero nan = ⊥
Zero (inf s) = ⊥
Zero (fin s m e) = m ≡ 0

abbrev pub Same : Float → Float → Type 0
Same x y = (x ≡ y) ⊎ (Zero x × Zero y)

abbrev pub Finite : Float → Type 0
Finite nan = ⊥
Finite (inf s) = ⊥
Finite (fin s m e) = Unit {0}

-- a finite f32
abbrev pub Number : Float → Type 0
Number x = Finite x × T (fits binary32 x)

-- r times the number is still below 2 ^ (emax + 1)
abbrev pub Room : ℕ → Float → Type 0
Room r nan = ⊥
Room r (inf s) = ⊥
Room r (fin s m e) = m * up e * r < 2 ^ suc (emax binary32) * down e

-- a whole number of at most 2 ^ 22 either way
abbrev pub Modest : ℤ → Type 0
Modest (pos n) = n ≤ 4194304
Modest (negsuc n) = n < 4194304
