-- Patches that hold nothing past their sides, so that equal patches are equal functions.
use Rattle.std.specs.Prelude.{ℕ, cond, ◌&&◌, nat_lt}
use Rattle.std.specs.Float.{nan}
use Rattle.dct_2d.specs.Plane.{Patch}

-- nan outside the w × h places
abbrev pub framed : ℕ → ℕ → Patch → Patch
framed w h f x y = cond (nat_lt x w && nat_lt y h) (f x y) nan

-- the number at (y, x)
abbrev pub turned : Patch → Patch
turned p x y = p y x
