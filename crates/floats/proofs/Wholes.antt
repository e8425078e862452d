-- Zeros and whole numbers: both are numbers of which four stay below the format's end.
use Rattle.std.proofs.Common.{◌≡◌, ℕ, suc, ◌*◌, ◌^◌, ◌<◌, ◌≤◌, Bool, true, false, ℤ, pos, negsuc, sym, refl, ap, ◌∙◌, subst, inl, inr, mul-lt-mul_of_pos_right, mul-one, mul_right_comm, arith, pow_pos}
use lib.Ieee.{Float, nan, inf, fin, binary32, up, down, round, of_int, fits}
use lib.Ieee.Back.{round_whole}
use lib.Ieee.Exact.{HasValue}
use lib.Ieee.Fits.{round-fits, down_pos}
use Rattle.floats.specs.Arith.{nought}
use Rattle.floats.specs.Same.{Zero, Same, Finite, Number, Room, Modest}

-- ---- zeros

pub nought_number : Number nought
unfolding fits
nought_number = (tt, tt)

pub nought_room : Room 4 nought
nought_room = pow_pos 128

pub zero_of : (x : Float) → Same x nought → Zero x
zero_of x (inl e) = subst Zero (sym e) refl
zero_of x (inr h) = h.0

pub same_nought : (x : Float) → Zero x → Same x nought
same_nought x h = inr (h, refl)

-- ---- whole numbers

whole_room : (x : Float) (s : Bool) (n : ℕ) → n ≤ 4194304 → HasValue x s n 1 → Room 4 x
whole_room nan s n l h = h
whole_room (inf t) s n l h = h
whole_room (fin t m e) s n l h = small (m * up e) n (down e) l (sym (mul-one (m * up e)) ∙ h.1) (down_pos e)
  where
    less : (a n : ℕ) → n ≤ 4194304 → n * 4 < 2 ^ 128
    less a n l = omega arith

    small : (a n d : ℕ) → n ≤ 4194304 → a ≡ n * d → 0 < d → a * 4 < 2 ^ 128 * d
    small a n d l e p = subst (λ (x : ℕ). x < 2 ^ 128 * d) (mul_right_comm n 4 d ∙ ap (λ (x : ℕ). x * 4) (sym e)) (mul-lt-mul_of_pos_right (less a n l) p)

whole_finite : (x : Float) (s : Bool) (n : ℕ) → HasValue x s n 1 → Finite x
whole_finite nan s n h = h
whole_finite (inf t) s n h = h
whole_finite (fin t m e) s n h = tt

whole_number : (s : Bool) (n : ℕ) → n ≤ 4194304 → Number (round binary32 s n 1) × Room 4 (round binary32 s n 1)
whole_number s n l =
    let h = round_whole binary32 s n (below n l) in
    ((whole_finite (round binary32 s n 1) s n h, round-fits binary32 s n 1), whole_room (round binary32 s n 1) s n l h)
  where
    below : (n : ℕ) → n ≤ 4194304 → n ≤ 2 ^ 24
    below n l = omega arith

pub wholes : (z : ℤ) → Modest z → Number (of_int binary32 z) × Room 4 (of_int binary32 z)
unfolding of_int
wholes (pos n) l = whole_number false n l
wholes (negsuc n) l = whole_number true (suc n) l
