-- The whole numbers that become samples, and the check of a grid of them; colour factors.
use Rattle.std.specs.Prelude.{◌≡◌, ℕ, ◌<◌, Bool, true, ◌&&◌, ℤ, nat_le, unsigned_abs}
use Rattle.grid.specs.Plane.{Plane, numeral}
use Rattle.refusal.specs.declared.Reason.TheVariants as reason
use Rattle.refusal.specs.Verdicts.{Verdict, refusal, checked_cells}

-- f32 holds the number, and every whole number nearer to 0
abbrev pub in_range : ℤ → Bool
in_range n = nat_le (unsigned_abs n) 16777216

abbrev pub in_range_at : Plane ℤ → ℕ → ℕ → Bool
in_range_at numbers x y = in_range (numeral numbers x y)

-- the first number of a channel, row by row, that is out of range
unfoldable pub range_checked : ℕ → ℕ → ℕ → Plane ℤ → Verdict
range_checked w h channel numbers = checked_cells w h (in_range_at numbers) (refusal reason.Range channel)

-- every number of a grid is in range
abbrev pub AllInRange : Plane ℤ → Type 0
AllInRange numbers = (x y : ℕ) → x < numbers.shape.width → y < numbers.shape.height → in_range_at numbers x y ≡ true

-- RANGE: a colour factor
abbrev pub colour_ok : ℕ → Bool
colour_ok colour = nat_le 1 colour && nat_le colour 65793
