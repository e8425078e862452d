-- The check of whole numbers and of a colour factor, and what a call goes on with.
use Rattle.std.specs.Prelude.{◌≡◌, ℕ, ℤ, Ok, Err, Result, MatchResult}
use Rattle.grid.specs.declared.xyb.Xyb.{Xyb}
use Rattle.grid.specs.Channels.{planes}
use Rattle.grid.specs.Plane.{Plane, seen}
use Rattle.refusal.specs.declared.Refusal.{Refusal}
use Rattle.refusal.specs.declared.Reason.TheVariants as reason
use Rattle.refusal.specs.Verdicts.{Verdict, Answer, demand, and_then}
use Rattle.channels.specs.declared.colour.ColourFactor.{ColourFactor}
use Rattle.channels.specs.declared.numbers.Numbers.{Numbers}
use Rattle.channels.specs.Ranges.{range_checked, colour_ok}

-- what the check of the channel's numbers p says
abbrev pub judged : ℕ → Plane ℤ → Verdict
judged channel p = range_checked p.shape.width p.shape.height channel p

-- the numbers of p, or the refusal for the first that is out of range
abbrev pub AreNumbers : ℕ → Plane ℤ → Result Numbers Refusal → Type 0
AreNumbers channel p r = MatchResult r (λ n. (judged channel p ≡ Ok tt) × (seen n.grid ≡ p)) (λ e. judged channel p ≡ Err e)

-- X, then Y, then B
abbrev pub all_judged : Xyb (Plane ℤ) → Verdict
all_judged p = and_then (judged 0 p.x) (and_then (judged 1 p.y) (judged 2 p.b))

abbrev pub all_numbers : Xyb Numbers → Xyb (Plane ℤ)
all_numbers n = planes (seen n.x.grid) (seen n.y.grid) (seen n.b.grid)

abbrev pub AllAreNumbers : Xyb (Plane ℤ) → Result (Xyb Numbers) Refusal → Type 0
AllAreNumbers p r = MatchResult r (λ n. (all_judged p ≡ Ok tt) × (all_numbers n ≡ p)) (λ e. all_judged p ≡ Err e)

-- the number as a colour factor, or the refusal
abbrev pub IsColourFactor : ℕ → Result ColourFactor Refusal → Type 0
IsColourFactor n r = MatchResult r (λ c. (demand (colour_ok n) reason.Range ≡ Ok tt) × (c.value ≡ n)) (λ e. demand (colour_ok n) reason.Range ≡ Err e)

-- the call answers a: it is accepted, and goes on with what P holds of, or it is refused
abbrev pub Judged : {X : Type 0} → Answer → (X → Type 0) → Result X Refusal → Type 0
Judged a P r = MatchResult r (λ x. (a ≡ Ok 0) × P x) (λ e. a ≡ Err e)
