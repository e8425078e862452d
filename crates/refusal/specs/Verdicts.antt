-- The answer of a call is a function of what it is given: the rows of the table of refusals, in order. A row passes or refuses;
-- the first that refuses counts.
use Rattle.std.specs.Prelude.{ℕ, zero, suc, ◌*◌, ◌/◌, ◌%◌, Bool, cond, ◌&&◌, ◌||◌, is_err, Ok, Err, Result, ◌==◌, nat_lt}
use Rattle.refusal.specs.declared.Reason.{Reason}
use Rattle.refusal.specs.declared.Refusal.{Refusal}

-- what one row says
abbrev pub Verdict : Type 0
Verdict = Result (Unit {0}) Refusal

-- what a call says: a number, or a refusal
abbrev pub Answer : Type 0
Answer = Result ℕ Refusal

abbrev pub refusal : Reason → ℕ → ℕ → ℕ → Refusal
refusal why channel x y = record { reason = why; place = record { channel = channel; x = x; y = y } }

-- a row that names no place
abbrev pub demand : Bool → Reason → Verdict
demand ok why = cond ok (Ok tt) (Err (refusal why 0 0 0))

-- one row, then the others
abbrev pub and_then : {X : Type 0} → Verdict → Result X Refusal → Result X Refusal
and_then (Ok _) r = r
and_then (Err e) r = Err e

-- n places from k on, up to the first that fails
unfoldable pub checked_from : {E : Type 0} → (ℕ → Bool) → (ℕ → E) → ℕ → ℕ → Result (Unit {0}) E
checked_from ok err zero k = Ok tt
checked_from ok err (suc n) k = cond (ok k) (checked_from ok err n (suc k)) (Err (err k))

-- w by h places in row order, up to the first that fails
unfoldable pub checked_cells : {E : Type 0} → ℕ → ℕ → (ℕ → ℕ → Bool) → (ℕ → ℕ → E) → Result (Unit {0}) E
unfolding checked_from
checked_cells w h ok err = checked_from (λ k. ok (k % w) (k / w)) (λ k. err (k % w) (k / w)) (w * h) 0

-- (x, y) comes before (X, Y) in row order
abbrev pub before : ℕ → ℕ → ℕ → ℕ → Bool
before X Y x y = nat_lt y Y || (y == Y && nat_lt x X)

-- what a call leaves of something: as it was where it refuses, the new where it accepts
abbrev pub kept_or : {A X : Type 0} → Result X Refusal → A → A → A
kept_or r old new = cond (is_err r) old new
