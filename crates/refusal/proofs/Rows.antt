-- What an accepted call tells of the rows: each passed.
use Rattle.std.proofs.Common.{◌≡◌, ℕ, Bool, true, false, is_err, Ok, Err, Result, refl, arith}
use Rattle.std.proofs.lemmas.Bool.{true≢false}
use Rattle.refusal.specs.declared.Refusal.{Refusal}
use Rattle.refusal.specs.declared.Reason.{Reason}
use Rattle.refusal.specs.Verdicts.{Verdict, demand, and_then}

pub and_ok : {X : Type 0} (v : Verdict) (r : Result X Refusal) (x : X) → and_then v r ≡ Ok x → (v ≡ Ok tt) × (r ≡ Ok x)
and_ok (Ok u) r x e = (refl, e)
and_ok (Err f) r x e = let bad : ◌≡◌ {A = ℕ} 0 1 = cc in absurd (omega arith)

pub demand_ok : (b : Bool) (why : Reason) → demand b why ≡ Ok tt → b ≡ true
demand_ok true why e = refl
demand_ok false why e = let bad : ◌≡◌ {A = ℕ} 0 1 = cc in absurd (omega arith)

pub not_err : {X E : Type 0} (r : Result X E) → is_err r ≡ false → (x : X) × (r ≡ Ok x)
not_err (Ok x) e = (x, refl)
not_err (Err f) e = absurd (true≢false e)
