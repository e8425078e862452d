-- An array that is made by calls at each index, of a closure that changes nothing.
use Rattle.std.proofs.Common.{◌≡◌, ℕ, zero, suc, ◌+◌, ◌<◌, List, map, get_or, sym, ap, ◌∙◌, subst, arith}
use Rattle.std.specs.List.{range_with_len}
use Rattle.std.proofs.lemmas.List.FromFn.{fill_by_all}
use Rattle.std.specs.Fn.{Mut, Called}
use Rattle.std.specs.Array.{IsFromFnResult, IsFromFnResultFrom}

module _ {F B : Type 0} (g : Mut F (ℕ × Unit {0}) B) (f : F) (h : ℕ → B)
    (step : (i : ℕ) (y : B) (q : F) → Called g f (i, tt) y q → (y ≡ h i) × (q ≡ f)) where
  made_from : (ys : List B) (i n : ℕ) → IsFromFnResultFrom g f ys i n → (k j : ℕ) (d : B) → k < n → j ≡ i + k → get_or ys j d ≡ h j
  made_from ys i zero m k j d l e = absurd (omega arith)
  made_from ys i (suc n) m zero j d l e =
      let z : j ≡ i = omega arith in
      ap (λ (t : ℕ). get_or ys t d) z ∙ m.2.1 d ∙ (step i m.1 m.0 m.3).0 ∙ ap h (sym z)
  made_from ys i (suc n) m (suc k) j d l e =
      made_from ys (i + 1) n (subst (λ (p : F). IsFromFnResultFrom g p ys (i + 1) n) (step i m.1 m.0 m.3).1 m.4) k j d (omega arith) (omega arith)

  pub made_at : (ys : List B) (n : ℕ) → IsFromFnResult g f ys n → (k : ℕ) (d : B) → k < n → get_or ys k d ≡ h k
  made_at ys n m k d l = made_from ys 0 n m.each k k d l (omega arith)

  pub made_all : (ys : List B) (n : ℕ) → B → IsFromFnResult g f ys n → ys ≡ map h (range_with_len 0 n)
  made_all ys n d m = fill_by_all h ys n d m.long (λ k l. made_at ys n m k d l)
