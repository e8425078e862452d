-- Powers of two are told apart by their exponents.
use Rattle.std.proofs.Common.{◌≡◌, ℕ, ◌^◌, ◌<◌, ◌≤◌, sym, inl, inr, le_of_eq, arith}
use lib.Pow.{pow-lt}
use Rattle.std.proofs.lemmas.Bool.{cases_lt}

pub pow_le : (a b : ℕ) → 2 ^ a ≤ 2 ^ b → a ≤ b
pow_le a b h = elim (cases_lt b a) [ inl l ↦ absurd (clash (2 ^ a) (2 ^ b) h (pow-lt l)) | inr g ↦ g ]
  where
    clash : (x y : ℕ) → x ≤ y → y < x → ⊥
    clash x y p q = omega arith

pub pow_inj : (a b : ℕ) → 2 ^ a ≡ 2 ^ b → a ≡ b
pow_inj a b e = let p : a ≤ b = pow_le a b (le_of_eq e) in let q : b ≤ a = pow_le b a (le_of_eq (sym e)) in omega arith
