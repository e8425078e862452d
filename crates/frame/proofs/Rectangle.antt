-- The cells of a rectangle, and a patch there.
use Rattle.std.proofs.Common.{◌≡◌, ℕ, ◌+◌, ◌-◌, ◌<◌, ◌≤◌, true, ◌&&◌, ltb, leb, ◌⊎◌, inl, inr, ⊎_elim, arith}
use Rattle.std.proofs.lemmas.Bool.{cases_lt, cases_Bool, and_parts, ltb-true, leb-true, cond-false}
use Rattle.std.proofs.lemmas.Bool.Decides.{nat_tests}
use Rattle.grid.specs.Painted.{patch}
use Rattle.kinds.specs.declared.Size.{Size}

-- the rectangle of size z at (x, y) has the cell (p, q)
pub record In (x y : ℕ) (z : Size) (p q : ℕ) : Type 0 where
  pub left : x ≤ p
  pub right : p < x + z.width
  pub top : y ≤ q
  pub bottom : q < y + z.height

pub cases_in : (x y : ℕ) (z : Size) (p q : ℕ) → In x y z p q ⊎ (In x y z p q → ⊥)
cases_in x y z p q =
    ⊎_elim
    (λ (a : p < x). inr (λ h. omega (arith, h.left)))
    (λ a.
    ⊎_elim
    (λ (b : p < x + z.width).
    ⊎_elim
    (λ (c : q < y). inr (λ h. omega (arith, h.top)))
    (λ c.
    ⊎_elim
    (λ (d : q < y + z.height). inl (record { left = a; right = b; top = c; bottom = d }))
    (λ d. inr (λ h. omega (arith, h.bottom)))
    (cases_lt q (y + z.height)))
    (cases_lt q y))
    (λ b. inr (λ h. omega (arith, h.right)))
    (cases_lt p (x + z.width)))
    (cases_lt p x)

pub in_patch : {X : Type 0} (x y : ℕ) (z : Size) (g : ℕ → ℕ → X → X) (p q : ℕ) (old : X) → In x y z p q
    → patch x y z.width z.height g p q old ≡ g (p - x) (q - y) old
in_patch x y z g p q old k =
    let l = k.left in
    let r = k.right in
    let t = k.top in
    let o = k.bottom in
    grind (arith, nat_tests)

pub out_patch : {X : Type 0} (x y : ℕ) (z : Size) (g : ℕ → ℕ → X → X) (p q : ℕ) (old : X) → (In x y z p q → ⊥)
    → patch x y z.width z.height g p q old ≡ old
out_patch x y z g p q old k =
    let a = leb x p && ltb p (x + z.width) in
    let b = leb y q && ltb q (y + z.height) in
    ⊎_elim
    (λ (e : (a && b) ≡ true).
    let r = and_parts a b e in
    let s = and_parts (leb x p) (ltb p (x + z.width)) r.0 in
    let t = and_parts (leb y q) (ltb q (y + z.height)) r.1 in
    absurd
    (k (record {
      left = leb-true _ _ s.0;
      right = ltb-true _ _ s.1;
      top = leb-true _ _ t.0;
      bottom = ltb-true _ _ t.1;
    })))
    (λ e. cond-false (a && b) (g (p - x) (q - y) old) old e)
    (cases_Bool (a && b))
