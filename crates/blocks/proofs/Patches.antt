-- What is painted on a patch.
use Rattle.std.proofs.Common.{◌≡◌, ℕ, ◌+◌, ◌-◌, ◌<◌, true, false, cond, ◌&&◌, ltb, leb, ◌⊎◌, List, length, sym, ap, ◌∙◌, inl, inr, arith}
use lib.Ieee.{Float}
use Rattle.std.proofs.lemmas.Bool.{cases_Bool, and_parts, ltb-true, leb-true, cond-false}
use Rattle.grid.specs.declared.Shape.{Shape}
use Rattle.grid.specs.Index.{Lawful}
use Rattle.grid.specs.Painted.{painted, patch}
use Rattle.grid.proofs.Laws.{painted_alike}

module _ (s : Shape) (x y : ℕ) (xs : List Float) (l : Lawful s (length xs)) where
  -- functions that agree on the patch
  pub patch_alike : (w h : ℕ) (f g : ℕ → ℕ → Float) → ((i j : ℕ) → i < w → j < h → f i j ≡ g i j)
      → painted s (patch x y w h (λ i j _. f i j)) xs ≡ painted s (patch x y w h (λ i j _. g i j)) xs
  patch_alike w h f g e =
      painted_alike s _ _ xs l (λ p q old k. at p q old (cases_Bool ((leb x p && ltb p (x + w)) && (leb y q && ltb q (y + h)))))
    where
      at : (p q : ℕ) (old : Float)
          → (((leb x p && ltb p (x + w)) && (leb y q && ltb q (y + h))) ≡ true) ⊎ (((leb x p && ltb p (x + w)) && (leb y q && ltb q (y + h))) ≡ false)
          → patch x y w h (λ i j _. f i j) p q old ≡ patch x y w h (λ i j _. g i j) p q old
      at p q old (inl t) =
          let r = and_parts (leb x p && ltb p (x + w)) (leb y q && ltb q (y + h)) t in
          let horizontal = and_parts (leb x p) (ltb p (x + w)) r.0 in
          let vertical = and_parts (leb y q) (ltb q (y + h)) r.1 in
          let a0 = leb-true _ _ horizontal.0 in
          let a1 = ltb-true _ _ horizontal.1 in
          let b0 = leb-true _ _ vertical.0 in
          let b1 = ltb-true _ _ vertical.1 in
          ap (λ v. cond ((leb x p && ltb p (x + w)) && (leb y q && ltb q (y + h))) v old) (e (p - x) (q - y) (omega arith) (omega arith))
      at p q old (inr t) = cond-false _ (f (p - x) (q - y)) old t ∙ sym (cond-false _ (g (p - x) (q - y)) old t)
