-- A walk over a patch of a grid, row by row and in each row column by column, that writes f i j old at (x + i, y + j).
-- In an invariant `strip f x y j i` is what the patch's row j has behind it, and `patch x y w j f` what the patch has.
use Rattle.std.proofs.Common.{◌≡◌, ℕ, ◌+◌, ◌-◌, cond, ◌&&◌, eqb, ltb, leb, List, length, get_or, set, ◌∙◌, arith}
use Rattle.std.proofs.lemmas.Bool.Decides.{nat_tests}
use Rattle.grid.specs.declared.Shape.{Shape}
use Rattle.grid.specs.Index.{index, Inside, Lawful}
use Rattle.grid.specs.Painted.{painted, patch}
use Rattle.grid.proofs.Laws.{painted_in, painted_more, painted_alike, painted_none, painted_twice}

abbrev pub strip : {X : Type 0} → (ℕ → ℕ → X → X) → ℕ → ℕ → ℕ → ℕ → ℕ → ℕ → X → X
strip f x y j i p q old = cond (eqb q (y + j) && (leb x p && ltb p (x + i))) (f (p - x) j old) old

module _ {X : Type 0} (s : Shape) (f : ℕ → ℕ → X → X) (x y : ℕ) (xs : List X) (l : Lawful s (length xs)) where
  pub strip_none : (j : ℕ) → xs ≡ painted s (strip f x y j 0) xs
  strip_none j = painted_none s (strip f x y j 0) xs l (λ p q old h. grind (arith, nat_tests))

  pub strip_more : (i j : ℕ) (v : X) → Inside s (x + i) (y + j)
      → ((d : X) → v ≡ f i j (get_or xs (index s (x + i) (y + j)) d))
      → set (painted s (strip f x y j i) xs) (index s (x + i) (y + j)) v ≡ painted s (strip f x y j (i + 1)) xs
  strip_more i j v h e =
      painted_more s (strip f x y j i) (strip f x y j (i + 1)) xs (x + i) (y + j) v l h
      (λ d.
      let t = e d in
      let k : x + i - x ≡ i = omega arith in
      rw k (grind (arith, nat_tests)))
      (λ p q old k ne. grind (arith, nat_tests))

  -- what the row has not reached yet is as it was
  pub strip_old : (i j : ℕ) (d : X) → Inside s (x + i) (y + j)
      → get_or (painted s (strip f x y j i) xs) (index s (x + i) (y + j)) d ≡ get_or xs (index s (x + i) (y + j)) d
  strip_old i j d h = painted_in s (strip f x y j i) xs (x + i) (y + j) d l h ∙ grind (arith, nat_tests)

  pub patch_none : (w : ℕ) → xs ≡ painted s (patch x y w 0 f) xs
  patch_none w = painted_none s (patch x y w 0 f) xs l (λ p q old h. grind (arith, nat_tests))

  pub patch_more : (w j : ℕ)
      → painted s (strip f x y j w) (painted s (patch x y w j f) xs) ≡ painted s (patch x y w (j + 1) f) xs
  patch_more w j =
      painted_twice s (patch x y w j f) (strip f x y j w) (patch x y w (j + 1) f) xs l
      (λ p q old h. grind (arith, nat_tests))

-- a patch that is the whole grid
pub patch_whole : {X : Type 0} (s : Shape) (f : ℕ → ℕ → X → X) (xs : List X) → Lawful s (length xs)
    → painted s (patch 0 0 s.width s.height f) xs ≡ painted s f xs
patch_whole s f xs l =
    painted_alike s (patch 0 0 s.width s.height f) f xs l
    (λ p q old h. let a = h.across in let b = h.down in grind (arith, nat_tests))
