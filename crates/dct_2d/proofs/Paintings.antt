-- Lists in which the numbers of a grid were replaced by those of a patch.
use Rattle.std.proofs.Common.{◌≡◌, ℕ, ◌&&◌, ltb, List, length, get_or, sym, refl, ◌∙◌, subst}
use lib.Ieee.{Float, nan}
use Rattle.std.proofs.lemmas.Bool.{cond-true, and_from, lt-ltb}
use Rattle.grid.specs.declared.Shape.{Shape}
use Rattle.grid.specs.Index.{index, Inside, Lawful}
use Rattle.grid.specs.Window.{elements}
use Rattle.grid.proofs.Laws.{length_painted, painted_in, painted_alike, painted_twice}
use Rattle.dct_2d.specs.Plane.{Patch}
use Rattle.dct_2d.specs.Replaced.{poured}
use Rattle.dct.specs.Transform.{at}

module _ (s : Shape) (xs : List Float) (l : Lawful s (length xs)) where
  pub poured_alike : (p q : Patch) → ((x y : ℕ) → Inside s x y → p x y ≡ q x y) → poured p s xs ≡ poured q s xs
  unfolding poured
  poured_alike p q e = painted_alike s (λ x y _. p x y) (λ x y _. q x y) xs l (λ x y old h. e x y h)

  pub poured_twice : (p q : Patch) → poured q s (poured p s xs) ≡ poured q s xs
  unfolding poured
  poured_twice p q = painted_twice s (λ x y _. p x y) (λ x y _. q x y) (λ x y _. q x y) xs l (λ x y old h. refl)

  pub length_poured : (p : Patch) → length (poured p s xs) ≡ length xs
  unfolding poured
  length_poured p = length_painted s (λ x y _. p x y) xs

  pub poured_lawful : (p : Patch) → Lawful s (length (poured p s xs))
  poured_lawful p = subst (Lawful s) (sym (length_poured p)) l

  pub element_in : (ys : List Float) (x y : ℕ) → Inside s x y → elements s ys x y ≡ at ys (index s x y)
  unfolding elements
  element_in ys x y h =
      cond-true (ltb x s.width && ltb y s.height) (get_or ys (index s x y) nan) nan
      (and_from _ _ (lt-ltb x s.width h.across) (lt-ltb y s.height h.down))

  pub element_poured : (p : Patch) (x y : ℕ) → Inside s x y → elements s (poured p s xs) x y ≡ p x y
  unfolding poured
  element_poured p x y h = element_in (poured p s xs) x y h ∙ painted_in s (λ x y _. p x y) xs x y nan l h
