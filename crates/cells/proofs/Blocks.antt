-- A cell's 64 numbers: read from a grid, written to a grid, and the butterflies.
use Rattle.std.proofs.Common.{◌≡◌, ℕ, ◌+◌, ◌*◌, ◌/◌, ◌%◌, ◌<◌, ◌≤◌, Bool, false, cond, ◌&&◌, ◌||◌, eqb, ltb, ◌≢◌, ◌⊎◌, List, length, set, sym, ap, ◌∙◌, subst, ap₂, inl, inr, arith, length-set, get_or-set_other, get_or-set_same}
use lib.Ieee.{Float, nan}
use Rattle.std.proofs.lemmas.Bool.{cases_eq, eq-eqb, cond-true, cond-false}
use Rattle.std.proofs.lemmas.Bool.Decides.{nat_tests}
use Rattle.dct_2d.specs.Plane.{Patch}
use Rattle.dct_2d.specs.Replaced.{poured}
use Rattle.dct.specs.Transform.{at}
use Rattle.grid.specs.declared.Shape.{Shape}
use Rattle.grid.specs.Index.{index, Lawful}
use Rattle.grid.specs.Painted.{painted}
use Rattle.grid.specs.Window.{elements}
use Rattle.grid.proofs.Laws.{painted_alike}
use Rattle.cells.specs.Framed.{framed}
use Rattle.cells.specs.Cells.{cell, butterfly, butterfly_at, butterflies}
use Rattle.cells.specs.Stored.{stored}
use Rattle.cells.proofs.Framing.{cell_in, cell_is}

-- ---- from a grid and to it

pub loaded : (s : Shape) (xs v : List Float) → s.width ≡ 8 → s.height ≡ 8
    → ((x y : ℕ) → x < 8 → y < 8 → at v (y * 8 + x) ≡ at xs (index s x y)) → cell v ≡ elements s xs
unfolding elements
loaded s xs v w h e =
    cell_is v (λ x y. at xs (index s x y)) e
    ∙ ap₂ (λ m n. framed m n (λ x y. at xs (index s x y))) (sym w) (sym h)

pub stored_all : (s : Shape) (v xs : List Float) → s.width ≡ 8 → s.height ≡ 8 → Lawful s (length xs)
    → painted s (stored v) xs ≡ poured (cell v) s xs
unfolding poured
stored_all s v xs w h l =
    painted_alike s (stored v) (λ x y _. cell v x y) xs l
    (λ x y old k. sym (cell_in v x y (subst (λ m. x < m) w k.across) (subst (λ m. y < m) h k.down)))

-- ---- butterflies

butterfly_from : (half : ℕ) (p : Patch) (x y u v i j : ℕ) → x % 2 ≡ i → y % 2 ≡ j → x / 2 ≡ u → y / 2 ≡ v
    → butterfly_at half p x y ≡ butterfly i j (p u v) (p (u + half) v) (p u (v + half)) (p (u + half) (v + half))
butterfly_from half p x y u v i j a b c d = cc

two_ways : (n : ℕ) → (n % 2 ≡ 0) ⊎ (n % 2 ≡ 1)
two_ways n = elim (cases_eq (n % 2) 0) [ inl e ↦ inl e | inr ne ↦ inr (omega arith) ]

-- what the writing of a square leaves
module _ (old new : List Float) (half x y : ℕ) (hf : half ≤ 4) (hx : x < half) (hy : y < half) (len : length new ≡ 64) where
  a : Float
  a = at old (y * 8 + x)

  b : Float
  b = at old (y * 8 + (x + half))

  c : Float
  c = at old ((y + half) * 8 + x)

  d : Float
  d = at old ((y + half) * 8 + (x + half))

  cells : (i j : ℕ) → butterfly i j (cell old x y) (cell old (x + half) y) (cell old x (y + half)) (cell old (x + half) (y + half)) ≡ butterfly i j a b c d
  unfolding a b c d
  cells i j =
      let e0 = cell_in old x y (omega arith) (omega arith) in
      let e1 = cell_in old (x + half) y (omega arith) (omega arith) in
      let e2 = cell_in old x (y + half) (omega arith) (omega arith) in
      let e3 = cell_in old (x + half) (y + half) (omega arith) (omega arith) in
      cc

  -- the four writes, over any values
  abbrev pub writes : Float → Float → Float → Float → List Float
  writes m n o r = set (set (set (set new (16 * y + 2 * x) m) (16 * y + 2 * x + 1) n) (16 * y + 2 * x + 8) o) (16 * y + 2 * x + 9) r

  at_0 : (m n o r : Float) → at (writes m n o r) (16 * y + 2 * x) ≡ m
  at_0 m n o r =
      get_or-set_other _ (16 * y + 2 * x + 9) (16 * y + 2 * x) r nan (λ z. omega arith)
      ∙ get_or-set_other _ (16 * y + 2 * x + 8) (16 * y + 2 * x) o nan (λ z. omega arith)
      ∙ get_or-set_other _ (16 * y + 2 * x + 1) (16 * y + 2 * x) n nan (λ z. omega arith)
      ∙ get_or-set_same new (16 * y + 2 * x) m nan (omega arith)

  at_1 : (m n o r : Float) → at (writes m n o r) (16 * y + 2 * x + 1) ≡ n
  at_1 m n o r =
      get_or-set_other _ (16 * y + 2 * x + 9) (16 * y + 2 * x + 1) r nan (λ z. omega arith)
      ∙ get_or-set_other _ (16 * y + 2 * x + 8) (16 * y + 2 * x + 1) o nan (λ z. omega arith)
      ∙ get_or-set_same _ (16 * y + 2 * x + 1) n nan (omega (arith, length-set new (16 * y + 2 * x) m))

  at_8 : (m n o r : Float) → at (writes m n o r) (16 * y + 2 * x + 8) ≡ o
  at_8 m n o r =
      get_or-set_other _ (16 * y + 2 * x + 9) (16 * y + 2 * x + 8) r nan (λ z. omega arith)
      ∙ get_or-set_same _ (16 * y + 2 * x + 8) o nan (omega (arith, length-set new (16 * y + 2 * x) m, length-set (set new (16 * y + 2 * x) m) (16 * y + 2 * x + 1) n))

  at_9 : (m n o r : Float) → at (writes m n o r) (16 * y + 2 * x + 9) ≡ r
  at_9 m n o r = get_or-set_same _ (16 * y + 2 * x + 9) r nan (omega (arith, length-set new (16 * y + 2 * x) m, length-set (set new (16 * y + 2 * x) m) (16 * y + 2 * x + 1) n, length-set (set (set new (16 * y + 2 * x) m) (16 * y + 2 * x + 1) n) (16 * y + 2 * x + 8) o))

  at_rest : (m n o r : Float) (k : ℕ) → k ≢ 16 * y + 2 * x → k ≢ 16 * y + 2 * x + 1 → k ≢ 16 * y + 2 * x + 8 → k ≢ 16 * y + 2 * x + 9
      → at (writes m n o r) k ≡ at new k
  at_rest m n o r k p q s t =
      get_or-set_other _ (16 * y + 2 * x + 9) k r nan t
      ∙ get_or-set_other _ (16 * y + 2 * x + 8) k o nan s
      ∙ get_or-set_other _ (16 * y + 2 * x + 1) k n nan q
      ∙ get_or-set_other new (16 * y + 2 * x) k m nan p

  pub square_written : (m n o r : Float) → m ≡ butterfly 0 0 (at old (y * 8 + x)) (at old (y * 8 + (x + half))) (at old ((y + half) * 8 + x)) (at old ((y + half) * 8 + (x + half)))
      → n ≡ butterfly 1 0 (at old (y * 8 + x)) (at old (y * 8 + (x + half))) (at old ((y + half) * 8 + x)) (at old ((y + half) * 8 + (x + half)))
      → o ≡ butterfly 0 1 (at old (y * 8 + x)) (at old (y * 8 + (x + half))) (at old ((y + half) * 8 + x)) (at old ((y + half) * 8 + (x + half)))
      → r ≡ butterfly 1 1 (at old (y * 8 + x)) (at old (y * 8 + (x + half))) (at old ((y + half) * 8 + x)) (at old ((y + half) * 8 + (x + half)))
      → (p q : ℕ) → p < 8 → q < 8
      → at (writes m n o r) (q * 8 + p) ≡ cond (eqb (p / 2) x && eqb (q / 2) y) (butterfly_at half (cell old) p q) (at new (q * 8 + p))
  unfolding a b c d
  square_written m n o r em en eo er p q hp hq = go (cases_eq (p / 2) x) (cases_eq (q / 2) y)
    where
      inside : (i j k : ℕ) → p / 2 ≡ x → q / 2 ≡ y → p % 2 ≡ i → q % 2 ≡ j → q * 8 + p ≡ k
          → at (writes m n o r) k ≡ butterfly i j a b c d
          → at (writes m n o r) (q * 8 + p) ≡ cond (eqb (p / 2) x && eqb (q / 2) y) (butterfly_at half (cell old) p q) (at new (q * 8 + p))
      inside i j k ex ey ei ej ek h =
          ap (at (writes m n o r)) ek ∙ h ∙ sym (cells i j) ∙ sym (butterfly_from half (cell old) p q x y i j ei ej ex ey)
          ∙ sym (cond-true (eqb (p / 2) x && eqb (q / 2) y) _ _ (ap₂ ◌&&◌ (eq-eqb (p / 2) x ex) (eq-eqb (q / 2) y ey)))

      outside : (eqb (p / 2) x && eqb (q / 2) y) ≡ false
          → (q * 8 + p ≢ 16 * y + 2 * x) → (q * 8 + p ≢ 16 * y + 2 * x + 1) → (q * 8 + p ≢ 16 * y + 2 * x + 8) → (q * 8 + p ≢ 16 * y + 2 * x + 9)
          → at (writes m n o r) (q * 8 + p) ≡ cond (eqb (p / 2) x && eqb (q / 2) y) (butterfly_at half (cell old) p q) (at new (q * 8 + p))
      outside f n0 n1 n8 n9 =
          at_rest m n o r (q * 8 + p) n0 n1 n8 n9 ∙ sym (cond-false (eqb (p / 2) x && eqb (q / 2) y) _ (at new (q * 8 + p)) f)

      go : (p / 2 ≡ x) ⊎ (p / 2 ≢ x) → (q / 2 ≡ y) ⊎ (q / 2 ≢ y)
          → at (writes m n o r) (q * 8 + p) ≡ cond (eqb (p / 2) x && eqb (q / 2) y) (butterfly_at half (cell old) p q) (at new (q * 8 + p))
      go (inl ex) (inl ey) = elim (two_ways p) [
        | inl ei ↦ elim (two_ways q) [
          | inl ej ↦ inside 0 0 (16 * y + 2 * x) ex ey ei ej (omega arith) (at_0 m n o r ∙ em)
          | inr ej ↦ inside 0 1 (16 * y + 2 * x + 8) ex ey ei ej (omega arith) (at_8 m n o r ∙ eo)
        ]
        | inr ei ↦ elim (two_ways q) [
          | inl ej ↦ inside 1 0 (16 * y + 2 * x + 1) ex ey ei ej (omega arith) (at_1 m n o r ∙ en)
          | inr ej ↦ inside 1 1 (16 * y + 2 * x + 9) ex ey ei ej (omega arith) (at_9 m n o r ∙ er)
        ]
      ]
      go (inl ex) (inr ny) = outside (grind (arith, nat_tests)) (λ z. ny (omega arith)) (λ z. ny (omega arith)) (λ z. ny (omega arith)) (λ z. ny (omega arith))
      go (inr nx) ey = outside (grind (arith, nat_tests)) (λ z. nx (omega arith)) (λ z. nx (omega arith)) (λ z. nx (omega arith)) (λ z. nx (omega arith))

-- the squares before (x, y), row by row
abbrev pub before : ℕ → ℕ → ℕ → ℕ → ℕ → Bool
before half y x u v = (ltb u half && ltb v y) || (eqb v y && ltb u x)

pub record Merging (half : ℕ) (old : List Float) (y x : ℕ) (new : List Float) : Type 0 where
  pub len : length new ≡ 64
  pub done : (p q : ℕ) → p < 8 → q < 8 → at new (q * 8 + p) ≡ cond (before half y x (p / 2) (q / 2)) (butterfly_at half (cell old) p q) (at old (q * 8 + p))

pub merging_none : (half : ℕ) (old : List Float) → length old ≡ 64 → Merging half old 0 0 old
merging_none half old e = record { len = e; done = λ p q a b. sym (cond-false (before half 0 0 (p / 2) (q / 2)) _ (at old (q * 8 + p)) (grind (arith, nat_tests))) }

pub merging_more : (half x y : ℕ) (old v w : List Float) → x < half → length w ≡ 64 → Merging half old y x v
    → ((p q : ℕ) → p < 8 → q < 8 → at w (q * 8 + p) ≡ cond (eqb (p / 2) x && eqb (q / 2) y) (butterfly_at half (cell old) p q) (at v (q * 8 + p)))
    → Merging half old y (x + 1) w
merging_more half x y old v w l e m h = record {
  len = e;
  done = λ p q a b.
      h p q a b ∙ ap (λ (z : Float). cond (eqb (p / 2) x && eqb (q / 2) y) (butterfly_at half (cell old) p q) z) (m.done p q a b)
      ∙ step (p / 2) (q / 2) (butterfly_at half (cell old) p q) (at old (q * 8 + p));
}
  where
    step : (u v : ℕ) (s t : Float) → cond (eqb u x && eqb v y) s (cond (before half y x u v) s t) ≡ cond (before half y (x + 1) u v) s t
    step u v s t = grind (arith, nat_tests)

pub merging_row : (half x y : ℕ) (old v : List Float) → x ≡ half → Merging half old y x v → Merging half old (y + 1) 0 v
merging_row half x y old v e m = record {
  len = m.len;
  done = λ p q a b. m.done p q a b ∙ step (p / 2) (q / 2) (butterfly_at half (cell old) p q) (at old (q * 8 + p));
}
  where
    step : (u v : ℕ) (s t : Float) → cond (before half y x u v) s t ≡ cond (before half (y + 1) 0 u v) s t
    step u v s t = grind (arith, nat_tests)

pub merging_all : (half y : ℕ) (old v : List Float) → y ≡ half → Merging half old y 0 v → cell v ≡ butterflies half (cell old)
unfolding butterflies
merging_all half y old v e m =
    cell_is v (λ x y. cond (ltb (x / 2) half && ltb (y / 2) half) (butterfly_at half (cell old) x y) (cell old x y))
    (λ p q a b.
    m.done p q a b
    ∙ step (p / 2) (q / 2) (butterfly_at half (cell old) p q) (at old (q * 8 + p))
    ∙ ap (λ (z : Float). cond (ltb (p / 2) half && ltb (q / 2) half) (butterfly_at half (cell old) p q) z) (sym (cell_in old p q a b)))
  where
    step : (u v : ℕ) (s t : Float) → cond (before half y 0 u v) s t ≡ cond (ltb u half && ltb v half) s t
    step u v s t = grind (arith, nat_tests)
