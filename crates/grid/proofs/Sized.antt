-- The tests of a grid, and what they tell.
use Rattle.std.proofs.Common.{◌≡◌, ℕ, ◌≤◌, Bool, true, false, ◌&&◌, eqb, leb, Decides, sym, refl, arith}
use Rattle.std.proofs.lemmas.Bool.{and_parts, and_from, leb-true, le-leb, eqb-true}
use Rattle.grid.specs.declared.Shape.{Shape}
use Rattle.grid.specs.Index.{Lawful, lawful, sized}

pub lawful_true : (s : Shape) (n : ℕ) → lawful s n ≡ true → Lawful s n
unfolding lawful
lawful_true s n e =
    let outer = and_parts (leb 1 s.width) _ e in
    let b = and_parts (leb 1 s.height) _ outer.1 in
    let c = and_parts (leb s.width s.stride) _ b.1 in
    let d = and_parts (leb s.stride 65536) _ c.1 in
    record {
      wide = leb-true _ _ outer.0;
      tall = leb-true _ _ b.0;
      within = leb-true _ _ c.0;
      small = leb-true _ _ d.0;
      long = leb-true _ _ d.1;
    }

pub true_lawful : (s : Shape) (n : ℕ) → Lawful s n → lawful s n ≡ true
unfolding lawful
true_lawful s n l =
    and_from _ _ (le-leb _ _ l.wide)
    (and_from _ _ (le-leb _ _ l.tall)
    (and_from _ _ (le-leb _ _ l.within) (and_from _ _ (le-leb _ _ l.small) (le-leb _ _ l.long))))

-- what a test that decides lawfulness answers
pub is_lawful : (s : Shape) (n : ℕ) (r : Bool) → Decides r (Lawful s n) → r ≡ lawful s n
is_lawful s n true d = sym (true_lawful s n (d.0 refl))
is_lawful s n false d = go (lawful s n) (λ e. d.1 (lawful_true s n e))
  where
    go : (b : Bool) → (b ≡ true → false ≡ true) → false ≡ b
    go true h = h refl
    go false h = refl

-- what a sized grid is
pub record Sized (w h : ℕ) (s : Shape) (n : ℕ) : Type 0 where
  pub width : s.width ≡ w
  pub height : s.height ≡ h
  pub lawful : Lawful s n

pub sized_true : (w h : ℕ) (s : Shape) (n : ℕ) → sized w h s n ≡ true → Sized w h s n
unfolding sized
sized_true w h s n e =
    let outer = and_parts (eqb s.width w && eqb s.height h) (lawful s n) e in
    let b = and_parts (eqb s.width w) (eqb s.height h) outer.0 in
    record { width = eqb-true _ _ b.0; height = eqb-true _ _ b.1; lawful = lawful_true s n outer.1 }

pub wide_enough : (w h : ℕ) (s : Shape) (n : ℕ) → Sized w h s n → 1 ≤ w
wide_enough w h s n z = omega (arith, z.lawful.wide, z.width)
