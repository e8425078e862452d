-- What grids of one size share, and what a check that passed tells of their numbers.
use Rattle.std.proofs.Common.{◌≡◌, ℕ, ◌<◌, true, ◌&&◌, length, ℤ, Ok, arith}
use Rattle.std.proofs.lemmas.Bool.{and_parts}
use Rattle.grid.specs.declared.xyb.Xyb.{Xyb}
use Rattle.grid.specs.Index.{Lawful, Inside}
use Rattle.grid.specs.Plane.{Plane, fitting}
use Rattle.grid.proofs.Sized.{sized_true, wide_enough}
use Rattle.refusal.proofs.Checked.{checked_passed}
use Rattle.grid.specs.Channels.{all_fit}
use Rattle.channels.specs.Ranges.{in_range_at, range_checked}

pub fits_three : {A : Type 0} (w h : ℕ) (p : Xyb (Plane A)) → all_fit w h p ≡ true
    → (fitting w h p.x ≡ true) × (fitting w h p.y ≡ true) × (fitting w h p.b ≡ true)
fits_three w h p e =
    let outer = and_parts (fitting w h p.x && fitting w h p.y) (fitting w h p.b) e in
    let b = and_parts (fitting w h p.x) (fitting w h p.y) outer.0 in (b.0, b.1, outer.1)

pub fits_lawful : {A : Type 0} (w h : ℕ) (p : Plane A) → fitting w h p ≡ true → Lawful p.shape (length p.list)
fits_lawful w h p f = (sized_true w h p.shape (length p.list) f).lawful

-- a place of p lies in q
pub fits_both : {A B : Type 0} (w h : ℕ) (p : Plane A) (q : Plane B) → fitting w h p ≡ true → fitting w h q ≡ true
    → (x y : ℕ) → x < p.shape.width → y < p.shape.height → Inside q.shape x y
fits_both w h p q f g x y a b =
    let z = sized_true w h p.shape (length p.list) f in
    let v = sized_true w h q.shape (length q.list) g in
    record { across = omega (arith, z.width, v.width); down = omega (arith, z.height, v.height) }

pub fits_inside : {A : Type 0} (w h : ℕ) (p : Plane A) → fitting w h p ≡ true → (x y : ℕ) → x < w → y < h → Inside p.shape x y
fits_inside w h p f x y a b =
    let z = sized_true w h p.shape (length p.list) f in
    record { across = omega (arith, z.width); down = omega (arith, z.height) }

-- every number is in range
pub range_passed : (w h channel : ℕ) (n : Plane ℤ) → fitting w h n ≡ true → range_checked w h channel n ≡ Ok tt
    → (x y : ℕ) → x < w → y < h → in_range_at n x y ≡ true
unfolding range_checked
range_passed w h channel n f e = checked_passed w h _ _ (wide_enough w h _ _ (sized_true w h _ _ f)) e
