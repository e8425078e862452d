-- What the tests of the calls tell, and what the calls leave.
use Rattle.std.proofs.Common.{◌≡◌, ℕ, ◌*◌, ◌^◌, ◌≤◌, Bool, true, false, ◌&&◌, leb, ◌⊎◌, List, length, Some, None, Option, sym, refl, ap, ◌∙◌, inl, inr, arith}
use lib.Ieee.{Float}
use Rattle.std.proofs.lemmas.Bool.{and_parts, leb-true, cond-true, cond-false, cases_Bool}
use Rattle.grid.specs.declared.Shape.{Shape}
use Rattle.grid.specs.Index.{Lawful, lawful, sized}
use Rattle.grid.proofs.Sized.{lawful_true, sized_true}
use Rattle.kinds.specs.declared.Size.{Size}
use Rattle.kinds.specs.Kinds.{size_of, wide, high, width_of}
use Rattle.kinds.proofs.Sizes.{wide_is, high_is}
use Rattle.dct_2d.specs.Plane.{Patch}
use Rattle.dct_2d.specs.Replaced.{replaced, Ready}
use Rattle.kernel.specs.Corner.{log2}
use Rattle.kernel.specs.Maps.{side, forwarded, inverted}
use Rattle.transform.specs.Tests.{forwards, inverts}
use Rattle.transform.specs.Sides.{side_is, Sides, carried_sides}

-- ---- forward

pub forward_ready : (s : Shape) (n room : ℕ) → forwards s n room ≡ true → Ready (log2 s.width) (log2 s.height) s n room
forward_ready s n room t =
    let outer = and_parts (lawful s n && (side s.width && side s.height)) (leb 512 room) t in
    let b = and_parts (lawful s n) (side s.width && side s.height) outer.0 in
    let d = and_parts (side s.width) (side s.height) b.1 in
    let w = side_is s.width d.0 in
    let h = side_is s.height d.1 in
    record {
      narrow = omega (arith, w.low);
      low = omega (arith, h.low);
      width = w.power;
      height = h.power;
      lawful = lawful_true s n b.0;
      room = leb-true 512 room outer.1;
    }

pub forward_works : (fwd : ℕ → ℕ → Patch → Patch) (s : Shape) (room : ℕ) (xs ys : List Float) → forwards s (length xs) room ≡ true
    → ys ≡ replaced (fwd s.width s.height) s xs → ys ≡ forwarded fwd s room xs
unfolding forwarded
forward_works fwd s room xs ys t e = e ∙ sym (cond-true (forwards s (length xs) room) _ xs t)

pub forward_idle : (fwd : ℕ → ℕ → Patch → Patch) (s : Shape) (room : ℕ) (xs : List Float) → forwards s (length xs) room ≡ false
    → xs ≡ forwarded fwd s room xs
unfolding forwarded
forward_idle fwd s room xs t = sym (cond-false (forwards s (length xs) room) _ xs t)

-- ---- inverse

-- a block of a kind that is carried, with enough scratch
pub record Block (kind : ℕ) (s : Shape) (n room : ℕ) : Type 0 where
  pub sides : Sides kind
  pub width : s.width ≡ 8 * wide kind
  pub height : s.height ≡ 8 * high kind
  pub lawful : Lawful s n
  pub enough : 512 ≤ room

carried : (kind : ℕ) → 1 ≤ wide kind → Sides kind
unfolding wide
carried kind l = go (size_of kind) refl
  where
    go : (o : Option Size) → size_of kind ≡ o → Sides kind
    go (Some z) e = carried_sides kind z e
    go None e = let w : wide kind ≡ 0 = ap width_of e in absurd (omega arith)

pub is_block : (kind : ℕ) (s : Shape) (n room : ℕ) → inverts kind s n room ≡ true → Block kind s n room
is_block kind s n room t =
    let outer = and_parts (sized (8 * wide kind) (8 * high kind) s n) (leb 512 room) t in
    let z = sized_true (8 * wide kind) (8 * high kind) s n outer.0 in
    let e = z.width in
    let l = z.lawful.wide in
    record {
      sides = carried kind (omega arith);
      width = z.width;
      height = z.height;
      lawful = z.lawful;
      enough = leb-true 512 room outer.1;
    }

-- a block of a plain DCT
pub plain_ready : (kind : ℕ) (s : Shape) (n room : ℕ) → Block kind s n room
    → Ready (log2 (8 * wide kind)) (log2 (8 * high kind)) s n room
plain_ready kind s n room b =
    let w = b.sides.wide_side in
    let h = b.sides.high_side in
    record {
      narrow = omega (arith, w.low, w.more);
      low = omega (arith, h.low, h.more);
      width = b.width ∙ w.block ∙ ap (λ (n : ℕ). 2 ^ n) (sym w.more);
      height = b.height ∙ h.block ∙ ap (λ (n : ℕ). 2 ^ n) (sym h.more);
      lawful = b.lawful;
      room = b.enough;
    }

pub inverse_works : (inv : ℕ → Patch → Patch) (kind : ℕ) (s : Shape) (room : ℕ) (xs ys : List Float) → inverts kind s (length xs) room ≡ true
    → ys ≡ replaced (inv kind) s xs → ys ≡ inverted inv kind s room xs
unfolding inverted
inverse_works inv kind s room xs ys t e = e ∙ sym (cond-true (inverts kind s (length xs) room) _ xs t)

pub inverse_idle : (inv : ℕ → Patch → Patch) (kind : ℕ) (s : Shape) (room : ℕ) (xs : List Float) → inverts kind s (length xs) room ≡ false
    → xs ≡ inverted inv kind s room xs
unfolding inverted
inverse_idle inv kind s room xs t = sym (cond-false (inverts kind s (length xs) room) _ xs t)

-- ---- the test of a block

pub found_inverts : (kind : ℕ) (z : Size) (s : Shape) (n room : ℕ) (r : Bool) → size_of kind ≡ Some z → r ≡ sized (8 * z.width) (8 * z.height) s n
    → (r && leb 512 room) ≡ inverts kind s n room
found_inverts kind z s n room r e q =
    ap (λ (b : Bool). b && leb 512 room)
    (q ∙ ap (λ (w : ℕ). sized (8 * w) (8 * z.height) s n) (sym (wide_is kind z e)) ∙ ap (λ (h : ℕ). sized (8 * wide kind) (8 * h) s n) (sym (high_is kind z e)))

pub none_inverts : (kind : ℕ) (s : Shape) (n room : ℕ) → size_of kind ≡ None → false ≡ inverts kind s n room
unfolding wide
none_inverts kind s n room e = go (cases_Bool (inverts kind s n room))
  where
    go : (inverts kind s n room ≡ true) ⊎ (inverts kind s n room ≡ false) → false ≡ inverts kind s n room
    go (inl t) = let b = (is_block kind s n room t).sides.wide_some in let w : wide kind ≡ 0 = ap width_of e in absurd (omega arith)
    go (inr f) = sym f
