-- A patch that is lent to a kernel as a list of its own.
use Rattle.std.proofs.Common.{◌≡◌, ℕ, ◌+◌, ◌*◌, ◌-◌, ◌≤◌, true, ◌&&◌, eqb, leb, List, ◌++◌, length, take, drop, sym, ap, ◌∙◌, subst}
use lib.Ieee.{Float}
use Rattle.std.proofs.lemmas.List.{length-drop}
use Rattle.std.proofs.lemmas.Bool.{and_from, le-leb, eq-eqb, cond-true}
use Rattle.grid.specs.declared.Shape.{Shape}
use Rattle.grid.specs.declared.brush.Area.{Area}
use Rattle.grid.specs.Index.{Lawful, lawful, sized, sub, start}
use Rattle.grid.specs.Painted.{painted}
use Rattle.grid.proofs.Sub.{start_below, sub_lawful, sub_painted}
use Rattle.grid.proofs.Sized.{true_lawful}
use Rattle.grid.proofs.Windows.{elements_sub}
use Rattle.kinds.specs.Kinds.{wide, high}
use Rattle.dct_2d.specs.Plane.{Patch}
use Rattle.dct_2d.specs.Replaced.{poured, replaced}
use borrow.Rule.Slice.PartMut.{put_mid}
use Rattle.std.specs.Borrow.{MutBor}
use Rattle.grid.proofs.Rest.{put_rest}
use Rattle.kernel.specs.Calls.{Outcome, Replaces}
use Rattle.kernel.specs.Maps.{side, forwarded, inverted, imaged}

module _ (s : Shape) (a : Area) (xs : List Float) (l : Lawful s (length xs)) (w1 : 1 ≤ a.width) (h1 : 1 ≤ a.height)
    (across : a.x + a.width ≤ s.width) (down : a.y + a.height ≤ s.height) where
  abbrev pub st : ℕ
  st = start s a.x a.y a.height

  abbrev pub part : Shape
  part = sub s a.width a.height

  pub part_below : st ≤ length xs
  part_below = start_below s (length xs) a.x a.y a.width a.height l w1 h1 across down

  pub part_lawful : Lawful part (length (drop st xs))
  part_lawful =
      subst (Lawful part) (sym (length-drop st xs)) (sub_lawful s (length xs) a.x a.y a.width a.height l w1 h1 across down)

  -- the part replaced by its image
  pub imaged_part : (image : Patch → Patch)
      → take st xs ++ replaced image part (drop st xs) ≡ imaged s a image xs
  unfolding imaged poured
  imaged_part image =
      ap (λ f. take st xs ++ painted part (λ i j _. image f i j) (drop st xs))
      (elements_sub s a.x a.y a.width a.height xs l w1 h1 across down)
      ∙ sub_painted s _ a.x a.y a.width a.height xs l w1 h1 across down

  -- what a call leaves that was given the part
  pub over_part : (outcome : Outcome) (room : ℕ) (image : Patch → Patch) → Replaces outcome part room image
      → (k : ℕ) → k ≡ st → (t : Shape) → t ≡ part → (list scratch list' scratch' : MutBor (List Float)) → list.now ≡ drop k xs
      → length scratch.now ≡ room → outcome list t scratch tt list' scratch'
      → put_mid k (length xs - k) xs list'.now ≡ imaged s a image xs
  over_part outcome room image replaces k e t f list scratch list' scratch' h r done =
      put_rest k xs list'.now
      ∙ ap (λ n. take n xs ++ list'.now) e
      ∙ ap (λ zs. take st xs ++ zs)
      (replaces list scratch list' scratch' (subst (λ (zs : List Float). Lawful part (length zs)) (sym from_start) part_lawful) r
      (subst (λ (u : Shape). outcome list u scratch tt list' scratch') f done)
      ∙ ap (replaced image part) from_start)
      ∙ imaged_part image
    where
      from_start : list.now ≡ drop st xs
      from_start = h ∙ ap (λ n. drop n xs) e

-- calls on a lawful patch
module _ (s : Shape) (xs : List Float) (l : Lawful s (length xs)) (room : ℕ) (r : 512 ≤ room) where
  pub forwarded_lawful : (fwd : ℕ → ℕ → Patch → Patch) → side s.width ≡ true → side s.height ≡ true
      → forwarded fwd s room xs ≡ replaced (fwd s.width s.height) s xs
  unfolding forwarded
  forwarded_lawful fwd w h =
      cond-true ((lawful s (length xs) && (side s.width && side s.height)) && leb 512 room) _ xs
      (and_from _ _ (and_from _ _ (true_lawful s _ l) (and_from _ _ w h)) (le-leb _ _ r))

  pub inverted_lawful : (inv : ℕ → Patch → Patch) (kind : ℕ) → s.width ≡ 8 * wide kind → s.height ≡ 8 * high kind
      → inverted inv kind s room xs ≡ replaced (inv kind) s xs
  unfolding inverted sized
  inverted_lawful inv kind w h =
      cond-true (((eqb s.width (8 * wide kind) && eqb s.height (8 * high kind)) && lawful s (length xs)) && leb 512 room) _ xs
      (and_from _ _ (and_from _ _ (and_from _ _ (eq-eqb _ _ w) (eq-eqb _ _ h)) (true_lawful s _ l)) (le-leb _ _ r))
