-- The rows of whole numbers, and rows in parts.
use Rattle.std.proofs.Common.{◌≡◌, ℕ, true, ℤ, Ok, Err, Result, sym, refl, ap, ◌∙◌}
use Rattle.grid.specs.declared.xyb.Xyb.{Xyb}
use Rattle.grid.specs.Plane.{Plane, fitting}
use Rattle.grid.specs.Channels.{all_fit}
use Rattle.grid.proofs.Sized.{sized_true}
use Rattle.refusal.specs.declared.Refusal.{Refusal}
use Rattle.refusal.specs.Verdicts.{Verdict, and_then}
use Rattle.channels.specs.Ranges.{range_checked}
use Rattle.channels.specs.Checked.{judged, all_judged}
use Rattle.channels.proofs.Fitting.{fits_three}

pub and_then_assoc : {X : Type 0} (u v : Verdict) (r : Result X Refusal) → and_then (and_then u v) r ≡ and_then u (and_then v r)
and_then_assoc (Ok _) v r = refl
and_then_assoc (Err e) v r = refl

-- the check of a channel whose size is known
pub judged_sized : (w h channel : ℕ) (p : Plane ℤ) → fitting w h p ≡ true → range_checked w h channel p ≡ judged channel p
judged_sized w h channel p f =
    let z = sized_true w h _ _ f in
    ap (λ v. range_checked v h channel p) (sym z.width) ∙ ap (λ v. range_checked p.shape.width v channel p) (sym z.height)

-- the rows of the three channels
pub judged_three : {X : Type 0} (w h : ℕ) (p : Xyb (Plane ℤ)) (r : Result X Refusal) → all_fit w h p ≡ true
    → and_then (range_checked w h 0 p.x) (and_then (range_checked w h 1 p.y) (and_then (range_checked w h 2 p.b) r))
    ≡ and_then (all_judged p) r
judged_three w h p r f =
    let three = fits_three w h p f in
    ap (λ v. and_then v (and_then (range_checked w h 1 p.y) (and_then (range_checked w h 2 p.b) r))) (judged_sized w h 0 p.x three.0)
    ∙ ap (λ v. and_then (judged 0 p.x) (and_then v (and_then (range_checked w h 2 p.b) r))) (judged_sized w h 1 p.y three.1)
    ∙ ap (λ v. and_then (judged 0 p.x) (and_then (judged 1 p.y) (and_then v r))) (judged_sized w h 2 p.b three.2)
    ∙ ap (and_then (judged 0 p.x)) (sym (and_then_assoc (judged 1 p.y) (judged 2 p.b) r))
    ∙ sym (and_then_assoc (judged 0 p.x) (and_then (judged 1 p.y) (judged 2 p.b)) r)
