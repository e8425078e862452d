-- The rows of `place` up to the map's.
use Rattle.std.proofs.Common.{◌≡◌, ℕ, true, length, sym, ap, ◌∙◌, subst}
use Rattle.grid.specs.Index.{sized}
use Rattle.grid.specs.Plane.{Plane}
use Rattle.grid.proofs.Sized.{sized_true}
use Rattle.kinds.specs.Kinds.{size_of}
use Rattle.refusal.specs.declared.Reason.TheVariants as reason
use Rattle.refusal.specs.Verdicts.{Verdict, demand, and_then}
use Rattle.varmap.specs.declared.cells.Cell.{Cell}
use Rattle.varmap.specs.Cells.{cells}
use Rattle.varmap.specs.Map.{map_checked}
use Rattle.frame.specs.declared.stages.Stage.{Stage}
use Rattle.frame.specs.Stages.{is_placing}
use Rattle.frame.specs.Placing.{sized_placing, place_judged}

-- where the stage and the shape pass, what the check of the map says comes next
pub judged_by_map : (w8 h8 : ℕ) (st : Stage) (p q : Plane Cell) (kind x y mul : ℕ) (v : Verdict)
    → is_placing st ≡ true → sized w8 h8 p.shape (length p.list) ≡ true → q ≡ p
    → map_checked q.shape.width q.shape.height (cells q.shape q.list) ≡ v
    → place_judged w8 h8 st p.shape p.list kind x y mul ≡ and_then v (sized_placing w8 h8 (cells p.shape p.list) x y mul (size_of kind))
judged_by_map w8 h8 st p q kind x y mul v placing fits same said =
    let m = cells p.shape p.list in
    let rest = sized_placing w8 h8 m x y mul (size_of kind) in
    let z = sized_true w8 h8 p.shape (length p.list) fits in
    let here : map_checked p.shape.width p.shape.height m ≡ v =
    subst (λ (r : Plane Cell). map_checked r.shape.width r.shape.height (cells r.shape r.list) ≡ v) same said in
    let there : map_checked w8 h8 m ≡ v =
    ap (λ w. map_checked w h8 m) (sym z.width) ∙ ap (λ h. map_checked p.shape.width h m) (sym z.height) ∙ here in
    ap (λ b. and_then (demand b reason.Turn) (and_then (demand (sized w8 h8 p.shape (length p.list)) reason.Shape) (and_then (map_checked w8 h8 m) rest))) placing
    ∙ ap (λ b. and_then (demand b reason.Shape) (and_then (map_checked w8 h8 m) rest)) fits
    ∙ ap (λ u. and_then u rest) there
