use Rattle.std.proofs.Common.{Err, sym, ap, ◌∙◌}
use Rattle.std.proofs.lemmas.Option.{MatchOption-at_some}
use Rattle.std.proofs.lemmas.Result.{err_from_is_err_and}
use Rattle.grid.specs.Plane.{Plane, viewed}
use Rattle.grid.proofs.Sized.{sized_true}
use Rattle.kinds.specs.Kinds.{size_of}
use Rattle.refusal.proofs.Rows.{demand_ok}
use Rattle.varmap.specs.declared.cells.Cell.{Cell}
use Rattle.varmap.specs.Cells.{cells}
use Rattle.frame.specs.Placing.{sized_placing}
use Rattle.frame.proofs.Judging.{judged_by_map}
use Rattle.frame.proofs.frame.Frame.judge.Goals as goal

pub returns-in_err-map : goal.returns-in_err-map
returns-in_err-map c =
    let s = MatchOption-at_some _ _ _ c.in_ok-grid.ensures.ok_part c.sized.ensures in
    let p = err_from_is_err_and c.from_residual-in_err-map.result c.from_residual-in_err-map.ensures.1 in
    p.1
    ∙ ap Err p.2
    ∙ sym
    (judged_by_map _ _ _ (viewed c.args.map) _ c.args.kind c.args.x c.args.y c.args.hf_mul _
    (sym c.is_placing.ensures ∙ demand_ok _ _ (sym c.in_ok-require.ensures)) s.0 s.1 c.in_err-map.ensures)

pub judge_block-requires-clause-width : goal.judge_block-requires-clause-width
judge_block-requires-clause-width c =
    let s = MatchOption-at_some _ _ _ c.in_ok-grid.ensures.ok_part c.sized.ensures in
    ap (λ (p : Plane Cell). p.shape.width) (c.in_ok-map.ensures.1 ∙ s.1) ∙ (sized_true _ _ _ _ s.0).width

pub judge_block-requires-clause-height : goal.judge_block-requires-clause-height
judge_block-requires-clause-height c =
    let s = MatchOption-at_some _ _ _ c.in_ok-grid.ensures.ok_part c.sized.ensures in
    ap (λ (p : Plane Cell). p.shape.height) (c.in_ok-map.ensures.1 ∙ s.1) ∙ (sized_true _ _ _ _ s.0).height

pub returns : goal.returns
returns c =
    let s = MatchOption-at_some _ _ _ c.in_ok-grid.ensures.ok_part c.sized.ensures in
    let frame = c.args.self.now in
    let kind = c.args.kind in
    c.judge_block.ensures
    ∙ ap
    (λ (p : Plane Cell). sized_placing frame.w8 frame.h8 (cells p.shape p.list) c.args.x c.args.y c.args.hf_mul (size_of kind))
    (c.in_ok-map.ensures.1 ∙ s.1)
    ∙ sym
    (judged_by_map _ _ _ (viewed c.args.map) _ kind c.args.x c.args.y c.args.hf_mul _
    (sym c.is_placing.ensures ∙ demand_ok _ _ (sym c.in_ok-require.ensures)) s.0 s.1 c.in_ok-map.ensures.0)
