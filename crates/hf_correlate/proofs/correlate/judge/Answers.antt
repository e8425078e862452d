use Rattle.std.proofs.Common.{sym, ◌∙◌}
use Rattle.std.proofs.lemmas.Bool.{and_parts}
use Rattle.std.proofs.lemmas.Option.{MatchOption-at_some}
use Rattle.std.proofs.lemmas.Result.{err_from_is_err_and}
use Rattle.grid.specs.Plane.{viewed}
use Rattle.refusal.proofs.Rows.{demand_ok}
use Rattle.hf_correlate.proofs.Judging.{judged_by_numbers, gains_of}
use Rattle.hf_correlate.proofs.correlate.judge.Goals as goal

pub returns-in_err-x : goal.returns-in_err-x
returns-in_err-x c =
    let turn = sym c.is_turn.ensures ∙ demand_ok _ _ (sym c.in_ok-require.ensures) in
    let fit = and_parts c.fits.result c.fits-2.result (demand_ok _ _ (sym c.in_ok-require-2.ensures)) in
    let y = MatchOption-at_some _ _ _ c.in_ok-luma.ensures.ok_part c.sized.ensures in
    let tx = MatchOption-at_some _ _ _ c.in_ok-x_tiles.ensures.ok_part c.sized-2.ensures in
    let tb = MatchOption-at_some _ _ _ c.in_ok-b_tiles.ensures.ok_part c.sized-3.ensures in
    let p = err_from_is_err_and c.from_residual-in_err-x.result c.from_residual-in_err-x.ensures.1 in
    rw (p.1, p.2)
    (judged_by_numbers _ _ _ _ _ _ _ _ (viewed c.args.x) (viewed c.args.y) (viewed c.args.b) (viewed c.args.x_from_y)
    (viewed c.args.b_from_y) _ _ c.args.by _ c.w8-w8.ensures c.h8-h8.ensures c.stage.ensures c.tiles_over-tw.ensures
    c.tiles_over-th.ensures turn (sym c.fits.ensures ∙ fit.0) y.0 (sym c.fits-2.ensures ∙ fit.1) tx.0 tb.0 tx.1 tb.1 c.in_err-x.ensures)

pub returns : goal.returns
returns c =
    let turn = sym c.is_turn.ensures ∙ demand_ok _ _ (sym c.in_ok-require.ensures) in
    let fit = and_parts c.fits.result c.fits-2.result (demand_ok _ _ (sym c.in_ok-require-2.ensures)) in
    let y = MatchOption-at_some _ _ _ c.in_ok-luma.ensures.ok_part c.sized.ensures in
    let tx = MatchOption-at_some _ _ _ c.in_ok-x_tiles.ensures.ok_part c.sized-2.ensures in
    let tb = MatchOption-at_some _ _ _ c.in_ok-b_tiles.ensures.ok_part c.sized-3.ensures in (
      judged_by_numbers _ _ _ _ _ _ _ _ (viewed c.args.x) (viewed c.args.y) (viewed c.args.b) (viewed c.args.x_from_y)
          (viewed c.args.b_from_y) _ _ c.args.by _ c.w8-w8.ensures c.h8-h8.ensures c.stage.ensures c.tiles_over-tw.ensures
          c.tiles_over-th.ensures turn (sym c.fits.ensures ∙ fit.0) y.0 (sym c.fits-2.ensures ∙ fit.1) tx.0 tb.0 tx.1 tb.1 c.in_ok-x.ensures.0,
      (y.1, gains_of _ _ tx.1 c.in_ok-x.ensures.1.0, gains_of _ _ tb.1 c.in_ok-x.ensures.1.1),
    )
