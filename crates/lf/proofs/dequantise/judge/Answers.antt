use Rattle.std.proofs.Common.{◌≡◌, ℕ, Ok, sym, ap, ◌∙◌, rules}
use Rattle.std.proofs.lemmas.Option.{MatchOption-at_some}
use Rattle.std.proofs.lemmas.Result.{err_from_is_err_and}
use Rattle.grid.specs.Channels.{all_viewed}
use Rattle.refusal.specs.declared.Reason.TheVariants as reason
use Rattle.refusal.specs.Verdicts.{Verdict, demand, and_then}
use Rattle.refusal.proofs.Rows.{demand_ok}
use Rattle.lf.specs.Dequantise.{all_finite}
use Rattle.lf.proofs.Dequantising.{judged_by_numbers}
use Rattle.lf.proofs.dequantise.judge.Goals as goal

pub returns-in_err-numbers : goal.returns-in_err-numbers
returns-in_err-numbers c =
    let s = MatchOption-at_some _ _ _ c.in_ok-grids.ensures.ok_part c.sized.ensures in
    let turn = sym c.is_placing.ensures ∙ demand_ok _ _ (sym c.in_ok-require.ensures) in
    let fit = sym c.fit.ensures ∙ demand_ok _ _ (sym c.in_ok-require-2.ensures) in
    let p = err_from_is_err_and c.from_residual-in_err-numbers.result c.from_residual-in_err-numbers.ensures.1 in
    rw (p.1, p.2)
    (judged_by_numbers _ _ _ _ _ _ (all_viewed c.args.lf) (all_viewed c.args.numbers) _ c.args.scales _ c.w8-w8.ensures c.h8-h8.ensures
    c.stage.ensures turn fit s.0 s.1 c.in_err-numbers.ensures)

pub returns-in_err-require-3 : goal.returns-in_err-require-3
returns-in_err-require-3 c =
    let s = MatchOption-at_some _ _ _ c.in_ok-grids.ensures.ok_part c.sized.ensures in
    let turn = sym c.is_placing.ensures ∙ demand_ok _ _ (sym c.in_ok-require.ensures) in
    let fit = sym c.fit.ensures ∙ demand_ok _ _ (sym c.in_ok-require-2.ensures) in
    let finite : c.all.result ≡ all_finite c.args.scales = search rules in
    let p = err_from_is_err_and c.from_residual-in_err-require-3.result c.from_residual-in_err-require-3.ensures.1 in
    rw (p.1, p.2)
    (judged_by_numbers _ _ _ _ _ _ (all_viewed c.args.lf) (all_viewed c.args.numbers) _ c.args.scales _ c.w8-w8.ensures c.h8-h8.ensures
    c.stage.ensures turn fit s.0 s.1 c.in_ok-numbers.ensures.0
    ∙ ap (λ b. and_then {X = ℕ} (demand b reason.Float) (Ok 0)) (sym finite)
    ∙ ap (λ (u : Verdict). and_then {X = ℕ} u (Ok 0)) (sym c.in_err-require-3.ensures))

pub returns : goal.returns
returns c =
    let s = MatchOption-at_some _ _ _ c.in_ok-grids.ensures.ok_part c.sized.ensures in
    let turn = sym c.is_placing.ensures ∙ demand_ok _ _ (sym c.in_ok-require.ensures) in
    let fit = sym c.fit.ensures ∙ demand_ok _ _ (sym c.in_ok-require-2.ensures) in
    let finite : c.all.result ≡ all_finite c.args.scales = search rules in (
      judged_by_numbers _ _ _ _ _ _ (all_viewed c.args.lf) (all_viewed c.args.numbers) _ c.args.scales _ c.w8-w8.ensures c.h8-h8.ensures
          c.stage.ensures turn fit s.0 s.1 c.in_ok-numbers.ensures.0
          ∙ ap (λ b. and_then {X = ℕ} (demand b reason.Float) (Ok 0)) (sym finite)
          ∙ ap (λ (u : Verdict). and_then {X = ℕ} u (Ok 0)) (sym c.in_ok-require-3.ensures),
      c.in_ok-numbers.ensures.1 ∙ s.1,
    )
