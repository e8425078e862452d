use Rattle.std.proofs.Common.{sym, ◌∙◌}
use Rattle.std.proofs.lemmas.Option.{MatchOption-at_some}
use Rattle.refusal.proofs.Rows.{demand_ok}
use Rattle.rebuild.proofs.Accepted.{checked_as}
use Rattle.rebuild.proofs.judge.judge.Goals as goal

pub returns : goal.returns
returns c =
    checked_as _ _ _ _ _ _ _ _ _ _ _ _ c.judge_map.result c.w8-w8.ensures c.h8-h8.ensures c.stage.ensures
    (sym c.is_turn.ensures ∙ demand_ok _ _ (sym c.in_ok-require.ensures))
    (sym c.fit.ensures ∙ demand_ok _ _ (sym c.in_ok-require-2.ensures))
    (MatchOption-at_some _ _ _ c.in_ok-map.ensures.ok_part c.sized.ensures)
    (MatchOption-at_some _ _ _ c.in_ok-lf.ensures.ok_part c.sized-2.ensures)
    (sym c.is_enough.ensures ∙ demand_ok _ _ (sym c.in_ok-require-3.ensures))
    c.judge_map.ensures
