use Rattle.std.proofs.Common.{Err, sym, ap, ◌∙◌, arith}
use Rattle.varmap.specs.Map.{map_checked}
use Rattle.refusal.proofs.Checked.{clear_more, clear_all, checked_pass, checked_fail}
use Rattle.varmap.proofs.lawful.check_cells.Goals as goal

pub loop-x-preserved : goal.loop-x-preserved
loop-x-preserved c =
    clear_more _ _ _ _ (sym c.cell_is_lawful.ensures ∙ c.if-not-cell_is_lawful.false) c.loop-x.invariant

pub returns-then-not-cell_is_lawful : goal.returns-then-not-cell_is_lawful
unfolding map_checked
returns-then-not-cell_is_lawful c =
    ap Err c.at.ensures
    ∙ sym
    (checked_fail _ _ _ _ c.args.map.lawful.wide c.loop-x.x c.loop-y.y (omega arith) (omega arith)
    (sym c.cell_is_lawful.ensures ∙ c.if-not-cell_is_lawful.true)
    c.loop-x.invariant)

pub returns-after-loop-y : goal.returns-after-loop-y
unfolding map_checked
returns-after-loop-y c =
    sym (checked_pass _ _ _ _ c.args.map.lawful.wide (clear_all _ _ _ _ (omega arith) c.loop-y.invariant))
