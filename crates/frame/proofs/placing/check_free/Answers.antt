use Rattle.std.proofs.Common.{Err, sym, ap, ◌∙◌, arith}
use Rattle.refusal.proofs.Checked.{clear_more, clear_all, checked_pass, checked_fail}
use Rattle.varmap.specs.declared.cells.Cell.{Cell}
use Rattle.varmap.specs.declared.cells.Record.TheVariants.{Empty}
use Rattle.varmap.specs.Cells.{cell, is_empty}
use Rattle.frame.specs.Placing.{free_checked}
use Rattle.frame.proofs.placing.check_free.Goals as goal

pub loop-i-preserved : goal.loop-i-preserved
loop-i-preserved c =
    clear_more _ _ _ _
    (ap (λ (v : Cell). is_empty v.holds) (sym (c.get.ensures (cell Empty))) ∙ sym c.is_empty.ensures ∙ c.if-not-is_empty.false)
    c.loop-i.invariant

pub returns-then-not-is_empty : goal.returns-then-not-is_empty
unfolding free_checked
returns-then-not-is_empty c =
    ap Err c.at.ensures
    ∙ sym
    (checked_fail _ _ _ _ c.requires.wide c.loop-i.i c.loop-j.j (omega arith) (omega arith)
    (ap (λ (v : Cell). is_empty v.holds) (sym (c.get.ensures (cell Empty))) ∙ sym c.is_empty.ensures ∙ c.if-not-is_empty.true)
    c.loop-i.invariant)

pub returns : goal.returns
unfolding free_checked
returns c = sym (checked_pass _ _ _ _ c.requires.wide (clear_all _ _ _ _ (omega arith) c.loop-j.invariant))
