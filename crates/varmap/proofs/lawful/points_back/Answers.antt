use Rattle.std.proofs.Common.{sym, ap, ◌∙◌, arith}
use Rattle.refusal.proofs.Checked.{clear_more, clear_all}
use Rattle.varmap.specs.declared.cells.Cell.{Cell}
use Rattle.varmap.specs.declared.cells.Record.TheVariants.{Empty}
use Rattle.varmap.specs.Cells.{cell, cells}
use Rattle.varmap.specs.Map.{points_back, back_at, all_back}
use Rattle.varmap.proofs.AllCells.{cells_true, cells_false}
use Rattle.varmap.proofs.lawful.points_back.Goals as goal

pub returns-then-not-is_back : goal.returns-then-not-is_back
unfolding all_back
returns-then-not-is_back c =
    sym
    (cells_false c.args.size.width c.args.size.height
    (back_at (cells c.args.map.shape c.args.map.list.now) c.args.x c.args.y)
    c.loop-i.i c.loop-j.j c.loop-i-test.true c.loop-j-test.true
    (ap (λ (v : Cell). points_back v.holds c.loop-i.i c.loop-j.j) (sym (c.get.ensures (cell Empty)))
    ∙ sym c.is_back.ensures
    ∙ c.if-not-is_back.true))

pub loop-i-preserved : goal.loop-i-preserved
loop-i-preserved c =
    clear_more _ _ _ _
    (ap (λ (v : Cell). points_back v.holds c.loop-i.i c.loop-j.j) (sym (c.get.ensures (cell Empty)))
    ∙ sym c.is_back.ensures
    ∙ c.if-not-is_back.false)
    c.loop-i.invariant

pub returns : goal.returns
unfolding all_back
returns c =
    sym
    (cells_true c.args.size.width c.args.size.height
    (back_at (cells c.args.map.shape c.args.map.list.now) c.args.x c.args.y)
    (clear_all _ _ _ _ (omega arith) c.loop-j.invariant))
