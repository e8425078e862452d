use Rattle.std.proofs.Common.{pos, Err, sym, ap, ◌∙◌, arith, w32, SFits, rules}
use Rattle.std.proofs.lemmas.Int.{to_z-of_z}
use Rattle.refusal.proofs.Checked.{clear_more, clear_all, checked_pass, checked_fail}
use Rattle.channels.specs.Ranges.{in_range, range_checked}
use Rattle.channels.proofs.numbers.check_numbers.Goals as goal

pub returns-then-not-is_in_range : goal.returns-then-not-is_in_range
unfolding range_checked
returns-then-not-is_in_range c =
    let fits : SFits w32 c.get.result = search rules in
    let value = ap in_range (to_z-of_z w32 _ fits ∙ c.get.ensures (pos 0)) in
    ap Err c.at.ensures
    ∙ sym
    (checked_fail _ _ _ _ c.args.grid.lawful.wide _ _ (omega arith) (omega arith)
    (sym value ∙ sym c.is_in_range.ensures ∙ c.if-not-is_in_range.true) c.loop-x.invariant)

pub loop-x-preserved : goal.loop-x-preserved
loop-x-preserved c =
    let fits : SFits w32 c.get.result = search rules in
    let value = ap in_range (to_z-of_z w32 _ fits ∙ c.get.ensures (pos 0)) in
    clear_more _ _ _ _ (sym value ∙ sym c.is_in_range.ensures ∙ c.if-not-is_in_range.false) c.loop-x.invariant

pub returns : goal.returns
unfolding range_checked
returns c = sym (checked_pass _ _ _ _ c.args.grid.lawful.wide (clear_all _ _ _ _ (omega arith) c.loop-y.invariant))
