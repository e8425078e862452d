use Rattle.std.proofs.Common.{sym, ◌∙◌}
use Rattle.refusal.proofs.Checked.{checked_passed}
use Rattle.channels.specs.Ranges.{range_checked}
use Rattle.channels.proofs.numbers.Numbers.checked.Goals as goal

pub invariant_of-result : goal.invariant_of-result
unfolding range_checked
invariant_of-result c =
    record {
      in_range = checked_passed _ _ _ _ c.args.grid.lawful.wide (sym c.check_numbers.ensures ∙ c.in_ok-check_numbers.was);
    }
