use Rattle.std.proofs.Common.{sym, ◌∙◌}
use Rattle.varmap.proofs.Passed.{passed_lawful}
use Rattle.varmap.proofs.map.Map.checked.Goals as goal

pub invariant_of-result : goal.invariant_of-result
invariant_of-result c =
    record { lawful = passed_lawful _ _ _ c.args.grid.lawful.wide (sym c.check_cells.ensures ∙ c.in_ok-check_cells.was) }
