use Rattle.std.proofs.Common.{sym, ap, ◌∙◌}
use Rattle.varmap.specs.declared.cells.Cell.{Cell}
use Rattle.varmap.specs.declared.cells.Record.TheVariants.{Empty}
use Rattle.varmap.specs.Cells.{cell, cells}
use Rattle.varmap.specs.Map.{cell_as, cell_ok}
use Rattle.varmap.proofs.lawful.cell_is_lawful.Goals as goal

pub returns-in-Empty : goal.returns-in-Empty
unfolding cell_ok
returns-in-Empty c =
    ap (cell_as c.args.map.shape.width c.args.map.shape.height (cells c.args.map.shape c.args.map.list.now) c.args.x c.args.y)
    (sym c.in-Empty.is ∙ ap (λ (v : Cell). v.holds) (c.get.ensures (cell Empty)))

pub returns-in-Lead : goal.returns-in-Lead
unfolding cell_ok
returns-in-Lead c =
    c.lead_is_lawful.ensures
    ∙ ap (cell_as c.args.map.shape.width c.args.map.shape.height (cells c.args.map.shape c.args.map.list.now) c.args.x c.args.y)
    (sym c.in-Lead.is ∙ ap (λ (v : Cell). v.holds) (c.get.ensures (cell Empty)))

pub returns-in-Covered : goal.returns-in-Covered
unfolding cell_ok
returns-in-Covered c =
    c.covered_is_lawful.ensures
    ∙ ap (cell_as c.args.map.shape.width c.args.map.shape.height (cells c.args.map.shape c.args.map.list.now) c.args.x c.args.y)
    (sym c.in-Covered.is ∙ ap (λ (v : Cell). v.holds) (c.get.ensures (cell Empty)))
