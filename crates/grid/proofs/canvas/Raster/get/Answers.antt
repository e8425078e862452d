use Rattle.std.proofs.Common.{sym, ◌∙◌, arith, rules}
use Rattle.std.proofs.lemmas.List.{get_or_read}
use Rattle.grid.proofs.Laws.{index_below}
use Rattle.grid.proofs.canvas.Raster.get.Goals as goal

pub offset-requires-clause-fits : goal.offset-requires-clause-fits
offset-requires-clause-fits g c =
    let b = index_below _ _ c.args.x c.args.y c.args.self.lawful c.requires in
    search rules

pub offset_bounds-self-offset : goal.offset_bounds-self-offset
offset_bounds-self-offset g c =
    let b = index_below _ _ c.args.x c.args.y c.args.self.lawful c.requires in
    search rules

pub bounds-self-offset : goal.bounds-self-offset
bounds-self-offset g c =
    let b = index_below _ _ c.args.x c.args.y c.args.self.lawful c.requires in
    omega arith

pub returns : goal.returns
returns g c d =
    let b = index_below _ _ c.args.x c.args.y c.args.self.lawful c.requires in
    rw (← c.offset.ensures)
    (sym c.index-self-offset.is
    ∙ get_or_read _ c.offset.result c.index-self-offset.result (omega arith) c.index-self-offset.is d)
