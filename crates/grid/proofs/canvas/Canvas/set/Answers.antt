use Rattle.std.proofs.Common.{arith, rules}
use Rattle.grid.proofs.Laws.{index_below}
use Rattle.grid.proofs.canvas.Canvas.set.Goals as goal

pub offset-i-requires-clause-fits : goal.offset-i-requires-clause-fits
offset-i-requires-clause-fits g c =
    let b = index_below _ _ c.args.x c.args.y c.args.self.now.lawful c.requires in
    search rules

pub offset_bounds-self-i : goal.offset_bounds-self-i
offset_bounds-self-i g c =
    let b = index_below _ _ c.args.x c.args.y c.args.self.now.lawful c.requires in
    search rules

pub bounds-self-i : goal.bounds-self-i
bounds-self-i g c =
    let b = index_below _ _ c.args.x c.args.y c.args.self.now.lawful c.requires in
    omega arith
