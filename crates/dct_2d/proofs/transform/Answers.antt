use Rattle.std.proofs.Common.{sym, ap, arith}
use Rattle.dct.specs.declared.dct_common.DctDirection.{DctDirection}
use Rattle.dct_2d.specs.Plane.{plane}
use Rattle.dct_2d.specs.Replaced.{replaced}
use Rattle.dct_2d.proofs.Drawings.{drawn_like}
use Rattle.dct.proofs.Lanes.{long_from}
use Rattle.dct_2d.proofs.transform.Goals as goal

pub inverse_patch-requires-clause-wide : goal.inverse_patch-requires-clause-wide
inverse_patch-requires-clause-wide c =
    let q = c.requires.2 in
    long_from c.args.canvas.now.shape.width c.requires.0 q.narrow q.width (omega arith)

pub inverse_patch-requires-clause-high : goal.inverse_patch-requires-clause-high
inverse_patch-requires-clause-high c =
    let q = c.requires.2 in
    long_from c.args.canvas.now.shape.height c.requires.1 q.low q.height (omega arith)

pub returns-in-Inverse : goal.returns-in-Inverse
returns-in-Inverse c a b q =
    let grid = c.args.canvas.now in
    drawn_like _ _ _ (c.inverse_patch.ensures a b q.width q.height) _
    (ap (λ (d : DctDirection). replaced (plane d a b) grid.shape grid.list.now) (sym c.in-Inverse.is))
