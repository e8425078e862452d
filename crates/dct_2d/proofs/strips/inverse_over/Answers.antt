use Rattle.std.proofs.Common.{refl, arith}
use Rattle.dct.specs.declared.dct_common.DctDirection.TheVariants.{Inverse}
use Rattle.dct_2d.proofs.Passes.{rows_columns}
use Rattle.dct_2d.proofs.Stores.{long_least}
use Rattle.dct_2d.proofs.strips.inverse_over.Goals as goal

pub returns : goal.returns
returns c a b ew eh =
    let grid = c.args.canvas.now in
    record {
      same = refl;
      shape = refl;
      list =
          rows_columns grid.shape Inverse a b grid.list.now _ _ grid.lawful ew eh
          (λ e. let three = long_least grid.shape.height b c.requires.high eh in omega arith)
          (c.inverse_along.ensures a ew) (c.inverse_along-2.ensures b eh);
    }
