use Rattle.std.proofs.Common.{length, arith}
use lib.Ieee.{nan}
use Rattle.std.proofs.lemmas.List.FromFn.{fill_by_all}
use Rattle.dct_2d.specs.Lines.{read_line}
use Rattle.dct_2d.proofs.Passes.{inside_line}
use Rattle.dct_2d.proofs.lines.gather.Goals as goal

pub read-requires : goal.read-requires
read-requires c = inside_line c.args.canvas.now.shape c.args.axis c.args.i c.loop-k.k c.requires.inside (omega arith)

pub returns : goal.returns
returns c =
    let grid = c.args.canvas.now in
    fill_by_all (read_line grid.shape c.args.axis c.args.i grid.list.now) c.loop-k.line (length c.args.line.now) nan (omega arith)
    (λ k l. c.loop-k.invariant k (omega arith))
