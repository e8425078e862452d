use Rattle.std.proofs.Common.{◌+◌, refl, arith}
use Rattle.dct_2d.specs.declared.lines.Axis.TheVariants.{Columns}
use Rattle.dct_2d.specs.Lines.{read_line, read_row}
use Rattle.dct.proofs.Lanes.{rows_more}
use Rattle.dct_2d.proofs.strips.load_columns.Goals as goal

pub loop-k-init : goal.loop-k-init
loop-k-init c x k hx hk = absurd (omega arith)

pub loop-k-preserved : goal.loop-k-preserved
loop-k-preserved c =
    rows_more (λ x k. read_line c.args.canvas.now.shape Columns (c.args.x + x) c.args.canvas.now.list.now k) (read_row c.args.canvas.now.shape c.args.x c.loop-k.k c.args.canvas.now.list.now) c.loop-k.k c.loop-k.strip c.load_row.new.strip
    c.load_row.ensures (λ x h. refl) c.loop-k.invariant

pub returns : goal.returns
returns c x k hx hk = c.loop-k.invariant x k hx (omega arith)
