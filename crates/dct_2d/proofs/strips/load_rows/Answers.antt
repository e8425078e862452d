use Rattle.std.proofs.Common.{◌+◌, refl, arith}
use Rattle.dct_2d.specs.declared.lines.Axis.TheVariants.{Rows}
use Rattle.dct_2d.specs.Lines.{read_line}
use Rattle.dct.proofs.Lanes.{lines_done}
use Rattle.dct_2d.proofs.strips.load_rows.Goals as goal

pub loop-x-init : goal.loop-x-init
loop-x-init c x k hx hk = absurd (omega arith)

pub loop-x-preserved : goal.loop-x-preserved
loop-x-preserved c =
    let s = c.args.canvas.now.shape in
    let xs = c.args.canvas.now.list.now in
    let x = c.loop-x.x in
    lines_done s.width (λ z. read_line s Rows (c.args.y + z) xs) x (read_line s Rows (c.args.y + x) xs) c.loop-x.strip c.load_line.new.strip
    (λ k h. refl) c.load_line.ensures (omega arith) c.loop-x.invariant

pub returns : goal.returns
returns c x k hx hk = c.loop-x.invariant x k (omega arith) hk
