use Rattle.std.proofs.Common.{◌≡◌, ℕ, ◌+◌, ◌*◌, subst, arith}
use Rattle.dct.specs.Strips.{Laned}
use Rattle.dct.proofs.Lanes.{laned_none}
use Rattle.dct_2d.specs.declared.lines.Axis.TheVariants.{Rows}
use Rattle.dct_2d.specs.Lines.{read_line}
use Rattle.dct_2d.proofs.strips.load_line.Goals as goal

pub loop-i-init : goal.loop-i-init
loop-i-init c = laned_none c.args.x (read_line c.args.canvas.now.shape Rows c.args.y c.args.canvas.now.list.now) c.args.strip.now

pub loop-i-preserved : goal.loop-i-preserved
loop-i-preserved c =
    let i = c.loop-i.i in
    let f = read_line c.args.canvas.now.shape Rows c.args.y c.args.canvas.now.list.now in
    let z : i * 8 + 8 ≡ (i + 1) * 8 = omega arith in
    subst (λ (n : ℕ). Laned c.args.x n f c.args.strip.now c.put_part.new.strip) z
    (c.put_part.ensures f c.args.strip.now c.eight_at.ensures c.loop-i.invariant)

pub returns : goal.returns
returns c =
    let z : c.loop-i.i * 8 ≡ c.args.canvas.now.shape.width = omega arith in
    subst (λ (n : ℕ). Laned c.args.x n (read_line c.args.canvas.now.shape Rows c.args.y c.args.canvas.now.list.now) c.args.strip.now c.loop-i.strip) z c.loop-i.invariant
