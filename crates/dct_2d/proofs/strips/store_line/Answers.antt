use Rattle.std.proofs.Common.{◌≡◌, ℕ, ◌+◌, ◌*◌, ◌≤◌, List, refl, sym, ap, ◌∙◌, arith}
use lib.Ieee.{Float}
use Rattle.grid.specs.declared.Shape.{Shape}
use Rattle.grid.specs.Painted.{painted}
use Rattle.dct.specs.Strips.{lane, lanes}
use Rattle.dct.proofs.Flat.{at_map}
use Rattle.dct_2d.specs.declared.lines.Axis.TheVariants.{Rows}
use Rattle.dct_2d.specs.Drawn.{eight_drawn}
use Rattle.dct_2d.specs.Lines.{drawn}
use Rattle.dct_2d.proofs.Drawings.{drawn_like, drawn_next}
use Rattle.dct_2d.proofs.Passes.{drawn_none}
use Rattle.dct_2d.proofs.Stores.{drawn_eight}
use Rattle.dct_2d.proofs.strips.store_line.Goals as goal

pub loop-i-init : goal.loop-i-init
loop-i-init c =
    let grid = c.args.canvas.now in
    record {
      same = refl;
      shape = refl;
      list = drawn_none grid.shape Rows c.args.y (lanes grid.shape.width c.args.strip.now c.args.x) grid.list.now grid.lawful;
    }

pub loop-i-preserved : goal.loop-i-preserved
loop-i-preserved c =
    let grid = c.args.canvas.now in
    let y = c.args.y in
    let i = c.loop-i.i in
    let r = c.part_at.result in
    let w = c.args.strip.now in
    let v = lanes grid.shape.width w c.args.x in
    let h : i * 8 + 8 ≤ grid.shape.width = omega arith in
    let z : i * 8 + 8 ≡ (i + 1) * 8 = omega arith in
    drawn_like _ _ _
    (drawn_next _ _ _ c.loop-i.invariant _ (λ (s : Shape) (xs : List Float). painted s (eight_drawn (i * 8) y 8 r) xs) c.put_eight.ensures) _
    (drawn_eight grid.shape y (i * 8) v r grid.list.now grid.lawful
    (λ j l. c.part_at.ensures j l ∙ sym (at_map (lane w c.args.x) grid.shape.width (i * 8 + j) (omega arith)))
    ∙ ap (λ (n : ℕ). painted grid.shape (drawn Rows y n v) grid.list.now) z)

pub returns : goal.returns
returns c =
    let grid = c.args.canvas.now in
    let e : c.loop-i.i * 8 ≡ grid.shape.width = omega arith in
    drawn_like _ _ _ c.loop-i.invariant _
    (ap (λ (n : ℕ). painted grid.shape (drawn Rows c.args.y n (lanes grid.shape.width c.args.strip.now c.args.x)) grid.list.now) e)
