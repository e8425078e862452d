use Rattle.std.proofs.Common.{◌≡◌, ℕ, ◌+◌, List, refl, ap, arith}
use lib.Ieee.{Float}
use Rattle.grid.specs.declared.Shape.{Shape}
use Rattle.grid.specs.Painted.{painted}
use Rattle.dct_2d.specs.declared.lines.Axis.TheVariants.{Rows}
use Rattle.dct_2d.specs.Lines.{drawn}
use Rattle.dct.specs.Strips.{lanes}
use Rattle.dct_2d.specs.Drawn.{strip_drawn}
use Rattle.dct_2d.proofs.Drawings.{drawn_like, drawn_next}
use Rattle.dct_2d.proofs.Stores.{lines_none, lines_more}
use Rattle.dct_2d.proofs.strips.store_rows.Goals as goal

pub loop-x-init : goal.loop-x-init
loop-x-init c =
    let grid = c.args.canvas.now in
    record { same = refl; shape = refl; list = lines_none grid.shape c.args.y grid.shape.width c.args.strip.now grid.list.now grid.lawful }

pub loop-x-preserved : goal.loop-x-preserved
loop-x-preserved c =
    let grid = c.args.canvas.now in
    let y = c.args.y in
    let m = c.loop-x.x in
    let v = c.args.strip.now in
    drawn_like _ _ _
    (drawn_next _ _ _ c.loop-x.invariant _ (λ (s : Shape) (xs : List Float). painted s (drawn Rows (y + m) s.width (lanes s.width v m)) xs) c.store_line.ensures) _
    (lines_more grid.shape y grid.shape.width v grid.list.now grid.lawful m)

pub returns : goal.returns
returns c =
    let grid = c.args.canvas.now in
    let e : c.loop-x.x ≡ 8 = omega arith in
    drawn_like _ _ _ c.loop-x.invariant _
    (ap (λ (n : ℕ). painted grid.shape (strip_drawn Rows c.args.y n grid.shape.width c.args.strip.now) grid.list.now) e)
