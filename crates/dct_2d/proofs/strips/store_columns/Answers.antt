use Rattle.std.proofs.Common.{◌≡◌, ℕ, List, refl, ap, arith}
use lib.Ieee.{Float}
use Rattle.grid.specs.declared.Shape.{Shape}
use Rattle.grid.specs.Painted.{painted}
use Rattle.dct_2d.specs.declared.lines.Axis.TheVariants.{Columns}
use Rattle.dct_2d.specs.Drawn.{eight_drawn, strip_drawn}
use Rattle.dct_2d.proofs.Drawings.{drawn_like, drawn_next}
use Rattle.dct_2d.proofs.Stores.{strip_none, strip_more}
use Rattle.dct_2d.proofs.strips.store_columns.Goals as goal

pub loop-k-init : goal.loop-k-init
loop-k-init c =
    let grid = c.args.canvas.now in
    record { same = refl; shape = refl; list = strip_none grid.shape c.args.x c.args.strip.now grid.list.now grid.lawful }

pub loop-k-preserved : goal.loop-k-preserved
loop-k-preserved c =
    let grid = c.args.canvas.now in
    let k = c.loop-k.k in
    let r = c.row_at.result in
    drawn_like _ _ _
    (drawn_next _ _ _ c.loop-k.invariant _ (λ (s : Shape) (xs : List Float). painted s (eight_drawn c.args.x k 8 r) xs) c.put_eight.ensures) _
    (strip_more grid.shape c.args.x c.args.strip.now grid.list.now grid.lawful k r c.row_at.ensures)

pub returns : goal.returns
returns c =
    let grid = c.args.canvas.now in
    let e : c.loop-k.k ≡ grid.shape.height = omega arith in
    drawn_like _ _ _ c.loop-k.invariant _
    (ap (λ (n : ℕ). painted grid.shape (strip_drawn Columns c.args.x 8 n c.args.strip.now) grid.list.now) e)
