use Rattle.std.proofs.Common.{◌≡◌, ℕ, List, length, set, refl, ap, arith}
use lib.Ieee.{Float}
use Rattle.grid.specs.declared.Shape.{Shape}
use Rattle.grid.specs.Index.{index, Inside}
use Rattle.grid.specs.Painted.{painted}
use Rattle.dct_2d.specs.Lines.{fore, back, drawn}
use Rattle.dct.specs.Transform.{at}
use Rattle.dct_2d.proofs.Drawings.{shape_kept, drawn_like, drawn_next}
use Rattle.dct_2d.proofs.Passes.{inside_line, drawn_none, drawn_more}
use Rattle.dct_2d.proofs.lines.scatter.Goals as goal

pub write-requires : goal.write-requires
write-requires c =
    let ax = c.args.axis in
    let i = c.args.i in
    let k = c.loop-k.k in
    shape_kept _ _ _ c.loop-k.invariant (λ (s : Shape). Inside s (fore ax i k) (back ax i k))
    (inside_line c.args.canvas.now.shape ax i k c.requires.inside (omega arith))

pub loop-k-init : goal.loop-k-init
loop-k-init c =
    let grid = c.args.canvas.now in
    record { same = refl; shape = refl; list = drawn_none grid.shape c.args.axis c.args.i c.args.line.now grid.list.now grid.lawful }

pub loop-k-preserved : goal.loop-k-preserved
loop-k-preserved c =
    let grid = c.args.canvas.now in
    let ax = c.args.axis in
    let i = c.args.i in
    let k = c.loop-k.k in
    let v = c.args.line.now in
    drawn_like _ _ _
    (drawn_next _ _ _ c.loop-k.invariant _ (λ (s : Shape) (xs : List Float). set xs (index s (fore ax i k) (back ax i k)) (at v k)) c.write.ensures) _
    (drawn_more grid.shape ax i v grid.list.now grid.lawful k (inside_line grid.shape ax i k c.requires.inside (omega arith)))

pub returns : goal.returns
returns c =
    let grid = c.args.canvas.now in
    let e : c.loop-k.k ≡ length c.args.line.now = omega arith in
    drawn_like _ _ _ c.loop-k.invariant _ (ap (λ (n : ℕ). painted grid.shape (drawn c.args.axis c.args.i n c.args.line.now) grid.list.now) e)
