use Rattle.std.proofs.Common.{◌≡◌, ℕ, ◌+◌, List, set, refl, ap, arith}
use lib.Ieee.{Float}
use Rattle.grid.specs.declared.Shape.{Shape}
use Rattle.grid.specs.Index.{index, Inside}
use Rattle.grid.specs.Painted.{painted}
use Rattle.dct_2d.specs.Drawn.{eight_drawn}
use Rattle.dct.specs.Transform.{at}
use Rattle.dct_2d.proofs.Drawings.{shape_kept, drawn_like, drawn_next}
use Rattle.dct_2d.proofs.Stores.{eight_none, eight_more}
use Rattle.dct_2d.proofs.strips.put_eight.Goals as goal

pub set-requires : goal.set-requires
set-requires c =
    shape_kept _ _ _ c.loop-j.invariant (λ (s : Shape). Inside s (c.args.x + c.loop-j.j) c.args.y)
    (record { across = omega arith; down = c.requires.down })

pub loop-j-init : goal.loop-j-init
loop-j-init c =
    let grid = c.args.canvas.now in
    record { same = refl; shape = refl; list = eight_none grid.shape c.args.x c.args.y c.args.numbers.now grid.list.now grid.lawful }

pub loop-j-preserved : goal.loop-j-preserved
loop-j-preserved c =
    let grid = c.args.canvas.now in
    let x = c.args.x in
    let y = c.args.y in
    let m = c.loop-j.j in
    let v = c.args.numbers.now in
    let h : Inside grid.shape (x + m) y = record { across = omega arith; down = c.requires.down } in
    drawn_like _ _ _
    (drawn_next _ _ _ c.loop-j.invariant _ (λ (s : Shape) (xs : List Float). set xs (index s (x + m) y) (at v m)) c.set.ensures) _
    (eight_more grid.shape x y v grid.list.now grid.lawful m h)

pub returns : goal.returns
returns c =
    let grid = c.args.canvas.now in
    let e : c.loop-j.j ≡ 8 = omega arith in
    drawn_like _ _ _ c.loop-j.invariant _ (ap (λ (n : ℕ). painted grid.shape (eight_drawn c.args.x c.args.y n c.args.numbers.now) grid.list.now) e)
