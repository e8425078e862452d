use Rattle.std.proofs.Common.{◌≡◌, List, set, sym, ◌∙◌, arith}
use lib.Ieee.{Float, nan}
use Rattle.grid.specs.declared.Shape.{Shape}
use Rattle.grid.specs.Index.{index, Inside}
use Rattle.grid.specs.Window.{elements}
use Rattle.floats.specs.Arith.{plus, minus, times}
use Rattle.dct_2d.specs.Plane.{factor, square}
use Rattle.dct_2d.proofs.Drawings.{drawn_like, drawn_next}
use Rattle.dct_2d.proofs.Passes.{squared}
use Rattle.dct_2d.proofs.Paintings.{element_in}
use Rattle.dct_2d.proofs.dct_square.Goals as goal

pub returns : goal.returns
returns c =
    let grid = c.args.canvas.now in
    let s = grid.shape in
    let xs = grid.list.now in
    let l = grid.lawful in
    let d = c.args.direction in
    let p = elements s xs in
    let in00 : Inside s 0 0 = record { across = omega arith; down = omega arith } in
    let in10 : Inside s 1 0 = record { across = omega arith; down = omega arith } in
    let in01 : Inside s 0 1 = record { across = omega arith; down = omega arith } in
    let in11 : Inside s 1 1 = record { across = omega arith; down = omega arith } in
    let e00 : c.get-v00.result ≡ p 0 0 = c.get-v00.ensures nan ∙ sym (element_in s xs l xs 0 0 in00) in
    let e01 : c.get-v01.result ≡ p 1 0 = c.get-v01.ensures nan ∙ sym (element_in s xs l xs 1 0 in10) in
    let e10 : c.get-v10.result ≡ p 0 1 = c.get-v10.ensures nan ∙ sym (element_in s xs l xs 0 1 in01) in
    let e11 : c.get-v11.result ≡ p 1 1 = c.get-v11.ensures nan ∙ sym (element_in s xs l xs 1 1 in11) in
    let m : c.pair_factor-mul.result ≡ factor d = c.pair_factor-mul.ensures in
    let g = c.pair_factor-mul.result in
    let A = times (times (plus (plus (plus c.get-v00.result c.get-v01.result) c.get-v10.result) c.get-v11.result) g) g in
    let B = times (times (minus (plus (minus c.get-v00.result c.get-v01.result) c.get-v10.result) c.get-v11.result) g) g in
    let C = times (times (minus (minus (plus c.get-v00.result c.get-v01.result) c.get-v10.result) c.get-v11.result) g) g in
    let D = times (times (plus (minus (minus c.get-v00.result c.get-v01.result) c.get-v10.result) c.get-v11.result) g) g in
    let a : A ≡ square d p 0 0 = cc in
    let b : B ≡ square d p 1 0 = cc in
    let e : C ≡ square d p 0 1 = cc in
    let f : D ≡ square d p 1 1 = cc in
    let one = drawn_next _ _ _ c.set.ensures _ (λ (t : Shape) (v : List Float). set v (index t 1 0) B) c.set-2.ensures in
    let two = drawn_next _ _ _ one _ (λ (t : Shape) (v : List Float). set v (index t 0 1) C) c.set-3.ensures in
    let three = drawn_next _ _ _ two _ (λ (t : Shape) (v : List Float). set v (index t 1 1) D) c.set-4.ensures in
    drawn_like _ _ _ three _ (squared s (square d p) xs l c.requires.wide c.requires.high A B C D a b e f)
