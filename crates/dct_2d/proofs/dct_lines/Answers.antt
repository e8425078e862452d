use Rattle.std.proofs.Common.{◌≡◌, ℕ, ◌<◌, List, map, length, refl, ap, ◌∙◌, ap₂, arith}
use lib.Ieee.{Float}
use Rattle.std.specs.List.{range_with_len}
use Rattle.grid.specs.declared.Shape.{Shape}
use Rattle.grid.specs.Painted.{painted}
use Rattle.grid.specs.Window.{elements}
use Rattle.dct_2d.specs.Lines.{fore, back, read_line, lined, drawn, lined_to}
use Rattle.dct_2d.specs.Plane.{Patch, line}
use Rattle.dct.specs.Transform.{at}
use Rattle.dct_2d.proofs.Drawings.{drawn_like, drawn_next}
use Rattle.dct_2d.proofs.Passes.{lined_none, lined_more, lined_all, line_made}
use Rattle.dct_2d.proofs.dct_lines.Goals as goal

pub loop-i-init : goal.loop-i-init
loop-i-init c =
    let grid = c.args.canvas.now in
    let s = grid.shape in
    let ax = c.args.axis in
    let xs = grid.list.now in
    record {
      shape = refl;
      lines = λ k e.
          record { same = refl; shape = refl; list = lined_none s ax (lined c.args.direction ax k (elements s xs)) xs grid.lawful };
    }

pub loop-i-preserved : goal.loop-i-preserved
loop-i-preserved c =
    let grid = c.args.canvas.now in
    let s = grid.shape in
    let ax = c.args.axis in
    let d = c.args.direction in
    let xs = grid.list.now in
    let i = c.loop-i.i in
    let n = back ax s.width s.height in
    let r = c.gather.new.line in
    let r' = c.dct_line.new.line in
    let hi : i < fore ax s.width s.height = omega arith in
    let e0 : length c.loop-i.line ≡ n = omega arith in
    let e1 : length r ≡ n = omega arith in
    let e2 : length r' ≡ n = omega arith in
    record {
      shape = c.scatter.ensures.shape ∙ c.loop-i.invariant.shape;
      lines = λ k e.
          let p : Patch = lined d ax k (elements s xs) in
          let so_far = c.loop-i.invariant.lines k e in
          let er : r ≡ map (read_line s ax i (painted s (lined_to ax i p) xs)) (range_with_len 0 n) =
          c.gather.ensures
          ∙ ap (λ (t : Shape). map (read_line t ax i c.loop-i.canvas.list.now) (range_with_len 0 (length c.loop-i.line))) so_far.shape
          ∙ ap₂ (λ (v : List Float) (m : ℕ). map (read_line s ax i v) (range_with_len 0 m)) so_far.list e0 in
          let er' : r' ≡ map (line d k (at r)) (range_with_len 0 n) =
          c.dct_line.ensures k (e1 ∙ e) ∙ ap (λ (m : ℕ). map (line d k (at r)) (range_with_len 0 m)) e1 in
          drawn_like _ _ _
          (drawn_next _ _ _ so_far _ (λ (t : Shape) (v : List Float). painted t (drawn ax i (length r') r') v) c.scatter.ensures) _
          (ap (λ (m : ℕ). painted s (drawn ax i m r') (painted s (lined_to ax i p) xs)) e2
          ∙ lined_more s ax p xs grid.lawful i n r' (let z : n ≡ n = omega arith in z)
          (line_made s ax d k i n xs r r' grid.lawful hi (let z : n ≡ n = omega arith in z) e er er'));
    }

pub returns : goal.returns
returns c k e =
    let grid = c.args.canvas.now in
    let s = grid.shape in
    let ax = c.args.axis in
    drawn_like _ _ _ (c.loop-i.invariant.lines k e) _
    (lined_all s ax (lined c.args.direction ax k (elements s grid.list.now)) grid.list.now grid.lawful c.loop-i.i (omega arith))
