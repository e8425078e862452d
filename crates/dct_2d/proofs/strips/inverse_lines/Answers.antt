use Rattle.std.proofs.Common.{◌≡◌, ℕ, ◌+◌, ◌*◌, ◌<◌, ◌≤◌, List, refl, sym, ap, ◌∙◌, subst, arith}
use lib.Ieee.{Float}
use Rattle.grid.specs.declared.Shape.{Shape}
use Rattle.grid.specs.Painted.{painted}
use Rattle.grid.specs.Window.{elements}
use Rattle.dct.specs.declared.dct_common.DctDirection.TheVariants.{Inverse}
use Rattle.dct_2d.specs.Lines.{fore, back, read_line, lined, lined_to}
use Rattle.dct_2d.specs.Plane.{Patch}
use Rattle.dct.specs.Sides.{Long}
use Rattle.dct.specs.Strips.{lane}
use Rattle.dct_2d.specs.Drawn.{strip_drawn}
use Rattle.dct_2d.proofs.Drawings.{drawn_like, drawn_next}
use Rattle.dct_2d.proofs.Passes.{lined_none, lined_all}
use Rattle.dct_2d.proofs.Stores.{strip_lined, strip_made, long_least}
use Rattle.dct_2d.proofs.strips.inverse_lines.Goals as goal

pub loop-i-init : goal.loop-i-init
loop-i-init c =
    let grid = c.args.canvas.now in
    let s = grid.shape in
    let ax = c.args.axis in
    let xs = grid.list.now in
    record {
      shape = refl;
      lines = λ k e. record { same = refl; shape = refl; list = lined_none s ax (lined Inverse ax k (elements s xs)) xs grid.lawful };
    }

pub loop-i-preserved : goal.loop-i-preserved
loop-i-preserved c =
    let grid = c.args.canvas.now in
    let s = grid.shape in
    let ax = c.args.axis in
    let xs = grid.list.now in
    let i = c.loop-i.i in
    let n = c.length-n.result in
    let r = c.load.new.strip in
    let r' = c.inverse_eight.new.strip in
    let en : n ≡ back ax s.width s.height = c.length-n.ensures in
    let hi : i * 8 + 8 ≤ fore ax s.width s.height = omega arith in
    let next : i * 8 + 8 ≡ (i + 1) * 8 = omega arith in
    record {
      shape = c.store.ensures.shape ∙ c.loop-i.invariant.shape;
      lines = λ k e.
          let p : Patch = lined Inverse ax k (elements s xs) in
          let so_far = c.loop-i.invariant.lines k e in
          let three = long_least (back ax s.width s.height) k c.requires.sided e in
          let loaded = subst
          (λ (t : Shape). (x j : ℕ) → x < 8 → j < back ax t.width t.height → lane r x j ≡ read_line t ax (i * 8 + x) c.loop-i.canvas.list.now j)
          so_far.shape c.load.ensures in
          drawn_like _ _ _
          (drawn_next _ _ _ so_far _ (λ (t : Shape) (v : List Float). painted t (strip_drawn ax (i * 8) 8 (back ax t.width t.height) r') v) c.store.ensures) _
          (strip_lined s ax (i * 8) r' xs grid.lawful p
          (strip_made s ax k (i * 8) n xs r r' grid.lawful hi en (en ∙ e) (omega arith)
          (λ x j hx hj. loaded x j hx hj ∙ ap (λ (v : List Float). read_line s ax (i * 8 + x) v j) so_far.list)
          (λ x hx. c.inverse_eight.ensures.works k x (record { long = subst Long (sym en) c.requires.sided; whole = omega arith; room = omega arith }) (en ∙ e) hx))
          ∙ ap (λ (m : ℕ). painted s (lined_to ax m p) xs) next);
    }

pub returns : goal.returns
returns c k e =
    let grid = c.args.canvas.now in
    let s = grid.shape in
    let ax = c.args.axis in
    drawn_like _ _ _ (c.loop-i.invariant.lines k e) _
    (lined_all s ax (lined Inverse ax k (elements s grid.list.now)) grid.list.now grid.lawful (c.loop-i.i * 8) (omega arith))
