use Rattle.std.proofs.Common.{◌+◌, ◌≤◌, length, get_or, set, refl, sym, ap, ◌∙◌, subst, arith}
use Rattle.grid.specs.declared.Shape.{Shape}
use Rattle.grid.specs.Index.{index, Inside}
use Rattle.grid.specs.Painted.{painted, patch}
use Rattle.grid.proofs.Patch.{strip, strip_none, strip_more, strip_old, patch_none, patch_more}
use Rattle.grid.proofs.canvas.Canvas.paint_rows.Goals as goal

pub loop-j-init : goal.loop-j-init
loop-j-init g c =
    record {
      same = refl;
      shape = refl;
      list =
          patch_none c.args.self.now.shape (g.B.Brush.made c.args.brush.now) c.args.area.x c.args.area.y _ c.args.self.now.lawful _;
    }

pub loop-i-init : goal.loop-i-init
loop-i-init g c =
    record {
      same = refl;
      shape = refl;
      list = strip_none c.loop-j.self.shape (g.B.Brush.made c.args.brush.now) c.args.area.x c.args.area.y _ c.loop-j.self.lawful _;
    }

pub loop-i-preserved : goal.loop-i-preserved
loop-i-preserved g c =
    let s = c.loop-j.self.shape in
    let f = g.B.Brush.made c.args.brush.now in
    let x = c.args.area.x + c.loop-i.i in
    let y = c.args.area.y + c.loop-j.j in
    let across : c.args.area.x + c.args.area.width ≤ s.width =
    subst (λ (t : Shape). c.args.area.x + c.args.area.width ≤ t.width) (sym c.loop-j.invariant.shape) c.requires.across in
    let down : c.args.area.y + c.args.area.height ≤ s.height =
    subst (λ (t : Shape). c.args.area.y + c.args.area.height ≤ t.height) (sym c.loop-j.invariant.shape) c.requires.down in
    let inside : Inside s x y = record { across = omega arith; down = omega arith } in
    record {
      same = c.set.ensures.same ∙ c.loop-i.invariant.same;
      shape = c.set.ensures.shape ∙ c.loop-i.invariant.shape;
      list =
          c.set.ensures.list
          ∙ ap (λ t. set c.loop-i.self.list.now (index t x y) c.stroke-value.result) c.loop-i.invariant.shape
          ∙ ap (λ xs. set xs (index s x y) c.stroke-value.result) c.loop-i.invariant.list
          ∙ strip_more s f c.args.area.x c.args.area.y c.loop-j.self.list.now c.loop-j.self.lawful c.loop-i.i c.loop-j.j c.stroke-value.result inside
          (λ d.
          c.stroke-value.ensures d
          ∙ ap (f c.loop-i.i c.loop-j.j)
          (ap (λ t. get_or c.loop-i.self.list.now (index t x y) d) c.loop-i.invariant.shape
          ∙ ap (λ xs. get_or xs (index s x y) d) c.loop-i.invariant.list
          ∙ strip_old s f c.args.area.x c.args.area.y c.loop-j.self.list.now c.loop-j.self.lawful c.loop-i.i c.loop-j.j d inside));
    }

pub loop-j-preserved : goal.loop-j-preserved
loop-j-preserved g c =
    let s = c.args.self.now.shape in
    let f = g.B.Brush.made c.args.brush.now in
    let ax = c.args.area.x in
    let ay = c.args.area.y in
    record {
      same = c.loop-i.invariant.same ∙ c.loop-j.invariant.same;
      shape = c.loop-i.invariant.shape ∙ c.loop-j.invariant.shape;
      list =
          c.loop-i.invariant.list
          ∙ ap (λ n. painted c.loop-j.self.shape (strip f ax ay c.loop-j.j n) c.loop-j.self.list.now) (omega arith)
          ∙ ap (λ t. painted t (strip f ax ay c.loop-j.j c.args.area.width) c.loop-j.self.list.now) c.loop-j.invariant.shape
          ∙ ap (painted s (strip f ax ay c.loop-j.j c.args.area.width)) c.loop-j.invariant.list
          ∙ patch_more s f ax ay _ c.args.self.now.lawful c.args.area.width c.loop-j.j;
    }
