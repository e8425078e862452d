use Rattle.std.proofs.Common.{◌≡◌, ◌+◌, ◌*◌, ◌≤◌, length, arith}
use Rattle.trials.proofs.Padding.{padded-push}
use Rattle.trials.proofs.lists.filled.Goals as goal
use Rattle.trials.proofs.lists.filled.Goals.{then-x-shape+in_ok-element, else-x-shape}

pub loop-x-preserved : goal.loop-x-preserved
loop-x-preserved g c =
    let last : c.args.shape.width ≤ c.loop-x.x → c.if-x-shape.element ≡ c.args.beyond =
    elim c.if-x-shape.branch [
      | then-x-shape+in_ok-element w ↦ λ (h : c.args.shape.width ≤ c.loop-x.x). absurd (omega arith)
      | else-x-shape w ↦ λ (h : c.args.shape.width ≤ c.loop-x.x). w.element-is
    ] in
    let len : length c.loop-x.list.items ≡ c.rows.counter * c.args.shape.stride + c.loop-x.x =
    omega (arith, c.loop-x.list.ok, c.loop-x.invariant.len) in
    record {
      len = omega (arith, c.in_ok-push.ensures.len, c.loop-x.invariant.len);
      padding = padded-push c.loop-x.list.items c.push.new.self.items c.if-x-shape.element c.args.beyond c.args.shape.width
          c.args.shape.stride c.rows.counter c.loop-x.x c.in_ok-push.ensures.items len (omega arith) last c.loop-x.invariant.padding;
    }
