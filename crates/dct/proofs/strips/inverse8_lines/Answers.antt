use Rattle.std.proofs.Common.{List, refl, ap, ◌∙◌, arith}
use lib.Ieee.{Float}
use Rattle.dct.specs.Strips.{lane, lanes}
use Rattle.dct.specs.Transform.{at, idct}
use Rattle.dct.proofs.Lanes.{maps_same, lines_done, lines_kept, lanes_are}
use Rattle.dct.proofs.strips.inverse8_lines.Goals as goal

pub loop-x-preserved : goal.loop-x-preserved
loop-x-preserved c =
    let v = c.args.strip.now in
    let v₁ = c.loop-x.strip in
    let x = c.loop-x.x in
    let r = c.inverse8.result in (
      lines_done 8 (λ y. at (idct 3 (lanes 8 v y))) x (at r) v₁ c.put_line.new.strip
          (λ k h. ap (λ (u : List Float). at u k) (c.inverse8.ensures ∙ ap (idct 3) (c.line_at.ensures ∙ maps_same (lane v₁ x) (lane v x) 8 (λ q m. c.loop-x.invariant.1 x q (omega arith) (omega arith)))))
          c.put_line.ensures (omega arith) c.loop-x.invariant.0,
      lines_kept x (at r) v v₁ c.put_line.new.strip c.put_line.ensures c.loop-x.invariant.1,
    )

pub returns : goal.returns
returns c x h = lanes_are 2 8 c.loop-x.strip (lanes 8 c.args.strip.now x) x refl (λ k l. c.loop-x.invariant.0 x k (omega arith) l)
