use Rattle.std.proofs.Common.{sym, refl, ap, subst, inl}
use lib.Ieee.{Float}
use Rattle.floats.proofs.Exact.{over_four}
use Rattle.floats.proofs.FourTimes.{plus_four_times}
use Rattle.floats.specs.Arith.{plus, over, four}
use Rattle.floats.specs.Same.{Same}
use Rattle.floats.proofs.mean_of_four.Goals as goal

pub returns : goal.returns
returns c =
    let p = c.args.a in
    let q = c.args.b in
    let r = c.args.c in
    let s = c.args.d in
    let e = c.sum_of_four.ensures in
    record {
      value = ap (λ (t : Float). over t four) e;
      flat = λ n room f g h.
          subst (λ (t : Float). Same (over t four) p) (sym e)
          (over_four (plus (plus (plus p q) r) s) p n (plus_four_times p q r s p n room (inl refl) f g h));
    }
