use Rattle.std.proofs.Common.{◌≡◌, false, Err, sym, ap, ◌∙◌, arith, rules}
use Rattle.refusal.proofs.Checked.{from_pass, from_fail}
use Rattle.weights.specs.Weights.{weights_finite, finite_at, not_finite}
use Rattle.weights.proofs.finite.check_finite.Goals as goal

pub returns-then-not-is_finite : goal.returns-then-not-is_finite
unfolding weights_finite
returns-then-not-is_finite c =
    let ws = c.args.weights.now in
    let bad : finite_at ws c.loop-i.i ≡ false = search rules in
    ap Err c.at.ensures
    ∙ sym
    (from_fail (finite_at ws) (not_finite c.args.channel) _ 0 c.loop-i.i (omega arith) (omega arith) bad
    (λ j a b. c.loop-i.invariant j b))

pub returns : goal.returns
unfolding weights_finite
returns c =
    sym
    (from_pass (finite_at c.args.weights.now) (not_finite c.args.channel) _ 0 (λ j a b. c.loop-i.invariant j (omega arith)))
