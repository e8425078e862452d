use Rattle.std.proofs.Common.{◌≡◌, ℕ, ◌+◌, ◌*◌, ◌<◌, set, sym, subst, add-zero, arith}
use Rattle.dct.specs.Strips.{Laned}
use Rattle.dct.specs.Transform.{at}
use Rattle.dct.proofs.Lanes.{laned_more}
use Rattle.dct_2d.proofs.strips.put_part.Goals as goal

pub loop-j-init : goal.loop-j-init
loop-j-init c f v e r = subst (λ (n : ℕ). Laned c.args.x n f v c.args.strip.now) (sym (add-zero (c.args.i * 8))) r

pub loop-j-preserved : goal.loop-j-preserved
loop-j-preserved c f v e r =
    let i = c.args.i in
    let j = c.loop-j.j in
    let h : j < 8 = omega arith in
    let z : i * 8 + j + 1 ≡ i * 8 + (j + 1) = omega arith in
    subst (λ (n : ℕ). Laned c.args.x n f v (set c.loop-j.strip ((i * 8 + j) * 8 + c.args.x) (at c.args.numbers.now j))) z
    (laned_more c.args.x (i * 8 + j) f v c.loop-j.strip (at c.args.numbers.now j) c.requires.line (omega arith) (e j h) (c.loop-j.invariant f v e r))

pub returns : goal.returns
returns c f v e r =
    let z : c.args.i * 8 + c.loop-j.j ≡ c.args.i * 8 + 8 = omega arith in
    subst (λ (n : ℕ). Laned c.args.x n f v c.loop-j.strip) z (c.loop-j.invariant f v e r)
