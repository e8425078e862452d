-- Eight rows are their definition. From 16 on: the halves have half the length, and the whole is made from them.
use Rattle.std.proofs.Common.{◌≡◌, ℕ, suc, ◌+◌, ◌/◌, length, sym, ap, ◌∙◌, ap₂, subst, arith}
use Rattle.floats.proofs.Powers.{pow_inj}
use Rattle.dct.specs.Strips.{lanes}
use Rattle.dct.specs.Transform.{idct, joined}
use Rattle.dct.proofs.Halves.{factor_count}
use Rattle.dct.proofs.Lanes.{halved, idct_step}
use Rattle.dct.proofs.strips.+inverse_strip.Goals as goal

pub even_rows-requires-clause-whole : goal.even_rows-requires-clause-whole
even_rows-requires-clause-whole t c =
    let b = halved c.args.n c.requires.sided (λ e. omega arith) in
    omega (arith, b.twice)

pub odd_rows-requires-clause-some : goal.odd_rows-requires-clause-some
odd_rows-requires-clause-some t c =
    let b = halved c.args.n c.requires.sided (λ e. omega arith) in
    b.some

pub odd_rows-requires-clause-whole : goal.odd_rows-requires-clause-whole
odd_rows-requires-clause-whole t c =
    let b = halved c.args.n c.requires.sided (λ e. omega arith) in
    omega (arith, b.twice)

pub inverse_strip-requires : goal.inverse_strip-requires
inverse_strip-requires t c =
    let b = halved c.args.n c.requires.sided (λ e. omega arith) in
    (omega (arith, b.twice, b.some), (b.long, (omega (arith, b.twice), omega (arith, b.twice))))

pub inverse_strip-requires-2 : goal.inverse_strip-requires-2
inverse_strip-requires-2 t c =
    let b = halved c.args.n c.requires.sided (λ e. omega arith) in
    (omega (arith, b.twice, b.some), (b.long, (omega (arith, b.twice), omega (arith, b.twice))))

pub join_rows-requires : goal.join_rows-requires
join_rows-requires t c =
    let b = halved c.args.n c.requires.sided (λ e. omega arith) in
    let half : length c.sec_half-sec.result.now ≡ c.args.n / 2 = factor_count b.j c.args.n c.sec_half-sec.result.now b.bound b.whole c.sec_half-sec.ensures.table in
    record { whole = omega (arith, b.twice); front = omega (arith, b.twice); back = omega (arith, b.twice) }

pub returns-then-n-eq8 : goal.returns-then-n-eq8
returns-then-n-eq8 t c k x e h =
    let v = c.args.strip.now in
    let v₁ = c.inverse8_lines.new.strip in
    let n8 : 8 ≡ c.args.n = omega arith in
    ap (λ (n : ℕ). lanes n v₁ x) (sym n8)
    ∙ c.inverse8_lines.ensures x h
    ∙ ap₂ (λ (i n : ℕ). idct i (lanes n v x)) (pow_inj 3 k (n8 ∙ e)) n8

pub returns : goal.returns
returns t c k x e h =
    let n = c.args.n in
    let b = halved n c.requires.sided (λ z. omega arith) in
    let m = n / 2 in
    let j = b.j in
    let v = c.args.strip.now in
    let v₁ = c.join_rows.new.strip in
    let front = c.even_rows.new.front in
    let back = c.odd_rows.new.back in
    let front₁ = c.inverse_strip.new.strip in
    let back₁ = c.inverse_strip-2.new.strip in
    let half : length c.sec_half-sec.result.now ≡ m = factor_count j n c.sec_half-sec.result.now b.bound b.whole c.sec_half-sec.ensures.table in
    let step : lanes (m + m) v₁ x ≡ idct (suc (suc (suc j))) (lanes (m + m) v x) =
    idct_step j m (lanes (m + m) v x) c.sec_half-sec.result.now (lanes m front x) (lanes m back x) (lanes m front₁ x) (lanes m back₁ x) (lanes (m + m) v₁ x)
    b.half (c.sec_half-sec.ensures.table (suc (suc (suc j))) (omega arith) b.bound b.whole)
    (c.even_rows.ensures x h) (c.odd_rows.ensures x h)
    (c.inverse_strip.ensures (suc (suc j)) x b.half h) (c.inverse_strip-2.ensures (suc (suc j)) x b.half h)
    (subst (λ (i : ℕ). lanes (i + i) v₁ x ≡ joined i c.sec_half-sec.result.now (lanes i front₁ x) (lanes i back₁ x)) half (c.join_rows.ensures x h)) in
    ap (λ (i : ℕ). lanes i v₁ x) b.twice
    ∙ step
    ∙ ap₂ (λ (i l : ℕ). idct i (lanes l v x)) (pow_inj (suc (suc (suc j))) k (sym b.whole ∙ e)) (sym b.twice)
