use Rattle.std.proofs.Common.{◌≡◌, ℕ, true, List, length, sym, refl, ap, ◌∙◌, subst, rules}
use lib.Ieee.{Float}
use Rattle.grid.specs.declared.Shape.{Shape}
use Rattle.dct_2d.specs.Replaced.{replaced}
use Rattle.kernel.specs.Maps.{inverted}
use Rattle.transform.specs.Maps.{inverse}
use Rattle.transform.specs.Tests.{inverts}
use Rattle.transform.proofs.Calls.{inverse_works}
use Rattle.tablet.specs.Block.{rows}
use Rattle.tablet.specs.Bytes.{encoded}
use Rattle.tablet.proofs.inverse_over.Goals as goal

pub returns : goal.returns
returns c =
    let k = c.args.kind in
    let xs = c.decode.new.block in
    let room = length c.args.scratch.now in
    let long : length c.args.block.now ≡ length xs = search rules in
    let t : inverts k (rows k) (length xs) room ≡ true = subst (λ (n : ℕ). inverts k (rows k) n room ≡ true) long c.requires.block in
    c.encode.ensures
    ∙ ap encoded
    (c.inverse.ensures
    ∙ ap (λ (s : Shape). inverted inverse k s room xs) c.requires.rows
    ∙ sym (inverse_works inverse k (rows k) room xs _ t refl)
    ∙ ap (λ (v : List Float). replaced (inverse k) (rows k) v) c.decode.ensures)
