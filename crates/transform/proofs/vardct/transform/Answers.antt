use Rattle.std.proofs.Common.{◌≡◌, ℕ, ◌*◌, true, false, length, ap, ◌∙◌, arith}
use Rattle.std.proofs.lemmas.Bool.Decides.{nat_tests}
use Rattle.grid.specs.Window.{elements}
use Rattle.kinds.specs.Kinds.{wide, high}
use Rattle.dct_2d.specs.Plane.{Patch}
use Rattle.dct_2d.specs.Replaced.{poured}
use Rattle.kernel.specs.Corner.{log2}
use Rattle.transform.specs.Maps.{single}
use Rattle.transform.proofs.Calls.{is_block, plain_ready}
use Rattle.transform.specs.KindFlats.{single_wide, single_high, inverse_single, inverse_plain}
use Rattle.transform.proofs.vardct.transform.Goals as goal
use Rattle.transform.proofs.vardct.transform.Goals.{in_default-via-then-kind-lt12, in_default-via-else-kind-lt12+else-kind-lt14}

pub transform_single-requires : goal.transform_single-requires
transform_single-requires c =
    let b = is_block c.args.kind c.args.shape (length c.args.list.now) (length c.args.scratch.now) c.requires in
    let e : single c.args.kind ≡ true = grind (arith, nat_tests) in
    record {
      wide = b.width ∙ ap (λ (n : ℕ). 8 * n) (single_wide c.args.kind e);
      high = b.height ∙ ap (λ (n : ℕ). 8 * n) (single_high c.args.kind e);
      lawful = b.lawful;
    }

pub returns-in-0-to-3 : goal.returns-in-0-to-3
returns-in-0-to-3 c =
    let e : single c.args.kind ≡ true = grind (arith, nat_tests) in
    c.transform_single.ensures
    ∙ ap (λ (p : Patch). poured p c.args.shape c.args.list.now) (inverse_single c.args.kind (elements c.args.shape c.args.list.now) e)

pub returns-in_default : goal.returns-in_default
returns-in_default c =
    let k = c.args.kind in
    let s = c.args.shape in
    let xs = c.args.list.now in
    let room = length c.args.scratch.now in
    let e : single k ≡ false =
    elim c.in_default.branch [
      | in_default-via-then-kind-lt12 w ↦ grind (arith, nat_tests)
      | in_default-via-else-kind-lt12+else-kind-lt14 w ↦ grind (arith, nat_tests)
    ] in
    c.dct_2d.ensures.works (log2 (8 * wide k)) (log2 (8 * high k)) (plain_ready k s (length xs) room (is_block k s (length xs) room c.requires))
    ∙ ap (λ (p : Patch). poured p s xs) (inverse_plain k (elements s xs) e)
