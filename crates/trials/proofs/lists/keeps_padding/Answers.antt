use Rattle.std.proofs.Common.{◌≡◌, ◌%◌, ◌≤◌, length, drop, sym, ◌∙◌, subst, arith, rules}
use Rattle.std.specs.List.{list_all}
use Rattle.std.specs.Float.{nan}
use Rattle.std.specs.Float.Ieee.{eq}
use Rattle.std.proofs.lemmas.Iterator.Search.{all_from_yields_List}
use Rattle.trials.specs.declared.lists.TheConstants.{PADDING}
use Rattle.trials.proofs.Rows.{YieldsList-from_chunks, all_beyond, true_beyond, beyond_true}
use Rattle.trials.proofs.lists.keeps_padding.Goals as goal
use borrow.Author.Tests.{tests}

pub returns : goal.returns
returns c some =
    let list = c.args.list.now in
    let width = c.args.shape.width in
    let same : c.max.result ≡ c.args.shape.stride = omega (arith, c.max.ensures, some) in
    let wide : 1 ≤ c.max.result = omega (arith, same, some) in
    let told : c.all.result ≡ all_beyond (λ v. eq v PADDING) c.max.result width (length list) list =
    all_from_yields_List (λ row. list_all (λ v. eq v PADDING) (drop width row)) _ _ c.all.result c.all.ensures.ran
    (YieldsList-from_chunks c.max.result list wide c.chunks.ensures.rest c.chunks.ensures.size) (λ x b q k. search (rules, tests)) in (
      (λ yes k below at. true_beyond (λ v. eq v PADDING) c.max.result width wide nan (length list) list (omega arith) (sym told ∙ yes) k below (subst (λ s. width ≤ k % s) (sym same) at)),
      λ h. told ∙ beyond_true (λ v. eq v PADDING) c.max.result width wide nan (length list) list (omega arith) (λ k below at. h k below (subst (λ s. width ≤ k % s) same at)),
    )
