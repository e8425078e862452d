use Rattle.std.proofs.Common.{rules, ◌≡◌, suc, ◌+◌, ◌-◌, ◌*◌, ◌<◌, ◌≤◌, IfOk, length, get_or, take, ap, sym, subst, ◌∙◌, arith}
use Rattle.std.specs.Vec.{vec_items}
use Rattle.std.proofs.Math.Nat.{suc-mul}
use Rattle.std.proofs.lemmas.Result.{IfOk-weaker}
use Rattle.std.proofs.lemmas.Iterator.{items_from_collect, YieldsList-from_slice, YieldsList-from_take}
use Rattle.std.proofs.lemmas.Iterator.Adapters.{YieldsList-from_flat_map}
use Rattle.std.proofs.lemmas.Iterator.Consumers.{YieldsList-from_copied, YieldsList-at}
use Rattle.grid.specs.Index.{index}
use Rattle.trials.proofs.Rows.{YieldsList-from_chunks, fronts, length-fronts, get_or-fronts}
use Rattle.trials.proofs.lists.within.Goals as goal

-- the front of each row
items : (g : _) (c : goal.After-collect g)
    → IfOk c.collect.result (λ v. vec_items v ≡ fronts c.max.result c.args.shape.width (length c.args.list.now) c.args.list.now)
items g c =
    let wide : 1 ≤ c.max.result = omega (arith, c.max.ensures) in
    items_from_collect c.collect.result c.collect.ensures.ran
    (YieldsList-from_copied (YieldsList-at c.copied.ensures.source
    (YieldsList-from_flat_map _ _ _ (λ y. y.now) (take c.args.shape.width) _
    (λ x u q k. (search rules, λ j e. YieldsList-at e (YieldsList-from_take _ (YieldsList-from_slice x.now (search rules)) (search rules))))
    (YieldsList-at c.flat_map.ensures.source (YieldsList-from_chunks c.max.result c.args.list.now wide c.chunks.ensures.rest c.chunks.ensures.size))
    c.flat_map.ensures.closure c.flat_map.ensures.front c.flat_map.ensures.back c.flat_map.ensures.done)))

pub returns-clause-len : goal.returns-clause-len
returns-clause-len g c =
    let list = c.args.list.now in
    let shape = c.args.shape in
    IfOk-weaker c.collect.result _ _ (λ v e lawful short.
    let same : c.max.result ≡ shape.stride = omega (arith, c.max.ensures, lawful.wide, lawful.within) in
    let more : shape.height * c.max.result ≡ (shape.height - 1) * c.max.result + c.max.result =
    ap (λ n. n * c.max.result) (let up : shape.height ≡ suc (shape.height - 1) = omega (arith, lawful.tall) in up) ∙ suc-mul (shape.height - 1) c.max.result in
    v.ok.0 ∙ ap length e
    ∙ length-fronts c.max.result shape.width (omega (arith, same, lawful.within)) lawful.wide (length list) list (omega arith) shape.height
    (omega (arith, more, lawful.long, ap (λ s. (shape.height - 1) * s) same)) (omega (arith, short, ap (λ s. shape.height * s) same)))
    (items g c)

pub returns-clause-elements : goal.returns-clause-elements
unfolding index
returns-clause-elements g c =
    let list = c.args.list.now in
    let shape = c.args.shape in
    IfOk-weaker c.collect.result _ _ (λ v e within x y across inside d.
    let same : c.max.result ≡ shape.stride = omega (arith, c.max.ensures, across, within) in
    ap (λ xs. get_or xs (y * shape.width + x) d) e
    ∙ get_or-fronts c.max.result shape.width (omega (arith, same, within)) (length list) list (omega arith) y x across (subst (λ s. y * s + x < length list) (sym same) inside) d
    ∙ ap (λ s. get_or list (y * s + x) d) same)
    (items g c)
