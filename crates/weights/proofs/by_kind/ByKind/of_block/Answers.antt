use Rattle.std.proofs.Common.{sym, ◌∙◌}
use Rattle.kinds.proofs.Sizes.{carried_below}
use Rattle.weights.specs.Kinds.{by_kind}
use Rattle.weights.proofs.Weighed.{no_start, part_of}
use Rattle.weights.proofs.by_kind.ByKind.of_block.Goals as goal

pub start-requires : goal.start-requires
start-requires c = carried_below c.args.block.varblock.kind c.args.block.size c.args.block.carried

pub returns-in_err-start : goal.returns-in_err-start
returns-in_err-start c =
    let none = no_start (by_kind c.args.self) c.args.block.varblock.kind (sym c.start.ensures ∙ c.in_err-start.was) in
    rw c.from_residual.ensures none

pub returns : goal.returns
returns c =
    part_of (by_kind c.args.self) c.args.block.varblock.kind _ _ _ (sym c.start.ensures ∙ c.in_ok-start.was)
    c.samples.ensures.count c.part.ensures
