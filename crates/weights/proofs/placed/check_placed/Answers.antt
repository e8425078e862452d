use Rattle.std.proofs.Common.{sym, ap, ◌∙◌}
use Rattle.blocks.specs.Walk.{records, rest}
use Rattle.weights.specs.Kinds.{by_kind}
use Rattle.weights.proofs.Weighed.{judged, judged_leads}
use Rattle.weights.proofs.placed.check_placed.Goals as goal

pub loop-block-init : goal.loop-block-init
loop-block-init c = (
  tt,
  tt,
  judged_leads c.args.map.grid.shape.width c.args.map.grid.shape.height (records c.args.map) c.args.channel (by_kind c.args.weights)
      ∙ ap (judged c.args.channel (by_kind c.args.weights))
      (sym (ap rest c.into_iter-block-iterator.ensures.into_iter_gives ∙ c.varblocks-block-items.ensures)),
)
