use Rattle.std.proofs.Common.{length, sym, ap, ◌∙◌, subst, arith, rules}
use Rattle.grid.specs.declared.Shape.{Shape}
use Rattle.blocks.specs.Walk.{rest}
use Rattle.blocks.proofs.Working.{first, left_all, left_more, left_none, left_few}
use Rattle.blocks.proofs.work.work_on_each.Goals as goal

pub loop-block-init : goal.loop-block-init
loop-block-init g c = (
  tt,
  tt,
  left_all c.args.map _ c.args.canvas.now _
      (ap rest c.into_iter-block-iterator.ensures.into_iter_gives ∙ c.varblocks-block-items.ensures) c.requires.width c.requires.height,
)

pub work-requires-clause-across : goal.work-requires-clause-across
work-requires-clause-across g c =
    let k = first c.args.map c.in-Some.block _ _ c.in-Some.ensures.steps c.loop-block.invariant.2.of_map in
    let w = ap (λ (s : Shape). s.width) c.loop-block.invariant.2.drawn.shape in
    omega (arith, k.across, w, c.requires.width)

pub work-requires-clause-down : goal.work-requires-clause-down
work-requires-clause-down g c =
    let k = first c.args.map c.in-Some.block _ _ c.in-Some.ensures.steps c.loop-block.invariant.2.of_map in
    let h = ap (λ (s : Shape). s.height) c.loop-block.invariant.2.drawn.shape in
    omega (arith, k.down, h, c.requires.height)

pub work-requires-clause-can : goal.work-requires-clause-can
work-requires-clause-can g c =
    let k = first c.args.map c.in-Some.block _ _ c.in-Some.ensures.steps c.loop-block.invariant.2.of_map in
    subst (λ n. g.W.Work.ready c.args.work.now n c.in-Some.block.varblock) (sym c.loop-block.auto.scratch)
    (c.requires.can c.in-Some.block.varblock k.of_map)

pub overflow_add-count : goal.overflow_add-count
overflow_add-count g c =
    let e = ap length c.in-Some.ensures.steps in
    let few = left_few c.args.map _ c.args.canvas.now _ _ c.loop-block.canvas c.requires.width c.requires.height c.loop-block.invariant.2 in
    search rules

pub loop-block-preserved : goal.loop-block-preserved
loop-block-preserved g c = (
  tt,
  tt,
  left_more c.args.map _ c.args.canvas.now c.in-Some.block.varblock _ _ c.loop-block.count c.loop-block.canvas c.work.new.canvas
      c.in-Some.ensures.steps c.loop-block.invariant.2 c.work.ensures,
)

pub returns-clause-samples : goal.returns-clause-samples
returns-clause-samples g c =
    (left_none c.args.map _ c.args.canvas.now _ c.loop-block.count c.loop-block.canvas c.in-None.ensures.steps.0 c.loop-block.invariant.2).0
