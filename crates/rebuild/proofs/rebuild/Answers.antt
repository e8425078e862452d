use Rattle.std.proofs.Common.{length, ◌∙◌, arith}
use Rattle.rebuild.proofs.Accepted.{found, answer_is}
use Rattle.rebuild.proofs.rebuild.Goals as goal

pub rebuild_channels-count-requires : goal.rebuild_channels-count-requires
rebuild_channels-count-requires g c =
    let frame = c.args.frame.now in
    let f =
    found frame.w8 frame.h8 frame.stage _ _ _ _ (length c.args.scratch.now) c.in_ok-checked.checked c.views.ensures
    c.in_ok-checked.ensures.0 c.in_ok-checked.ensures.1 in
    record { x = f.x; y = f.y; b = f.b }

pub answer_of-requires : goal.answer_of-requires
answer_of-requires g c =
    let frame = c.args.frame.now in
    let f =
    found frame.w8 frame.h8 frame.stage _ _ _ _ (length c.args.scratch.now) c.in_ok-checked.checked c.views.ensures
    c.in_ok-checked.ensures.0 c.in_ok-checked.ensures.1 in
    omega (arith, c.rebuild_channels-count.ensures.count, f.few frame.small.1 frame.small.3)

pub returns-clause-answer : goal.returns-clause-answer
returns-clause-answer g c =
    let frame = c.args.frame.now in
    let f =
    found frame.w8 frame.h8 frame.stage _ _ _ _ (length c.args.scratch.now) c.in_ok-checked.checked c.views.ensures
    c.in_ok-checked.ensures.0 c.in_ok-checked.ensures.1 in
    answer_is frame.w8 frame.h8 frame.stage _ _ _ _ (length c.args.scratch.now) _ c.views.ensures c.in_ok-checked.ensures.0
    (c.answer_of.ensures ∙ c.rebuild_channels-count.ensures.count ∙ f.count)
