use Rattle.std.proofs.Common.{length, sym}
use Rattle.kernel.specs.Corner.{log2}
use Rattle.transform.specs.Maps.{forward}
use Rattle.transform.proofs.Calls.{forward_ready, forward_works, forward_idle}
use Rattle.transform.proofs.patches.forward_dct.Goals as goal

pub returns-then-is_patch : goal.returns-then-is_patch
returns-then-is_patch c =
    let s = c.args.shape in
    let xs = c.args.list.now in
    let room = length c.args.scratch.now in
    let t = sym c.if-is_patch.ensures in
    forward_works forward s room xs _ t
    (c.dct_2d.ensures.works (log2 s.width) (log2 s.height) (forward_ready s (length xs) room t))

pub returns-else-is_patch : goal.returns-else-is_patch
returns-else-is_patch c =
    forward_idle forward c.args.shape (length c.args.scratch.now) c.args.list.now
    (sym c.if-is_patch.ensures)
