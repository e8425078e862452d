use Rattle.std.proofs.Common.{lit<}
use Rattle.cells.proofs.Parts.{assembled}
use Rattle.cells.proofs.transform.assemble.Goals as goal

pub returns : goal.returns
returns c f q =
    assembled _ _ _ _ c.args.out.now c.place.new.out c.place-2.new.out c.place-3.new.out c.place-4.new.out f
    c.place.ensures c.place-2.ensures c.place-3.ensures c.place-4.ensures
    (q 0 0 (lit< tt) (lit< tt)) (q 1 0 (lit< tt) (lit< tt)) (q 0 1 (lit< tt) (lit< tt)) (q 1 1 (lit< tt) (lit< tt))
