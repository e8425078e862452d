use Rattle.dct.specs.Strips.{sum_lane, difference_lane}
use Rattle.dct.specs.Transform.{at}
use Rattle.dct.proofs.Lanes.{paired_of}
use Rattle.dct.proofs.strips.join_row.Goals as goal

pub returns : goal.returns
returns c =
    let e = c.args.front.now in
    let o = c.args.back.now in
    let i = c.args.i in
    let q = c.args.sec in
    paired_of i c.args.k (at c.combined.result) (at c.combined-2.result) (sum_lane q e o i) (difference_lane q e o i)
    c.args.strip.now c.put_row.new.strip c.put_row-2.new.strip c.requires.apart c.put_row.ensures c.put_row-2.ensures
    (λ x h. let s = c.combined.ensures x h in let a = c.row_at-even.ensures x h in let b = c.scaled_row-odd.ensures x h in cc)
    (λ x h. let s = c.combined-2.ensures x h in let a = c.row_at-even.ensures x h in let b = c.scaled_row-odd.ensures x h in cc)
