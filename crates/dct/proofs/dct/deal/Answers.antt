-- A turn writes one more place of each half; after the last, each half is the list that its places say.
use Rattle.std.proofs.Common.{◌*◌, length, arith}
use lib.Ieee.{nan}
use Rattle.std.proofs.lemmas.List.FromFn.{fill_by_all}
use Rattle.dct.specs.Transform.{at, odd_sum}
use Rattle.dct.proofs.dct.deal.Goals as goal

pub returns : goal.returns
returns c =
    let n = length c.args.front.now in
    record {
      front = fill_by_all (λ k. at c.args.io.now (2 * k)) c.loop-i.front n nan (omega arith) (λ k h. c.loop-i.invariant.0 k (omega arith));
      back = fill_by_all (odd_sum c.args.io.now) c.loop-i.back n nan (omega arith) (λ k h. c.loop-i.invariant.1 k (omega arith));
    }
