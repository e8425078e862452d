-- A turn writes one more place of each half; after the last, each half is the list that its places say.
use Rattle.std.proofs.Common.{length, arith}
use lib.Ieee.{nan}
use Rattle.std.proofs.lemmas.List.FromFn.{fill_by_all}
use Rattle.dct.specs.Transform.{mean_at, slope_at}
use Rattle.dct.proofs.dct.fold.Goals as goal

pub returns : goal.returns
returns c =
    let h = length c.args.front.now in
    record {
      front = fill_by_all (mean_at h c.args.io.now) c.loop-i.front h nan (omega arith) (λ k l. c.loop-i.invariant.0 k (omega arith));
      back = fill_by_all (slope_at h c.args.sec.now c.args.io.now) c.loop-i.back h nan (omega arith) (λ k l. c.loop-i.invariant.1 k (omega arith));
    }
