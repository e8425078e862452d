use Rattle.std.proofs.Common.{length, refl}
use Rattle.std.proofs.lemmas.List.{take_rest}
use Rattle.kernel.proofs.Patches.{over_part}
use Rattle.kernel.proofs.over_area.Given as given
use Rattle.kernel.proofs.over_area.Goals as goal

pub returns : goal.returns
returns g c image replaces =
    let canvas = c.args.canvas.now in
    record {
      same = refl;
      shape = refl;
      list =
          over_part canvas.shape c.args.area canvas.list.now canvas.lawful
          c.requires.wide c.requires.tall c.requires.across c.requires.down (given.F-post g c.args.call) (length c.args.scratch.now) image replaces
          _ c.start_of-start.ensures.place _ c.patch-part.ensures _ _ _ _ (take_rest canvas.list.now c.start_of-start.result) refl c.call.ensures;
    }
