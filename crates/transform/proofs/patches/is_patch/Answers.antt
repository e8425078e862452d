use Rattle.std.proofs.Common.{Bool, ◌&&◌, leb, ap, ◌∙◌, ap₂}
use Rattle.grid.specs.Index.{lawful}
use Rattle.grid.proofs.Sized.{is_lawful}
use Rattle.transform.proofs.patches.is_patch.Goals as goal

pub returns : goal.returns
returns c =
    ap (λ (b : Bool). (b && (c.is_side.result && c.is_side-2.result)) && leb 512 c.args.room)
    (is_lawful c.args.shape _ c.is_lawful-lawful.result c.is_lawful-lawful.ensures)
    ∙ ap₂ (λ (a b : Bool). (lawful c.args.shape c.args.len && (a && b)) && leb 512 c.args.room) c.is_side.ensures c.is_side-2.ensures
