use Rattle.std.proofs.Common.{ap, ◌∙◌}
use Rattle.cells.specs.Cells.{dct2, butterflies}
use Rattle.cells.proofs.transform.transform_dct2.Goals as goal

pub returns : goal.returns
unfolding dct2
returns c =
    c.aux_idct2_in_place-3.ensures
    ∙ ap (butterflies 4) (c.aux_idct2_in_place-2.ensures ∙ ap (butterflies 2) c.aux_idct2_in_place.ensures)
