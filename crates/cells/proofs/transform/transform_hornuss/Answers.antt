use Rattle.std.proofs.Common.{ap, ◌∙◌}
use Rattle.dct_2d.specs.Plane.{Patch}
use Rattle.cells.specs.Cells.{cell, quartered, hornuss, hornuss_quarter}
use Rattle.cells.proofs.Parts.{four_quarters}
use Rattle.cells.proofs.transform.transform_hornuss.Goals as goal

pub returns : goal.returns
unfolding hornuss
returns c =
    let f = hornuss_quarter (cell c.aux_idct2_in_place.new.block) in
    c.assemble.ensures f
    (four_quarters c.hornuss_quarter.result c.hornuss_quarter-2.result c.hornuss_quarter-3.result c.hornuss_quarter-4.result f
    c.hornuss_quarter.ensures c.hornuss_quarter-2.ensures c.hornuss_quarter-3.ensures c.hornuss_quarter-4.ensures)
    ∙ ap (λ (p : Patch). quartered (hornuss_quarter p)) c.aux_idct2_in_place.ensures
