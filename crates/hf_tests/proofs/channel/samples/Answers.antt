use Rattle.std.proofs.Common.{rules, ap, ◌∙◌, subst}
use Rattle.std.proofs.lemmas.Option.{MatchOption-at_some}
use Rattle.channels.specs.Ranges.{AllInRange}
use Rattle.hf_tests.proofs.OneCell.{one_cell, one_writable}
use Rattle.hf_tests.proofs.channel.samples.Goals as goal

pub dequantise_channel-requires : goal.dequantise_channel-requires
dequantise_channel-requires c =
    let cell = MatchOption-at_some _ _ _ c.in_ok-raster.ensures.ok_part c.sized.ensures in
    let tile = MatchOption-at_some _ _ _ c.in_ok-grid.ensures.ok_part c.sized-2.ensures in
    one_writable c.in_ok-map.map _ _ _ _
    (c.in_ok-map.ensures.1 ∙ cell.1 ∙ ap (λ s. record { shape = s; list = c.args.cells.now }) c.dense.ensures ∙ ap (λ xs. record { shape = one_cell.shape; list = xs }) c.requires.cells)
    tile.0
    (subst AllInRange (c.in_ok-numbers.ensures.1 ∙ tile.1) c.in_ok-numbers.numbers.in_range)
    c.requires.starts c.requires.weights (search rules) (search rules) (search rules) (search rules)
