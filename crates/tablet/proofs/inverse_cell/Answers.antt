use Rattle.std.proofs.Common.{rules}
use Rattle.tablet.proofs.RowOrder.{cell_rows}
use Rattle.tablet.proofs.inverse_cell.Goals as goal

pub returns : goal.returns
returns c = cell_rows c.args.kind c.args.block.now c.transform_cell.new.coeff c.requires (search rules) (search rules) c.transform_cell.ensures
