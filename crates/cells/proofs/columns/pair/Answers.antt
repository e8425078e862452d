use Rattle.std.proofs.Common.{rules}
use Rattle.cells.proofs.Parts.{paired_is}
use Rattle.cells.proofs.columns.pair.Goals as goal

pub returns : goal.returns
returns c = paired_is c.args.block.now (search rules)
