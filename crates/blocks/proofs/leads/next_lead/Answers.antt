use Rattle.std.proofs.Common.{rules}
use Rattle.blocks.proofs.Numbering.{area_le}
use Rattle.blocks.proofs.leads.next_lead.Goals as goal

pub overflow_mul-count : goal.overflow_mul-count
overflow_mul-count c = let a = area_le _ _ c.args.map.lawful in search rules
