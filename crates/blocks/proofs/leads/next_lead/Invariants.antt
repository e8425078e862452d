use Rattle.varmap.specs.Cells.{cells}
use Rattle.blocks.specs.Leads.{NoLeads}
use Rattle.blocks.proofs.leads.next_lead.Given as goal

abbrev pub invariant-loop-k : goal.invariant-loop-k
invariant-loop-k l = NoLeads l.width (cells l.map.shape l.map.list.now) l.from l.k
