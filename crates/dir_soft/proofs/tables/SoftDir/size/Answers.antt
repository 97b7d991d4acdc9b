use Rattle.std.proofs.Common.{sym, ap, ◌∙◌, Option}
use Rattle.alw_num.specs.NodeSets.{Nodes, count_nodes}
use Rattle.alw_num.proofs.Sets.{count-none}
use Rattle.dir_soft.specs.Tables.{set_or_none}
use Rattle.dir_soft.proofs.tables.SoftDir.size.Goals as goal

-- no set, no node
pub returns-in-None-clause-size : goal.returns-in-None-clause-size
returns-in-None-clause-size c = sym (ap (λ (set : Option Nodes). count_nodes (set_or_none set)) (sym c.in-None.ensures.set) ∙ count-none)
