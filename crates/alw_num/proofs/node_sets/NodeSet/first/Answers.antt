-- The place is the sum of three tests.
use Rattle.alw_num.proofs.Words.{first_before, first_last}
use Rattle.alw_num.proofs.node_sets.NodeSet.first.Goals as goal

pub returns-clause-before : goal.returns-clause-before
returns-clause-before c = first_before c.args.self.now.words c.from.result c.from-2.result c.from-3.result c.from.ensures c.from-2.ensures c.from-3.ensures

pub returns-clause-last : goal.returns-clause-last
returns-clause-last c = first_last c.args.self.now.words c.from.result c.from-2.result c.from-3.result c.from.ensures c.from-2.ensures c.from-3.ensures
