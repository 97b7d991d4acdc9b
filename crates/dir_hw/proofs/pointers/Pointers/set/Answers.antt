-- Its nodes are below 256.
use Rattle.alw_num.proofs.Words.{nodes_below}
use Rattle.dir_hw.proofs.pointers.Pointers.set.Goals as goal

pub returns-clause-within : goal.returns-clause-within
returns-clause-within c = λ k here. nodes_below c.self.inside.nodes k (rw (← c.self.view_is) at here)
