use Rattle.alw_model.specs.Machine.{state}
use Rattle.law_order.proofs.Reached.{state_aimed}
use Rattle.alw_ready.proofs.Leaves.{others_in_time, other_stays}
use Rattle.alw_ready.proofs.laws.other_nodes_are_left.Goals as goal

pub returns-clause-in_time : goal.returns-clause-in_time
returns-clause-in_time c = λ parts parameters journal legal event enabled same. others_in_time parts parameters (state parts parameters journal) event (state_aimed parts parameters journal legal) enabled same

pub returns-clause-events : goal.returns-clause-events
returns-clause-events c = λ parts parameters journal legal event enabled same. other_stays parts parameters (state parts parameters journal) event (state_aimed parts parameters journal legal) enabled same
