use Rattle.alw_model.specs.Machine.{state}
use Rattle.law_order.proofs.Reached.{state_aimed}
use Rattle.alw_ready.proofs.Leaves.{was_in_time, own_stays}
use Rattle.alw_ready.proofs.laws.own_deliveries_are_left.Goals as goal

pub returns-clause-in_time : goal.returns-clause-in_time
returns-clause-in_time c = λ parts parameters journal legal event enabled same. was_in_time parts parameters (state parts parameters journal) event (state_aimed parts parameters journal legal) enabled same

pub returns-clause-deliveries : goal.returns-clause-deliveries
returns-clause-deliveries c = λ parts parameters journal legal event enabled same. own_stays parts parameters (state parts parameters journal) event (state_aimed parts parameters journal legal) enabled same
