-- What an event leaves, of a machine that aims at nodes that exist.
use Rattle.alw_model.specs.Machine.{state, stepped_by}
use Rattle.law_order.proofs.Local.{node_kept}
use Rattle.law_order.proofs.Clocks.{node_stepped}
use Rattle.law_order.proofs.LinksAfter.{link_is}
use Rattle.law_order.proofs.Reached.{state_aimed}
use Rattle.law_order.proofs.local_laws.events_are_local.Goals as goal

pub returns-clause-own : goal.returns-clause-own
returns-clause-own c = λ parts parameters journal legal event enabled. node_stepped parts parameters (state parts parameters journal) event (state_aimed parts parameters journal legal) enabled

pub returns-clause-others : goal.returns-clause-others
returns-clause-others c = λ parts parameters machine event n other. node_kept parts parameters machine event (stepped_by parts parameters machine event) n other

pub returns-clause-links : goal.returns-clause-links
returns-clause-links c = λ parts parameters journal legal event enabled from to here. link_is parts parameters (state parts parameters journal) (state_aimed parts parameters journal legal) event from to here enabled
