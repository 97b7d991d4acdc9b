-- By the lemmas on both orders.
use Rattle.std.proofs.Common.{ap, ◌∙◌}
use Rattle.alw_msg.specs.Statuses.{is_ready}
use Rattle.alw_model.specs.Flat.{Context}
use Rattle.alw_places.proofs.Commuting.{orders, local_stays, other_context, other_outcome}
use Rattle.alw_places.proofs.laws.local_turns_commute.Goals as goal

pub returns-clause-place : goal.returns-clause-place
returns-clause-place c = orders

pub returns-clause-stays : goal.returns-clause-stays
returns-clause-stays c = local_stays

pub returns-clause-ready : goal.returns-clause-ready
returns-clause-ready c = λ parts place context other here apart ready. ap (λ (x : Context). is_ready x.status) (other_context parts place context other here apart) ∙ ready

pub returns-clause-outcome : goal.returns-clause-outcome
returns-clause-outcome c = other_outcome
