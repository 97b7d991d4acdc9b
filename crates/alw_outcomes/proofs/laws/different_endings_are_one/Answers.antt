-- By the lemmas on lists in strict order.
use Rattle.alw_outcomes.proofs.Ordered.{different_once, different_every}
use Rattle.alw_outcomes.proofs.laws.different_endings_are_one.Goals as goal

pub returns-clause-once : goal.returns-clause-once
returns-clause-once c = different_once

pub returns-clause-every : goal.returns-clause-every
returns-clause-every c = different_every
