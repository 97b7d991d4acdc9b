-- The private turns so far.
use Rattle.alw_outcomes.specs.Pools.{thread_in, GoOn}
use Rattle.alw_outcomes.specs.Leads.{IsPrivateChain}
use Rattle.alw_outcomes.proofs.leads.chain.Given as goal

abbrev pub invariant-loop-more : goal.invariant-loop-more
invariant-loop-more l = record { grow : GoOn l.image l.fn.pools l.pools; chain : IsPrivateChain l.image l.classes l.context (thread_in l.fn.pools l.fn.at) l.pools l.to l.more }
