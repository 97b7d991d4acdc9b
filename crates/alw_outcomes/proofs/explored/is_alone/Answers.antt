-- The lead says so.
use Rattle.alw_outcomes.proofs.Going.{stands_at, alone_done}
use Rattle.alw_outcomes.proofs.explored.is_alone.Goals as goal

pub returns-in-Goes-clause-alone : goal.returns-in-Goes-clause-alone
returns-in-Goes-clause-alone c =
    let stands = stands_at c.args.image.now c.args.found.now c.lead_at.new.found c.args.at c.requires.real c.requires.at c.in_ok-lead.ensures.same c.in_ok-lead.ensures.memories in
    alone_done _ c.lead_at.new.found.classes.items _ _ _ c.args.context stands c.in-Goes.to c.in-Goes.more c.in-Goes.first c.requires.context (rw c.in-Goes.is at c.in_ok-lead.ensures.lead)
