-- Each event has its lemma.
use Rattle.law_line.proofs.Steps.{event_keeps}
use Rattle.law_line.proofs.invariant.each_event_keeps_it.Goals as goal

pub returns : goal.returns
returns c = event_keeps
