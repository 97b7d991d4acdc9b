-- One entry more.
use Rattle.alw_waits.proofs.Growing.{waits_none, waits_push, spans_none, spans_push}
use Rattle.alw_waits.proofs.laws.waits_grow.Goals as goal

pub returns-clause-none : goal.returns-clause-none
returns-clause-none c = waits_none

pub returns-clause-more : goal.returns-clause-more
returns-clause-more c = waits_push

pub returns-clause-no_spans : goal.returns-clause-no_spans
returns-clause-no_spans c = spans_none

pub returns-clause-spans : goal.returns-clause-spans
returns-clause-spans c = spans_push
