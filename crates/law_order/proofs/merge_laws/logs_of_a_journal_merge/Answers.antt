-- By induction over the journal, and by counting entries node by node.
use Rattle.law_order.proofs.JournalLogs.{journal_logs}
use Rattle.law_order.proofs.LogCounts.{logs_merge}
use Rattle.law_order.proofs.merge_laws.logs_of_a_journal_merge.Goals as goal

pub returns-clause-runs : goal.returns-clause-runs
returns-clause-runs c = journal_logs

pub returns-clause-sorted : goal.returns-clause-sorted
returns-clause-sorted c = logs_merge
