-- By induction over what is left of the merged logs.
use Rattle.law_order.proofs.Merging.{merged_legal, merged_entries, merged_ascends, merged_nodes, merged_links}
use Rattle.law_order.proofs.MergedLogs.{logs_again}
use Rattle.law_order.proofs.merge_laws.agreeing_logs_merge.Goals as goal

pub returns-clause-legal : goal.returns-clause-legal
returns-clause-legal c = merged_legal

pub returns-clause-entries : goal.returns-clause-entries
returns-clause-entries c = merged_entries

pub returns-clause-ascends : goal.returns-clause-ascends
returns-clause-ascends c = merged_ascends

pub returns-clause-nodes : goal.returns-clause-nodes
returns-clause-nodes c = merged_nodes

pub returns-clause-links : goal.returns-clause-links
returns-clause-links c = merged_links

pub returns-clause-logs : goal.returns-clause-logs
returns-clause-logs c = logs_again
