use Rattle.law_profiles.proofs.Nodes.{nodes_count}
use Rattle.law_profiles.proofs.Lines.{lines_count}
use Rattle.law_profiles.proofs.Words.{words_count}
use Rattle.law_profiles.proofs.laws.sums_are_counts.Goals as goal

pub returns-clause-nodes : goal.returns-clause-nodes
returns-clause-nodes c = nodes_count

pub returns-clause-lines : goal.returns-clause-lines
returns-clause-lines c = lines_count

pub returns-clause-words : goal.returns-clause-words
returns-clause-words c = words_count
