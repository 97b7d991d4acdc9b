use Rattle.alw_merge.proofs.Whole.{keeps_all, has_all}
use Rattle.alw_merge.proofs.laws.merges_are_kept.Goals as goal

pub returns-clause-kept : goal.returns-clause-kept
returns-clause-kept c = keeps_all

pub returns-clause-journal : goal.returns-clause-journal
returns-clause-journal c = has_all
