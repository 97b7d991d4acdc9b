-- By the keys of events one after the other, and by the heads of two merges.
use Rattle.law_windows.proofs.Merges.{windows_ascend, one_merge, whole_merge}
use Rattle.law_windows.proofs.windows_merge_by_start.Goals as goal

pub returns-clause-ascends : goal.returns-clause-ascends
returns-clause-ascends c = windows_ascend

pub returns-clause-one : goal.returns-clause-one
returns-clause-one c = one_merge

pub returns-clause-merge : goal.returns-clause-merge
returns-clause-merge c = whole_merge
