-- By what each node sees of the machine in which all go on, event after event of the sort.
use Rattle.law_windows.proofs.Sorted.{is_window, told_again, nothing_left, both_alike}
use Rattle.law_windows.proofs.Sorting.{is_sorted}
use Rattle.law_windows.proofs.nodes_may_go_in_turn.Goals as goal

pub returns-clause-sort : goal.returns-clause-sort
returns-clause-sort c = is_sorted

pub returns-clause-timed : goal.returns-clause-timed
returns-clause-timed c = λ h costs from nodes parts run turns sorted sort. is_window h costs from nodes parts run turns sorted sort

pub returns-clause-told : goal.returns-clause-told
returns-clause-told c = λ h costs from nodes parts run turns sorted sort. told_again h costs from nodes parts run turns sorted sort

pub returns-clause-left : goal.returns-clause-left
returns-clause-left c = λ h costs from nodes parts run turns sorted sort. nothing_left h costs from nodes parts run turns sorted sort

pub returns-clause-after : goal.returns-clause-after
returns-clause-after c = λ h costs from nodes parts run turns sorted sort. both_alike h costs from nodes parts run turns sorted sort
