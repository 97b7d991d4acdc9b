-- By what is left at the end of each window, which is where the next one begins.
use Rattle.law_windows.proofs.Following.{none_before, turns_go, are_windows, are_timed, all_ascend, none_left}
use Rattle.law_windows.proofs.windows_follow.Goals as goal

pub returns-clause-begins : goal.returns-clause-begins
returns-clause-begins c = none_before

pub returns-clause-turns : goal.returns-clause-turns
returns-clause-turns c = λ h costs from nodes parts run turns sorted sort. turns_go h costs from nodes parts run turns sorted sort

pub returns-clause-windows : goal.returns-clause-windows
returns-clause-windows c = λ h costs from windows after run nothing follow. are_windows costs h from windows after run nothing follow

pub returns-clause-timed : goal.returns-clause-timed
returns-clause-timed c = λ h costs from windows after run nothing follow. are_timed costs h from windows after follow

pub returns-clause-ascends : goal.returns-clause-ascends
returns-clause-ascends c = λ h costs from windows after run nothing follow. all_ascend costs h from windows run (are_windows costs h from windows after run nothing follow)

pub returns-clause-left : goal.returns-clause-left
returns-clause-left c = λ h costs from windows after run nothing follow. none_left costs h from windows after nothing follow
