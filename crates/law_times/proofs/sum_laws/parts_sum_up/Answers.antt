-- By the induction.
use Rattle.law_times.proofs.Sums.{processor_sums, controller_sums_up}
use Rattle.law_times.proofs.sum_laws.parts_sum_up.Goals as goal

pub returns-clause-processor : goal.returns-clause-processor
returns-clause-processor c = processor_sums

pub returns-clause-controller : goal.returns-clause-controller
returns-clause-controller c = controller_sums_up
