-- The induction over the journal, from the machine's start and the flat machine's.
use Rattle.std.specs.Prelude.{take}
use Rattle.alw_model.proofs.Journals.{legal_take}
use Rattle.law_machine.proofs.FlatStarts.{flat_view_is, turns_are_ready, prints_are}
use Rattle.law_machine.proofs.flat_laws.memory_is_flat.Goals as goal

pub returns-clause-values : goal.returns-clause-values
returns-clause-values c = flat_view_is

pub returns-clause-turns : goal.returns-clause-turns
returns-clause-turns c = turns_are_ready

pub returns-clause-prints : goal.returns-clause-prints
returns-clause-prints c = prints_are

pub returns-clause-fronts : goal.returns-clause-fronts
returns-clause-fronts c = λ parts parameters some journal legal n. flat_view_is parts parameters some (take n journal) (legal_take parts parameters n journal legal)
