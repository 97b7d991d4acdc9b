-- Both are the flat machine after the same turns.
use Rattle.std.proofs.Common.{ap, sym, ◌∙◌}
use Rattle.law_machine.proofs.Vocabulary.{flat_after, flat_prints}
use Rattle.law_machine.proofs.FlatStarts.{flat_view_is, prints_are}
use Rattle.law_machine.proofs.flat_laws.same_turns_same_memory.Goals as goal

pub returns-clause-values : goal.returns-clause-values
returns-clause-values c = λ parts one other some more first second legal also same. flat_view_is parts one some first legal ∙ (ap (flat_after parts) same ∙ sym (flat_view_is parts other more second also))

pub returns-clause-prints : goal.returns-clause-prints
returns-clause-prints c = λ parts one other some more first second legal also same. prints_are parts one some first legal ∙ (ap (flat_prints parts) same ∙ sym (prints_are parts other more second also))
