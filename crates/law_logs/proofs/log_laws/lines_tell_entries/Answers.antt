-- Lines of entries tell the entries.
use Rattle.std.proofs.Common.{[], ◌∷◌, ◌++◌, List, ℕ, ap}
use Rattle.alw_model.specs.Machine.{machine_start}
use Rattle.law_logs.proofs.Journals.{one_journal}
use Rattle.law_logs.proofs.log_laws.lines_tell_entries.Goals as goal

pub returns : goal.returns
returns c = λ image other_image is also parameters other_parameters are too one other legal lawful e.
    (one_journal image other_image is also parameters other_parameters are too (machine_start image) (machine_start other_image) one other [] [] legal lawful
    (ap (λ (t : List ℕ). t ++ 99 ∷ []) e)).0
