-- Two runs with one log have one journal.
use Rattle.law_logs.proofs.Logs.{journal_told}
use Rattle.law_logs.proofs.log_laws.logs_tell_journals.Goals as goal

pub returns : goal.returns
returns c = λ image other_image is also parameters other_parameters are too one other legal lawful ended other_ended e.
    (journal_told image other_image is also parameters other_parameters are too one other ended other_ended legal lawful e).0
