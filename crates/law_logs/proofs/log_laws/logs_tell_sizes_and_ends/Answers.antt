-- Two runs with one log have images of one size, like parameters and one line of their end.
use Rattle.law_logs.proofs.Logs.{rest_told}
use Rattle.law_logs.proofs.log_laws.logs_tell_sizes_and_ends.Goals as goal

pub returns : goal.returns
returns c = λ image other_image is also parameters other_parameters are too one other legal lawful ended other_ended.
    rest_told image other_image is also parameters other_parameters are too one other ended other_ended legal lawful
