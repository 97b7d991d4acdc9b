use Rattle.alw_image.specs.Faults.{image_in}
use Rattle.law_sources.proofs.ReadBack.{read_back}
use Rattle.law_sources.proofs.Sizes.{most_bytes}
use Rattle.law_commands.proofs.ReadAgain.{accepted, same, few}
use Rattle.law_commands.proofs.laws.sources_are_assembled.Goals as goal

pub returns-clause-accepted : goal.returns-clause-accepted
returns-clause-accepted c = λ bytes output made. accepted bytes output made (read_back (image_in bytes) made.image made.words)

pub returns-clause-same : goal.returns-clause-same
returns-clause-same c = λ bytes output made. same bytes output made (read_back (image_in bytes) made.image made.words)

pub returns-clause-few : goal.returns-clause-few
returns-clause-few c = λ bytes output made. few bytes output made (read_back (image_in bytes) made.image made.words) (most_bytes (image_in bytes) made.image made.words)
