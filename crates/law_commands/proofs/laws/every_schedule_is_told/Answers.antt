-- By the lemmas on what a search tells.
use Rattle.alw_image.specs.Faults.{image_in}
use Rattle.alw_endings.proofs.Schedules.{every_run}
use Rattle.law_commands.proofs.Searched.{tells_report}
use Rattle.law_commands.proofs.laws.every_schedule_is_told.Goals as goal

pub returns-clause-runs : goal.returns-clause-runs
returns-clause-runs c = λ most bytes searched searches complete parameters form output told fine.
    tells_report (image_in bytes) searches.told (every_run (image_in bytes) searches.told searches.are complete) parameters form output told fine

pub returns-clause-journals : goal.returns-clause-journals
returns-clause-journals c = λ most bytes output searches complete. every_run (image_in bytes) searches.told searches.are complete
