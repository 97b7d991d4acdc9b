-- By one window after another.
use Rattle.law_apart.proofs.Through.{all_taken}
use Rattle.law_apart.proofs.windows_go_apart.Goals as goal

pub returns-clause-follow : goal.returns-clause-follow
returns-clause-follow c = λ h costs from pictures windows are take. (all_taken h costs from pictures windows are take).follow

pub returns-clause-told : goal.returns-clause-told
returns-clause-told c = λ h costs from pictures windows are take. (all_taken h costs from pictures windows are take).told

pub returns-clause-shows : goal.returns-clause-shows
returns-clause-shows c = λ h costs from pictures windows are take. (all_taken h costs from pictures windows are take).shown
