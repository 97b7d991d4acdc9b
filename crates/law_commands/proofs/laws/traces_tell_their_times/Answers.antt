-- The trace of a run tells its times.
use Rattle.alw_mesh.specs.Limits.{most_timed_steps}
use Rattle.alw_cycles.specs.ByTime.{timed_text}
use Rattle.law_commands.proofs.Again.{times_the_same, told_again}
use Rattle.law_commands.proofs.laws.traces_tell_their_times.Goals as goal

pub returns-clause-runs : goal.returns-clause-runs
returns-clause-runs c = λ image parameters journal ended is. times_the_same image parameters journal ended most_timed_steps is

pub returns-clause-timed : goal.returns-clause-timed
unfolding timed_text
returns-clause-timed c = λ image parameters costs form run words told. told_again image parameters costs form run words told
