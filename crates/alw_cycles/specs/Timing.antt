-- The command `time`.
use Rattle.std.specs.Prelude.{◌≡◌, is_some, true}
use Rattle.alw_mesh.specs.Limits.{most_timed_steps}
use Rattle.alw_times.specs.declared.costs.Costs.{Costs}
use Rattle.alw_timing.specs.declared.timing.RunTimes.{RunTimes}
use Rattle.alw_timing.specs.declared.timing.Tells.{Tells}
use Rattle.alw_timing.specs.declared.timing.Tells.TheVariants as tells
use Rattle.alw_timing.specs.Timing.{has_waits, has_spans}
use Rattle.alw_timing.specs.Texts.{cycles_text_of, moments_text_of}
use Rattle.alw_config.specs.declared.commands.TimeForm.{TimeForm}
use Rattle.alw_config.specs.declared.commands.TimeForm.TheVariants.{Cycles, Moments}
use Rattle.alw_answers.specs.Outputs.{is_run}
use Rattle.alw_answers.specs.Tasks.{Task}
use Rattle.alw_runs.specs.Forms.{TextOf}
use Rattle.alw_runs.specs.Replaying.{TakesAgain, IsNoReplay, IsFinishedText}

-- the times of a run by these costs, in a form
unfoldable pub time_text : Costs → TimeForm → TextOf
time_text costs Cycles parts parameters journal ended = cycles_text_of parts parameters costs ended journal
time_text costs Moments parts parameters journal ended = moments_text_of parts parameters costs journal

-- a trace is refused as a replay of it is, but for its limit, and its times are told with its journal
abbrev pub time_task : Costs → TimeForm → Task
time_task costs form = record {
  reads = true;
  Makes = TakesAgain most_timed_steps (time_text costs form);
  Refuses = IsNoReplay most_timed_steps;
  Accepts = IsFinishedText most_timed_steps;
  is_done = is_run;
}

-- ---- for private clauses

-- what a form tells beside the clocks
abbrev pub tells_by : TimeForm → Tells
tells_by Cycles = tells.Waits
tells_by Moments = tells.Spans

-- times tell that
pub record TellAs (told : Tells) (times : RunTimes) : Type 0 where
  pub waits : is_some times.waits ≡ has_waits told
  pub spans : is_some times.spans ≡ has_spans told
