-- What the program answers: each answer with its cause, and what is read and written with it.
use Rattle.std.specs.Prelude.{◌≡◌, ℕ, List, ◌⊎◌, IsTrue}
use Rattle.std.specs.Io.KnownBytes.{Appends}
use Rattle.alw_msg.specs.declared.events.Entry.{Entry}
use Rattle.alw_config.specs.declared.commands.Asked.{Asked}
use Rattle.alw_config.specs.declared.commands.Asked.TheVariants as asked
use Rattle.alw_config.specs.declared.commands.Command.{Command}
use Rattle.alw_config.specs.declared.commands.Command.TheVariants as commands
use Rattle.alw_config.specs.Places.{AskFor, IsRefusedAt}
use Rattle.alw_answers.specs.declared.answers.Cause.{Cause}
use Rattle.alw_answers.specs.declared.answers.Cause.TheVariants as cause
use Rattle.alw_cli.specs.Streams.{Stream, IsInput, Stays, GainedPart, HadNoFault}
use Rattle.alw_answers.specs.Tasks.{Task, IsNothing}
use Rattle.alw_cli.specs.Answered.{Answered}
use Rattle.alw_builds.specs.Assembling.{asm_task}
use Rattle.alw_runs.specs.Running.{run_task}
use Rattle.alw_threads.specs.Working.{work_task}
use Rattle.alw_runs.specs.Replaying.{replay_task}
use Rattle.alw_checks.specs.Auditing.{audit_task}
use Rattle.alw_builds.specs.Making.{gen_task}
use Rattle.alw_builds.specs.ReadingBack.{dis_task}
use Rattle.alw_cuts.specs.Routing.{route_task}
use Rattle.alw_cuts.specs.Saving.{save_task}
use Rattle.alw_cuts.specs.Resuming.{resume_task}
use Rattle.alw_checks.specs.Searching.{search_task}
use Rattle.alw_orders.specs.Scheduling.{schedule_task}
use Rattle.alw_cycles.specs.Timing.{time_task}
use Rattle.alw_cycles.specs.ByTime.{by_time_task}
use Rattle.alw_answers.specs.ErrLines.{err_line}

-- ---- the answers

-- what each command is
abbrev pub task_of : Command → Task
task_of (commands.Asm form) = asm_task form
task_of (commands.Run seed params form) = run_task seed params form
task_of (commands.RunByTime costs params form) = by_time_task costs params form
task_of (commands.Replay form) = replay_task form
task_of (commands.Audit form) = audit_task form
task_of (commands.Gen seed width height size) = gen_task (record { seed = seed; width = width; height = height; size = size })
task_of (commands.Route seed) = route_task
task_of (commands.Save at) = save_task at
task_of (commands.Resume seed evict form) = resume_task seed evict form
task_of (commands.Outcomes most) = search_task most
task_of (commands.Schedule params) = schedule_task params
task_of (commands.Time costs form) = time_task costs form
task_of commands.Dis = dis_task

-- what it is that is asked for: a command, or a run by workers
abbrev pub task_for : Asked → Task
task_for (asked.Alone command) = task_of command
task_for (asked.Workers work) = work_task work.workers work.params work.write

-- the words ask for something, and this was answered to it
pub record Performed (words : List (List ℕ)) (input input' out out' : Stream) (answered : Cause) (journal : List Entry) (merged : ℕ) : Type 0 where
  pub it : Asked
  pub asked : AskFor words it
  pub answer : Answered (task_for it) input input' out out' answered journal merged

-- the words, the source and the sink before and after, and what was answered: cause, journal, and how many of its first entries come from workers
abbrev pub Answers : List (List ℕ) → Stream → Stream → Stream → Stream → Cause → List Entry → ℕ → Type 0
Answers words input input' out out' (cause.Words e) journal merged = IsRefusedAt words e.at × IsNothing journal merged × Stays input input' × Stays out out'
Answers words input input' out out' answered journal merged = Performed words input input' out out' answered journal merged

-- ---- the line on err

-- the sink gained the line of the answer, or a front of it, and then its count rose
abbrev pub Tells : Stream → Stream → Cause → Type 0
Tells before after answered = Appends before.known after.known (err_line answered) ⊎ GainedPart before after (err_line answered)

-- ---- completeness

-- where the words ask for something, the whole input is one that it accepts, if it reads any, and nothing outside fails, it is carried out, or memory
-- was refused
abbrev pub IsComplete : List (List ℕ) → Stream → Stream → Stream → Stream → Cause → Type 0
IsComplete words input input' out out' answered =
    (it : Asked) → (bytes : List ℕ) → AskFor words it → IsInput (task_for it).reads input bytes →
    (task_for it).Accepts bytes → HadNoFault input input' → HadNoFault out out' →
    IsTrue ((task_for it).is_done answered) ⊎ (answered ≡ cause.NoMemory)
