-- The headline of what the program answers: of each command that answers a run's journal, what is promised of that journal.
use Rattle.std.specs.Prelude.{◌≡◌, ℕ, ◌+◌, ◌*◌, ◌≤◌, Bool, true, false, None, List, length, ◌⊎◌, ⊤}
use Rattle.alw_msg.specs.declared.events.Entry.{Entry}
use Rattle.alw_image.specs.declared.parts.Parts.{Parts}
use Rattle.alw_image.specs.Faults.{image_in, image_fault}
use Rattle.alw_image.specs.Images.{IsImage, node_count, spelling}
use Rattle.alw_image.specs.Parameters.{Parameters, AreParameters, parameters_for}
use Rattle.alw_model.specs.declared.ends.Ended.{Ended}
use Rattle.alw_model.specs.Headline.{IsCoherentRun, IsScheduled}
use Rattle.alw_mesh.specs.Limits.{most_steps, most_timed_steps}
use Rattle.alw_mesh.specs.Histories.{stamps_of}
use Rattle.alw_sched.specs.Schedules.{IsSeededRun}
use Rattle.alw_times.specs.declared.costs.Costs.{Costs}
use Rattle.alw_due.specs.Due.{IsTimedRun}
use Rattle.alw_config.specs.declared.commands.Asked.{Asked}
use Rattle.alw_config.specs.declared.commands.Asked.TheVariants as asked
use Rattle.alw_config.specs.declared.commands.Command.TheVariants as commands
use Rattle.alw_config.specs.Places.{AskFor}
use Rattle.alw_answers.specs.declared.answers.Cause.{Cause}
use Rattle.alw_answers.specs.declared.answers.Cause.TheVariants as cause
use Rattle.alw_answers.specs.Outputs.{ending_of, cause_of}
use Rattle.alw_cli.specs.Streams.{Stream, ReadsAll}

-- a run's journal was answered: up to its end, also where its text wasn't written whole
abbrev pub has_journal : Cause → Bool
has_journal cause.Fine = true
has_journal (cause.Trapped at) = true
has_journal (cause.Limit event) = true
has_journal cause.WriteFault = true
has_journal _ = false

-- the journal is a coherent run of an image that fits, up to an end, which is the cause, unless a write failed; and it is bounded: by N * L, three for
-- each set of each node, and two for each line
pub record IsCoherent (most : ℕ) (image : Parts) (parameters : Parameters) (answered : Cause) (journal : List Entry) : Type 0 where
  pub image_is : IsImage image
  pub parameters_are : AreParameters parameters
  pub fits : stamps_of image parameters ≤ most
  pub ended : Ended
  pub run : IsCoherentRun image parameters journal ended
  pub told : (answered ≡ cause_of (ending_of ended)) ⊎ (answered ≡ cause.WriteFault)
  pub few : length journal ≤ node_count image * parameters.limit + (3 * (node_count image * parameters.sets) + 2 * (node_count image * image.per_node))

-- of some image under some parameters
pub record IsSomeCoherent (most : ℕ) (answered : Cause) (journal : List Entry) : Type 0 where
  pub image : Parts
  pub parameters : Parameters
  pub coherent : IsCoherent most image parameters answered journal

-- these parameters, for an image's nodes
abbrev pub parameters_on : Parts → Parameters → Parameters
parameters_on image parameters = parameters_for (node_count image) parameters

-- of some image under these parameters
pub record IsCoherentUnder (parameters : Parameters) (answered : Cause) (journal : List Entry) : Type 0 where
  pub image : Parts
  pub coherent : IsCoherent most_steps image (parameters_on image parameters) answered journal

-- the whole input is an image, of which this holds
pub record IsOfImage (input input' : Stream) (Holds : Parts → Type 0) : Type 0 where
  pub bytes : List ℕ
  pub read : ReadsAll input input' bytes
  pub accepted : image_fault bytes ≡ None
  pub spelled : bytes ≡ spelling (image_in bytes)
  pub holds : Holds (image_in bytes)

-- a coherent run by the schedule of a seed, which has at most N * L + 2 * N * K entries
pub record IsSeedsRun (seed : ℕ) (parameters : Parameters) (answered : Cause) (journal : List Entry) (image : Parts) : Type 0 where
  pub coherent : IsCoherent most_steps image parameters answered journal
  pub scheduled : IsScheduled image parameters journal
  pub seeded : IsSeededRun image parameters seed journal
  pub fewer : length journal ≤ node_count image * parameters.limit + 2 * (node_count image * image.per_node)

-- a coherent run by the timed schedule: of the events that are due the one that starts first came next
pub record IsRunByTime (costs : Costs) (parameters : Parameters) (answered : Cause) (journal : List Entry) (image : Parts) : Type 0 where
  pub coherent : IsCoherent most_timed_steps image parameters answered journal
  pub scheduled : IsScheduled image parameters journal
  pub timed : IsTimedRun image parameters costs journal

-- what is promised of the journal of what was asked for: of each command by name, nothing of those that make no run
abbrev pub Promised : Asked → Stream → Stream → Cause → List Entry → Type 0
Promised (asked.Alone (commands.Run seed parameters form)) input input' answered journal = IsOfImage input input' (λ image. IsSeedsRun seed (parameters_on image parameters) answered journal image)
Promised (asked.Alone (commands.RunByTime costs parameters form)) input input' answered journal =
    IsOfImage input input' (λ image. IsRunByTime costs (parameters_on image parameters) answered journal image)
Promised (asked.Alone (commands.Replay form)) input input' answered journal = IsSomeCoherent most_steps answered journal
Promised (asked.Alone (commands.Resume seed evict form)) input input' answered journal = IsSomeCoherent most_steps answered journal
Promised (asked.Alone (commands.Time costs form)) input input' answered journal = IsSomeCoherent most_timed_steps answered journal
Promised (asked.Alone (commands.Schedule parameters)) input input' answered journal = IsCoherentUnder parameters answered journal
Promised (asked.Alone (commands.Asm form)) input input' answered journal = ⊤
Promised (asked.Alone (commands.Audit form)) input input' answered journal = ⊤
Promised (asked.Alone (commands.Gen seed width height size)) input input' answered journal = ⊤
Promised (asked.Alone (commands.Route seed)) input input' answered journal = ⊤
Promised (asked.Alone (commands.Save at)) input input' answered journal = ⊤
Promised (asked.Alone (commands.Outcomes most)) input input' answered journal = ⊤
Promised (asked.Alone commands.Dis) input input' answered journal = ⊤
Promised (asked.Workers work) input input' answered journal =
    IsOfImage input input' (λ image. IsCoherent most_steps image (parameters_on image work.params) answered journal)

-- the words, the source before and after, and the cause and the journal that were answered
abbrev pub Headline : List (List ℕ) → Stream → Stream → Cause → List Entry → Type 0
Headline words input input' answered journal =
    (it : Asked) → AskFor words it → has_journal answered ≡ true → Promised it input input' answered journal
