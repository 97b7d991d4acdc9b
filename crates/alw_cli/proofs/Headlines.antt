-- The headline of what the program answers.
use Rattle.std.proofs.Common.{◌≡◌, ℕ, ◌+◌, ◌*◌, ◌≤◌, true, List, length, refl, sym, ap, subst, ◌∙◌, ◌⊎◌, inl, inr}
use Rattle.std.proofs.lemmas.Bool.{false≢true}
use Rattle.alw_msg.specs.declared.events.Entry.{Entry}
use Rattle.alw_image.specs.declared.parts.Parts.{Parts}
use Rattle.alw_image.specs.Faults.{image_in}
use Rattle.alw_image.specs.Images.{node_count}
use Rattle.alw_image.specs.Parameters.{Parameters}
use Rattle.alw_model.specs.Headline.{IsCoherentRun, IsScheduled}
use Rattle.law_machine.proofs.RunFacts.{always_bounded}
use Rattle.alw_mesh.specs.Limits.{most_steps, most_timed_steps}
use Rattle.alw_sched.specs.Schedules.{IsSeededRun}
use Rattle.alw_due.specs.Due.{IsTimedRun}
use Rattle.alw_sched.proofs.Bounded.{seeded_bounded}
use Rattle.alw_config.specs.declared.commands.Form.TheVariants.{Trace}
use Rattle.alw_config.specs.declared.commands.Asked.{Asked}
use Rattle.alw_config.specs.declared.commands.Asked.TheVariants as asked
use Rattle.alw_config.specs.declared.commands.Command.TheVariants as commands
use Rattle.alw_answers.specs.declared.answers.Cause.{Cause}
use Rattle.alw_answers.specs.declared.answers.Cause.TheVariants as cause
use Rattle.alw_answers.specs.declared.outputs.Output.{Output}
use Rattle.alw_answers.specs.Outputs.{cause_of, ending_of}
use Rattle.alw_cli.specs.Streams.{Stream}
use Rattle.alw_answers.specs.Tasks.{Task}
use Rattle.alw_cli.specs.Answered.{Reads, Answered}
use Rattle.alw_runs.specs.Forms.{TextOf, IsToldBy, run_text}
use Rattle.alw_runs.specs.Running.{run_task}
use Rattle.alw_threads.specs.Working.{work_task}
use Rattle.alw_runs.specs.Replaying.{replay_task}
use Rattle.alw_cuts.specs.Resuming.{resume_task}
use Rattle.alw_orders.specs.Scheduling.{schedule_task}
use Rattle.alw_cycles.specs.Timing.{time_text, time_task}
use Rattle.alw_cycles.specs.ByTime.{timed_text, by_time_task}
use Rattle.alw_cli.specs.Answers.{task_for, Answers}
use Rattle.alw_cli.specs.Headline.{has_journal, parameters_on, IsCoherent, Promised, Headline}
use Rattle.alw_cli.proofs.Completing.{answered_to}

-- an answer with a journal is an output, whose end is its cause, unless a write failed
record HasOutput (task : Task) (input input' : Stream) (c : Cause) (journal : List Entry) : Type 0 where
  pub output : Output
  pub reads : Reads task input input' (λ bytes. task.Makes bytes output)
  pub journal_is : journal ≡ output.journal
  pub told : (c ≡ cause_of output.ending) ⊎ (c ≡ cause.WriteFault)

has_output : (task : Task) (input input' out out' : Stream) (c : Cause) (journal : List Entry) (merged : ℕ) → Answered task input input' out out' c journal merged →
    has_journal c ≡ true → HasOutput task input input' c journal
has_output task input input' out out' cause.Fine journal merged made has =
    record { output = made.output; reads = made.reads; journal_is = made.journal_is; told = inl made.written.0 }
has_output task input input' out out' (cause.Trapped at) journal merged made has =
    record { output = made.output; reads = made.reads; journal_is = made.journal_is; told = inl made.written.0 }
has_output task input input' out out' (cause.Limit event) journal merged made has =
    record { output = made.output; reads = made.reads; journal_is = made.journal_is; told = inl made.written.0 }
has_output task input input' out out' cause.WriteFault journal merged made has =
    record { output = made.output; reads = made.reads; journal_is = made.journal_is; told = inr refl }
has_output task input input' out out' _ journal merged made has = absurd (false≢true has)

-- what is told of a run is coherent
module _ (most : ℕ) (text_of : TextOf) (image : Parts) (parameters : Parameters) (output : Output) (told : IsToldBy most text_of image parameters output) (c : Cause) (journal : List Entry)
    (same : journal ≡ output.journal) where
  end_of : (c ≡ cause_of output.ending) ⊎ (c ≡ cause.WriteFault) → (c ≡ cause_of (ending_of told.ended)) ⊎ (c ≡ cause.WriteFault)
  end_of (inl whole) = inl (whole ∙ ap cause_of told.ending)
  end_of (inr part) = inr part

  coherent : (c ≡ cause_of output.ending) ⊎ (c ≡ cause.WriteFault) → IsCoherent most image parameters c journal
  coherent end = record {
    image_is = told.image_is;
    parameters_are = told.parameters_are;
    fits = told.fits;
    ended = told.ended;
    run = subst (λ (j : List Entry). IsCoherentRun image parameters j told.ended) (sym same) told.run;
    told = end_of end;
    few = subst (λ (j : List Entry). length j ≤ node_count image * parameters.limit + (3 * (node_count image * parameters.sets) + 2 * (node_count image * image.per_node))) (sym same)
        (always_bounded image told.image_is parameters told.parameters_are output.journal told.run.legal);
  }

promised : (it : Asked) (input input' out out' : Stream) (c : Cause) (journal : List Entry) (merged : ℕ) →
    Answered (task_for it) input input' out out' c journal merged → has_journal c ≡ true → Promised it input input' c journal
promised (asked.Alone (commands.Run seed parameters form)) input input' out out' c journal merged answer has =
    let made = has_output (run_task seed parameters form) input input' out out' c journal merged answer has in
    let runs = made.reads.holds in
    let image = image_in made.reads.bytes in
    let under = parameters_on image parameters in
    record {
      bytes = made.reads.bytes;
      read = made.reads.read;
      accepted = runs.accepted;
      spelled = runs.spelled;
      holds = record {
        coherent = coherent most_steps (run_text form) image under made.output runs.told c journal made.journal_is made.told;
        scheduled = subst (λ (j : List Entry). IsScheduled image under j) (sym made.journal_is) runs.scheduled;
        seeded = subst (λ (j : List Entry). IsSeededRun image under seed j) (sym made.journal_is) runs.seeded;
        fewer = subst (λ (j : List Entry). length j ≤ node_count image * under.limit + 2 * (node_count image * image.per_node)) (sym made.journal_is)
            (seeded_bounded image runs.told.image_is under runs.told.parameters_are seed made.output.journal runs.seeded);
      };
    }
promised (asked.Alone (commands.RunByTime costs parameters form)) input input' out out' c journal merged answer has =
    let made = has_output (by_time_task costs parameters form) input input' out out' c journal merged answer has in
    let runs = made.reads.holds in
    let image = image_in made.reads.bytes in
    let under = parameters_on image parameters in
    record {
      bytes = made.reads.bytes;
      read = made.reads.read;
      accepted = runs.accepted;
      spelled = runs.spelled;
      holds = record {
        coherent = coherent most_timed_steps (timed_text costs form) image under made.output runs.told c journal made.journal_is made.told;
        scheduled = subst (λ (j : List Entry). IsScheduled image under j) (sym made.journal_is) runs.scheduled;
        timed = subst (λ (j : List Entry). IsTimedRun image under costs j) (sym made.journal_is) runs.timed;
      };
    }
promised (asked.Alone (commands.Replay form)) input input' out out' c journal merged answer has =
    let made = has_output (replay_task form) input input' out out' c journal merged answer has in
    let replays = made.reads.holds in
    record {
      image = replays.trace.image;
      parameters = replays.trace.params;
      coherent = coherent most_steps (run_text form) replays.trace.image replays.trace.params made.output replays.told c journal made.journal_is made.told;
    }
promised (asked.Alone (commands.Resume seed evict form)) input input' out out' c journal merged answer has =
    let made = has_output (resume_task seed evict form) input input' out out' c journal merged answer has in
    let resumes = made.reads.holds in
    record {
      image = resumes.machine.image;
      parameters = resumes.machine.parameters;
      coherent = coherent most_steps (run_text form) resumes.machine.image resumes.machine.parameters made.output resumes.told c journal made.journal_is made.told;
    }
promised (asked.Alone (commands.Time costs form)) input input' out out' c journal merged answer has =
    let made = has_output (time_task costs form) input input' out out' c journal merged answer has in
    let takes = made.reads.holds in
    record {
      image = takes.trace.image;
      parameters = takes.trace.params;
      coherent = coherent most_timed_steps (time_text costs form) takes.trace.image takes.trace.params made.output takes.told c journal made.journal_is made.told;
    }
promised (asked.Alone (commands.Schedule parameters)) input input' out out' c journal merged answer has =
    let made = has_output (schedule_task parameters) input input' out out' c journal merged answer has in
    let schedules = made.reads.holds in
    record {
      image = schedules.claim.image;
      coherent = coherent most_steps (run_text Trace) schedules.claim.image (parameters_on schedules.claim.image parameters) made.output schedules.told c journal made.journal_is made.told;
    }
promised (asked.Alone (commands.Asm form)) input input' out out' c journal merged answer has = tt
promised (asked.Alone (commands.Audit form)) input input' out out' c journal merged answer has = tt
promised (asked.Alone (commands.Gen seed width height size)) input input' out out' c journal merged answer has = tt
promised (asked.Alone (commands.Route seed)) input input' out out' c journal merged answer has = tt
promised (asked.Alone (commands.Save at)) input input' out out' c journal merged answer has = tt
promised (asked.Alone (commands.Outcomes most)) input input' out out' c journal merged answer has = tt
promised (asked.Alone commands.Dis) input input' out out' c journal merged answer has = tt
promised (asked.Workers work) input input' out out' c journal merged answer has =
    let made = has_output (work_task work.workers work.params work.write) input input' out out' c journal merged answer has in
    let works = made.reads.holds in
    let image = image_in made.reads.bytes in
    record {
      bytes = made.reads.bytes;
      read = made.reads.read;
      accepted = works.accepted;
      spelled = works.spelled;
      holds = coherent most_steps (run_text work.write) image (parameters_on image work.params) made.output works.told c journal made.journal_is made.told;
    }

pub headline : (words : List (List ℕ)) (input input' out out' : Stream) (c : Cause) (journal : List Entry) (merged : ℕ) →
    Answers words input input' out out' c journal merged → Headline words input input' c journal
headline words input input' out out' (cause.Words e) journal merged answer = λ it asked has. absurd (false≢true has)
headline words input input' out out' c journal merged answer = λ it asked has.
    promised it input input' out out' c journal merged (answered_to words input input' out out' c journal merged answer it asked) has
