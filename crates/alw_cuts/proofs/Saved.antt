-- What `save` and `resume` make.
use Rattle.std.proofs.Common.{◌≡◌, ℕ, List, [], ◌∷◌, ◌++◌, refl, sym, ap, subst, ◌∙◌, append_assoc, arith}
use Rattle.std.specs.Prelude.{Ok, Err}
use Rattle.std.proofs.lemmas.List.{append-nil}
use Rattle.alw_msg.specs.declared.events.Event.{Event}
use Rattle.alw_msg.specs.declared.events.Entry.{Entry}
use Rattle.alw_model.specs.declared.ends.Ended.{Ended}
use Rattle.alw_model.specs.Machine.{IsLegal}
use Rattle.alw_mesh.specs.Histories.{History, grown, entry_of}
use Rattle.alw_sched.specs.Schedules.{EventsAreDrawn, MachineIsSeeded, RunIsFinished}
use Rattle.alw_num.specs.Draws.{drawn}
use Rattle.alw_trace.specs.declared.values.Trace.{Trace}
use Rattle.alw_save.specs.declared.faults.CutErr.{CutErr}
use Rattle.alw_save.specs.declared.faults.CutErr.TheVariants as cuts
use Rattle.alw_save.specs.declared.faults.RestoreErr.{RestoreErr}
use Rattle.alw_save.specs.declared.faults.RestoreErr.TheVariants as restore
use Rattle.alw_save.specs.Cuts.{LeavesCut}
use Rattle.alw_save.specs.Checkpoints.{checkpoint_text}
use Rattle.alw_save.specs.Restoring.{IsCheckpoint, Restores}
use Rattle.alw_config.specs.declared.commands.Form.{Form}
use Rattle.alw_answers.specs.declared.outputs.Ending.TheVariants.{Fine}
use Rattle.alw_answers.specs.declared.outputs.Output.{Output}
use Rattle.alw_answers.specs.Outputs.{Gives}
use Rattle.alw_cuts.specs.Refusals.{refusal_of_cut, refusal_of_restore}
use Rattle.alw_runs.specs.Forms.{IsTold, output_of}
use Rattle.alw_runs.specs.Replaying.{Spells}
use Rattle.alw_cuts.specs.Saving.{Saves, IsNoCut}
use Rattle.alw_cuts.specs.Resuming.{Resumes, IsNoCheckpoint}
use Rattle.alw_mesh.specs.Limits.{most_steps}
use Rattle.alw_runs.proofs.Ended.{IsFitFor, told_of_run}

-- ---- save

module _ (at : ℕ) (bytes : List ℕ) (trace : Trace) (spells : Spells bytes trace) where
  pub not_saved : (Makes : Output → Type 0) (fault : CutErr) → LeavesCut trace at (Err fault) → Gives Makes (IsNoCut bytes) (Err (refusal_of_cut fault))
  not_saved Makes (cuts.DoesNotFit number most) is =
      record { trace = trace; spelled = spells; holds = record { most_is = is.2; number_is = is.1; above = omega (arith, is.0, is.1) } }
  not_saved Makes (cuts.NotLegal k) is = record { trace = trace; spelled = spells; holds = is }
  not_saved Makes cuts.NoMemory is = tt

  pub saved : (machine : History) (journal : List Entry) (text : List ℕ) → LeavesCut trace at (Ok machine) → journal ≡ machine.journal →
      text ≡ checkpoint_text machine.image machine.parameters machine.journal → Saves at bytes (record { text = text; ending = Fine; journal = journal; merged = 0 })
  saved machine journal text leaves same written =
      let kept = same ∙ ap (λ (h : History). h.journal) leaves.2 in
      record {
        trace = trace;
        spelled = spells;
        sound = leaves.0;
        kept = kept;
        legal = subst (λ (j : List Entry). IsLegal trace.image trace.params j) (sym kept)
            (subst (λ (h : History). IsLegal h.image h.parameters h.journal) leaves.2 leaves.1.legal);
        text = written ∙ ap (λ (h : History). checkpoint_text h.image h.parameters h.journal) leaves.2
            ∙ ap (λ (j : List Entry). checkpoint_text trace.image trace.params j) (sym kept);
        ending = refl;
        merged = refl;
      }

-- ---- resume

-- what a seed makes of a machine goes on from its journal
record IsGrown (before after : History) : Type 0 where
  pub later : List Entry
  pub is : after ≡ record before { journal = before.journal ++ later }

grown_from : (h : History) (x : ℕ) (events : List Event) (after : History) (y : ℕ) → EventsAreDrawn h x events after y → IsGrown h after
grown_from h x [] after y same = record { later = []; is = sym same.0 ∙ ap (λ (j : List Entry). record h { journal = j }) (sym (append-nil h.journal)) }
grown_from h x (event ∷ rest) after y are =
    let more = grown_from (grown h event) (drawn x) rest after y are.1 in
    record {
      later = entry_of h event ∷ more.later;
      is = more.is ∙ ap (λ (j : List Entry). record h { journal = j }) (append_assoc h.journal (entry_of h event ∷ []) more.later);
    }

pub resumed : (seed evict : ℕ) (form : Form) (bytes : List ℕ) (machine after : History) (e : Ended) → IsCheckpoint bytes evict machine →
    RunIsFinished machine seed after e → Resumes seed evict form bytes (output_of after e form)
resumed seed evict form bytes machine after e checkpoint finished =
    let more = grown_from machine seed finished.seeded.events after finished.seeded.last finished.seeded.drawn_are in
    let begins : after.journal ≡ machine.journal ++ more.later = ap (λ (h : History). h.journal) more.is in
    let same : after ≡ record machine { journal = after.journal } =
    more.is ∙ ap (λ (j : List Entry). record machine { journal = j }) (sym begins) in
    record {
      machine = machine;
      checkpoint = checkpoint;
      goes_on = record { later = more.later; begins = begins; seeded = subst (λ (h : History). MachineIsSeeded machine seed h) same finished.seeded };
      told = subst (λ (h : History). IsTold h.image h.parameters form (output_of after e form)) more.is
          (told_of_run after e form finished.run
          (subst (λ (h : History). IsFitFor most_steps h.image h.parameters) (sym more.is) (checkpoint.points, checkpoint.fits)) finished.end);
      merged = refl;
    }

pub not_resumed : (Makes : Output → Type 0) (bytes : List ℕ) (evict : ℕ) (fault : RestoreErr) → Restores bytes evict (Err fault) →
    Gives Makes (IsNoCheckpoint evict bytes) (Err (refusal_of_restore fault))
not_resumed Makes bytes evict (restore.Text fault) is = is
not_resumed Makes bytes evict (restore.DoesNotFit number most) is = is
not_resumed Makes bytes evict (restore.NotLegal k) is = is
not_resumed Makes bytes evict (restore.StateDiffers line) is = is
not_resumed Makes bytes evict restore.NoMemory is = tt
