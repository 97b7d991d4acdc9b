-- That what a route, a cut or a checkpoint is made of, where it is accepted, is carried out.
use Rattle.std.proofs.Common.{◌≡◌, arith, ℕ, suc, List, refl, sym, ◌∙◌, subst, ap, Bool, true, false}
use Rattle.std.specs.Prelude.{Err}
use Rattle.std.proofs.lemmas.Bool.{false≢true}
use Rattle.alw_model.proofs.Journals.{legal_take}
use Rattle.alw_mesh.specs.Limits.{most_steps}
use Rattle.alw_trace.specs.declared.values.Trace.{Trace}
use Rattle.alw_config.specs.declared.commands.Form.{Form}
use Rattle.alw_save.specs.declared.faults.RestoreErr.{RestoreErr}
use Rattle.alw_save.specs.declared.faults.RestoreErr.TheVariants as restore
use Rattle.alw_save.specs.Cuts.{TraceIsSound}
use Rattle.alw_save.specs.Restoring.{Restores}
use Rattle.alw_answers.specs.declared.answers.InputErr.{InputErr}
use Rattle.alw_answers.specs.declared.answers.InputErr.TheVariants as reason
use Rattle.alw_answers.proofs.Kept.{IsKept, fine, ran}
use Rattle.alw_runs.specs.Replaying.{Spells, IsTraceThat}
use Rattle.alw_runs.proofs.Kept.{trace_read, one_spelled, replay_unrefused}
use Rattle.alw_cuts.specs.Routing.{route_task}
use Rattle.alw_cuts.specs.Saving.{IsNoCut, save_task}
use Rattle.alw_cuts.specs.Resuming.{IsSomeCheckpoint, IsNoCheckpoint, resume_task}
use Rattle.alw_cuts.proofs.Resumable.{restored_so}

-- ---- route

pub route_kept : IsKept route_task
route_kept = record {
  finished = λ bytes output made accepted. fine output.ending made.ending;
  unrefused = λ bytes fault refused accepted. replay_unrefused most_steps bytes fault refused accepted;
}

-- ---- save

sound_trace : (bytes : List ℕ) (other : Trace) → IsTraceThat TraceIsSound bytes → Spells bytes other → TraceIsSound other
sound_trace bytes other accepted spells = subst TraceIsSound (one_spelled bytes accepted.trace other accepted.spelled spells) accepted.holds

save_unrefused : (bytes : List ℕ) (fault : InputErr) → IsNoCut bytes fault → IsTraceThat TraceIsSound bytes → ⊥
save_unrefused bytes (reason.Text fault) refused accepted = refused.0 (trace_read bytes accepted.trace fault accepted.spelled refused.1)
save_unrefused bytes (reason.LimitDoesNotFit number most) refused accepted =
    absurd (omega (arith, refused.holds.above, (sound_trace bytes refused.trace accepted refused.spelled).fits))
save_unrefused bytes (reason.NotLegal k) refused accepted =
    absurd (refused.holds.1.here (legal_take refused.trace.image refused.trace.params (suc k) refused.trace.journal
    (sound_trace bytes refused.trace accepted refused.spelled).legal))
save_unrefused bytes _ refused accepted = refused

pub save_kept : (at : ℕ) → IsKept (save_task at)
save_kept at = record {
  finished = λ bytes output made accepted. fine output.ending made.ending;
  unrefused = λ bytes fault refused accepted. save_unrefused bytes fault refused accepted;
}

-- ---- resume

abbrev is_wanting : RestoreErr → Bool
is_wanting restore.NoMemory = true
is_wanting _ = false

not_refused : (evict : ℕ) (bytes : List ℕ) (fault : RestoreErr) → is_wanting fault ≡ false → IsSomeCheckpoint evict bytes → Restores bytes evict (Err fault) → ⊥
not_refused evict bytes fault other accepted refused =
    false≢true (sym other ∙ ap is_wanting (restored_so bytes evict accepted.machine accepted.is fault refused))

resume_unrefused : (evict : ℕ) (bytes : List ℕ) (fault : InputErr) → IsNoCheckpoint evict bytes fault → IsSomeCheckpoint evict bytes → ⊥
resume_unrefused evict bytes (reason.Text fault) refused accepted = not_refused evict bytes (restore.Text fault) refl accepted refused
resume_unrefused evict bytes (reason.LimitDoesNotFit number most) refused accepted =
    not_refused evict bytes (restore.DoesNotFit number most) refl accepted refused
resume_unrefused evict bytes (reason.NotLegal k) refused accepted = not_refused evict bytes (restore.NotLegal k) refl accepted refused
resume_unrefused evict bytes (reason.StateDiffers line) refused accepted = not_refused evict bytes (restore.StateDiffers line) refl accepted refused
resume_unrefused evict bytes _ refused accepted = refused

pub resume_kept : (seed evict : ℕ) (form : Form) → IsKept (resume_task seed evict form)
resume_kept seed evict form = record {
  finished = λ bytes output made accepted. ran output.ending made.told.ended made.told.ending;
  unrefused = λ bytes fault refused accepted. resume_unrefused evict bytes fault refused accepted;
}
