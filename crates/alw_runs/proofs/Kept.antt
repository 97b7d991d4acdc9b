-- That what a run or a replay is made of, where it is accepted, is carried out.
use Rattle.std.proofs.Common.{◌≡◌, ◌≤◌, arith, ℕ, suc, List, Some, None, sym, ◌∙◌, subst}
use Rattle.std.specs.Prelude.{Err}
use Rattle.alw_image.specs.Faults.{image_in, image_fault}
use Rattle.alw_image.specs.Parameters.{Parameters}
use Rattle.alw_model.proofs.Journals.{legal_take}
use Rattle.alw_trace.specs.declared.values.Trace.{Trace}
use Rattle.alw_trace.specs.declared.faults.TextErr.{TextErr}
use Rattle.alw_trace.specs.declared.faults.TextErr.TheVariants as text
use Rattle.alw_trace.specs.Readings.{ReadsTrace}
use Rattle.alw_trace.proofs.OneTrace.{same_trace, read_back}
use Rattle.alw_config.specs.declared.commands.Form.{Form}
use Rattle.alw_answers.specs.declared.answers.InputErr.{InputErr}
use Rattle.alw_answers.specs.declared.answers.InputErr.TheVariants as reason
use Rattle.alw_mesh.specs.Histories.{stamps_of}
use Rattle.alw_mesh.specs.Limits.{most_steps}
use Rattle.alw_runs.specs.Running.{parameters_in, IsNoRun, run_task}
use Rattle.alw_runs.specs.Replaying.{Spells, IsNoReplay, IsFinishedTrace, IsFinishedText, replay_task}
use Rattle.alw_answers.proofs.Kept.{IsKept, ran}

-- ---- run

run_unrefused : (params : Parameters) (bytes : List ℕ) (fault : InputErr) → IsNoRun params bytes fault →
    (image_fault bytes ≡ None) × (stamps_of (image_in bytes) params ≤ most_steps) → ⊥
run_unrefused params bytes (reason.Image fault) refused accepted = absurd (let e : Some fault ≡ None = sym refused ∙ accepted.0 in cc)
run_unrefused params bytes (reason.LimitDoesNotFit number most) refused accepted = absurd (omega (arith, refused.1.above, accepted.1))
run_unrefused params bytes _ refused accepted = refused

pub run_kept : (seed : ℕ) (params : Parameters) (form : Form) → IsKept (run_task seed params form)
run_kept seed params form = record {
  finished = λ bytes output made accepted. ran output.ending made.told.ended made.told.ending;
  unrefused = λ bytes fault refused accepted. run_unrefused (parameters_in params bytes) bytes fault refused accepted;
}

-- ---- the text of a trace isn't refused, and says one thing

pub trace_read : (bytes : List ℕ) (t : Trace) (fault : TextErr) → Spells bytes t → ReadsTrace bytes (Err fault) → fault ≡ text.NoMemory
trace_read bytes t fault spells refused =
    read_back t fault spells.is spells.types (subst (λ (bs : List ℕ). ReadsTrace bs (Err fault)) spells.text refused)

pub one_spelled : (bytes : List ℕ) (one other : Trace) → Spells bytes one → Spells bytes other → one ≡ other
one_spelled bytes one other is are = same_trace one other is.is are.is is.types are.types (sym is.text ∙ are.text)

finished_so : (most : ℕ) (bytes : List ℕ) (other : Trace) → IsFinishedText most bytes → Spells bytes other → IsFinishedTrace most other
finished_so most bytes other accepted spells = subst (IsFinishedTrace most) (one_spelled bytes accepted.trace other accepted.spelled spells) accepted.holds

-- ---- replay

pub replay_unrefused : (most : ℕ) (bytes : List ℕ) (fault : InputErr) → IsNoReplay most bytes fault → IsFinishedText most bytes → ⊥
replay_unrefused most bytes (reason.Text fault) refused accepted = refused.0 (trace_read bytes accepted.trace fault accepted.spelled refused.1)
replay_unrefused most bytes (reason.LimitDoesNotFit number above) refused accepted =
    absurd (omega (arith, refused.holds.above, (finished_so most bytes refused.trace accepted refused.spelled).fits))
replay_unrefused most bytes (reason.NotLegal k) refused accepted =
    absurd (refused.holds.1.here (legal_take refused.trace.image refused.trace.params (suc k) refused.trace.journal
    (finished_so most bytes refused.trace accepted refused.spelled).legal))
replay_unrefused most bytes reason.Unfinished refused accepted =
    absurd ((finished_so most bytes refused.trace accepted refused.spelled).ended refused.holds.1.going)
replay_unrefused most bytes _ refused accepted = absurd refused.holds

pub replay_kept : (form : Form) → IsKept (replay_task form)
replay_kept form = record {
  finished = λ bytes output made accepted. ran output.ending made.told.ended made.told.ending;
  unrefused = λ bytes fault refused accepted. replay_unrefused most_steps bytes fault refused accepted;
}
