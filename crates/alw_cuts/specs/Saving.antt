-- The command `save`.
use Rattle.std.specs.Prelude.{◌≡◌, ◌≢◌, ℕ, true, List, Err}
use Rattle.alw_model.specs.Machine.{IsLegal}
use Rattle.law_order.specs.Orders.{kept_by}
use Rattle.alw_mesh.specs.Limits.{most_steps}
use Rattle.alw_trace.specs.declared.values.Trace.{Trace}
use Rattle.alw_trace.specs.declared.faults.TextErr.TheVariants as text
use Rattle.alw_trace.specs.Readings.{ReadsTrace}
use Rattle.alw_save.specs.Cuts.{TraceIsSound}
use Rattle.alw_save.specs.Checkpoints.{checkpoint_text}
use Rattle.alw_answers.specs.declared.answers.InputErr.{InputErr}
use Rattle.alw_answers.specs.declared.answers.InputErr.TheVariants as reason
use Rattle.alw_answers.specs.declared.outputs.Ending.TheVariants.{Fine}
use Rattle.alw_answers.specs.declared.outputs.Output.{Output}
use Rattle.alw_answers.specs.Outputs.{is_fine}
use Rattle.alw_runs.specs.Forms.{IsTooMuch}
use Rattle.alw_runs.specs.Replaying.{Spells, IsTraceThat, IsFit, IsFirstIllegal}
use Rattle.alw_answers.specs.Tasks.{Task}

-- the bytes are the text of a legal trace, of which the entries with at most a stamp were answered: they are legal, and the text is their checkpoint
pub record Saves (at : ℕ) (bytes : List ℕ) (output : Output) : Type 0 where
  pub trace : Trace
  pub spelled : Spells bytes trace
  pub sound : TraceIsSound trace
  pub kept : output.journal ≡ kept_by at trace.journal
  pub legal : IsLegal trace.image trace.params output.journal
  pub text : output.text ≡ checkpoint_text trace.image trace.params output.journal
  pub ending : output.ending ≡ Fine
  pub merged : output.merged ≡ 0

-- the bytes are no trace, or one that isn't cut
abbrev pub IsNoCut : List ℕ → InputErr → Type 0
IsNoCut bytes (reason.Text fault) = (fault ≢ text.NoMemory) × ReadsTrace bytes (Err fault)
IsNoCut bytes (reason.LimitDoesNotFit number most) = IsTraceThat (λ trace. IsTooMuch most_steps trace.image trace.params number most) bytes
IsNoCut bytes (reason.NotLegal k) = IsTraceThat (λ trace. IsFit most_steps trace × IsFirstIllegal trace k) bytes
IsNoCut bytes _ = ⊥

-- a legal trace that fits is accepted, also one that is unfinished
abbrev pub save_task : ℕ → Task
save_task at = record { reads = true; Makes = Saves at; Refuses = IsNoCut; Accepts = IsTraceThat TraceIsSound; is_done = is_fine }
