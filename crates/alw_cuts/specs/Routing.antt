-- The command `route`.
use Rattle.std.specs.Prelude.{◌≡◌, ℕ, true, List}
use Rattle.alw_mesh.specs.Limits.{most_steps}
use Rattle.alw_route.specs.Texts.{route_text_of}
use Rattle.alw_trace.specs.declared.values.Trace.{Trace}
use Rattle.alw_answers.specs.declared.outputs.Ending.TheVariants.{Fine}
use Rattle.alw_answers.specs.declared.outputs.Output.{Output}
use Rattle.alw_answers.specs.Outputs.{is_fine}
use Rattle.alw_runs.specs.Replaying.{Spells, IsFinishedTrace, IsFinishedText, IsNoReplay}
use Rattle.alw_answers.specs.Tasks.{Task}

-- the bytes are the text of a finished trace, whose journal was answered, and the text is that of the loads of the wires on its messages' routes
pub record Routes (bytes : List ℕ) (output : Output) : Type 0 where
  pub trace : Trace
  pub spelled : Spells bytes trace
  pub same : output.journal ≡ trace.journal
  pub finished : IsFinishedTrace most_steps trace
  pub text : output.text ≡ route_text_of trace.image trace.params trace.journal
  pub ending : output.ending ≡ Fine
  pub merged : output.merged ≡ 0

-- a trace is refused as a replay of it is
abbrev pub route_task : Task
route_task = record { reads = true; Makes = Routes; Refuses = IsNoReplay most_steps; Accepts = IsFinishedText most_steps; is_done = is_fine }
