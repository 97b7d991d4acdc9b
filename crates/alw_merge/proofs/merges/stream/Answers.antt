-- The stream of all logs reads them from their starts.
use Rattle.std.proofs.Common.{◌≡◌, ◌∙◌}
use Rattle.std.proofs.lemmas.Result.{IfOk-weaker}
use Rattle.alw_model.specs.Threads.{Logs}
use Rattle.alw_cells.specs.Logs.{logged}
use Rattle.alw_merge.proofs.Spanning.{from_start}
use Rattle.alw_merge.proofs.merges.stream.Goals as goal

pub returns : goal.returns
returns c = IfOk-weaker c.from.result _ (λ (stream : Logs). stream ≡ logged c.args.logs.now) (λ stream is. is ∙ from_start (logged c.args.logs.now)) c.from.ensures
