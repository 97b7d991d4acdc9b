-- What the machine took from its start on is the longest legal front.
use Rattle.std.proofs.Common.{◌∙◌, ap, length}
use Rattle.alw_model.specs.Threads.{merged}
use Rattle.alw_cells.specs.Logs.{logged}
use Rattle.alw_replay.specs.Replays.{taken_on}
use Rattle.alw_replay.proofs.Fronts.{replayed}
use Rattle.alw_merge.proofs.replays.replay_logs.Goals as goal

pub returns : goal.returns
returns c = (
  c.in_ok-machine.ensures.1,
  replayed c.args.image.now c.args.params.now (merged (logged c.args.logs.now)) c.take_each.new.machine c.len-kept.result
      (c.in_ok-take_each.ensures ∙ (λ i. taken_on (c.in_ok-machine.ensures.0 i) (merged (c.in_ok-stream.ensures i)))) c.journal.ensures.run
      (c.len-kept.ensures ∙ ap length c.journal.ensures.journal),
)
