-- What the machine took from its start on is the longest legal front, and its times were kept.
use Rattle.std.proofs.Common.{length, sym, ap, subst, ◌∙◌}
use Rattle.alw_mesh.specs.Histories.{History}
use Rattle.alw_replay.specs.Replays.{taken_on}
use Rattle.alw_replay.proofs.Fronts.{replayed}
use Rattle.alw_times.specs.declared.costs.Costs.{Costs}
use Rattle.alw_timing.specs.Timing.{TimesAreOf, TimesAreKept}
use Rattle.alw_timing.proofs.timing.time.Goals as goal

pub take_all-requires : goal.take_all-requires
take_all-requires c =
    let keeper = c.in_ok-keeper.keeper in
    subst (λ (h : History). TimesAreKept keeper h keeper) (sym c.in_ok-machine.ensures) (c.in_ok-keeper.ensures.kept c.args.params.now)

pub returns-clause-replays : goal.returns-clause-replays
returns-clause-replays c =
    replayed c.args.image.now c.args.params.now c.args.entries.now c.take_all.new.machine c.len-kept.result
    (c.in_ok-take_all.ensures.taken ∙ (λ i. taken_on (c.in_ok-machine.ensures i) (c.members.ensures i))) c.journal.ensures.run
    (c.len-kept.ensures ∙ ap length c.journal.ensures.journal)

pub returns-clause-times : goal.returns-clause-times
returns-clause-times c =
    subst (λ (k : Costs). TimesAreOf k c.take_all.new.machine c.take_all.new.watch.times) c.in_ok-keeper.ensures.costs c.in_ok-take_all.ensures.told.are

pub returns-clause-waits : goal.returns-clause-waits
returns-clause-waits c = c.in_ok-take_all.ensures.told.waits_stay ∙ c.in_ok-keeper.ensures.waits

pub returns-clause-spans : goal.returns-clause-spans
returns-clause-spans c = c.in_ok-take_all.ensures.told.spans_stay ∙ c.in_ok-keeper.ensures.spans
