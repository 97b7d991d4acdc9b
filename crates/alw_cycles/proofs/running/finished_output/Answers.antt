-- The machine was taken to an end, and its output is told.
use Rattle.std.proofs.Common.{◌≡◌, ◌∙◌, subst}
use Rattle.std.proofs.lemmas.Result.{IfOk-weaker}
use Rattle.alw_times.specs.declared.costs.Costs.{Costs}
use Rattle.alw_timing.specs.Timing.{TimesAreOf}
use Rattle.alw_answers.specs.declared.outputs.Output.{Output}
use Rattle.alw_runs.proofs.Ended.{output_by}
use Rattle.alw_cycles.specs.ByTime.{timed_text, TellsByTime}
use Rattle.alw_cycles.proofs.Timed.{tells_finished}
use Rattle.alw_cycles.proofs.running.finished_output.Goals as goal

pub told_by_time-requires-clause-are : goal.told_by_time-requires-clause-are
told_by_time-requires-clause-are c =
    let after = c.finish_by_time.new.machine in
    subst (λ (costs : Costs). TimesAreOf costs after c.finish_by_time.new.keeper.times) c.requires.costs c.in_ok-ended.ensures.kept.are

pub told_by_time-requires-clause-told : goal.told_by_time-requires-clause-told
told_by_time-requires-clause-told c =
    let kept = c.in_ok-ended.ensures.kept in
    record { waits = kept.waits_stay ∙ c.requires.told.waits; spans = kept.spans_stay ∙ c.requires.told.spans }

pub returns : goal.returns
returns c =
    let costs = c.args.costs.now in
    let form = c.args.form in
    let after = c.finish_by_time.new.machine in
    let ended = c.in_ok-ended.ended in
    IfOk-weaker c.told_by_time.result (λ (output : Output). output ≡ output_by (timed_text costs form) after ended) (λ output. TellsByTime c.args.machine costs form output)
    (λ output told. tells_finished costs form c.args.machine after c.args.keeper.now c.finish_by_time.new.keeper ended output c.requires.costs c.in_ok-ended.ensures told)
    c.told_by_time.ensures
