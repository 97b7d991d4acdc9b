-- The keeper is one of the start, and tells what the form needs.
use Rattle.std.proofs.Common.{sym, subst}
use Rattle.std.specs.Prelude.{IfOk}
use Rattle.alw_mesh.specs.Histories.{History}
use Rattle.alw_timing.specs.Timing.{TimesAreKept}
use Rattle.alw_answers.specs.declared.outputs.Output.{Output}
use Rattle.alw_cycles.specs.ByTime.{TellsByTime}
use Rattle.alw_cycles.proofs.running.timed_output.Goals as goal

pub finished_output-requires-clause-kept : goal.finished_output-requires-clause-kept
finished_output-requires-clause-kept c =
    let keeper = c.in_ok-keeper.keeper in
    subst (λ (h : History). TimesAreKept keeper h keeper) (sym c.in_ok-machine.ensures) (c.in_ok-keeper.ensures.kept c.args.params.now)

pub finished_output-requires-clause-told : goal.finished_output-requires-clause-told
finished_output-requires-clause-told c =
    let told = c.tells_for.ensures in
    record { waits = rw (← told) c.in_ok-keeper.ensures.waits; spans = rw (← told) c.in_ok-keeper.ensures.spans }

pub returns : goal.returns
returns c =
    subst (λ (h : History). IfOk c.finished_output.result (λ (output : Output). TellsByTime h c.args.costs.now c.args.form output)) c.in_ok-machine.ensures c.finished_output.ensures
