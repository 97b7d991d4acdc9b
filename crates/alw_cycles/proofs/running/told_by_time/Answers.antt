-- The output is the machine's, with the text of the form.
use Rattle.std.proofs.Common.{◌≡◌, sym, ap, subst, ◌∙◌}
use Rattle.std.specs.Prelude.{IfOk}
use Rattle.alw_answers.specs.declared.outputs.Output.{Output}
use Rattle.alw_config.specs.declared.commands.TimedForm.{TimedForm}
use Rattle.alw_runs.specs.Forms.{output_with}
use Rattle.alw_cycles.specs.ByTime.{timed_text}
use Rattle.alw_cycles.proofs.running.told_by_time.Goals as goal

pub returns-in-Run : goal.returns-in-Run
unfolding timed_text
returns-in-Run c =
    let h = c.args.machine in
    let costs = c.args.costs.now in
    subst (λ (form : TimedForm). IfOk c.told.result (λ (output : Output). output ≡ output_with h c.args.ended (timed_text costs form h.image h.parameters h.journal c.args.ended))) (sym c.in-Run.is) c.told.ensures

pub returns-in_ok-text-in-Time : goal.returns-in_ok-text-in-Time
unfolding timed_text
returns-in_ok-text-in-Time c =
    let h = c.args.machine in
    let costs = c.args.costs.now in
    subst (λ (form : TimedForm). c.output_with.result ≡ output_with h c.args.ended (timed_text costs form h.image h.parameters h.journal c.args.ended)) (sym c.in-Time.is)
    (c.output_with.ensures ∙ ap (output_with h c.args.ended) c.in_ok-text-in-Time.ensures)
