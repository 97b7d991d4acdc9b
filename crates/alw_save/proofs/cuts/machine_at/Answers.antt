-- All entries are kept, or those that are kept were taken.
use Rattle.std.proofs.Common.{List, length, sym, ap, ◌∙◌}
use Rattle.std.proofs.lemmas.Result.{err_from_is_err_and}
use Rattle.alw_msg.specs.declared.events.Entry.{Entry}
use Rattle.law_order.specs.Orders.{kept_by}
use Rattle.alw_save.proofs.Cutting.{not_fit, not_started, cut_none, cut_taken}
use Rattle.alw_save.proofs.cuts.machine_at.Goals as goal

pub returns-in_err-fit : goal.returns-in_err-fit
returns-in_err-fit c =
    let stop = err_from_is_err_and c.from_residual.result c.from_residual.ensures.1 in
    rw (stop.1, stop.2) (not_fit c.args.trace.now c.in_err-fit.field-0.0 c.in_err-fit.ensures.fits)

pub returns-then-len-all : goal.returns-then-len-all
returns-then-len-all c =
    let kept = c.in_ok-kept.ensures ∙ ap (λ (entries : List Entry). kept_by c.args.at entries) c.members.ensures in
    cut_none c.args.trace.now c.args.at c.machine_of.result c.machine_of.ensures
    (ap length (sym kept) ∙ (sym c.len.ensures ∙ (c.if-len-all.true ∙ c.len-all.ensures)))

pub returns-in_err-machine : goal.returns-in_err-machine
returns-in_err-machine c =
    let stop = err_from_is_err_and c.from_residual-in_err-machine.result c.from_residual-in_err-machine.ensures.1 in
    rw (stop.1, stop.2) (not_started c.args.trace.now c.in_ok-kept.kept c.in_err-machine.field-0.0 c.in_err-machine.ensures)

pub returns : goal.returns
returns c =
    let kept = c.in_ok-kept.ensures ∙ ap (λ (entries : List Entry). kept_by c.args.at entries) c.members.ensures in
    cut_taken c.args.trace.now c.in_ok-check.ensures.sound c.args.at _ c.in_ok-machine.field-0.machine c.in_ok-machine.field-0.kept kept c.in_ok-machine.ensures.1
