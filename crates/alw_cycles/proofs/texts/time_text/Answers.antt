-- The text is that of the times, which tell what the form needs.
use Rattle.std.proofs.Common.{◌≡◌, List, subst}
use Rattle.std.specs.Prelude.{IfOk}
use Rattle.alw_times.specs.declared.happenings.Span.{Span}
use Rattle.alw_timing.specs.Texts.{moments_text}
use Rattle.alw_cycles.proofs.Told.{waits_are_told, spans_are_told, told_cycles, told_moments}
use Rattle.alw_cycles.proofs.texts.time_text.Goals as goal

pub unreachable-requires : goal.unreachable-requires
unreachable-requires c = waits_are_told c.args.times.now c.args.form c.requires.told c.in-Cycles.is c.in_default.is

pub returns-in-Some : goal.returns-in-Some
returns-in-Some c =
    told_cycles c.args.costs.now c.args.machine.now c.args.ended.now c.args.times.now c.requires.are c.args.form c.cycles_text.result c.in-Cycles.is c.in-Some.waits c.in-Some.is c.cycles_text.ensures

pub unreachable-requires-in_default-spans : goal.unreachable-requires-in_default-spans
unreachable-requires-in_default-spans c = spans_are_told c.args.times.now c.args.form c.requires.told c.in-Moments.is c.in_default-spans.is

pub returns-in-Some-spans : goal.returns-in-Some-spans
returns-in-Some-spans c =
    let h = c.args.machine.now in
    let spans = c.in-Some-spans.spans in
    told_moments c.args.costs.now h c.args.ended.now c.args.times.now c.requires.are c.args.form c.moments_text.result c.in-Moments.is spans c.in-Some-spans.is
    (subst (λ (all : List Span). IfOk c.moments_text.result (λ text. text ≡ moments_text h.image h.parameters c.args.costs.now h.journal all)) c.deref.ensures.value c.moments_text.ensures)
