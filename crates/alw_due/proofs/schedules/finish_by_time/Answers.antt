-- One event more is timed, and can be taken.
use Rattle.std.proofs.Common.{rules, ◌≡◌, None, [], ◌∷◌, length, ap, ◌∙◌, arith, length-append}
use Rattle.alw_mesh.specs.Histories.{History, entry_of}
use Rattle.alw_mesh.proofs.Journals.{journal_fits}
use Rattle.alw_due.specs.Due.{end_in}
use Rattle.alw_due.proofs.Kept.{never, first_of_all}
use Rattle.alw_due.proofs.Timely.{goes_on, first_may}
use Rattle.alw_due.proofs.schedules.finish_by_time.Goals as goal

pub unreachable-requires : goal.unreachable-requires
unreachable-requires c =
    let going : end_in c.loop-ended.machine ≡ None = search rules in
    never c.loop-ended.machine c.loop-ended.keeper.costs c.loop-ended.keeper.times.clocks c.loop-ended.bests c.loop-ended.invariant.1 going c.in_default-first.ensures.first

pub pass-requires-clause-may : goal.pass-requires-clause-may
pass-requires-clause-may c =
    let first = first_of_all c.loop-ended.machine c.loop-ended.keeper.costs c.loop-ended.keeper.times.clocks c.loop-ended.bests c.loop-ended.invariant.1 c.in-Some-first.due c.in-Some-first.ensures.first in
    first_may c.loop-ended.machine c.loop-ended.keeper.costs c.loop-ended.keeper.times.clocks c.in-Some-first.due.event first

pub loop-ended-smaller : goal.loop-ended-smaller
loop-ended-smaller c =
    let before = c.loop-ended.machine in
    let fits = journal_fits before c.ended.ensures.run in
    let longer = ap (λ (h : History). length h.journal) c.in_ok-pass.ensures.machine ∙ length-append before.journal (entry_of before c.in-Some-first.due.event ∷ []) in
    omega (arith, fits, longer)

pub loop-ended-preserved : goal.loop-ended-preserved
loop-ended-preserved c =
    let going : end_in c.loop-ended.machine ≡ None = search rules in
    let first = first_of_all c.loop-ended.machine c.loop-ended.keeper.costs c.loop-ended.keeper.times.clocks c.loop-ended.bests c.loop-ended.invariant.1 c.in-Some-first.due c.in-Some-first.ensures.first in (
      goes_on c.args.machine.now c.args.keeper.now c.loop-ended.machine c.loop-ended.keeper c.in-Some-first.due.event c.pass.new.machine c.pass.new.keeper c.loop-ended.invariant.0 going first c.in_ok-pass.ensures.machine c.in_ok-pass.ensures.kept,
      c.in_ok-pass.ensures.bests,
    )
