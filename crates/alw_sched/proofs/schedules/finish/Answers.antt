-- One event more is drawn, and can be taken.
use Rattle.std.proofs.Common.{rules, ◌≡◌, None, [], ◌∷◌, ◌++◌, length, sym, ap, ◌∙◌, arith, length-append}
use Rattle.alw_num.specs.Draws.{drawn_number}
use Rattle.alw_mesh.specs.Histories.{History, entry_of}
use Rattle.alw_mesh.proofs.Journals.{journal_fits}
use Rattle.alw_sched.specs.Schedules.{end_in, picked}
use Rattle.alw_sched.proofs.Seeded.{drawn_more}
use Rattle.alw_sched.proofs.Picking.{picked_may}
use Rattle.alw_sched.proofs.schedules.finish.Goals as goal
use Rattle.alw_sched.proofs.schedules.finish.Goals.{else-not-is_quiet-via-else-not-is_quiet, else-not-is_quiet-via-then-not-is_quiet+in-None-1}

pub take-requires : goal.take-requires
take-requires c = picked_may c.loop-is_quiet.machine c.draw.result c.pick-event.result c.pick-event.ensures

pub loop-is_quiet-smaller : goal.loop-is_quiet-smaller
loop-is_quiet-smaller c =
    let before = c.loop-is_quiet.machine in
    let passed = c.in_ok-is_quiet.ensures.ok in
    let fits = journal_fits c.take.new.machine passed.run in
    let longer = ap (λ (h : History). length h.journal) passed.after_is ∙ length-append before.journal (entry_of before c.pick-event.result ∷ []) in
    omega (arith, fits, longer)

pub loop-is_quiet-preserved : goal.loop-is_quiet-preserved
loop-is_quiet-preserved c =
    let before = c.loop-is_quiet.machine in
    let so_far = c.loop-is_quiet.invariant in
    let passed = c.in_ok-is_quiet.ensures.ok in
    let pick = ap (λ n. picked before n) (sym (c.draw.ensures.number ∙ ap drawn_number c.draw.ensures.state)) ∙ c.pick-event.ensures in
    let going : end_in before ≡ None = elim c.else-not-is_quiet.branch [
      | else-not-is_quiet-via-else-not-is_quiet w ↦ so_far.going w.if-not-is_quiet.false
      | else-not-is_quiet-via-then-not-is_quiet+in-None-1 w ↦ search rules
    ] in
    record {
      events = so_far.events ++ c.pick-event.result ∷ [];
      drawn_are = rw (passed.after_is, c.draw.ensures.state)
          (drawn_more c.args.machine.now c.args.seed so_far.events before c.loop-is_quiet.draws.state c.pick-event.result so_far.drawn_are (record { going = going; pick = pick }));
      going = λ quiet. passed.stays quiet ∙ going;
    }
