-- The next entry is taken and told.
use Rattle.std.proofs.Common.{sym, subst}
use Rattle.alw_msg.specs.declared.events.Entry.{Entry}
use Rattle.alw_model.specs.Machine.{IsNext}
use Rattle.alw_mesh.specs.Histories.{History, state_of}
use Rattle.alw_mesh.proofs.Joined.{entry_at, entry_here, next_is, takes_next}
use Rattle.alw_mesh.proofs.walks.tell_all.Goals as goal

pub event-requires-clause-next : goal.event-requires-clause-next
event-requires-clause-next g c =
    let h = c.args.second.now in
    let k = c.loop-entry.entry-index in
    let entry : Entry = entry_at c.members-entry-items.result.now k in
    let (here, read) = entry_here c.members-entry-items.result.now c.args.journal.now k c.members-entry-items.ensures c.loop-entry-test.true in
    subst (λ (m : History). IsNext m.image m.parameters (state_of m) entry) (sym c.loop-entry.invariant.0)
    (next_is h.image h.parameters c.args.journal.now c.requires.legal k entry here read)

pub loop-entry-preserved : goal.loop-entry-preserved
loop-entry-preserved g c =
    let h = c.args.second.now in
    let k = c.loop-entry.entry-index in
    let entry : Entry = entry_at c.members-entry-items.result.now k in
    let (here, read) = entry_here c.members-entry-items.result.now c.args.journal.now k c.members-entry-items.ensures c.loop-entry-test.true in (
      takes_next h.image h.parameters c.args.journal.now c.requires.legal k entry here read c.loop-entry.second c.event.new.machine c.loop-entry.invariant.0 c.in_ok-event.ensures.machine,
      c.in_ok-event.ensures.told c.args.watch.now c.loop-entry.invariant.1,
    )
