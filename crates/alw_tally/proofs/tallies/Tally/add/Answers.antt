-- One event more is told.
use Rattle.alw_tally.proofs.Adding.{told_by_event}
use Rattle.alw_tally.proofs.tallies.Tally.add.Goals as goal

pub returns-clause-told : goal.returns-clause-told
returns-clause-told c =
    λ moment of. rw (← c.self.view_is) (told_by_event c.args.image.now _ c.args.moment.now c.args.used c.args.pc _ moment of _ _ c.turn_of.ensures c.add_turn.ensures.turns c.add_turn.ensures.prints
    c.count_event.ensures.counts
    c.note_trap.ensures)
