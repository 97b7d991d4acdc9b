-- The rows say which main events may be next.
use Rattle.std.proofs.Common.{◌≡◌, ◌<◌, ◌%◌, Some, List, length, slice_get, sym, subst}
use Rattle.alw_msg.specs.declared.events.Event.{Event}
use Rattle.alw_mesh.proofs.Journals.{events_are}
use Rattle.alw_mesh.proofs.machines.Machine.drawn.Goals as goal

pub drawn-requires : goal.drawn-requires
drawn-requires c =
    let some = rw (← c.self.view_is) at c.requires in
    subst (λ (events : List Event). 0 < length events) (sym (events_are c.self.invariant)) some

pub returns : goal.returns
returns c = rw (← c.self.view_is) (subst (λ (events : List Event). slice_get events (c.args.number % length events) ≡ Some c.drawn.result) (events_are c.self.invariant) c.drawn.ensures)
