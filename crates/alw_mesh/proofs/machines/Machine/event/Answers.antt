-- The rows say which main events may be next.
use Rattle.std.proofs.Common.{◌≡◌, ◌<◌, Some, List, length, slice_get, sym, subst}
use Rattle.alw_msg.specs.declared.events.Event.{Event}
use Rattle.alw_mesh.proofs.Journals.{events_are}
use Rattle.alw_mesh.proofs.machines.Machine.event.Goals as goal

pub nth-requires : goal.nth-requires
nth-requires c =
    let exists = rw (← c.self.view_is) at c.requires in
    subst (λ (events : List Event). c.args.k < length events) (sym (events_are c.self.invariant)) exists

pub returns : goal.returns
returns c = rw (← c.self.view_is) (subst (λ (events : List Event). slice_get events c.args.k ≡ Some c.nth.result) (events_are c.self.invariant) c.nth.ensures)
