-- The rows say which main events may be next.
use Rattle.std.proofs.Common.{length, ap, ◌∙◌}
use Rattle.alw_mesh.proofs.Journals.{events_are}
use Rattle.alw_mesh.proofs.machines.Machine.events.Goals as goal

pub returns : goal.returns
returns c = rw (← c.self.view_is) (c.count.ensures ∙ ap length (events_are c.self.invariant))
