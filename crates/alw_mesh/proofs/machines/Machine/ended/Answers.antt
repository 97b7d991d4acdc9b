-- Where no context has trapped, not all have halted and an event may be next, no end holds.
use Rattle.std.proofs.Common.{◌&&◌, sym, ap, ◌∙◌}
use Rattle.alw_model.specs.Machine.{is_settled}
use Rattle.alw_mesh.proofs.Endings.{not_ended}
use Rattle.alw_mesh.proofs.machines.Machine.ended.Goals as goal

pub returns-then-not-any_trapped-clause-end : goal.returns-then-not-any_trapped-clause-end
returns-then-not-any_trapped-clause-end c =
    let untrapped = sym c.any_trapped.ensures ∙ c.if-not-any_trapped.true in
    let running = sym c.has_halted.ensures ∙ c.if-not-has_halted.true in
    rw (← c.self.view_is) (not_ended c.self.invariant untrapped (ap (λ halted. halted && is_settled c.self.inside.mesh.machine) running) c.count.result c.count.ensures c.if-count-gt0.true)
