-- The end that holds, from what the machine keeps.
use Rattle.std.proofs.Common.{sym, ◌∙◌}
use Rattle.alw_mesh.proofs.Endings.{trap_known, ended_trapped, ended_halted, not_ended, limit_known, ended_limit}
use Rattle.alw_mesh.proofs.machines.Machine.find_end.Goals as goal

pub unreachable-requires : goal.unreachable-requires
unreachable-requires c =
    let trapped = sym c.any_trapped.ensures ∙ c.if-any_trapped.true in
    trap_known c.self.invariant trapped (sym c.trap.ensures ∙ c.in_default.is)

pub returns-then-any_trapped-clause-end : goal.returns-then-any_trapped-clause-end
returns-then-any_trapped-clause-end c =
    let trapped = sym c.any_trapped.ensures ∙ c.if-any_trapped.true in
    rw (← c.self.view_is) (ended_trapped c.self.invariant trapped c.in-Some.at (sym c.trap.ensures ∙ c.in-Some.is))

pub returns-then-is_at_rest-clause-end : goal.returns-then-is_at_rest-clause-end
returns-then-is_at_rest-clause-end c =
    let untrapped = sym c.any_trapped.ensures ∙ c.if-any_trapped.false in
    rw (← c.self.view_is) (ended_halted c.self.invariant untrapped (sym c.is_at_rest.ensures ∙ c.if-is_at_rest.true))

pub returns-then-count-gt0-clause-end : goal.returns-then-count-gt0-clause-end
returns-then-count-gt0-clause-end c =
    let untrapped = sym c.any_trapped.ensures ∙ c.if-any_trapped.false in
    let restless = sym c.is_at_rest.ensures ∙ c.if-is_at_rest.false in
    rw (← c.self.view_is) (not_ended c.self.invariant untrapped restless c.count.result c.count.ensures c.if-count-gt0.true)

pub unreachable-requires-in_default-first_enabled : goal.unreachable-requires-in_default-first_enabled
unreachable-requires-in_default-first_enabled c =
    let untrapped = sym c.any_trapped.ensures ∙ c.if-any_trapped.false in
    let restless = sym c.is_at_rest.ensures ∙ c.if-is_at_rest.false in
    limit_known c.self.invariant untrapped restless c.count.result c.count.ensures c.if-count-gt0.false (sym c.in_default-first_enabled.is ∙ c.first_enabled.ensures)

pub returns-clause-end : goal.returns-clause-end
returns-clause-end c =
    let untrapped = sym c.any_trapped.ensures ∙ c.if-any_trapped.false in
    let restless = sym c.is_at_rest.ensures ∙ c.if-is_at_rest.false in
    rw (← c.self.view_is)
    (ended_limit c.self.invariant untrapped restless c.count.result c.count.ensures c.if-count-gt0.false c.in-Some-first_enabled.event (sym c.in-Some-first_enabled.is ∙ c.first_enabled.ensures))
