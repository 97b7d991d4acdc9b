-- The event at a place is the first that passes, or is passed over.
use Rattle.std.proofs.Common.{rules, ◌≡◌, true, false, sym, ◌∙◌}
use Rattle.law_turns.specs.Orders.{is_quiet}
use Rattle.alw_mesh.specs.Ends.{next_events}
use Rattle.alw_serve.proofs.Finding.{found_at, passed_at}
use Rattle.alw_serve.proofs.serving.first_quiet.Goals as goal
use Rattle.alw_serve.proofs.serving.first_quiet.Goals.{in-Handle, in_default}

pub returns-then-matches : goal.returns-then-matches
returns-then-matches c =
    let quiet : is_quiet c.event-event.result ≡ true = elim c.match-matches.branch [ in-Handle w ↦ search rules | in_default w ↦ search rules ] in
    sym (c.loop-k.invariant ∙ found_at is_quiet (next_events c.args.machine.now) c.loop-k.k c.event-event.result c.event-event.ensures quiet)

pub loop-k-preserved : goal.loop-k-preserved
loop-k-preserved c =
    let loud : is_quiet c.event-event.result ≡ false = elim c.match-matches.branch [ in-Handle w ↦ search rules | in_default w ↦ search rules ] in
    c.loop-k.invariant ∙ passed_at is_quiet (next_events c.args.machine.now) c.loop-k.k c.event-event.result c.event-event.ensures loud
