-- No slot is Ready where there is none.
use Rattle.std.proofs.Common.{◌≡◌, ◌≤◌, nat_lt, false, length, sym, ◌∙◌, arith}
use Rattle.std.proofs.lemmas.Bool.Decides.{nat_tests}
use Rattle.alw_mesh.specs.Readings.{node_in}
use Rattle.alw_timing.proofs.Looking.{slots_are, not_ready}
use Rattle.alw_timing.proofs.looks.is_ready.Goals as goal

pub returns-else-slot-contexts : goal.returns-else-slot-contexts
returns-else-slot-contexts c =
    let many = slots_are c.args.machine.now c.journal-run.ensures.run c.args.node.0 c.requires in
    let none : length (node_in c.args.machine.now c.args.node.0).slots ≤ c.args.slot = rw (many, ← c.image.ensures, ← c.contexts.ensures) c.if-slot-contexts.false in
    let beyond : nat_lt c.args.slot c.contexts.result ≡ false = grind (arith, nat_tests, c.if-slot-contexts.false) in
    beyond ∙ sym (not_ready (node_in c.args.machine.now c.args.node.0).slots c.args.slot none)
