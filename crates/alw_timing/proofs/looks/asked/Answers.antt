-- The slot that can run exists.
use Rattle.std.proofs.Common.{sym, ◌∙◌}
use Rattle.alw_msg.specs.Events.{node_of}
use Rattle.alw_timing.proofs.Looking.{slot_exists}
use Rattle.alw_timing.proofs.looks.asked.Goals as goal

pub access_of-requires-clause-slot : goal.access_of-requires-clause-slot
access_of-requires-clause-slot c =
    slot_exists c.args.machine.now c.journal-run.ensures.run (node_of c.args.event) c.requires.node c.in-Instr-Some.slot (sym c.requires.slot ∙ c.in-Instr-Some.is-1)
