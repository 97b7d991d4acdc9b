-- The slot that runs exists, and is the same slot after its turn.
use Rattle.alw_msg.specs.declared.events.Event.TheVariants.{Instr}
use Rattle.alw_turns.proofs.Slots.{node_exists, slot_exists, stays_seen}
use Rattle.alw_turns.proofs.turns.put_slot_turn.Goals as goal

pub look-seen-requires-clause-slot : goal.look-seen-requires-clause-slot
look-seen-requires-clause-slot c =
    let h = c.args.machine.now in
    slot_exists h c.journal-run.ensures.run c.args.node.0 (node_exists h c.args.node c.requires.may) c.args.slot c.requires.runs

pub put_did-requires : goal.put_did-requires
put_did-requires c =
    let h = c.args.machine.now in
    let here = node_exists h c.args.node c.requires.may in
    let within = slot_exists h c.journal-run.ensures.run c.args.node.0 here c.args.slot c.requires.runs in
    stays_seen h c.take.new.self (Instr c.args.node) c.args.node c.args.slot c.look-seen.result c.in_ok-moment.ensures.0.after_is here within c.look-seen.ensures
