-- A delivery is that of its message's side.
use Rattle.std.proofs.Common.{option_copied, rules, sym}
use Rattle.alw_node.proofs.Given.{given_fits}
use Rattle.alw_node.proofs.Takings.{memory_takes}
use Rattle.alw_node.proofs.nodes.Node.local.Goals as goal

pub next_stamp-stamp-requires-clause-taken : goal.next_stamp-stamp-requires-clause-taken
next_stamp-stamp-requires-clause-taken c =
    let whole = c.args.self.now in
    given_fits whole.parts whole.parameters whole.number whole.state c.args.event (option_copied c.args.taken) c.requires.enabled c.requires.taken

pub returns-in-Instr : goal.returns-in-Instr
returns-in-Instr c = record { node = search rules; sends = search rules; outcome = search rules }

pub returns-then-is_to_memory : goal.returns-then-is_to_memory
returns-then-is_to_memory c =
    let inside = c.self.inside in
    let takes = memory_takes inside.share inside.params inside.proc inside.memory inside.clock c.next_stamp-stamp.result c.in-Some.msg.now c.self.invariant
    (sym c.if-is_to_memory.ensures) in
    rw (← c.self.view_is, ← c.next_stamp-stamp.ensures, c.in-Deliver.is, c.in-Some.is, takes)
    (let steps = rw c.begin.ensures at c.deliver.ensures in record { node = search rules; sends = search rules; outcome = search rules })
