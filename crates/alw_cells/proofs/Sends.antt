-- What an event of a node sends is the node's, with the event's stamp, and without bytes that its kind doesn't carry.
use Rattle.std.proofs.Common.{ℕ, Bool, true, false, Option, Some, None, List, [], ◌∷◌, refl}
use Rattle.alw_num.specs.declared.states.Mode.{Mode}
use Rattle.alw_num.specs.Maps.{value_at}
use Rattle.sparc_table.specs.declared.outcomes.Need.{Need}
use Rattle.sparc_table.specs.declared.outcomes.Need.TheVariants as needs
use Rattle.sparc_table.specs.Turns.{need_of}
use Rattle.alw_msg.specs.declared.messages.Msg.{Msg}
use Rattle.alw_msg.specs.declared.events.Event.{Event}
use Rattle.alw_msg.specs.declared.events.Event.TheVariants.{Instr, Handle, Deliver, Evict}
use Rattle.alw_msg.specs.Contents.{ToMemory, RREQ, WREQ, REPM, UPDATE, ACKC, ToCache, RDATA, WDATA, INV, BUSY, Content, ForMemory, ForCache, content}
use Rattle.alw_image.specs.declared.parts.Parts.{Parts}
use Rattle.alw_image.specs.Images.{line_count}
use Rattle.alw_image.specs.Parameters.{Parameters}
use Rattle.alw_model.specs.FullMap.{Sends}
use Rattle.alw_model.specs.LimitLess.{is_trapped, hardware_act, handle}
use Rattle.alw_model.specs.Caches.{Copy, Requests, granted_copy, react, evict}
use Rattle.alw_model.specs.Contexts.{slot_at, running}
use Rattle.alw_model.specs.Messages.{message, to_homes, to_caches}
use Rattle.alw_model.specs.NodeStates.{NodeState, home_at, stamp_of}
use Rattle.alw_model.specs.ProcessorSteps.{opened}
use Rattle.alw_model.specs.NodeSteps.{access, instr_by, instr, at_home, deliver_by, deliver, handle_by, handle_front, event_at, node_step}
use Rattle.alw_cells.specs.Records.{BodyIsPlain, SendsAreOfEvent}

module _ (parts : Parts) (parameters : Parameters) (n stamp : ℕ) where
  asked : (line : ℕ) (said : ToMemory) → BodyIsPlain (message n stamp line (ForMemory said))
  asked line RREQ = refl
  asked line WREQ = refl
  asked line (REPM body) = refl
  asked line (UPDATE body) = refl
  asked line ACKC = refl

  told : (line : ℕ) (said : ToCache) → BodyIsPlain (message n stamp line (ForCache said))
  told line (RDATA body) = refl
  told line (WDATA body) = refl
  told line INV = refl
  told line BUSY = refl

  asked_so : (requests : Requests) → SendsAreOfEvent n stamp (to_homes parts n stamp requests)
  asked_so [] = tt
  asked_so (request ∷ rest) = (record { src = refl; at = refl; plain = asked request.0 request.1 }, asked_so rest)

  told_so : (line : ℕ) (sends : Sends) → SendsAreOfEvent n stamp (to_caches n stamp line sends)
  told_so line [] = tt
  told_so line (send ∷ rest) = (record { src = refl; at = refl; plain = told line send.1 }, told_so line rest)

  module _ (node : NodeState) where
    access_so : (slot line : ℕ) (mode : Mode) (copy : Option Copy) → SendsAreOfEvent n stamp (access parts parameters n stamp node slot line mode copy).sends
    access_so slot line mode None = asked_so (opened node.transactions line mode slot (value_at node.transactions line)).1
    access_so slot line mode (Some copy) = tt

    need_so : (slot : ℕ) (need : Need) → SendsAreOfEvent n stamp (instr_by parts parameters n stamp node slot need).sends
    need_so slot (needs.Copy line mode) = access_so slot line.0 mode (granted_copy parameters.sets node.cache line.0 mode)
    need_so slot needs.Nothing = tt
    need_so slot (needs.Trap tt') = tt

    instr_so : (slot : Option ℕ) → SendsAreOfEvent n stamp (instr parts parameters n stamp node slot).sends
    instr_so None = tt
    instr_so (Some slot) = need_so slot (need_of parts.code (slot_at node.slots slot).regs (line_count parts))

    home_so : (msg : Msg) (said : ToMemory) (traps : Bool) → SendsAreOfEvent n stamp (at_home parts parameters n stamp node msg said traps).sends
    home_so msg said true = tt
    home_so msg said false = told_so msg.line.0 (hardware_act (home_at parts node msg.line.0) msg.src.0 said).1

    message_so : (msg : Msg) (said : Content) → SendsAreOfEvent n stamp (deliver_by parts parameters n stamp node msg said).sends
    message_so msg (ForMemory said) = home_so msg said (is_trapped parameters.pointers (home_at parts node msg.line.0) msg.src.0 said)
    message_so msg (ForCache said) = asked_so (react parameters.sets node.cache msg.line.0 said).1

    delivery_so : (taken : Option Msg) → SendsAreOfEvent n stamp (deliver parts parameters n stamp node taken).sends
    delivery_so None = tt
    delivery_so (Some msg) = message_so msg (content msg)

    packet_so : (rest : List Msg) (packet : Msg) (said : Content) → SendsAreOfEvent n stamp
        (handle_by parts parameters n stamp (record node { packets = rest }) packet said).sends
    packet_so rest packet (ForCache said) = tt
    packet_so rest packet (ForMemory said) = told_so packet.line.0 (handle (home_at parts (record node { packets = rest }) packet.line.0) packet.src.0 said).1

    queue_so : (queue : List Msg) → SendsAreOfEvent n stamp (handle_front parts parameters n stamp node queue).sends
    queue_so [] = tt
    queue_so (packet ∷ rest) = packet_so rest packet (content packet)

    pub event_so : (event : Event) (taken : Option Msg) → SendsAreOfEvent n stamp (event_at parts parameters n stamp node event taken).sends
    event_so (Instr at) taken = instr_so (running node.slots node.current)
    event_so (Handle at) taken = queue_so node.packets
    event_so (Deliver from to) taken = delivery_so taken
    event_so (Evict at set) taken = asked_so (evict node.cache set).1

pub step_so : (parts : Parts) (parameters : Parameters) (n : ℕ) (node : NodeState) (event : Event) (taken : Option Msg)
    → SendsAreOfEvent n (stamp_of node.clock taken) (node_step parts parameters n node event taken).sends
step_so parts parameters n node event taken = event_so parts parameters n (stamp_of node.clock taken) node event taken
