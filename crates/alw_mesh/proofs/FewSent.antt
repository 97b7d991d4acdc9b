-- An event of a machine sends at most a message to each of 256 nodes, so that what a legal journal tells fits a tally.
use Rattle.std.proofs.Common.{◌≡◌, ℕ, zero, suc, ◌/◌, ◌<◌, ◌≤◌, ◌==◌, Bool, true, false, cond, Option, Some, None, IsTrue, List, [], ◌∷◌, length, refl, ◌∙◌, arith}
use Rattle.std.specs.List.{AllByRecursion}
use Rattle.std.proofs.Math.Nat.{mod-le, div-le_self}
use Rattle.std.proofs.lemmas.List.{length-map}
use Rattle.alw_num.specs.declared.addresses.Line.{Line}
use Rattle.alw_num.specs.declared.states.Mode.{Mode}
use Rattle.alw_num.specs.declared.states.State.{State}
use Rattle.alw_num.specs.declared.states.State.TheVariants.{RO, RW, RT, WT}
use Rattle.alw_num.specs.Maps.{value_at}
use Rattle.alw_num.specs.NodeSets.{Nodes, AreBelow, has_node, drop_node}
use Rattle.alw_num.proofs.Sets.{has-drop, count_below, join_below}
use Rattle.sparc_table.specs.declared.outcomes.Need.{Need}
use Rattle.sparc_table.specs.declared.outcomes.Need.TheVariants as needs
use Rattle.sparc_table.specs.Turns.{need_of}
use Rattle.alw_msg.specs.declared.messages.Msg.{Msg}
use Rattle.alw_msg.specs.declared.events.Event.{Event}
use Rattle.alw_msg.specs.declared.events.Event.TheVariants.{Instr, Handle, Deliver, Evict}
use Rattle.alw_msg.specs.declared.events.Entry.{Entry}
use Rattle.alw_msg.specs.Contents.{ToMemory, RREQ, WREQ, REPM, UPDATE, ACKC, ToCache, RDATA, WDATA, INV, BUSY, Content, ForMemory, ForCache, content}
use Rattle.alw_msg.specs.Events.{node_of}
use Rattle.alw_image.specs.declared.parts.Parts.{Parts}
use Rattle.alw_image.specs.Images.{IsImage, node_count, line_count, zero_line, hops_between}
use Rattle.alw_image.specs.Parameters.{Parameters}
use Rattle.alw_model.specs.FullMap.{Home, Sends, others, sole, write_shared, recall, recall_from, give_back, give_back_from, end_read, end_write, acknowledge, row}
use Rattle.alw_model.specs.LimitLess.{directory_start, full_map_of, hardware_of, is_trapped}
use Rattle.alw_model.specs.Caches.{Copy, Requests, Transaction, granted_copy, evict, replaced, copy_at, invalidate, react}
use Rattle.alw_model.specs.Contexts.{slot_at, running}
use Rattle.alw_model.specs.Messages.{message, to_homes, to_caches}
use Rattle.alw_model.specs.NodeStates.{NodeState, home_at, place_of, stamp_of}
use Rattle.alw_model.specs.ProcessorSteps.{opened}
use Rattle.alw_model.specs.NodeSteps.{access, instr_by, instr, at_home, deliver_by, deliver, handle_by, handle_front, event_at}
use Rattle.alw_model.specs.Machine.{MachineState, machine_start, node_at, taken_by, is_enabled, stepped_by, step, AreLegal, IsLegal}
use Rattle.alw_model.specs.Runs.{moment_of, moments_from, moments}
use Rattle.law_entry.specs.Entries.{PointsBelow}
use Rattle.law_entry.proofs.Pointers.{no_points}
use Rattle.law_lines.specs.Links.{GoBelow}
use Rattle.law_lines.proofs.Steps.{enabled_is}
use Rattle.law_order.specs.Aims.{NodeAims, IsAimed}
use Rattle.law_order.proofs.Aims.{every_at}
use Rattle.law_order.proofs.Aimed.{start_aimed, step_aimed, sends_below}
use Rattle.alw_tally.specs.Told.{told_of}
use Rattle.alw_tally.specs.Tallies.{EventIsWithin}
use Rattle.alw_tally.proofs.Within.{SendsFew, within}
use Rattle.alw_mesh.proofs.OneNode.{few_nodes}
use Rattle.law_machine.proofs.Wear.{evicted_few}

-- ---- a home

others_few : (P : Nodes) (i : ℕ) → AreBelow 256 P → length (others P i) ≤ 256
others_few P i below = count_below (drop_node P i) 256 (λ k past. has-drop P i k ∙ beyond k past (k == i) (has_node P k) refl)
  where
    beyond : (k : ℕ) → 256 ≤ k → (same here : Bool) → has_node P k ≡ here → cond same false here ≡ false
    beyond k past true here e = refl
    beyond k past false false e = refl
    beyond k past false true e = absurd (let l = below k e in omega arith)

write_few : (h : Home) (i : ℕ) (js : List ℕ) → length js ≤ 256 → length (write_shared h i js).1 ≤ 256
write_few h i [] few = omega arith
write_few h i (j ∷ rest) few = omega (arith, few, length-map {B = ℕ × ToCache} (j ∷ rest) (λ (k : ℕ). (k, INV)))

recall_few : (h : Home) (i : ℕ) (state : State) (o : Option ℕ) → length (recall h i state o).1 ≤ 256
recall_few h i state None = omega arith
recall_few h i state (Some owner) = go (i == owner)
  where
    go : (b : Bool) → length (recall_from h i state owner b).1 ≤ 256
    go true = omega arith
    go false = omega arith

give_back_few : (h : Home) (i : ℕ) (body : Line) (o : Option ℕ) → length (give_back h i body o).1 ≤ 256
give_back_few h i body None = omega arith
give_back_few h i body (Some owner) = go (i == owner)
  where
    go : (b : Bool) → length (give_back_from h body b).1 ≤ 256
    go true = omega arith
    go false = omega arith

end_read_few : (h : Home) (body : Line) (o : Option ℕ) → length (end_read h body o).1 ≤ 256
end_read_few h body None = omega arith
end_read_few h body (Some k) = omega arith

end_write_few : (h : Home) (body : Line) (o : Option ℕ) → length (end_write h body o).1 ≤ 256
end_write_few h body None = omega arith
end_write_few h body (Some k) = omega arith

acknowledge_few : (h : Home) (ended : Home × Sends) (acks : ℕ) → length ended.1 ≤ 256 → length (acknowledge h ended acks).1 ≤ 256
acknowledge_few h ended zero few = omega arith
acknowledge_few h ended (suc zero) few = few
acknowledge_few h ended (suc (suc left)) few = omega arith

row_few : (h : Home) (i : ℕ) → AreBelow 256 h.pointers → (state : State) (message : ToMemory) → length (row h i state message).1 ≤ 256
row_few h i below RO RREQ = omega arith
row_few h i below RO WREQ = write_few h i (others h.pointers i) (others_few h.pointers i below)
row_few h i below RO (REPM body) = omega arith
row_few h i below RO (UPDATE body) = omega arith
row_few h i below RO ACKC = omega arith
row_few h i below RW RREQ = recall_few h i RT (sole h.pointers)
row_few h i below RW WREQ = recall_few h i WT (sole h.pointers)
row_few h i below RW (REPM body) = give_back_few h i body (sole h.pointers)
row_few h i below RW (UPDATE body) = omega arith
row_few h i below RW ACKC = omega arith
row_few h i below RT RREQ = omega arith
row_few h i below RT WREQ = omega arith
row_few h i below RT (REPM body) = omega arith
row_few h i below RT (UPDATE body) = end_read_few h body (sole h.pointers)
row_few h i below RT ACKC = acknowledge_few h _ h.acks (end_read_few h h.body (sole h.pointers))
row_few h i below WT RREQ = omega arith
row_few h i below WT WREQ = omega arith
row_few h i below WT (REPM body) = omega arith
row_few h i below WT (UPDATE body) = end_write_few h body (sole h.pointers)
row_few h i below WT ACKC = acknowledge_few h _ h.acks (end_write_few h h.body (sole h.pointers))

-- ---- a cache

module _ (parts : Parts) (parameters : Parameters) (few : node_count parts ≤ 256) (n stamp : ℕ) (node : NodeState) (aims : NodeAims parts node) where
  asked_few : (requests : Requests) → length requests ≤ 1 → length (to_homes parts n stamp requests) ≤ 256
  asked_few requests one = omega (arith, one, length-map {B = ℕ × Msg} requests (λ (request : ℕ × ToMemory). (request.0 / parts.per_node, message n stamp request.0 (ForMemory request.1))))

  access_few : (slot line : ℕ) (mode : Mode) (o : Option Copy) → length (access parts parameters n stamp node slot line mode o).sends ≤ 256
  access_few slot line mode (Some copy) = omega arith
  access_few slot line mode None = go (value_at node.transactions line)
    where
      go : (o : Option Transaction) → length (to_homes parts n stamp (opened node.transactions line mode slot o).1) ≤ 256
      go None = omega arith
      go (Some transaction) = omega arith

  need_few : (slot : ℕ) (need : Need) → length (instr_by parts parameters n stamp node slot need).sends ≤ 256
  need_few slot (needs.Copy line mode) = access_few slot line.0 mode (granted_copy parameters.sets node.cache line.0 mode)
  need_few slot needs.Nothing = omega arith
  need_few slot (needs.Trap type) = omega arith

  instr_few : (slot : Option ℕ) → length (instr parts parameters n stamp node slot).sends ≤ 256
  instr_few None = omega arith
  instr_few (Some slot) = need_few slot (need_of parts.code (slot_at node.slots slot).regs (line_count parts))

  react_few : (line : ℕ) (said : ToCache) → length (react parameters.sets node.cache line said).1 ≤ 1
  react_few line (RDATA body) = evicted_few (replaced parameters.sets node.cache line)
  react_few line (WDATA body) = evicted_few (replaced parameters.sets node.cache line)
  react_few line BUSY = omega arith
  react_few line INV = go (copy_at parameters.sets node.cache line)
    where
      go : (o : Option Copy) → length (invalidate parameters.sets node.cache line o).1 ≤ 1
      go None = omega arith
      go (Some copy) = omega arith

  -- ---- an event

  points : (line : ℕ) → PointsBelow (node_count parts) (home_at parts node line)
  points line = every_at (PointsBelow (node_count parts)) node.homes (place_of parts line) (directory_start zero_line false) aims.homes (no_points (node_count parts) _ refl refl)

  below : (P : Nodes) → AreBelow (node_count parts) P → AreBelow 256 P
  below P are k has = omega (arith, are k has, few)

  told_few : (line : ℕ) (sends : Sends) → length sends ≤ 256 → length (to_caches n stamp line sends) ≤ 256
  told_few line sends short = omega (arith, short, length-map {B = ℕ × Msg} sends (λ (send : ℕ × ToCache). (send.0, message n stamp line (ForCache send.1))))

  home_few : (msg : Msg) (said : ToMemory) (traps : Bool) → length (at_home parts parameters n stamp node msg said traps).sends ≤ 256
  home_few msg said true = omega arith
  home_few msg said false =
      let d = home_at parts node msg.line.0 in
      told_few msg.line.0 _ (row_few (hardware_of d) msg.src.0 (below d.hardware (points msg.line.0).hardware) d.state said)

  message_few : (msg : Msg) (said : Content) → length (deliver_by parts parameters n stamp node msg said).sends ≤ 256
  message_few msg (ForMemory said) = home_few msg said (is_trapped parameters.pointers (home_at parts node msg.line.0) msg.src.0 said)
  message_few msg (ForCache said) = asked_few (react parameters.sets node.cache msg.line.0 said).1 (react_few msg.line.0 said)

  delivery_few : (taken : Option Msg) → length (deliver parts parameters n stamp node taken).sends ≤ 256
  delivery_few None = omega arith
  delivery_few (Some msg) = message_few msg (content msg)

  packet_few : (rest : List Msg) (packet : Msg) (said : Content) → length (handle_by parts parameters n stamp (record node { packets = rest }) packet said).sends ≤ 256
  packet_few rest packet (ForCache said) = omega arith
  packet_few rest packet (ForMemory said) =
      let d = home_at parts node packet.line.0 in
      let p = points packet.line.0 in
      told_few packet.line.0 _ (row_few (full_map_of d) packet.src.0 (below _ (join_below (node_count parts) d.hardware d.software p.hardware p.software)) d.state said)

  queue_few : (queue : List Msg) → length (handle_front parts parameters n stamp node queue).sends ≤ 256
  queue_few [] = omega arith
  queue_few (packet ∷ rest) = packet_few rest packet (content packet)

  event_few : (event : Event) (taken : Option Msg) → length (event_at parts parameters n stamp node event taken).sends ≤ 256
  event_few (Instr at) taken = instr_few (running node.slots node.current)
  event_few (Handle at) taken = queue_few node.packets
  event_few (Deliver from to) taken = delivery_few taken
  event_few (Evict at emptied) taken = asked_few (evict node.cache emptied).1 (evicted_few (value_at node.cache emptied))

-- ---- a journal

module _ (parts : Parts) (parameters : Parameters) (few : node_count parts ≤ 256) where
  hops_few : (from to : ℕ) → from < node_count parts → to < node_count parts → hops_between parts from to ≤ 131072
  hops_few from to f t = omega (arith, mod-le from parts.width, mod-le to parts.width, div-le_self from parts.width, div-le_self to parts.width)

  all_hops : (from : ℕ) (sends : List (ℕ × Msg)) → from < node_count parts → GoBelow (node_count parts) sends
      → AllByRecursion (λ (send : ℕ × Msg). hops_between parts from send.0 ≤ 131072) sends
  all_hops from [] f go = tt
  all_hops from (send ∷ rest) f go = (hops_few from send.0 f go.0, all_hops from rest f go.1)

  step_few : (s : MachineState) (entry : Entry) → IsAimed parts s → IsTrue (is_enabled parts parameters s entry.event) → SendsFew parts (moment_of parts parameters s entry)
  step_few s entry aimed enabled =
      let n = node_of entry.event in
      let here = (enabled_is parts parameters s entry.event enabled).here in
      let taken = taken_by parts s entry.event in
      record {
        count = event_few parts parameters few n (stamp_of (node_at s n).clock taken) (node_at s n) (aimed.each n here) entry.event taken;
        hops = all_hops n (stepped_by parts parameters s entry.event).sends here (sends_below parts parameters s entry.event enabled aimed);
      }

  all_few : (s : MachineState) (journal : List Entry) → IsAimed parts s → AreLegal parts parameters s journal → AllByRecursion (SendsFew parts) (moments_from parts parameters s journal)
  all_few s [] aimed legal = tt
  all_few s (entry ∷ rest) aimed (next, legal) =
      (step_few s entry aimed next.enabled, all_few (step parts parameters s entry.event) rest (step_aimed parts parameters s entry.event next.enabled aimed) legal)

-- no event of a legal journal sends many messages
pub few_sent : (parts : Parts) (parameters : Parameters) → IsImage parts → (journal : List Entry) → IsLegal parts parameters journal → AllByRecursion (SendsFew parts) (moments parts parameters journal)
unfolding moments
few_sent parts parameters is journal legal = all_few parts parameters (few_nodes parts is) (machine_start parts) journal (start_aimed parts parameters) legal

-- what it tells fits a tally
pub told_within : (parts : Parts) (parameters : Parameters) → IsImage parts → (journal : List Entry) → IsLegal parts parameters journal → length (moments parts parameters journal) < 4294967296
    → EventIsWithin (told_of parts (moments parts parameters journal))
told_within parts parameters is journal legal short = within parts (moments parts parameters journal) short (few_sent parts parameters is journal legal)
