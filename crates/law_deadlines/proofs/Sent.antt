-- What an event sends: at most a message to each node, and at most one of them with a line.
use Rattle.std.proofs.Common.{◌≡◌, ℕ, zero, suc, ◌+◌, ◌*◌, ◌/◌, ◌≤◌, ◌==◌, Bool, true, false, cond, Option, Some, None, List, [], ◌∷◌, length, refl, ◌∙◌, arith}
use Rattle.std.proofs.Math.Nat.{mul-le-mul_left}
use Rattle.std.proofs.lemmas.List.{length-map}
use Rattle.alw_num.specs.declared.addresses.Line.{Line}
use Rattle.alw_num.specs.declared.states.Mode.{Mode}
use Rattle.alw_num.specs.declared.states.Mode.TheVariants.{Read, Write}
use Rattle.alw_num.specs.declared.states.State.{State}
use Rattle.alw_num.specs.declared.states.State.TheVariants.{RO, RW, RT, WT}
use Rattle.alw_num.specs.Maps.{value_at}
use Rattle.alw_num.specs.NodeSets.{Nodes, AreBelow, has_node, drop_node}
use Rattle.alw_num.specs.Weights.{digit, weigh}
use Rattle.alw_num.proofs.Sets.{has-drop, count_below, join_below}
use Rattle.alw_num.proofs.Weigh.{digit_le}
use Rattle.sparc_table.specs.declared.outcomes.Need.{Need}
use Rattle.sparc_table.specs.declared.outcomes.Need.TheVariants as needs
use Rattle.sparc_table.specs.Turns.{need_of}
use Rattle.alw_msg.specs.declared.messages.Msg.{Msg}
use Rattle.alw_msg.specs.declared.events.Event.{Event}
use Rattle.alw_msg.specs.declared.events.Event.TheVariants.{Instr, Handle, Deliver, Evict}
use Rattle.alw_msg.specs.Contents.{ToMemory, RREQ, WREQ, REPM, UPDATE, ACKC, ToCache, RDATA, WDATA, INV, BUSY, Content, ForMemory, ForCache, content}
use Rattle.alw_msg.specs.Kinds.{has_body}
use Rattle.alw_image.specs.declared.parts.Parts.{Parts}
use Rattle.alw_image.specs.Images.{node_count, line_count, zero_line}
use Rattle.alw_image.specs.Parameters.{Parameters}
use Rattle.alw_model.specs.FullMap.{Home, Sends, others, sole, invs, write_shared, recall, recall_from, give_back, give_back_from, end_read, end_write, acknowledge, row}
use Rattle.alw_model.specs.LimitLess.{directory_start, full_map_of, hardware_of, is_trapped}
use Rattle.alw_model.specs.Caches.{Copy, Requests, Transaction, granted_copy, give_up, evicted, evict, replaced, copy_at, invalidate, react}
use Rattle.alw_model.specs.Contexts.{slot_at, running}
use Rattle.alw_model.specs.Messages.{message, to_homes, to_caches}
use Rattle.alw_model.specs.NodeStates.{NodeState, home_at, place_of}
use Rattle.alw_model.specs.ProcessorSteps.{opened}
use Rattle.alw_model.specs.NodeSteps.{access, instr_by, instr, at_home, deliver_by, deliver, handle_by, handle_front, event_at}
use Rattle.law_entry.specs.Entries.{PointsBelow}
use Rattle.law_entry.proofs.Pointers.{no_points}
use Rattle.law_order.specs.Aims.{NodeAims}
use Rattle.law_order.proofs.Aims.{every_at}
use Rattle.alw_times.specs.declared.costs.Costs.{Costs}
use Rattle.law_times.specs.Prices.{lengths_of}

-- messages with a line
abbrev lines_in : List (ℕ × Msg) → ℕ
lines_in sends = weigh (λ send. digit (has_body send.1.kind)) sends

-- at most so many messages, and one with a line
pub record AreFew (most : ℕ) (sends : List (ℕ × Msg)) : Type 0 where
  pub count : length sends ≤ most
  pub lines : lines_in sends ≤ 1

-- ---- their lengths

length_is : (costs : Costs) (b : Bool) → costs.send + cond b costs.data 0 ≡ costs.send + costs.data * digit b
length_is costs true = omega arith
length_is costs false = omega arith

lengths_are : (costs : Costs) (sends : List (ℕ × Msg)) → lengths_of costs sends ≡ costs.send * length sends + costs.data * lines_in sends
lengths_are costs [] = omega arith
lengths_are costs (send ∷ rest) = omega (arith, length_is costs (has_body send.1.kind), lengths_are costs rest)

-- few messages hold the port for as long as each takes, and a line more
pub few_lengths : (costs : Costs) (most : ℕ) (sends : List (ℕ × Msg)) → AreFew most sends → lengths_of costs sends ≤ costs.send * most + costs.data
few_lengths costs most sends few = omega (arith, lengths_are costs sends, mul-le-mul_left costs.send few.count, mul-le-mul_left costs.data few.lines)

-- ---- a home

others_few : (most : ℕ) (P : Nodes) (i : ℕ) → AreBelow most P → length (others P i) ≤ most
others_few most P i below = count_below (drop_node P i) most (λ k past. has-drop P i k ∙ beyond k past (k == i) (has_node P k) refl)
  where
    beyond : (k : ℕ) → most ≤ k → (same here : Bool) → has_node P k ≡ here → cond same false here ≡ false
    beyond k past true here e = refl
    beyond k past false false e = refl
    beyond k past false true e = absurd (let l = below k e in omega arith)

module _ (most : ℕ) (some : 1 ≤ most) where
  one_few : (sends : List (ℕ × Msg)) → length sends ≤ 1 → AreFew most sends
  one_few [] one = record { count = omega arith; lines = omega arith }
  one_few (send ∷ []) one = record { count = omega (arith, some); lines = omega (arith, digit_le (has_body send.1.kind)) }
  one_few (send ∷ other ∷ rest) one = absurd (omega (arith, one))

  module _ (n stamp line : ℕ) where
    abbrev Told : Home × Sends → Type 0
    Told ended = AreFew most (to_caches n stamp line ended.1)

    invs_lines : (js : List ℕ) → lines_in (to_caches n stamp line (invs js)) ≡ 0
    invs_lines [] = refl
    invs_lines (j ∷ rest) = omega (arith, invs_lines rest)

    invs_count : (js : List ℕ) → length (to_caches n stamp line (invs js)) ≡ length js
    invs_count [] = refl
    invs_count (j ∷ rest) = omega (arith, invs_count rest)

    write_few : (h : Home) (i : ℕ) (js : List ℕ) → length js ≤ most → Told (write_shared h i js)
    write_few h i [] few = one_few _ (omega arith)
    write_few h i (j ∷ rest) few = record { count = omega (arith, few, invs_count rest); lines = omega (arith, invs_lines rest) }

    recall_few : (h : Home) (i : ℕ) (state : State) (o : Option ℕ) → Told (recall h i state o)
    recall_few h i state None = one_few _ (omega arith)
    recall_few h i state (Some owner) = go (i == owner)
      where
        go : (b : Bool) → Told (recall_from h i state owner b)
        go true = one_few _ (omega arith)
        go false = one_few _ (omega arith)

    give_back_few : (h : Home) (i : ℕ) (body : Line) (o : Option ℕ) → Told (give_back h i body o)
    give_back_few h i body None = one_few _ (omega arith)
    give_back_few h i body (Some owner) = go (i == owner)
      where
        go : (b : Bool) → Told (give_back_from h body b)
        go true = one_few _ (omega arith)
        go false = one_few _ (omega arith)

    end_read_few : (h : Home) (body : Line) (o : Option ℕ) → Told (end_read h body o)
    end_read_few h body None = one_few _ (omega arith)
    end_read_few h body (Some k) = one_few _ (omega arith)

    end_write_few : (h : Home) (body : Line) (o : Option ℕ) → Told (end_write h body o)
    end_write_few h body None = one_few _ (omega arith)
    end_write_few h body (Some k) = one_few _ (omega arith)

    acknowledge_few : (h : Home) (ended : Home × Sends) (acks : ℕ) → Told ended → Told (acknowledge h ended acks)
    acknowledge_few h ended zero few = one_few _ (omega arith)
    acknowledge_few h ended (suc zero) few = few
    acknowledge_few h ended (suc (suc left)) few = one_few _ (omega arith)

    row_few : (h : Home) (i : ℕ) → AreBelow most h.pointers → (state : State) (message : ToMemory) → Told (row h i state message)
    row_few h i below RO RREQ = one_few _ (omega arith)
    row_few h i below RO WREQ = write_few h i (others h.pointers i) (others_few most h.pointers i below)
    row_few h i below RO (REPM body) = one_few _ (omega arith)
    row_few h i below RO (UPDATE body) = one_few _ (omega arith)
    row_few h i below RO ACKC = one_few _ (omega arith)
    row_few h i below RW RREQ = recall_few h i RT (sole h.pointers)
    row_few h i below RW WREQ = recall_few h i WT (sole h.pointers)
    row_few h i below RW (REPM body) = give_back_few h i body (sole h.pointers)
    row_few h i below RW (UPDATE body) = one_few _ (omega arith)
    row_few h i below RW ACKC = one_few _ (omega arith)
    row_few h i below RT RREQ = one_few _ (omega arith)
    row_few h i below RT WREQ = one_few _ (omega arith)
    row_few h i below RT (REPM body) = one_few _ (omega arith)
    row_few h i below RT (UPDATE body) = end_read_few h body (sole h.pointers)
    row_few h i below RT ACKC = acknowledge_few h _ h.acks (end_read_few h h.body (sole h.pointers))
    row_few h i below WT RREQ = one_few _ (omega arith)
    row_few h i below WT WREQ = one_few _ (omega arith)
    row_few h i below WT (REPM body) = one_few _ (omega arith)
    row_few h i below WT (UPDATE body) = end_write_few h body (sole h.pointers)
    row_few h i below WT ACKC = acknowledge_few h _ h.acks (end_write_few h h.body (sole h.pointers))

-- ---- a cache

evicted_few : (o : Option Copy) → length (evicted o) ≤ 1
evicted_few None = omega arith
evicted_few (Some copy) = go copy.mode
  where
    go : (mode : Mode) → length (give_up copy.line mode copy.body) ≤ 1
    go Write = omega arith
    go Read = omega arith

module _ (parts : Parts) (parameters : Parameters) (some : 1 ≤ node_count parts) (n stamp : ℕ) (node : NodeState) (aims : NodeAims parts node) where
  -- at most a message to each node
  abbrev Few : List (ℕ × Msg) → Type 0
  Few sends = AreFew (node_count parts) sends

  one : (sends : List (ℕ × Msg)) → length sends ≤ 1 → Few sends
  one = one_few (node_count parts) some

  asked_few : (requests : Requests) → length requests ≤ 1 → Few (to_homes parts n stamp requests)
  asked_few requests short = one _ (omega (arith, short, length-map {B = ℕ × Msg} requests (λ (request : ℕ × ToMemory). (request.0 / parts.per_node, message n stamp request.0 (ForMemory request.1)))))

  access_few : (slot line : ℕ) (mode : Mode) (o : Option Copy) → Few (access parts parameters n stamp node slot line mode o).sends
  access_few slot line mode (Some copy) = one _ (omega arith)
  access_few slot line mode None = go (value_at node.transactions line)
    where
      go : (o : Option Transaction) → Few (to_homes parts n stamp (opened node.transactions line mode slot o).1)
      go None = one _ (omega arith)
      go (Some transaction) = one _ (omega arith)

  need_few : (slot : ℕ) (need : Need) → Few (instr_by parts parameters n stamp node slot need).sends
  need_few slot (needs.Copy line mode) = access_few slot line.0 mode (granted_copy parameters.sets node.cache line.0 mode)
  need_few slot needs.Nothing = one _ (omega arith)
  need_few slot (needs.Trap type) = one _ (omega arith)

  instr_few : (slot : Option ℕ) → Few (instr parts parameters n stamp node slot).sends
  instr_few None = one _ (omega arith)
  instr_few (Some slot) = need_few slot (need_of parts.code (slot_at node.slots slot).regs (line_count parts))

  react_few : (line : ℕ) (said : ToCache) → length (react parameters.sets node.cache line said).1 ≤ 1
  react_few line (RDATA body) = evicted_few (replaced parameters.sets node.cache line)
  react_few line (WDATA body) = evicted_few (replaced parameters.sets node.cache line)
  react_few line BUSY = omega arith
  react_few line INV = go (copy_at parameters.sets node.cache line)
    where
      go : (o : Option Copy) → length (invalidate parameters.sets node.cache line o).1 ≤ 1
      go None = omega arith
      go (Some copy) = omega arith

  -- ---- an event

  points : (line : ℕ) → PointsBelow (node_count parts) (home_at parts node line)
  points line = every_at (PointsBelow (node_count parts)) node.homes (place_of parts line) (directory_start zero_line false) aims.homes (no_points (node_count parts) _ refl refl)

  home_few : (msg : Msg) (said : ToMemory) (traps : Bool) → Few (at_home parts parameters n stamp node msg said traps).sends
  home_few msg said true = one _ (omega arith)
  home_few msg said false =
      let d = home_at parts node msg.line.0 in
      row_few (node_count parts) some n stamp msg.line.0 (hardware_of d) msg.src.0 (points msg.line.0).hardware d.state said

  message_few : (msg : Msg) (said : Content) → Few (deliver_by parts parameters n stamp node msg said).sends
  message_few msg (ForMemory said) = home_few msg said (is_trapped parameters.pointers (home_at parts node msg.line.0) msg.src.0 said)
  message_few msg (ForCache said) = asked_few (react parameters.sets node.cache msg.line.0 said).1 (react_few msg.line.0 said)

  delivery_few : (taken : Option Msg) → Few (deliver parts parameters n stamp node taken).sends
  delivery_few None = one _ (omega arith)
  delivery_few (Some msg) = message_few msg (content msg)

  packet_few : (rest : List Msg) (packet : Msg) (said : Content) → Few (handle_by parts parameters n stamp (record node { packets = rest }) packet said).sends
  packet_few rest packet (ForCache said) = one _ (omega arith)
  packet_few rest packet (ForMemory said) =
      let d = home_at parts node packet.line.0 in
      let p = points packet.line.0 in
      row_few (node_count parts) some n stamp packet.line.0 (full_map_of d) packet.src.0 (join_below (node_count parts) d.hardware d.software p.hardware p.software) d.state said

  queue_few : (queue : List Msg) → Few (handle_front parts parameters n stamp node queue).sends
  queue_few [] = one _ (omega arith)
  queue_few (packet ∷ rest) = packet_few rest packet (content packet)

  -- an event sends few messages
  pub event_few : (event : Event) (taken : Option Msg) → Few (event_at parts parameters n stamp node event taken).sends
  event_few (Instr at) taken = instr_few (running node.slots node.current)
  event_few (Handle at) taken = queue_few node.packets
  event_few (Deliver from to) taken = delivery_few taken
  event_few (Evict at emptied) taken = asked_few (evict node.cache emptied).1 (evicted_few (value_at node.cache emptied))
