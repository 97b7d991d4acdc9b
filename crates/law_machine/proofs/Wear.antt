-- Once every context has halted each event leaves less to do: it takes a message or a packet, or a cached line.
use Rattle.std.proofs.Common.{◌≡◌, ℕ, ◌+◌, ◌*◌, ◌<◌, ◌≤◌, nat_lt, max, fold, Bool, true, false, Option, Some, None, List, [], ◌∷◌, ◌++◌, length, map, get_or, set, IsTrue, refl, sym, subst, ap, ◌∙◌, arith}
use Rattle.std.specs.List.{AllByRecursion}
use Rattle.std.specs.Prelude.{is_some}
use Rattle.std.proofs.lemmas.Bool.{ltb-true, false≢true}
use Rattle.std.proofs.lemmas.List.{length-append, length-map, set_past}
use Rattle.std.proofs.lemmas.Nat.{mul-add-lt}
use Rattle.law_machine.proofs.Vocabulary.{weigh, value_at, passes, NodeNo, Mode, Read, Write, Msg, Event, Instr, Handle, Deliver, Evict, Status, Ready, Waiting, Halted, Trapped, Parts}
use Rattle.law_machine.proofs.Vocabulary.{node_count, Parameters, ToMemory, Content, ForMemory, ForCache, content, is_to_memory, full_map_of, hardware_of, is_trapped, hardware_act, Copy, Cache}
use Rattle.law_machine.proofs.Vocabulary.{give_up, evicted, is_ready, is_halted, slot_at, running, to_homes, to_caches, is_fit, is_nonempty, front, behind, NodeState, home_at, stamp_of}
use Rattle.law_machine.proofs.Vocabulary.{may_deliver, Stepped, clocked, at_home, deliver_by, deliver, handle_by, handle_front, MachineState, no_node, node_at, link_at, link_place, links_sent}
use Rattle.law_machine.proofs.Vocabulary.{stamp_at, is_enabled, has_halted, after_step, step, stepped_by, IsPacket, is_evict}
use Rattle.alw_num.proofs.MapLengths.{length-without}
use Rattle.alw_num.proofs.Weigh.{cases_lt_then}
use Rattle.alw_model.proofs.Journals.{and_parts}
use Rattle.law_lines.proofs.Taken.{split_front}
use Rattle.law_lines.proofs.Steps.{Fit, fit_is, enabled_is}
use Rattle.law_machine.proofs.FlatSlots.{runs_ready}
use Rattle.law_machine.proofs.ContextRuns.{HasContexts}
use Rattle.law_machine.proofs.Ended.{halted_at}
use Rattle.law_machine.proofs.Sums.{weigh_set}
use Rattle.law_machine.proofs.AtRest.{repm_silent, no_reply, head_repm, packet_repm}

-- ---- what there is to do

-- messages on links, packets in queues, cached lines, and the greatest clock
abbrev pub messages_of : MachineState → ℕ
messages_of s = weigh length s.links

abbrev pub packets_of : MachineState → ℕ
packets_of s = weigh (λ (node : NodeState). length node.packets) s.nodes

abbrev pub cached_of : MachineState → ℕ
cached_of s = weigh (λ (node : NodeState). length node.cache.entries) s.nodes

abbrev pub greatest_of : MachineState → ℕ
greatest_of s = fold max 0 (map (λ (node : NodeState). node.clock) s.nodes)

-- what an event leaves of it: less, and where it isn't an eviction as many cached lines
pub record Wears (s next : MachineState) (event : Event) : Type 0 where
  pub less : 3 * cached_of next + 2 * messages_of next + packets_of next + 1 ≤ 3 * cached_of s + 2 * messages_of s + packets_of s
  pub fewer : is_evict event ≡ false → 2 * messages_of next + packets_of next + 1 ≤ 2 * messages_of s + packets_of s

-- ---- links

-- a message more on a link
one_more : (links : List (List Msg)) (place : ℕ) (msg : Msg) → weigh length (set links place (get_or links place [] ++ msg ∷ [])) ≤ weigh length links + 1
one_more links place msg = cases_lt_then (length links) place
    (λ fits. omega (arith, weigh_set length links place (get_or links place [] ++ msg ∷ []) [] fits, length-append (get_or links place []) (msg ∷ [])))
    (λ past. let same = ap (weigh length) (set_past links place (get_or links place [] ++ msg ∷ []) past) in omega arith)

links_more : (parts : Parts) (from : ℕ) (sends : List (ℕ × Msg)) (links : List (List Msg)) → weigh length (links_sent parts links from sends) ≤ weigh length links + length sends
links_more parts from [] links = omega arith
links_more parts from (send ∷ rest) links =
    let place = link_place parts from send.0 in
    omega (arith, links_more parts from rest (set links place (get_or links place [] ++ send.1 ∷ [])), one_more links place send.1)

pub evicted_few : (o : Option Copy) → length (evicted o) ≤ 1
evicted_few None = omega arith
evicted_few (Some copy) = go copy.mode
  where
    go : (mode : Mode) → length (give_up copy.line mode copy.body) ≤ 1
    go Write = omega arith
    go Read = omega arith

pub ready_not_halted : (status : Status) → is_ready status ≡ true → is_halted status ≡ true → ⊥
ready_not_halted Ready ready halted = cc
ready_not_halted (Waiting line) ready halted = cc
ready_not_halted Halted ready halted = cc
ready_not_halted (Trapped pc type) ready halted = cc

module _ (parts : Parts) (parameters : Parameters) (s : MachineState) (has : HasContexts parts parameters s) where
  -- a node changes
  module _ (n : ℕ) (here : n < node_count parts) (v : NodeState) where
    fits : n < length s.nodes
    fits = rw has.sound.standing.nodes here

    packets_change : (links : List (List Msg)) → packets_of (record { nodes = set s.nodes n v; links = links }) + length (node_at s n).packets ≡ packets_of s + length v.packets
    packets_change links = weigh_set (λ (node : NodeState). length node.packets) s.nodes n v no_node fits

    cached_change : (links : List (List Msg)) → cached_of (record { nodes = set s.nodes n v; links = links }) + length (node_at s n).cache.entries ≡ cached_of s + length v.cache.entries
    cached_change links = weigh_set (λ (node : NodeState). length node.cache.entries) s.nodes n v no_node fits

  -- a link loses its front
  link_loses : (from to : ℕ) → from < node_count parts → to < node_count parts → (msg : Msg) → front (link_at parts s from to) ≡ Some msg → weigh length (set s.links (link_place parts from to) (behind (link_at parts s from to))) + 1 ≡ messages_of s
  link_loses from to f here msg e =
      let place : link_place parts from to < length s.links = rw has.sound.standing.links (mul-add-lt from (node_count parts) to (node_count parts) f here) in
      let one : length (link_at parts s from to) ≡ length (msg ∷ behind (link_at parts s from to)) = ap length (split_front (link_at parts s from to) msg e) in
      let was = weigh_set length s.links (link_place parts from to) (behind (link_at parts s from to)) [] place in
      omega arith

  module _ (halted : has_halted s ≡ true) where
    -- ---- an eviction

    evict_wears : (at : NodeNo) (its : ℕ) → at.0 < node_count parts → (copy : Copy) → value_at (node_at s at.0).cache its ≡ Some copy → Wears s (step parts parameters s (Evict at its)) (Evict at its)
    evict_wears at its here copy e =
        let stamp = stamp_at parts s (Evict at its) in
        let node = node_at s at.0 in
        let requests = evicted (value_at node.cache its) in
        let v = (stepped_by parts parameters s (Evict at its)).node in
        let sent = links_more parts at.0 (to_homes parts at.0 stamp requests) s.links in
        let few = evicted_few (value_at node.cache its) in
        let size : length (to_homes parts at.0 stamp requests) ≡ length requests = length-map requests _ in
        let less = length-without node.cache its copy e in
        let p = packets_change at.0 here v s.links in
        let c = cached_change at.0 here v s.links in
        record { less = omega arith; fewer = λ isnt. absurd (cc) }

    evict_wears_if : (at : NodeNo) (its : ℕ) → at.0 < node_count parts → (o : Option Copy) → value_at (node_at s at.0).cache its ≡ o → (test : Copy → Bool) → passes test o ≡ true → Wears s (step parts parameters s (Evict at its)) (Evict at its)
    evict_wears_if at its here None e test is = absurd (false≢true is)
    evict_wears_if at its here (Some copy) e test is = evict_wears at its here copy e

    -- ---- the handler

    -- an event that sends nothing, of a node that takes a packet
    packet_wears : (at : NodeNo) → at.0 < node_count parts → (packet : Msg) (waiting : List Msg) → (node_at s at.0).packets ≡ packet ∷ waiting → (stepped : Stepped) → stepped.node.cache ≡ (node_at s at.0).cache → stepped.node.packets ≡ waiting → stepped.sends ≡ []
        → Wears s (after_step parts s (Handle at) stepped) (Handle at)
    packet_wears at here packet waiting queue stepped cache packets silent =
        let same = ap (λ (sends : List (ℕ × Msg)). weigh length (links_sent parts s.links at.0 sends)) silent in
        let had = ap (λ (q : List Msg). length q) queue in
        let left = ap (λ (q : List Msg). length q) packets in
        let kept = ap (λ (c : Cache). length c.entries) cache in
        let p = packets_change at.0 here stepped.node s.links in
        let c = cached_change at.0 here stepped.node s.links in
        record { less = omega arith; fewer = λ isnt. omega arith }

    handled_wears : (at : NodeNo) → at.0 < node_count parts → (packet : Msg) (waiting : List Msg) → (node_at s at.0).packets ≡ packet ∷ waiting → IsPacket parts at.0 packet → (c : Content) → content packet ≡ c → (stamp : ℕ)
        → Wears s (after_step parts s (Handle at)
        (clocked stamp (handle_by parts parameters at.0 stamp (record (node_at s at.0) { packets = waiting }) packet c))) (Handle at)
    handled_wears at here packet waiting queue packed (ForMemory said) is stamp =
        packet_wears at here packet waiting queue
        (clocked stamp (handle_by parts parameters at.0 stamp (record (node_at s at.0) { packets = waiting }) packet (ForMemory said))) refl refl
        (ap (to_caches at.0 stamp packet.line.0) (repm_silent (full_map_of (home_at parts (node_at s at.0) packet.line.0)) packet.src.0 said (packet_repm parts parameters s has halted at.0 packet waiting said queue packed is)))
    handled_wears at here packet waiting queue packed (ForCache said) is stamp = absurd (false≢true (sym (ap is_to_memory is) ∙ packed.to_memory))

    queue_wears : (at : NodeNo) → at.0 < node_count parts → (q : List Msg) → (node_at s at.0).packets ≡ q → is_nonempty q ≡ true → (stamp : ℕ)
        → Wears s (after_step parts s (Handle at) (clocked stamp (handle_front parts parameters at.0 stamp (node_at s at.0) q))) (Handle at)
    queue_wears at here [] e some stamp = absurd (false≢true some)
    queue_wears at here (packet ∷ waiting) e some stamp = handled_wears at here packet waiting e (subst (AllByRecursion (IsPacket parts at.0)) e (has.sound.standing.each at.0 here).packets).0 (content packet) refl stamp

    -- ---- a delivery

    module _ (from to : NodeNo) (f : from.0 < node_count parts) (here : to.0 < node_count parts) (msg : Msg) (e : front (link_at parts s from.0 to.0) ≡ Some msg) (stamp : ℕ) where
      -- an event that sends nothing, of a node that has at most one more packet
      taken_wears : (stepped : Stepped) → stepped.node.cache ≡ (node_at s to.0).cache → length stepped.node.packets ≤ length (node_at s to.0).packets + 1 → stepped.sends ≡ [] → Wears s (after_step parts s (Deliver from to) stepped) (Deliver from to)
      taken_wears stepped cache packets silent =
          let links = set s.links (link_place parts from.0 to.0) (behind (link_at parts s from.0 to.0)) in
          let same = ap (λ (sends : List (ℕ × Msg)). weigh length (links_sent parts links to.0 sends)) silent in
          let lost = link_loses from.0 to.0 f here msg e in
          let kept = ap (λ (c : Cache). length c.entries) cache in
          let p = packets_change to.0 here stepped.node s.links in
          let c = cached_change to.0 here stepped.node s.links in
          record { less = omega arith; fewer = λ isnt. omega arith }

      home_wears : (said : ToMemory) → (act_silent : (hardware_act (home_at parts (node_at s to.0) msg.line.0) msg.src.0 said).1 ≡ []) → (b : Bool) → Wears s (after_step parts s (Deliver from to) (clocked stamp (at_home parts parameters to.0 stamp (node_at s to.0) msg said b))) (Deliver from to)
      home_wears said act_silent true = taken_wears (clocked stamp (at_home parts parameters to.0 stamp (node_at s to.0) msg said true)) refl (omega (arith, length-append (node_at s to.0).packets (msg ∷ []))) refl
      home_wears said act_silent false = taken_wears (clocked stamp (at_home parts parameters to.0 stamp (node_at s to.0) msg said false)) refl (omega arith) (ap (to_caches to.0 stamp msg.line.0) act_silent)

      message_wears : (c : Content) → content msg ≡ c → Fit parts from.0 to.0 msg c → Wears s (after_step parts s (Deliver from to) (clocked stamp (deliver_by parts parameters to.0 stamp (node_at s to.0) msg c))) (Deliver from to)
      message_wears (ForMemory said) is fit = home_wears said
          (repm_silent (hardware_of (home_at parts (node_at s to.0) msg.line.0)) msg.src.0 said (head_repm parts parameters s has halted from.0 to.0 f msg said e fit is))
          (is_trapped parameters.pointers (home_at parts (node_at s to.0) msg.line.0) msg.src.0 said)
      message_wears (ForCache said) is fit = absurd (no_reply parts parameters s has halted from.0 to.0 here msg said e fit is)

    delivery_wears : (from to : NodeNo) → from.0 < node_count parts → to.0 < node_count parts → (head : Option Msg) → front (link_at parts s from.0 to.0) ≡ head → IsTrue (passes (may_deliver parts parameters from.0 to.0 (node_at s to.0)) head) → (stamp : ℕ)
        → Wears s (after_step parts s (Deliver from to) (clocked stamp (deliver parts parameters to.0 stamp (node_at s to.0) head))) (Deliver from to)
    delivery_wears from to f here None e may_be stamp = absurd (false≢true may_be)
    delivery_wears from to f here (Some msg) e may_be stamp = message_wears from to f here msg e stamp (content msg) refl (fit_is parts from.0 to.0 msg (and_parts (is_fit parts from.0 to.0 msg) _ may_be).0)

    -- ---- by the kind of event

    -- no context runs
    pub none_runs : (n : ℕ) (o : Option ℕ) → running (node_at s n).slots (node_at s n).current ≡ o → is_some o ≡ true → ⊥
    none_runs n None e some = false≢true some
    none_runs n (Some slot) e some = ready_not_halted (slot_at (node_at s n).slots slot).status (runs_ready (node_at s n).slots (node_at s n).current slot e).passes (halted_at s halted n slot)

    pub event_wears : (event : Event) → IsTrue (is_enabled parts parameters s event) → Wears s (step parts parameters s event) event
    event_wears (Instr at) enabled = absurd (none_runs at.0 (running (node_at s at.0).slots (node_at s at.0).current) refl (enabled_is parts parameters s (Instr at) enabled).may_be)
    event_wears (Handle at) enabled = let en = enabled_is parts parameters s (Handle at) enabled in queue_wears at en.here (node_at s at.0).packets refl en.may_be (stamp_of (node_at s at.0).clock None)
    event_wears (Deliver from to) enabled =
        let en = enabled_is parts parameters s (Deliver from to) enabled in
        let p = and_parts (nat_lt from.0 (node_count parts)) _ en.may_be in
        delivery_wears from to (ltb-true from.0 (node_count parts) p.0) en.here (front (link_at parts s from.0 to.0)) refl p.1 (stamp_of (node_at s to.0).clock (front (link_at parts s from.0 to.0)))
    event_wears (Evict at its) enabled =
        let en = enabled_is parts parameters s (Evict at its) enabled in
        evict_wears_if at its en.here (value_at (node_at s at.0).cache its) refl _ (and_parts (nat_lt its parameters.sets) _ en.may_be).1
