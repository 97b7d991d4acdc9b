-- Deliveries and actions of the handler while one context is served: each leaves less on its way, and no BUSY.
use Rattle.std.proofs.Common.{◌≡◌, ◌≢◌, ℕ, ◌+◌, ◌<◌, ◌≤◌, ◌==◌, nat_lt, Bool, true, false, cond, Option, Some, None, ◌⊎◌, inl, inr, List, [], ◌∷◌, length, set, refl, sym, subst, ap, ◌∙◌, arith}
use Rattle.std.specs.Prelude.{IsSome}
use Rattle.std.specs.List.{AllByRecursion}
use Rattle.std.proofs.lemmas.Bool.{eqb-true, ltb-true, false≢true}
use Rattle.std.proofs.lemmas.Nat.{mul-add-lt}
use Rattle.alw_num.specs.Weights.{weigh}
use Rattle.alw_num.specs.NodeSets.{has_node}
use Rattle.alw_num.specs.Maps.{value_at, passes}
use Rattle.alw_num.proofs.Weigh.{weigh_push, at_nodes}
use Rattle.alw_num.specs.declared.addresses.NodeNo.{NodeNo}
use Rattle.alw_msg.specs.declared.messages.Msg.{Msg}
use Rattle.alw_msg.specs.declared.events.Event.{Event}
use Rattle.alw_msg.specs.declared.events.Event.TheVariants.{Instr, Handle, Deliver, Evict}
use Rattle.alw_msg.specs.Contents.{ToMemory, ToCache, RDATA, WDATA, INV, BUSY, Content, ForMemory, ForCache, content, is_to_memory, is_reply}
use Rattle.alw_msg.specs.Events.{node_of}
use Rattle.alw_msg.specs.Lists.{is_nonempty, front, behind}
use Rattle.alw_msg.specs.Statuses.{waits_on}
use Rattle.alw_image.specs.declared.parts.Parts.{Parts}
use Rattle.alw_image.specs.Images.{node_count, line_count}
use Rattle.alw_image.specs.Parameters.{Parameters}
use Rattle.alw_model.specs.FullMap.{Sends, act}
use Rattle.alw_model.specs.LimitLess.{full_map_of, is_trapped, is_in_progress, hardware_act, handle}
use Rattle.alw_model.specs.Caches.{Transaction, react}
use Rattle.alw_model.specs.Contexts.{Slot, slot_at, no_slot, wake}
use Rattle.alw_model.specs.Messages.{home_node, to_caches, is_fit}
use Rattle.alw_model.specs.NodeStates.{NodeState, home_at, stamp_of, may_reach, may_deliver}
use Rattle.alw_model.specs.ProcessorSteps.{slots_after}
use Rattle.alw_model.specs.NodeSteps.{Stepped, clocked, at_cache, at_home, deliver_by, deliver, handle_by, handle_front}
use Rattle.alw_model.specs.Machine.{MachineState, no_node, node_at, link_at, link_place, is_enabled, after_step, step, stepped_by}
use Rattle.alw_model.specs.Lines.{LineNode, line_of}
use Rattle.alw_model.proofs.Journals.{and_parts}
use Rattle.law_line.proofs.Consequences.{reply_meets}
use Rattle.law_entry.proofs.Actions.{hardware_acts, handler_acts}
use Rattle.law_lines.specs.Standing.{IsPacket}
use Rattle.law_lines.proofs.CacheSide.{old_part}
use Rattle.law_lines.proofs.Views.{seen_transaction}
use Rattle.law_lines.proofs.Links.{read_set}
use Rattle.law_lines.proofs.Taken.{split_front}
use Rattle.law_lines.proofs.HomeEvents.{front_up, packet_first}
use Rattle.law_lines.proofs.Steps.{Fit, fit_is, enabled_is, not_is}
use Rattle.law_machine.proofs.Sums.{weigh_set}
use Rattle.law_machine.proofs.ContextFacts.{length-wake}
use Rattle.law_machine.proofs.ContextRuns.{HasContexts, down_at}
use Rattle.law_turns.specs.Orders.{is_quiet}
use Rattle.law_turns.proofs.Hefts.{heft, packet_heft, heft_in, packed_in, busy_in, of_msg, sends_heft, sends_busy, sends_weigh, requests_weigh, links_more, react_light, act_light, busy_none}
use Rattle.law_turns.proofs.Busy.{act_calm}
use Rattle.law_turns.proofs.Stages.{heft_of, busy_of, Waits, SlotHolds, IsServing, opener_is, alone}

some_seen : (o : Option Transaction) → IsSome (seen_transaction o) → IsSome o
some_seen None is = is
some_seen (Some transaction) is = refl

module _ (parts : Parts) (one : parts.contexts ≡ 1) (parameters : Parameters) (s : MachineState) (has : HasContexts parts parameters s) (c : ℕ) where
  abbrev n : ℕ
  n = node_count parts

  -- less is on its way, and where c is being served no BUSY
  pub record Lightens (next : MachineState) : Type 0 where
    pub lighter : heft_of parts next + 1 ≤ heft_of parts s
    pub calm : IsServing c s → busy_of next ≡ 0

  -- the slots stay, or c has its line
  abbrev pub NextStage : ℕ → NodeState → Type 0
  NextStage at v = (v.slots ≡ (node_at s at).slots) ⊎ ((at ≡ c) × SlotHolds (slot_at v.slots 0))

  abbrev sends_weight : (Content → ℕ) → List (ℕ × Msg) → ℕ
  sends_weight f sends = weigh (λ (send : ℕ × Msg). of_msg f send.1) sends

  packets_change : (at : ℕ) → at < n → (v : NodeState) → weigh (λ (node : NodeState). weigh (packet_heft n) node.packets) (set s.nodes at v) + weigh (packet_heft n) (node_at s at).packets ≡ weigh (λ (node : NodeState). weigh (packet_heft n) node.packets) s.nodes + weigh (packet_heft n) v.packets
  packets_change at here v = weigh_set (λ (node : NodeState). weigh (packet_heft n) node.packets) s.nodes at v no_node (rw has.sound.standing.nodes here)

  link_loses : (f : Content → ℕ) (from to : ℕ) → from < n → to < n → (msg : Msg) → front (link_at parts s from to) ≡ Some msg
      → weigh (weigh (of_msg f)) (set s.links (link_place parts from to) (behind (link_at parts s from to))) + f (content msg) ≡ weigh (weigh (of_msg f)) s.links
  link_loses f from to ff here msg e =
      let place : link_place parts from to < length s.links = rw has.sound.standing.links (mul-add-lt from n to n ff here) in
      let split : weigh (of_msg f) (link_at parts s from to) ≡ weigh (of_msg f) (msg ∷ behind (link_at parts s from to)) = ap (weigh (of_msg f)) (split_front (link_at parts s from to) msg e) in
      let was = weigh_set (weigh (of_msg f)) s.links (link_place parts from to) (behind (link_at parts s from to)) [] place in
      omega arith

  -- the pointers of an entry are nodes
  points_of : (at l : ℕ) → l < line_count parts → home_node parts l ≡ at → (j : ℕ) → has_node (full_map_of (home_at parts (node_at s at) l)).pointers j ≡ true → j < n
  points_of at l lines home j is = (has.sound.lines l lines).members j (ap (λ a. has_node (full_map_of (home_at parts (node_at s a) l)).pointers j) home ∙ is)

  -- what the home of a line sends weighs less than the message, and is no BUSY
  acts_light : (at l i : ℕ) (said : ToMemory) (rest : List ToMemory) → 1 ≤ n → l < line_count parts → home_node parts l ≡ at → ((line_of parts parameters s l).node i).up ≡ said ∷ rest
      → (sends : Sends) → sends ≡ (act (full_map_of (home_at parts (node_at s at) l)) i said).1 → (stamp : ℕ)
      → (sends_weight (heft_in n) (to_caches at stamp l sends) + 1 ≤ packed_in n (ForMemory said)) × (IsServing c s → sends_weight busy_in (to_caches at stamp l sends) ≡ 0)
  acts_light at l i said rest some lines home up sends is stamp =
      let light = act_light n some (full_map_of (home_at parts (node_at s at) l)) i said (points_of at l lines home) in
      let w = sends_weigh (heft_in n) at stamp l sends in
      let b = sends_weigh busy_in at stamp l sends in
      let same = ap sends_heft is in (
        omega arith,
        λ serving.
            let calm = act_calm n c (has.values l) (line_of parts parameters s l) (has.sound.lines l lines) (λ j. alone parts one parameters s has c serving l j lines) i said rest up in
            let moved : sends_busy (act (full_map_of (home_at parts (node_at s at) l)) i said).1 ≡ 0 = ap (λ a. sends_busy (act (full_map_of (home_at parts (node_at s a) l)) i said).1) (sym home) ∙ calm in
            b ∙ (ap sends_busy is ∙ moved),
      )

  -- ---- the handler

  handle_lightens : (at : NodeNo) → at.0 < n → (packet : Msg) (waiting : List Msg) → (node_at s at.0).packets ≡ packet ∷ waiting → (stepped : Stepped) → stepped.node.packets ≡ waiting
      → sends_weight (heft_in n) stepped.sends + 1 ≤ packet_heft n packet → (IsServing c s → sends_weight busy_in stepped.sends ≡ 0) → Lightens (after_step parts s (Handle at) stepped)
  handle_lightens at here packet waiting queue stepped packets light calm =
      let p = packets_change at.0 here stepped.node in
      let had : weigh (packet_heft n) (node_at s at.0).packets ≡ packet_heft n packet + weigh (packet_heft n) waiting = ap (weigh (packet_heft n)) queue in
      let left = ap (weigh (packet_heft n)) packets in
      let more = links_more (heft_in n) parts at.0 stepped.sends s.links in
      let bus = links_more busy_in parts at.0 stepped.sends s.links in
      record { lighter = omega arith; calm = λ serving. let was = serving.calm in let none = calm serving in omega arith }

  handled : (at : NodeNo) → at.0 < n → (packet : Msg) (waiting : List Msg) → (node_at s at.0).packets ≡ packet ∷ waiting → IsPacket parts at.0 packet → (said : Content) → content packet ≡ said → (stamp : ℕ)
      → Lightens (after_step parts s (Handle at) (clocked stamp (handle_by parts parameters at.0 stamp (record (node_at s at.0) { packets = waiting }) packet said)))
      × (IsServing c s → NextStage at.0 (clocked stamp (handle_by parts parameters at.0 stamp (record (node_at s at.0) { packets = waiting }) packet said)).node)
  handled at here packet waiting queue is_packet (ForMemory said) is stamp =
      let entry = home_at parts (node_at s at.0) packet.line.0 in
      let up = packet_first parts parameters s has.sound.standing at.0 here stamp packet.line.0 is_packet.line packet waiting queue is_packet said is refl in
      let a = acts_light at.0 packet.line.0 packet.src.0 said _ (omega arith) is_packet.line is_packet.home up (handle entry packet.src.0 said).1 (handler_acts entry packet.src.0 said).sent stamp in
      let weighs = ap (packed_in n) is in
      (handle_lightens at here packet waiting queue (clocked stamp (handle_by parts parameters at.0 stamp (record (node_at s at.0) { packets = waiting }) packet (ForMemory said))) refl (omega (arith, a.0)) a.1, λ serving. inl refl)
  handled at here packet waiting queue is_packet (ForCache said) is stamp = absurd (false≢true (sym (ap is_to_memory is) ∙ is_packet.to_memory))

  queue_handled : (at : NodeNo) → at.0 < n → (q : List Msg) → (node_at s at.0).packets ≡ q → is_nonempty q ≡ true → (stamp : ℕ)
      → Lightens (after_step parts s (Handle at) (clocked stamp (handle_front parts parameters at.0 stamp (node_at s at.0) q)))
      × (IsServing c s → NextStage at.0 (clocked stamp (handle_front parts parameters at.0 stamp (node_at s at.0) q)).node)
  queue_handled at here [] e some stamp = absurd (false≢true some)
  queue_handled at here (packet ∷ waiting) e some stamp = handled at here packet waiting e (subst (AllByRecursion (IsPacket parts at.0)) e (has.sound.standing.each at.0 here).packets).0 (content packet) refl stamp

  -- ---- a delivery

  module _ (from to : NodeNo) (f : from.0 < n) (here : to.0 < n) (msg : Msg) (e : front (link_at parts s from.0 to.0) ≡ Some msg) (stamp : ℕ) where
    abbrev delivered : Stepped → MachineState
    delivered stepped = after_step parts s (Deliver from to) stepped

    deliver_lightens : (stepped : Stepped) → sends_weight (heft_in n) stepped.sends + weigh (packet_heft n) stepped.node.packets + 1 ≤ heft n msg + weigh (packet_heft n) (node_at s to.0).packets
        → (IsServing c s → sends_weight busy_in stepped.sends ≡ 0) → Lightens (delivered stepped)
    deliver_lightens stepped light calm =
        let links = set s.links (link_place parts from.0 to.0) (behind (link_at parts s from.0 to.0)) in
        let p = packets_change to.0 here stepped.node in
        let more = links_more (heft_in n) parts to.0 stepped.sends links in
        let bus = links_more busy_in parts to.0 stepped.sends links in
        let lost = link_loses (heft_in n) from.0 to.0 f here msg e in
        let unbusy = link_loses busy_in from.0 to.0 f here msg e in
        record { lighter = omega arith; calm = λ serving. let was = serving.calm in let none = calm serving in omega arith }

    -- to memory
    home_takes : (said : ToMemory) → content msg ≡ ForMemory said → Fit parts from.0 to.0 msg (ForMemory said) → is_in_progress (home_at parts (node_at s to.0) msg.line.0).meta ≡ false
        → (b : Bool) → is_trapped parameters.pointers (home_at parts (node_at s to.0) msg.line.0) msg.src.0 said ≡ b
        → Lightens (delivered (clocked stamp (at_home parts parameters to.0 stamp (node_at s to.0) msg said b))) × (IsServing c s → NextStage to.0 (clocked stamp (at_home parts parameters to.0 stamp (node_at s to.0) msg said b)).node)
    home_takes said is fit free true trap =
        let weighs = ap (heft_in n) is in
        let packs = ap (packed_in n) is in
        let pushed = weigh_push (packet_heft n) (node_at s to.0).packets msg in
        (deliver_lightens (clocked stamp (at_home parts parameters to.0 stamp (node_at s to.0) msg said true)) (omega arith) (λ serving. refl), λ serving. inl refl)
    home_takes said is fit free false trap =
        let entry = home_at parts (node_at s to.0) msg.line.0 in
        let home = eqb-true (home_node parts msg.line.0) to.0 fit.home in
        let up = front_up parts parameters s has.sound.standing from.0 to.0 f here stamp msg.line.0 fit.exists msg e home fit.exists fit.source said is free refl in
        let alike = hardware_acts parameters.pointers entry msg.src.0 said ((has.sound.standing.each to.0 here).entries msg.line.0 fit.exists home) trap free in
        let up_of = ap (λ i. ((line_of parts parameters s msg.line.0).node i).up) fit.source ∙ up in
        let a = acts_light to.0 msg.line.0 msg.src.0 said _ (omega arith) fit.exists home up_of (hardware_act entry msg.src.0 said).1 alike.sent stamp in
        let weighs = ap (heft_in n) is in
        (deliver_lightens (clocked stamp (at_home parts parameters to.0 stamp (node_at s to.0) msg said false)) (omega (arith, a.0)) a.1, λ serving. inl refl)

    -- to a cache
    cache_lightens : (said : ToCache) → content msg ≡ ForCache said → Lightens (delivered (clocked stamp (at_cache parts parameters to.0 stamp (node_at s to.0) msg.line.0 said)))
    cache_lightens said is =
        let after = react parameters.sets (node_at s to.0).cache msg.line.0 said in
        let w = requests_weigh (heft_in n) parts.per_node to.0 stamp after.1 in
        let b = requests_weigh busy_in parts.per_node to.0 stamp after.1 in
        let light = react_light n parameters.sets (node_at s to.0).cache msg.line.0 said in
        let weighs = ap (heft_in n) is in
        deliver_lightens (clocked stamp (at_cache parts parameters to.0 stamp (node_at s to.0) msg.line.0 said)) (omega arith) (λ serving. b ∙ busy_none after.1)

    -- data that comes is for c, and gives it its hold
    data_comes : IsServing c s → (said : ToCache) → content msg ≡ ForCache said → Fit parts from.0 to.0 msg (ForCache said) → is_reply said ≡ true → (o : Option Transaction) → value_at (node_at s to.0).transactions msg.line.0 ≡ o
        → (to.0 ≡ c) × SlotHolds (slot_at (slots_after (node_at s to.0).slots msg.line.0 true o) 0)
    data_comes serving said is fit reply None g = absurd (
        let l = msg.line.0 in
        let down = down_at parts parameters s has.values has.sound from.0 to.0 msg said e (eqb-true (home_node parts l) from.0 fit.home) is in
        let meets = reply_meets n (has.values l) (line_of parts parameters s l) (has.sound.lines l fit.exists) to.0 said _ (ap (λ (v : LineNode). v.down) (old_part parts parameters s to.0 l here) ∙ down) reply in
        let some : IsSome (value_at (node_at s to.0).transactions l) = some_seen (value_at (node_at s to.0).transactions l) (subst (λ (v : LineNode). IsSome v.transaction) (old_part parts parameters s to.0 l here) meets) in
        let none : IsSome {T = Transaction} None = subst (λ (o : Option Transaction). IsSome o) g some in
        cc)
    data_comes serving said is fit reply (Some t) g =
        let l = msg.line.0 in
        let slots = (node_at s to.0).slots in
        let contexts = has.contexts to.0 here in
        let zero_is : t.opener ≡ 0 = let o = contexts.opened l t g in omega (arith, o.opener, one) in
        let size : 0 < length (wake l slots) = omega (arith, length-wake l slots, contexts.size, one) in
        let held : slot_at (set (wake l slots) 0 (record (slot_at (wake l slots) 0) { hold = Some l })) 0 ≡ record (slot_at (wake l slots) 0) { hold = Some l } = read_set (wake l slots) 0 (record (slot_at (wake l slots) 0) { hold = Some l }) no_slot 0 size in
        (opener_is parts one parameters s has c serving to.0 l t here g, (l, ap (λ i. (slot_at (set (wake l slots) i (record (slot_at (wake l slots) i) { hold = Some l })) 0).hold) zero_is ∙ ap (λ (u : Slot). u.hold) held))

    cache_stage : IsServing c s → (said : ToCache) → content msg ≡ ForCache said → Fit parts from.0 to.0 msg (ForCache said) → NextStage to.0 (clocked stamp (at_cache parts parameters to.0 stamp (node_at s to.0) msg.line.0 said)).node
    cache_stage serving INV is fit = inl refl
    cache_stage serving (RDATA body) is fit = inr (data_comes serving (RDATA body) is fit refl (value_at (node_at s to.0).transactions msg.line.0) refl)
    cache_stage serving (WDATA body) is fit = inr (data_comes serving (WDATA body) is fit refl (value_at (node_at s to.0).transactions msg.line.0) refl)
    cache_stage serving BUSY is fit = absurd (let unbusy = link_loses busy_in from.0 to.0 f here msg e in let one_is = ap busy_in is in let was = serving.calm in omega arith)

    takes : (said : Content) → content msg ≡ said → Fit parts from.0 to.0 msg said → may_reach parts parameters (node_at s to.0) msg.line.0 said ≡ true
        → Lightens (delivered (clocked stamp (deliver_by parts parameters to.0 stamp (node_at s to.0) msg said))) × (IsServing c s → NextStage to.0 (clocked stamp (deliver_by parts parameters to.0 stamp (node_at s to.0) msg said)).node)
    takes (ForMemory said) is fit reach = home_takes said is fit (not_is (is_in_progress (home_at parts (node_at s to.0) msg.line.0).meta) reach) (is_trapped parameters.pointers (home_at parts (node_at s to.0) msg.line.0) msg.src.0 said) refl
    takes (ForCache said) is fit reach = (cache_lightens said is, λ serving. cache_stage serving said is fit)

  delivery : (from to : NodeNo) → from.0 < n → to.0 < n → (head : Option Msg) → front (link_at parts s from.0 to.0) ≡ head → passes (may_deliver parts parameters from.0 to.0 (node_at s to.0)) head ≡ true → (stamp : ℕ)
      → Lightens (after_step parts s (Deliver from to) (clocked stamp (deliver parts parameters to.0 stamp (node_at s to.0) head))) × (IsServing c s → NextStage to.0 (clocked stamp (deliver parts parameters to.0 stamp (node_at s to.0) head)).node)
  delivery from to f here None e may_be stamp = absurd (false≢true may_be)
  delivery from to f here (Some msg) e may_be stamp =
      let p = and_parts (is_fit parts from.0 to.0 msg) _ may_be in
      takes from to f here msg e stamp (content msg) refl (fit_is parts from.0 to.0 msg p.0) p.1

  -- ---- by the kind of event

  event_quiet : (event : Event) → is_quiet event ≡ true → is_enabled parts parameters s event ≡ true → Lightens (step parts parameters s event) × (IsServing c s → NextStage (node_of event) (stepped_by parts parameters s event).node)
  event_quiet (Instr at) quiet enabled = absurd (false≢true quiet)
  event_quiet (Evict at its) quiet enabled = absurd (false≢true quiet)
  event_quiet (Handle at) quiet enabled = let en = enabled_is parts parameters s (Handle at) enabled in queue_handled at en.here (node_at s at.0).packets refl en.may_be (stamp_of (node_at s at.0).clock None)
  event_quiet (Deliver from to) quiet enabled =
      let en = enabled_is parts parameters s (Deliver from to) enabled in
      let p = and_parts (nat_lt from.0 n) _ en.may_be in
      delivery from to (ltb-true from.0 n p.0) en.here (front (link_at parts s from.0 to.0)) refl p.1 (stamp_of (node_at s to.0).clock (front (link_at parts s from.0 to.0)))

  pub quiet_lightens : (event : Event) → is_quiet event ≡ true → is_enabled parts parameters s event ≡ true → heft_of parts (step parts parameters s event) + 1 ≤ heft_of parts s
  quiet_lightens event quiet enabled = (event_quiet event quiet enabled).0.lighter

  -- the context is still being served
  pub quiet_serves : IsServing c s → (event : Event) → is_quiet event ≡ true → is_enabled parts parameters s event ≡ true → IsServing c (step parts parameters s event)
  quiet_serves serving event quiet enabled =
      let q = event_quiet event quiet enabled in
      let k = node_of event in
      let v = (stepped_by parts parameters s event).node in
      let here = (enabled_is parts parameters s event enabled).here in
      let at : (m : ℕ) → node_at (step parts parameters s event) m ≡ cond (m == k) v (node_at s m) = λ m. read_set s.nodes k v no_node m (rw has.sound.standing.nodes here) in
      let each : (m : ℕ) → NextStage m (node_at (step parts parameters s event) m) = λ m. subst (NextStage m) (sym (at m)) (at_nodes (λ j u. NextStage j u) (node_at s) k v (q.1 serving) (λ j other. inl refl) m) in
      record {
        calm = q.0.calm serving;
        free = λ m other. free_by (node_at (step parts parameters s event) m) m other (each m);
        awake = λ m line other. awake_by (node_at (step parts parameters s event) m) m line other (each m);
        stage = stage_by (node_at (step parts parameters s event) c) (each c);
      }
    where
      free_by : (v : NodeState) (m : ℕ) → m ≢ c → NextStage m v → (slot_at v.slots 0).hold ≡ None
      free_by v m other (inl same) = ap (λ (slots : List Slot). (slot_at slots 0).hold) same ∙ serving.free m other
      free_by v m other (inr is) = absurd (other is.0)

      awake_by : (v : NodeState) (m line : ℕ) → m ≢ c → NextStage m v → waits_on line (slot_at v.slots 0).status ≡ false
      awake_by v m line other (inl same) = ap (λ (slots : List Slot). waits_on line (slot_at slots 0).status) same ∙ serving.awake m line other
      awake_by v m line other (inr is) = absurd (other is.0)

      stage_by : (v : NodeState) → NextStage c v → Waits (slot_at v.slots 0) ⊎ SlotHolds (slot_at v.slots 0)
      stage_by v (inl same) = subst (λ (slots : List Slot). Waits (slot_at slots 0) ⊎ SlotHolds (slot_at slots 0)) (sym same) serving.stage
      stage_by v (inr is) = inr is.1
