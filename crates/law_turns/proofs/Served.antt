-- A Ready context's turn, from a machine at rest: a turn at once, or a miss, what the request brings about, and the turn.
use Rattle.std.proofs.Common.{◌≡◌, ◌≢◌, ℕ, zero, suc, ◌+◌, ◌*◌, ◌-◌, ◌^◌, ◌<◌, ◌≤◌, ◌==◌, nat_lt, Bool, true, false, cond, map, None, ◌⊎◌, inl, inr, List, [], ◌∷◌, ◌++◌, length, refl, sym, subst, ap, ◌∙◌, arith}
use Rattle.std.specs.Prelude.{is_some}
use Rattle.std.proofs.lemmas.Bool.{eq-eqb, lt-ltb, false≢true}
use Rattle.std.proofs.lemmas.List.{append-nil, get_or_past}
use Rattle.alw_num.specs.Weights.{weigh}
use Rattle.alw_num.specs.Maps.{value_at}
use Rattle.alw_num.specs.declared.addresses.NodeNo.{NodeNo}
use Rattle.alw_num.specs.declared.states.Mode.{Mode}
use Rattle.alw_num.specs.declared.states.Mode.TheVariants.{Read, Write}
use Rattle.alw_num.proofs.Weigh.{at_nodes, cases_lt_then}
use Rattle.sparc_table.specs.declared.outcomes.Need.{Need}
use Rattle.sparc_table.specs.declared.outcomes.Need.TheVariants as needs
use Rattle.sparc_table.specs.declared.outcomes.Outcome.{Outcome}
use Rattle.alw_msg.specs.declared.messages.Msg.{Msg}
use Rattle.alw_msg.specs.declared.events.Event.{Event}
use Rattle.alw_msg.specs.declared.events.Event.TheVariants.{Instr}
use Rattle.alw_msg.specs.declared.events.Entry.{Entry}
use Rattle.alw_msg.specs.declared.contexts.Status.TheVariants.{Ready}
use Rattle.alw_msg.specs.Contents.{ForMemory}
use Rattle.alw_msg.specs.Statuses.{is_ready, waits_on}
use Rattle.alw_image.specs.declared.parts.Parts.{Parts}
use Rattle.alw_image.specs.Images.{node_count, IsImage}
use Rattle.alw_image.specs.Parameters.{Parameters}
use Rattle.alw_model.specs.declared.steps.Did.{Did}
use Rattle.alw_model.specs.Caches.{granted_copy, request}
use Rattle.alw_model.specs.Contexts.{Slot, slot_at, running}
use Rattle.alw_model.specs.NodeStates.{NodeState, stamp_of}
use Rattle.alw_model.specs.NodeSteps.{Stepped}
use Rattle.alw_model.specs.Machine.{MachineState, IsNext, no_node, stamp_at, node_at, links_sent, is_enabled, step, stepped_by, after}
use Rattle.alw_model.specs.Runs.{turn_in}
use Rattle.alw_model.proofs.Journals.{and_is, after-append}
use Rattle.law_lines.proofs.Links.{read_set}
use Rattle.law_machine.proofs.MainEvents.{ready_runs}
use Rattle.law_machine.proofs.MachineRuns.{IsKept}
use Rattle.law_machine.proofs.Sums.{weigh_set}
use Rattle.law_turns.specs.Turns.{IsAtRest, greatest_clock, turns_from, turn_events, serves, ServesTurn}
use Rattle.law_turns.proofs.Hefts.{heft, packet_heft, busy, heft_in, busy_in, of_msg, links_more, requests_weigh}
use Rattle.law_turns.proofs.Stages.{heft_of, busy_of, own, Waits, SlotHolds, IsServing, no_others}
use Rattle.law_turns.proofs.Resting.{settled_light, settled_calm, light_settled, none_open, none_waits}
use Rattle.law_turns.proofs.Means.{AreMeans, clocks_small, entry_kept}
use Rattle.law_turns.proofs.Instructions.{Turned, Asked, Does, instr_does}
use Rattle.law_turns.specs.Orders.{entry_for}
use Rattle.law_turns.proofs.Draining.{stamp_near, is_next, next_kept, next_clock, Drains, DrainsOrStops, StopsThere, stops_now, stops_later, drains}
use Rattle.law_turns.proofs.Turns.{legal_more, turns_more, EachIsServed, NobodyWaits}
use Rattle.alw_num.proofs.Alls.{all_append}

module _ (parts : Parts) (image : IsImage parts) (one : parts.contexts ≡ 1) (parameters : Parameters) (are : AreMeans parameters) where
  abbrev n : ℕ
  n = node_count parts

  -- where each node's one slot has no hold, no slot has
  pub all_free : (t : MachineState) → IsKept parts parameters t → ((m : ℕ) → m < n → (own t m).hold ≡ None) → (m slot : ℕ) → m < n → (slot_at (node_at t m).slots slot).hold ≡ None
  all_free t kept free m zero here = free m here
  all_free t kept free m (suc i) here = ap (λ (u : Slot). u.hold) (no_others parts one parameters t kept.has m i here)

  -- ---- a Ready context's instruction is enabled

  module _ (c : ℕ) (here : c < n) (s : MachineState) (kept : IsKept parts parameters s) where
    pub own_size : length (node_at s c).slots ≡ 1
    own_size = (kept.has.contexts c here).size ∙ one

    pub own_runs : (own s c).status ≡ Ready → is_some (running (node_at s c).slots (node_at s c).current) ≡ true
    own_runs ready = ready_runs (node_at s c).slots (node_at s c).current 0 (omega (arith, (kept.has.contexts c here).chosen, own_size, one)) (ap is_ready ready)

    pub can_run : (own s c).status ≡ Ready → is_enabled parts parameters s (Instr (record { 0 = c })) ≡ true
    can_run ready = and_is (c == c) _ (eq-eqb c c refl) (and_is (nat_lt c n) _ (lt-ltb c n here) (and_is (nat_lt (node_at s c).clock (2 ^ 32 - 1)) _ (lt-ltb (node_at s c).clock (2 ^ 32 - 1) (clocks_small parts image parameters are s kept c here)) (own_runs ready)))

  -- ---- an instruction, where nothing is on its way

  module _ (c : ℕ) (here : c < n) (s : MachineState) (kept : IsKept parts parameters s) (light : heft_of parts s ≡ 0) (ready : (own s c).status ≡ Ready) where
    abbrev at : NodeNo
    at = record { 0 = c }

    abbrev pub stamp : ℕ
    stamp = stamp_of (node_at s c).clock None

    abbrev pub stepped : Stepped
    stepped = stepped_by parts parameters s (Instr at)

    abbrev next : MachineState
    next = step parts parameters s (Instr at)

    enabled : is_enabled parts parameters s (Instr at) ≡ true
    enabled = can_run c here s kept ready

    pub does : Does parts parameters c stamp (node_at s c) stepped
    does = instr_does parts parameters c stamp (node_at s c) (omega (arith, own_size c here s kept)) (λ line. none_open parts s parameters kept.has light c line here (value_at (node_at s c).transactions line) refl) (own_size c here s kept) (running (node_at s c).slots (node_at s c).current) refl (own_runs c here s kept ready)

    next_at : (m : ℕ) → node_at next m ≡ cond (m == c) stepped.node (node_at s m)
    next_at m = read_set s.nodes c stepped.node no_node m (rw kept.has.sound.standing.nodes here)

    -- c's slot is the one that changes
    own_next : (P : ℕ → Slot → Type 0) → P c (slot_at stepped.node.slots 0) → ((m : ℕ) → m ≢ c → P m (own s m)) → (m : ℕ) → P m (own next m)
    own_next P mine others m = subst (λ (u : NodeState). P m (slot_at u.slots 0)) (sym (next_at m)) (at_nodes (λ j u. P j (slot_at u.slots 0)) (node_at s) c stepped.node mine others m)

    same_queues : stepped.node.packets ≡ (node_at s c).packets → weigh (λ (node : NodeState). weigh (packet_heft n) node.packets) next.nodes ≡ weigh (λ (node : NodeState). weigh (packet_heft n) node.packets) s.nodes
    same_queues same =
        let w = weigh_set (λ (node : NodeState). weigh (packet_heft n) node.packets) s.nodes c stepped.node no_node (rw kept.has.sound.standing.nodes here) in
        let packets = ap (weigh (packet_heft n)) same in
        omega arith

    -- ---- a turn

    module _ (t : Turned parts parameters c stamp (node_at s c) stepped) where
      turn_light : heft_of parts next ≡ 0
      turn_light =
          let links = ap (λ (sends : List (ℕ × Msg)). weigh (weigh (heft n)) (links_sent parts s.links c sends)) t.sends in
          let queues = same_queues t.packets in
          omega arith

      turn_rests : IsKept parts parameters next → ((m : ℕ) → m ≢ c → (own s m).hold ≡ None) → IsAtRest parts next
      turn_rests kept_next free = record {
        settled = light_settled parts next turn_light;
        free = all_free next kept_next (λ m below. own_next (λ j u. u.hold ≡ None) t.free free m);
      }

      pub turn_is : map (λ (turn : ℕ × Outcome). turn.0) (turn_in parts c stepped.did) ≡ c ∷ []
      turn_is =
          let place : c * parts.contexts + 0 ≡ c = ap (λ k. c * k + 0) one ∙ omega arith in
          ap (λ (did : Did). map (λ (turn : ℕ × Outcome). turn.0) (turn_in parts c did)) t.did ∙ ap (λ k. k ∷ []) place

    -- ---- a miss

    module _ (a : Asked parts parameters c stamp (node_at s c) stepped) where
      request_heft : (mode : Mode) → heft_in n (ForMemory (request mode)) ≡ 6 * n + 2
      request_heft Read = omega arith
      request_heft Write = omega arith

      pub miss_light : heft_of parts next ≤ 6 * n + 2
      miss_light =
          let more = links_more (heft_in n) parts c stepped.sends s.links in
          let sends = ap (weigh (λ (send : ℕ × Msg). of_msg (heft_in n) send.1)) a.sends ∙ requests_weigh (heft_in n) parts.per_node c stamp ((a.line, request a.mode) ∷ []) in
          let weighs = request_heft a.mode in
          let queues = same_queues a.packets in
          omega arith

      pub miss_serves : busy_of s ≡ 0 → ((m : ℕ) → m ≢ c → (own s m).hold ≡ None) → ((m line : ℕ) → m ≢ c → waits_on line (own s m).status ≡ false) → IsServing c next
      miss_serves calm free awake = record {
        calm =
            let more = links_more busy_in parts c stepped.sends s.links in
            let sends = ap (weigh (λ (send : ℕ × Msg). of_msg busy_in send.1)) a.sends ∙ requests_weigh busy_in parts.per_node c stamp ((a.line, request a.mode) ∷ []) in
            omega arith;
        free = λ m other. own_next (λ j u. j ≢ c → u.hold ≡ None) (λ isnt. absurd (isnt refl)) (λ j isnt also. free j isnt) m other;
        awake = λ m line other. own_next (λ j u. j ≢ c → waits_on line u.status ≡ false) (λ isnt. absurd (isnt refl)) (λ j isnt also. awake j line isnt) m other;
        stage = inl (own_next (λ j u. j ≡ c → Waits u) (λ same. (a.line, (a.waits, a.free))) (λ j isnt same. absurd (isnt same)) c refl);
      }

      miss_is : turn_in parts c stepped.did ≡ []
      miss_is = ap (λ (did : Did). turn_in parts c did) a.did

  -- ---- a turn from a machine at rest

  -- a copy grants what an instruction needs
  abbrev granted_by : NodeState → Need → Bool
  granted_by node (needs.Copy line mode) = is_some (granted_copy parameters.sets node.cache line.0 mode)
  granted_by node _ = true

  -- once c has its line its instruction is a turn
  turns_then : (c : ℕ) (here : c < n) (s : MachineState) (kept : IsKept parts parameters s) (light : heft_of parts s ≡ 0) (h : SlotHolds (own s c)) (ready : (own s c).status ≡ Ready)
      → Does parts parameters c (stamp c here s kept light ready) (node_at s c) (stepped c here s kept light ready) → Turned parts parameters c (stamp c here s kept light ready) (node_at s c) (stepped c here s kept light ready)
  turns_then c here s kept light h ready (inl t) = t
  turns_then c here s kept light h ready (inr a) =
      let hs = ((kept.has.contexts c here).each 0).holds h.0 h.1 in
      absurd (false≢true (sym (ap is_some a.granted) ∙ (ap (granted_by (node_at s c)) (sym a.need ∙ hs.need) ∙ hs.granted)))

  pub served_hit : (s : MachineState) (kept : IsKept parts parameters s) (light : heft_of parts s ≡ 0) (c : ℕ) (here : c < n) (ready : (own s c).status ≡ Ready) → ((m : ℕ) → m ≢ c → (own s m).hold ≡ None)
      → IsNext parts parameters s (entry_for parts s (Instr (record { 0 = c }))) → Turned parts parameters c (stamp c here s kept light ready) (node_at s c) (stepped c here s kept light ready) → ServesTurn parts parameters s c (entry_for parts s (Instr (record { 0 = c })) ∷ [])
  served_hit s kept light c here ready free first t =
      let event = Instr (record { 0 = c }) in
      let can = enabled c here s kept light ready in
      let grows = next_clock parts image parameters are s kept event can in
      record {
        before = [];
        last = entry_for parts s event;
        all = refl;
        legal = (first, tt);
        own = (eq-eqb c c refl, tt);
        none = refl;
        turn = ap (map (λ (turn : ℕ × Outcome). turn.0)) (append-nil (turn_in parts c (stepped_by parts parameters s event).did)) ∙ turn_is c here s kept light ready t;
        rests = turn_rests c here s kept light ready t (entry_kept parts image parameters are s (entry_for parts s event) first kept) free;
        clocks = omega arith;
      }

  has_line : (c : ℕ) → c < n → (t : MachineState) → IsKept parts parameters t → heft_of parts t ≡ 0 → Waits (own t c) ⊎ SlotHolds (own t c) → SlotHolds (own t c)
  has_line c here t kept empty (inl w) = absurd (none_waits parts t parameters kept.has empty c 0 w.0 here w.1.0)
  has_line c here t kept empty (inr h) = h

  -- ---- the turn behind what a request brought about

  module _ (s : MachineState) (kept : IsKept parts parameters s) (light : heft_of parts s ≡ 0) (c : ℕ) (here : c < n) (ready : (own s c).status ≡ Ready) (a : Asked parts parameters c (stamp c here s kept light ready) (node_at s c) (stepped c here s kept light ready)) (r : List Entry) (d : Drains parts parameters c (step parts parameters s (Instr (record { 0 = c }))) r) where
    abbrev own_event : Event
    own_event = Instr (record { 0 = c })

    abbrev far : MachineState
    far = after parts parameters (step parts parameters s own_event) r

    far_holds : SlotHolds (own far c)
    far_holds = has_line c here far d.kept d.empty d.serving.stage

    far_ready : (own far c).status ≡ Ready
    far_ready = (((d.kept.has.contexts c here).each 0).holds far_holds.0 far_holds.1).ready

    pub far_enabled : is_enabled parts parameters far own_event ≡ true
    far_enabled = enabled c here far d.kept d.empty far_ready

    abbrev last : Entry
    last = entry_for parts far own_event

    pub served_behind : IsNext parts parameters s (entry_for parts s own_event) → IsNext parts parameters far last → ServesTurn parts parameters s c (entry_for parts s own_event ∷ (r ++ last ∷ []))
    served_behind first then =
        let next = step parts parameters s own_event in
        let grows = next_clock parts image parameters are s kept own_event first.enabled in
        let asks = miss_light c here s kept light ready a in
        let t = turns_then c here far d.kept d.empty far_holds far_ready (does c here far d.kept d.empty far_ready) in
        let more = next_clock parts image parameters are far d.kept own_event far_enabled in
        let clocks = d.clocks in
        let joined = after-append parts parameters next r (last ∷ []) in
        let rests = turn_rests c here far d.kept d.empty far_ready t (entry_kept parts image parameters are far last then d.kept) d.serving.free in
        let all : turns_from parts parameters s (entry_for parts s own_event ∷ (r ++ last ∷ [])) ≡ turn_in parts c (stepped_by parts parameters far own_event).did ++ [] =
        (λ x. miss_is c here s kept light ready a x ++ (turns_more parts parameters next r (last ∷ []) ∙ (λ y. d.turns y ++ turns_from parts parameters far (last ∷ []))) x) in
        record {
          before = entry_for parts s own_event ∷ r;
          last = last;
          all = refl;
          legal = (first, legal_more parts parameters next r (last ∷ []) d.legal (then, tt));
          own = (eq-eqb c c refl, all_append (λ (entry : Entry). serves c entry.event ≡ true) r (last ∷ []) d.own (eq-eqb c c refl, tt));
          none = λ x. miss_is c here s kept light ready a x ++ d.turns x;
          turn = ap (map (λ (turn : ℕ × Outcome). turn.0)) (all ∙ append-nil (turn_in parts c (stepped_by parts parameters far own_event).did)) ∙ turn_is c here far d.kept d.empty far_ready t;
          rests = subst (IsAtRest parts) (sym joined) rests;
          clocks = subst (λ (u : MachineState). greatest_clock u ≤ greatest_clock s + turn_events parts) (sym joined) (omega arith);
        }

    served_last : stamp_at parts s own_event ≤ parameters.limit → (all : List Entry) × (ServesTurn parts parameters s c all ⊎ StopsThere parts parameters c s (turn_events parts) all)
    served_last within =
        let can = enabled c here s kept light ready in
        let grows = next_clock parts image parameters are s kept own_event can in
        let asks = miss_light c here s kept light ready a in
        let most = stamp_near parts image parameters are far d.kept own_event far_enabled in
        let clocks = d.clocks in
        let first = is_next parts image parameters are s kept own_event can within in
        cases_lt_then (stamp_at parts far own_event) parameters.limit
        (λ above. (
          entry_for parts s own_event ∷ r,
          inr (record {
            legal = (first, d.legal);
            own = (eq-eqb c c refl, d.own);
            turns = λ x. miss_is c here s kept light ready a x ++ d.turns x;
            event = own_event;
            event_own = eq-eqb c c refl;
            enabled = far_enabled;
            above = above;
            stamp = omega arith;
          }),
        ))
        (λ fits. (entry_for parts s own_event ∷ (r ++ last ∷ []), inl (served_behind first (is_next parts image parameters are far d.kept own_event far_enabled fits))))

  served_miss : (s : MachineState) (kept : IsKept parts parameters s) (light : heft_of parts s ≡ 0) (c : ℕ) (here : c < n) (ready : (own s c).status ≡ Ready) → stamp_at parts s (Instr (record { 0 = c })) ≤ parameters.limit
      → Asked parts parameters c (stamp c here s kept light ready) (node_at s c) (stepped c here s kept light ready) → DrainsOrStops parts image one parameters are c (step parts parameters s (Instr (record { 0 = c })))
      → (all : List Entry) × (ServesTurn parts parameters s c all ⊎ StopsThere parts parameters c s (turn_events parts) all)
  served_miss s kept light c here ready within a (more, inl d) = served_last s kept light c here ready a more d within
  served_miss s kept light c here ready within a (more, inr x) =
      let event = Instr (record { 0 = c }) in
      let asks = miss_light c here s kept light ready a in
      (entry_for parts s event ∷ more, inr (stops_later parts image parameters are c s event kept (enabled c here s kept light ready) (eq-eqb c c refl) within (miss_is c here s kept light ready a) (turn_events parts) (heft_of parts (step parts parameters s event)) (omega arith) more x))

  -- at rest nobody waits
  pub nobody_waits_at_rest : NobodyWaits parts parameters
  nobody_waits_at_rest s kept rests m slot line below waits = none_waits parts s parameters kept.has (settled_light parts s rests.settled) m slot line below waits

  -- numbers that no node has, have no hold and don't wait
  pub free_at : (s : MachineState) → IsKept parts parameters s → IsAtRest parts s → (m : ℕ) → (own s m).hold ≡ None
  free_at s kept rests m = cases_lt_then n m
      (λ below. rests.free m 0 below)
      (λ past. ap (λ (u : NodeState). (slot_at u.slots 0).hold) (get_or_past s.nodes m no_node (subst (λ k. k ≤ m) (sym kept.has.sound.standing.nodes) past)))

  pub awake_at : (s : MachineState) → IsKept parts parameters s → IsAtRest parts s → (m line : ℕ) → waits_on line (own s m).status ≡ false
  awake_at s kept rests m line = cases_lt_then n m
      (λ below. go (waits_on line (own s m).status) refl (nobody_waits_at_rest s kept rests m 0 line below))
      (λ past. ap (λ (u : NodeState). waits_on line (slot_at u.slots 0).status) (get_or_past s.nodes m no_node (subst (λ k. k ≤ m) (sym kept.has.sound.standing.nodes) past)))
    where
      go : (b : Bool) → waits_on line (own s m).status ≡ b → (waits_on line (own s m).status ≡ true → ⊥) → waits_on line (own s m).status ≡ false
      go true e not = absurd (not e)
      go false e not = e

  -- each turn is served, or the limit keeps an event back
  pub each_is_served : EachIsServed parts parameters
  each_is_served s kept rests c here ready = cases_lt_then (stamp_at parts s event) parameters.limit
      (λ above. ([], inr (stops_now parts image parameters are c s kept event (eq-eqb c c refl) (enabled c here s kept light ready) above (turn_events parts) (omega arith))))
      (λ within. go within (does c here s kept light ready))
    where
      event : Event
      event = Instr (record { 0 = c })

      light : heft_of parts s ≡ 0
      light = settled_light parts s rests.settled

      go : stamp_at parts s event ≤ parameters.limit → Does parts parameters c (stamp c here s kept light ready) (node_at s c) (stepped c here s kept light ready) → (more : List Entry) × (ServesTurn parts parameters s c more ⊎ StopsThere parts parameters c s (turn_events parts) more)
      go within (inl t) = (entry_for parts s event ∷ [], inl (served_hit s kept light c here ready (λ m other. free_at s kept rests m) (is_next parts image parameters are s kept event (enabled c here s kept light ready) within) t))
      go within (inr a) = served_miss s kept light c here ready within a
          (drains parts image one parameters are c (step parts parameters s event) (next_kept parts image parameters are s kept event (enabled c here s kept light ready) within)
          (miss_serves c here s kept light ready a (settled_calm parts s busy rests.settled) (λ m other. free_at s kept rests m) (λ m line other. awake_at s kept rests m line)))
