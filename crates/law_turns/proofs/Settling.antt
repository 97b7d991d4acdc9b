-- From every legal journal the machine can come to rest: slots with a hold take their turns, and what is on its way is delivered.
use Rattle.std.proofs.Common.{◌≡◌, ℕ, zero, suc, ◌+◌, ◌*◌, ◌<◌, ◌≤◌, Bool, true, false, Option, Some, None, List, [], ◌∷◌, ◌++◌, length, get_or, refl, sym, subst, ap, ◌∙◌, arith}
use Rattle.std.specs.Prelude.{is_some}
use Rattle.std.proofs.lemmas.Bool.{false≢true}
use Rattle.alw_num.specs.Weights.{digit, weigh}
use Rattle.alw_num.proofs.Weigh.{cases_lt_then, digit_le}
use Rattle.alw_msg.specs.declared.messages.Msg.{Msg}
use Rattle.alw_msg.specs.declared.events.Event.{Event}
use Rattle.alw_msg.specs.declared.events.Event.TheVariants.{Instr, Handle, Deliver, Evict}
use Rattle.alw_msg.specs.declared.events.Entry.{Entry}
use Rattle.alw_msg.specs.Contents.{ToMemory, Content, ForMemory, ForCache, content}
use Rattle.alw_msg.specs.Events.{node_of}
use Rattle.alw_image.specs.declared.parts.Parts.{Parts}
use Rattle.alw_image.specs.Images.{node_count, IsImage}
use Rattle.alw_image.specs.Parameters.{Parameters}
use Rattle.alw_model.specs.declared.steps.Did.{Did}
use Rattle.alw_model.specs.Contexts.{Slot, slot_at, running}
use Rattle.alw_model.specs.MemorySteps as memory
use Rattle.alw_model.specs.NodeStates.{NodeState, stamp_of, memory_of}
use Rattle.alw_model.specs.NodeSteps.{deliver_by, deliver, handle_front}
use Rattle.alw_model.specs.Machine.{stamp_at, MachineState, no_node, node_at, taken_by, links_sent, is_enabled, step, stepped_by, after, state, AreLegal, IsLegal}
use Rattle.alw_model.specs.Counts.{uses_hold, count_holds}
use Rattle.law_lines.proofs.Steps.{enabled_is}
use Rattle.law_machine.proofs.HoldEvents.{holds_of, data_in}
use Rattle.law_machine.proofs.HoldCounts.{holds_go}
use Rattle.law_machine.proofs.MachineRuns.{IsKept}
use Rattle.law_machine.proofs.Sums.{weigh_set}
use Rattle.law_turns.specs.Turns.{IsAtRest, greatest_clock}
use Rattle.law_turns.proofs.Hefts.{heft, packet_heft}
use Rattle.law_turns.proofs.Stages.{heft_of, own, SlotHolds}
use Rattle.law_turns.specs.Orders.{is_quiet, entry_for}
use Rattle.law_turns.proofs.Quiet.{quiet_lightens}
use Rattle.law_turns.proofs.Moves.{heavy, left_moves, free_reaches}
use Rattle.law_turns.proofs.Resting.{light_settled}
use Rattle.law_turns.proofs.Means.{AreMeans, always_kept}
use Rattle.law_turns.proofs.Instructions.{Turned, hold_does}
use Rattle.law_turns.proofs.Draining.{stamp_near, is_next, next_kept, next_clock}
use Rattle.law_turns.proofs.Served.{own_size, own_runs, can_run, all_free}
use Rattle.law_turns.proofs.Turns.{journal_more, state_more}

-- what weighs nothing has no member that does
none_at : {X : Type 0} (f : X → ℕ) (xs : List X) (d : X) (i : ℕ) → f d ≡ 0 → weigh f xs ≡ 0 → f (get_or xs i d) ≡ 0
none_at f [] d i e is = e
none_at f (x ∷ rest) d zero e is = omega arith
none_at f (x ∷ rest) d (suc i) e is = none_at f rest d i e (omega arith)

hold_some : (o : Option ℕ) → 1 ≤ digit (is_some o) → (line : ℕ) × (o ≡ Some line)
hold_some None some = absurd (omega arith)
hold_some (Some line) some = (line, refl)

hold_none : (o : Option ℕ) → digit (is_some o) ≡ 0 → o ≡ None
hold_none None e = refl
hold_none (Some line) e = absurd (omega arith)

-- what there is to do: twice the weight of what is on its way, and the holds
abbrev pub left_of : Parts → MachineState → ℕ
left_of parts s = 2 * heft_of parts s + count_holds s

-- no quiet event uses a hold
module _ (parts : Parts) (parameters : Parameters) (n stamp : ℕ) (node before : NodeState) where
  home_uses : (msg : Msg) (said : ToMemory) (traps : Bool) → uses_hold before (memory.at_home stamp (memory_of parts parameters n node) msg said traps).did ≡ false
  home_uses msg said true = refl
  home_uses msg said false = refl

  delivery_uses : (msg : Msg) (said : Content) → uses_hold before (deliver_by parts parameters n stamp node msg said).did ≡ false
  delivery_uses msg (ForMemory said) = home_uses msg said _
  delivery_uses msg (ForCache said) = refl

  packet_uses : (m : List Msg) (packet : Msg) (said : Content) → uses_hold before (memory.handle_by stamp (record (memory_of parts parameters n node) { packets = m }) packet said).did ≡ false
  packet_uses m packet (ForMemory said) = refl
  packet_uses m packet (ForCache said) = refl

  queue_uses : (queue : List Msg) → uses_hold before (handle_front parts parameters n stamp node queue).did ≡ false
  queue_uses [] = refl
  queue_uses (packet ∷ rest) = packet_uses rest packet (content packet)

  taken_uses : (taken : Option Msg) → uses_hold before (deliver parts parameters n stamp node taken).did ≡ false
  taken_uses None = refl
  taken_uses (Some msg) = delivery_uses msg (content msg)

-- entries that lead to rest
pub record Settles (parts : Parts) (parameters : Parameters) (s : MachineState) (more : List Entry) : Type 0 where
  pub legal : AreLegal parts parameters s more
  pub kept : IsKept parts parameters (after parts parameters s more)
  pub empty : left_of parts (after parts parameters s more) ≡ 0
  pub clocks : greatest_clock (after parts parameters s more) ≤ greatest_clock s + left_of parts s

module _ (parts : Parts) (image : IsImage parts) (one : parts.contexts ≡ 1) (parameters : Parameters) (are : AreMeans parameters) where
  module _ (s : MachineState) (kept : IsKept parts parameters s) where
    holds_step : (event : Event) → is_enabled parts parameters s event ≡ true
        → data_in (taken_by parts s event) + count_holds s ≡ digit (uses_hold (node_at s (node_of event)) (stepped_by parts parameters s event).did) + count_holds (step parts parameters s event)
    holds_step event enabled =
        let n = node_of event in
        let fits : n < length s.nodes = rw kept.has.sound.standing.nodes (enabled_is parts parameters s event enabled).here in
        omega (arith, (holds_go parts parameters s kept.has event enabled).count, weigh_set (λ (node : NodeState). holds_of node.slots) s.nodes n (stepped_by parts parameters s event).node no_node fits)

    quiet_uses : (event : Event) → is_quiet event ≡ true → uses_hold (node_at s (node_of event)) (stepped_by parts parameters s event).did ≡ false
    quiet_uses (Instr at) quiet = absurd (false≢true quiet)
    quiet_uses (Evict at its) quiet = absurd (false≢true quiet)
    quiet_uses (Handle at) quiet = queue_uses parts parameters at.0 _ (node_at s at.0) (node_at s at.0) (node_at s at.0).packets
    quiet_uses (Deliver from to) quiet = taken_uses parts parameters to.0 _ (node_at s to.0) (node_at s to.0) (taken_by parts s (Deliver from to))

    came_few : (head : Option Msg) → data_in head ≤ 1
    came_few None = omega arith
    came_few (Some msg) = digit_le _

    -- a quiet event leaves less to do
    quiet_less : (event : Event) → is_quiet event ≡ true → is_enabled parts parameters s event ≡ true → left_of parts (step parts parameters s event) + 1 ≤ left_of parts s
    quiet_less event quiet enabled =
        let light = quiet_lightens parts one parameters s kept.has 0 event quiet enabled in
        let holds = holds_step event enabled in
        let uses = ap digit (quiet_uses event quiet) in
        let few = came_few (taken_by parts s event) in
        omega arith

    -- ---- a slot with a hold

    module _ (c : ℕ) (here : c < node_count parts) (h : SlotHolds (own s c)) where
      hold_turns : Turned parts parameters c (stamp_of (node_at s c).clock None) (node_at s c) (stepped_by parts parameters s (Instr (record { 0 = c })))
      hold_turns =
          let hs = ((kept.has.contexts c here).each 0).holds h.0 h.1 in
          hold_does parts parameters c (stamp_of (node_at s c).clock None) (node_at s c) (omega (arith, own_size parts image one parameters are c here s kept)) h.0 hs.mode hs.need hs.granted (own_size parts image one parameters are c here s kept) (running (node_at s c).slots (node_at s c).current) refl (own_runs parts image one parameters are c here s kept hs.ready)

      hold_enabled : is_enabled parts parameters s (Instr (record { 0 = c })) ≡ true
      hold_enabled = can_run parts image one parameters are c here s kept (((kept.has.contexts c here).each 0).holds h.0 h.1).ready

      hold_less : left_of parts (step parts parameters s (Instr (record { 0 = c }))) + 1 ≤ left_of parts s
      hold_less =
          let t = hold_turns in
          let holds = holds_step (Instr (record { 0 = c })) hold_enabled in
          let uses : digit (uses_hold (node_at s c) (stepped_by parts parameters s (Instr (record { 0 = c }))).did) ≡ 1 = ap (λ (did : Did). digit (uses_hold (node_at s c) did)) t.did ∙ ap (λ (o : Option ℕ). digit (is_some o)) h.1 in
          let links = ap (λ (sends : List (ℕ × Msg)). weigh (weigh (heft (node_count parts))) (links_sent parts s.links c sends)) t.sends in
          let w = weigh_set (λ (node : NodeState). weigh (packet_heft (node_count parts)) node.packets) s.nodes c (stepped_by parts parameters s (Instr (record { 0 = c }))).node no_node (rw kept.has.sound.standing.nodes here) in
          let packets = ap (weigh (packet_heft (node_count parts))) t.packets in
          omega arith

    -- who holds, where there is a hold; and where there is none
    some_holder : 1 ≤ count_holds s → (c : ℕ) × ((c < node_count parts) × SlotHolds (own s c))
    some_holder some =
        let at = heavy (λ (node : NodeState). weigh (λ (slot : Slot). digit (is_some slot.hold)) node.slots) no_node s.nodes some in
        let c = at.0 in
        let here : c < node_count parts = subst (λ k. c < k) kept.has.sound.standing.nodes at.1.0 in
        (c, (here, own_holds c here (node_at s c).slots refl at.1.1))
      where
        own_holds : (c : ℕ) → c < node_count parts → (slots : List Slot) → (node_at s c).slots ≡ slots → 1 ≤ weigh (λ (slot : Slot). digit (is_some slot.hold)) slots → SlotHolds (own s c)
        own_holds c here [] e some = absurd (omega arith)
        own_holds c here (slot ∷ []) e some = let h = hold_some slot.hold (omega arith) in (h.0, ap (λ (slots : List Slot). (slot_at slots 0).hold) e ∙ h.1)
        own_holds c here (slot ∷ next ∷ rest) e some = absurd (let size = (kept.has.contexts c here).size in let long : length (node_at s c).slots ≡ length (slot ∷ next ∷ rest) = ap (λ (slots : List Slot). length slots) e in omega (arith, one))

    none_holds : count_holds s ≡ 0 → (c : ℕ) → (own s c).hold ≡ None
    none_holds none c = hold_none (own s c).hold (none_in (node_at s c).slots (none_at (λ (node : NodeState). weigh (λ (slot : Slot). digit (is_some slot.hold)) node.slots) s.nodes no_node c refl none))
      where
        none_in : (slots : List Slot) → weigh (λ (slot : Slot). digit (is_some slot.hold)) slots ≡ 0 → digit (is_some (slot_at slots 0).hold) ≡ 0
        none_in [] e = refl
        none_in (slot ∷ rest) e = omega arith

    -- an event that leaves less to do, while there is any
    some_less : 1 ≤ left_of parts s → (event : Event) × ((is_enabled parts parameters s event ≡ true) × (left_of parts (step parts parameters s event) + 1 ≤ left_of parts s))
    some_less some = cases_lt_then (count_holds s) 0
        (λ held. let h = some_holder held in (Instr (record { 0 = h.0 }), (hold_enabled h.0 h.1.0 h.1.1, hold_less h.0 h.1.0 h.1.1)))
        (λ none. let m = left_moves parts image parameters are s kept (free_reaches parts one parameters s kept (λ n here. none_holds (omega arith) n)) (omega arith) in (m.0, (m.1.1, quiet_less m.0 m.1.0 m.1.1)))

  settled_by : (fuel : ℕ) (s : MachineState) → IsKept parts parameters s → left_of parts s ≤ fuel → greatest_clock s + left_of parts s ≤ parameters.limit → (more : List Entry) × Settles parts parameters s more
  settled_by zero s kept enough room = ([], record { legal = tt; kept = kept; empty = omega arith; clocks = omega arith })
  settled_by (suc fuel) s kept enough room = cases_lt_then (left_of parts s) 0
      (λ some.
      let m = some_less s kept some in
      let event = m.0 in
      let less = m.1.1 in
      let little : greatest_clock s + 1 ≤ parameters.limit = omega arith in
      let grows = next_clock parts image parameters are s kept event m.1.0 in
      let within : stamp_at parts s event ≤ parameters.limit = omega (arith, stamp_near parts image parameters are s kept event m.1.0) in
      let r = settled_by fuel (step parts parameters s event) (next_kept parts image parameters are s kept event m.1.0 within) (omega arith) (omega arith) in
      let d = r.1 in (
        entry_for parts s event ∷ r.0,
        record {
          legal = (is_next parts image parameters are s kept event m.1.0 within, d.legal);
          kept = d.kept;
          empty = d.empty;
          clocks = omega (arith, d.clocks);
        },
      ))
      (λ none. ([], record { legal = tt; kept = kept; empty = omega arith; clocks = omega arith }))

  -- a legal journal can be led to rest
  pub journal_settles : (journal : List Entry) → IsLegal parts parameters journal → greatest_clock (state parts parameters journal) + left_of parts (state parts parameters journal) ≤ parameters.limit
      → (more : List Entry) × (IsLegal parts parameters (journal ++ more) × (IsAtRest parts (state parts parameters (journal ++ more)) × (greatest_clock (state parts parameters (journal ++ more)) ≤ greatest_clock (state parts parameters journal) + left_of parts (state parts parameters journal))))
  journal_settles journal legal room =
      let s = state parts parameters journal in
      let r = settled_by (left_of parts s) s (always_kept parts image parameters are journal legal) (omega arith) room in
      let d = r.1 in
      let far = after parts parameters s r.0 in
      let joined = state_more parts parameters journal r.0 in
      let empty = d.empty in
      let rests : IsAtRest parts far = record { settled = light_settled parts far (omega arith); free = all_free parts image one parameters are far d.kept (λ m here. none_holds far d.kept (omega arith) m) } in
      (r.0, (journal_more parts parameters journal r.0 legal d.legal, (subst (IsAtRest parts) (sym joined) rests, subst (λ (t : MachineState). greatest_clock t ≤ greatest_clock s + left_of parts s) (sym joined) d.clocks)))
