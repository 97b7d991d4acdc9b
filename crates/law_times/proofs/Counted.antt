-- Each message on a link has its arrival, and each slot of a node is one of its contexts, after every journal.
use Rattle.std.proofs.Common.{◌≡◌, ℕ, zero, suc, ◌+◌, ◌-◌, ◌*◌, ◌≤◌, ◌<◌, Bool, true, false, Option, Some, None, List, [], ◌∷◌, ◌++◌, map, length, slice_index_or, slice_set, refl, sym, subst, ◌∙◌, arith, length-append}
use Rattle.std.specs.List.{AllByRecursion, range_with_len}
use Rattle.std.proofs.lemmas.List.{length-set}
use Rattle.std.proofs.lemmas.List.FromFn.{length-map-range_with_len}
use Rattle.alw_num.specs.declared.addresses.NodeNo.{NodeNo}
use Rattle.alw_num.specs.declared.states.Mode.{Mode}
use Rattle.sparc_table.specs.declared.outcomes.Need.{Need}
use Rattle.sparc_table.specs.declared.outcomes.Need.TheVariants as needs
use Rattle.sparc_table.specs.Turns.{need_of}
use Rattle.alw_msg.specs.declared.messages.Msg.{Msg}
use Rattle.alw_msg.specs.declared.events.Event.{Event}
use Rattle.alw_msg.specs.declared.events.Event.TheVariants.{Instr, Handle, Deliver, Evict}
use Rattle.alw_msg.specs.declared.events.Entry.{Entry}
use Rattle.alw_msg.specs.Contents.{Content, ForMemory, ForCache, content, brings_line}
use Rattle.alw_msg.specs.Events.{node_of}
use Rattle.alw_msg.specs.Lists.{front, behind}
use Rattle.alw_image.specs.declared.parts.Parts.{Parts}
use Rattle.alw_image.specs.Images.{node_count, line_count}
use Rattle.alw_image.specs.Parameters.{Parameters}
use Rattle.alw_model.specs.Caches.{Copy, Transaction, granted_copy, ended_by}
use Rattle.alw_model.specs.Contexts.{slot_at, slot_start, running, wake}
use Rattle.alw_model.specs.ProcessorSteps.{slots_after}
use Rattle.alw_model.specs.NodeStates.{NodeState, node_start, stamp_of}
use Rattle.alw_model.specs.NodeSteps.{access, instr_by, instr, deliver_by, deliver, event_at}
use Rattle.alw_model.specs.Machine.{MachineState, machine_start, no_node, node_at, link_place, taken_by, links_taken, links_sent, stepped_by, step}
use Rattle.alw_model.specs.Runs.{moment_of}
use Rattle.law_order.proofs.Local.{HasFront}
use Rattle.law_machine.proofs.ContextFacts.{length-wake}
use Rattle.law_machine.proofs.FlatSlots.{runs_ready}
use Rattle.alw_times.specs.declared.costs.Costs.{Costs}
use Rattle.alw_times.specs.Happening.{happened_of}
use Rattle.alw_times.specs.Times.{Times, times_start, time_at, queue_at, leaves_at, arrivals_taken, timed}
use Rattle.alw_times.specs.Laws.{start_in, finish_in}
use Rattle.law_times.proofs.Beside.{Beside, beside_at, beside_set, beside_start}
use Rattle.law_times.proofs.Changes.{changed_all, pushes}
use Rattle.law_times.proofs.Effects.{time_one, port_one, goes, left_is}
use Rattle.law_times.proofs.Apart.{HasTime, SlotFits}
use Rattle.law_times.proofs.Shown.{DidFits}

-- ---- each message has its arrival

-- as many arrivals as messages
abbrev pub AreAsMany : List ℕ → List Msg → Type 0
AreAsMany times msgs = length times ≡ length msgs

behind_less : {X : Type 0} (xs : List X) → length (behind xs) ≡ length xs - 1
behind_less [] = refl
behind_less (x ∷ xs) = omega arith

front_too : (times : List ℕ) (msgs : List Msg) (msg : Msg) → length times ≡ length msgs → front msgs ≡ Some msg → (time : ℕ) × (front times ≡ Some time)
front_too (time ∷ rest) msgs msg same is = (time, refl)
front_too [] [] msg same is = absurd (cc)
front_too [] (m ∷ ms) msg same is = absurd (omega (arith, same))

module _ (parts : Parts) where
  many_at : (arrivals : List (List ℕ)) (links : List (List Msg)) (p : ℕ) → Beside AreAsMany arrivals links → length (queue_at arrivals p) ≡ length (slice_index_or links p [])
  many_at arrivals links p all = beside_at AreAsMany arrivals links p [] [] refl all

  taken_many : (arrivals : List (List ℕ)) (links : List (List Msg)) (event : Event) → Beside AreAsMany arrivals links → Beside AreAsMany (arrivals_taken parts event arrivals) (links_taken parts links event)
  taken_many arrivals links (Instr at) all = all
  taken_many arrivals links (Handle at) all = all
  taken_many arrivals links (Deliver from to) all =
      let p = link_place parts from.0 to.0 in
      let queue = queue_at arrivals p in
      let link = slice_index_or links p [] in
      let same = many_at arrivals links p all in
      let one = behind_less queue in
      let other = behind_less link in
      beside_set AreAsMany arrivals links p (behind queue) (behind link) (omega (arith, same, one, other)) all
  taken_many arrivals links (Evict at set) all = all

  sent_many : (costs : Costs) (from leave port : ℕ) (sends : List (ℕ × Msg)) (arrivals : List (List ℕ)) (links : List (List Msg)) → Beside AreAsMany arrivals links →
      Beside AreAsMany (changed_all [] (pushes (goes parts costs from leave port sends)) arrivals) (links_sent parts links from sends)
  sent_many costs from leave port [] arrivals links all = all
  sent_many costs from leave port (send ∷ rest) arrivals links all =
      let p = link_place parts from send.0 in
      let queue = queue_at arrivals p in
      let link = slice_index_or links p [] in
      let time = time_one parts costs from leave port send in
      let same = many_at arrivals links p all in
      let one = length-append queue (time ∷ []) in
      let other = length-append link (send.1 ∷ []) in
      sent_many costs from leave (port_one parts costs from leave port send) rest _ _
      (beside_set AreAsMany arrivals links p (queue ++ time ∷ []) (link ++ send.1 ∷ []) (omega (arith, same, one, other)) all)

  -- an event keeps them
  pub step_many : (parameters : Parameters) (costs : Costs) (times : Times) (s : MachineState) (entry : Entry) → Beside AreAsMany times.arrivals s.links →
      Beside AreAsMany (timed parts costs times (moment_of parts parameters s entry)).arrivals (step parts parameters s entry.event).links
  unfolding timed
  step_many parameters costs times s entry all =
      let event = entry.event in
      let n = node_of event in
      let moment = moment_of parts parameters s entry in
      let sends = (stepped_by parts parameters s event).sends in
      let start = start_in parts costs times moment in
      let finish = finish_in parts costs times moment in
      let links = (step parts parameters s event).links in
      subst (λ (t : Times). Beside AreAsMany t.arrivals links) (sym (left_is parts costs (happened_of moment) sends times start finish))
      (sent_many costs n (leaves_at event start finish) (time_at times.ports n) sends (arrivals_taken parts event times.arrivals) (links_taken parts s.links event)
      (taken_many times.arrivals s.links event all))

  -- at the start there are none
  pub start_many : (costs : Costs) → Beside AreAsMany (times_start parts costs).arrivals (machine_start parts).links
  start_many costs = beside_start AreAsMany (node_count parts * node_count parts) [] [] refl

  -- what has a message to take has its arrival
  pub has_time : (parameters : Parameters) (arrivals : List (List ℕ)) (links : List (List Msg)) (event : Event) → Beside AreAsMany arrivals links → HasFront parts parameters links event →
      HasTime parts arrivals event
  has_time parameters arrivals links (Instr at) all has = tt
  has_time parameters arrivals links (Handle at) all has = tt
  has_time parameters arrivals links (Deliver from to) all has =
      let p = link_place parts from.0 to.0 in
      front_too (queue_at arrivals p) (slice_index_or links p []) has.0 (many_at arrivals links p all) has.1
  has_time parameters arrivals links (Evict at set) all has = tt

-- ---- slots

module _ (parts : Parts) (parameters : Parameters) (n stamp : ℕ) (node : NodeState) where
  after_many : (line : ℕ) (came : Bool) (ended : Option Transaction) → length (slots_after node.slots line came ended) ≡ length node.slots
  after_many line came None = refl
  after_many line true (Some transaction) = length-set (wake line node.slots) transaction.opener _ ∙ length-wake line node.slots
  after_many line false (Some transaction) = length-wake line node.slots

  access_slots : (slot line : ℕ) (mode : Mode) (copy : Option Copy) → length (access parts parameters n stamp node slot line mode copy).node.slots ≡ length node.slots
  access_slots slot line mode None = length-set node.slots slot _
  access_slots slot line mode (Some copy) = length-set node.slots slot _

  need_slots : (slot : ℕ) (need : Need) → length (instr_by parts parameters n stamp node slot need).node.slots ≡ length node.slots
  need_slots slot (needs.Copy line mode) = access_slots slot line.0 mode (granted_copy parameters.sets node.cache line.0 mode)
  need_slots slot needs.Nothing = length-set node.slots slot _
  need_slots slot (needs.Trap kind) = length-set node.slots slot _

  instr_slots : (slot : Option ℕ) → length (instr parts parameters n stamp node slot).node.slots ≡ length node.slots
  instr_slots None = refl
  instr_slots (Some slot) = need_slots slot (need_of parts.code (slot_at node.slots slot).regs (line_count parts))

  message_slots : (msg : Msg) (said : Content) → length (deliver_by parts parameters n stamp node msg said).node.slots ≡ length node.slots
  message_slots msg (ForMemory said) = refl
  message_slots msg (ForCache said) = after_many msg.line.0 (brings_line said) (ended_by node.transactions msg.line.0 said)

  delivery_slots : (taken : Option Msg) → length (deliver parts parameters n stamp node taken).node.slots ≡ length node.slots
  delivery_slots None = refl
  delivery_slots (Some msg) = message_slots msg (content msg)

  -- an event keeps the number of its slots
  pub event_slots : (event : Event) (taken : Option Msg) → length (event_at parts parameters n stamp node event taken).node.slots ≡ length node.slots
  event_slots (Instr at) taken = instr_slots (running node.slots node.current)
  event_slots (Handle at) taken = refl
  event_slots (Deliver from to) taken = delivery_slots taken
  event_slots (Evict at set) taken = refl

-- a node has no more slots than the image's nodes have contexts
abbrev pub SlotsFit : Parts → NodeState → Type 0
SlotsFit parts node = length node.slots ≤ parts.contexts

module _ (parts : Parts) where
  fit_at : (nodes : List NodeState) (k : ℕ) → AllByRecursion (SlotsFit parts) nodes → SlotsFit parts (slice_index_or nodes k no_node)
  fit_at [] k all = omega arith
  fit_at (node ∷ rest) zero all = all.0
  fit_at (node ∷ rest) (suc k) all = fit_at rest k all.1

  fit_set : (nodes : List NodeState) (k : ℕ) (node : NodeState) → AllByRecursion (SlotsFit parts) nodes → SlotsFit parts node → AllByRecursion (SlotsFit parts) (slice_set nodes k node)
  fit_set [] k node all fits = tt
  fit_set (old ∷ rest) zero node all fits = (fits, all.1)
  fit_set (old ∷ rest) (suc k) node all fits = (all.0, fit_set rest k node all.1 fits)

  fit_start : (first count : ℕ) → AllByRecursion (SlotsFit parts) (map (node_start parts) (range_with_len first count))
  fit_start first zero = tt
  fit_start first (suc count) = (let size = length-map-range_with_len (slot_start parts first) 0 parts.contexts in omega (arith, size), fit_start (first + 1) count)

  pub start_fits : AllByRecursion (SlotsFit parts) (machine_start parts).nodes
  start_fits = fit_start 0 (node_count parts)

  -- an event keeps it
  pub step_fits : (parameters : Parameters) (s : MachineState) (event : Event) → AllByRecursion (SlotsFit parts) s.nodes → AllByRecursion (SlotsFit parts) (step parts parameters s event).nodes
  step_fits parameters s event all =
      let n = node_of event in
      let node = node_at s n in
      let taken = taken_by parts s event in
      let same = event_slots parts parameters n (stamp_of node.clock taken) node event taken in
      let fits = fit_at s.nodes n all in
      fit_set s.nodes n (stepped_by parts parameters s event).node all (omega (arith, same, fits))

  -- the slot that runs
  pub runs_within : (s : MachineState) (n : ℕ) → AllByRecursion (SlotsFit parts) s.nodes → SlotFits parts (running (node_at s n).slots (node_at s n).current)
  runs_within s n all = go (running (node_at s n).slots (node_at s n).current) refl
    where
      go : (o : Option ℕ) → running (node_at s n).slots (node_at s n).current ≡ o → SlotFits parts o
      go None is = tt
      go (Some slot) is =
          let chosen = runs_ready (node_at s n).slots (node_at s n).current slot is in
          let fits = fit_at s.nodes n all in
          let below = chosen.below in
          omega (arith, below, fits)

-- ---- what an instruction was of

module _ (parts : Parts) (parameters : Parameters) (n stamp : ℕ) (node : NodeState) (at : NodeNo) where
  access_did : (slot line : ℕ) (mode : Mode) (copy : Option Copy) → slot < parts.contexts → DidFits parts (Instr at) (access parts parameters n stamp node slot line mode copy).did
  access_did slot line mode None less = less
  access_did slot line mode (Some copy) less = less

  need_did : (slot : ℕ) (need : Need) → slot < parts.contexts → DidFits parts (Instr at) (instr_by parts parameters n stamp node slot need).did
  need_did slot (needs.Copy line mode) less = access_did slot line.0 mode (granted_copy parameters.sets node.cache line.0 mode) less
  need_did slot needs.Nothing less = less
  need_did slot (needs.Trap kind) less = less

  instr_did : (slot : Option ℕ) → SlotFits parts slot → DidFits parts (Instr at) (instr parts parameters n stamp node slot).did
  instr_did None fits = tt
  instr_did (Some slot) fits = need_did slot (need_of parts.code (slot_at node.slots slot).regs (line_count parts)) fits

-- the slot that an instruction was of is one of its node
pub did_within : (parts : Parts) (parameters : Parameters) (s : MachineState) (event : Event) → AllByRecursion (SlotsFit parts) s.nodes → DidFits parts event (stepped_by parts parameters s event).did
did_within parts parameters s (Instr at) all =
    let node = node_at s at.0 in
    instr_did parts parameters at.0 (stamp_of node.clock None) node at (running node.slots node.current) (runs_within parts s at.0 all)
did_within parts parameters s (Handle at) all = tt
did_within parts parameters s (Deliver from to) all = tt
did_within parts parameters s (Evict at set) all = tt
