-- What remains after an event, by what the event did.
use Rattle.std.proofs.Common.{◌≡◌, ℕ, ◌+◌, ◌-◌, ◌<◌, ◌≤◌, ◌^◌, Bool, true, false, ◌==◌, ◌&&◌, cond, not, nat_lt, Option, Some, None, IsTrue, List, [], ◌∷◌, length, refl, sym, ap, ◌∙◌, ◌⊎◌, inl, inr, arith}
use Rattle.std.proofs.lemmas.Bool.{true≢false, ltb-true, cases_lt}
use Rattle.std.proofs.lemmas.List.{length-append}
use Rattle.std.proofs.Math.ListN.{get_or-eq_default}
use Rattle.alw_num.specs.declared.addresses.LineNo.{LineNo}
use Rattle.alw_num.specs.declared.states.Mode.{Mode}
use Rattle.alw_num.specs.Weights.{digit, weigh}
use Rattle.alw_num.proofs.Weigh.{weigh-same, weigh-map}
use Rattle.sparc_table.specs.declared.registers.Regs.{Regs}
use Rattle.sparc_table.specs.declared.outcomes.Need.{Need}
use Rattle.sparc_table.specs.declared.outcomes.Need.TheVariants as needs
use Rattle.sparc_table.specs.declared.outcomes.Outcome.{Outcome}
use Rattle.sparc_table.specs.declared.outcomes.Outcome.TheVariants.{Done, Miss, Out, Halt, Trap}
use Rattle.sparc_table.specs.Turns.{need_of}
use Rattle.alw_msg.specs.declared.messages.Msg.{Msg}
use Rattle.alw_msg.specs.declared.contexts.Status.{Status}
use Rattle.alw_msg.specs.declared.contexts.Status.TheVariants.{Ready, Waiting, Halted, Trapped}
use Rattle.alw_msg.specs.declared.events.Event.{Event}
use Rattle.alw_msg.specs.declared.events.Event.TheVariants.{Instr, Handle, Deliver, Evict}
use Rattle.alw_msg.specs.Contents.{ToMemory, ToCache, Content, ForMemory, ForCache, content, brings_line}
use Rattle.alw_msg.specs.Events.{node_of}
use Rattle.alw_msg.specs.Lists.{is_nonempty}
use Rattle.alw_msg.specs.Statuses.{is_ready, is_halted, has_trapped, waits_on}
use Rattle.alw_image.specs.declared.parts.Parts.{Parts}
use Rattle.alw_image.specs.Images.{node_count, line_count}
use Rattle.alw_image.specs.Parameters.{Parameters}
use Rattle.alw_model.specs.declared.steps.Did.{Did}
use Rattle.alw_model.specs.declared.steps.Did.TheVariants.{Turn, Missed, Took, Packet, Handled, Evicted}
use Rattle.alw_model.specs.LimitLess.{is_trapped}
use Rattle.alw_model.specs.Caches.{Cache, Copy, Transaction, granted_copy, ended_by}
use Rattle.alw_model.specs.Contexts.{Slot, no_slot, slot_at, running, turn_order, ran, woken, wake}
use Rattle.alw_model.specs.NodeStates.{NodeState, home_at, stamp_of, may}
use Rattle.alw_model.specs.ProcessorSteps.{status_after, slots_after}
use Rattle.alw_model.specs.NodeSteps.{Stepped, take_turn, miss, access, instr_by, instr, at_home, at_cache, deliver_by, deliver, handle_by, handle_front, event_at, node_step}
use Rattle.alw_model.specs.Machine.{MachineState, no_node, node_at, taken_by, is_enabled, stepped_by, step}
use Rattle.alw_model.proofs.Journals.{and_parts}
use Rattle.alw_tally.specs.declared.remains.Remains.{Remains}
use Rattle.alw_tally.specs.Remaining.{live_in, trapped_in, packets_in, remains_of, left_by, remains_after, MayLeave, MayFollow, AreFew}
use Rattle.alw_tally.proofs.Sums.{weigh_set, weigh_at, weigh_kept}
use Rattle.alw_num.proofs.Lists.{found_passes}

-- ---- slots that do something else

ready_is : (status : Status) → is_ready status ≡ true → status ≡ Ready
ready_is Ready is = refl
ready_is (Waiting line) is = absurd (cc)
ready_is Halted is = absurd (cc)
ready_is (Trapped pc tt) is = absurd (cc)

-- the slot that runs exists, and is Ready
record SlotIsReady (slots : List Slot) (slot : ℕ) : Type 0 where
  ready : (slot_at slots slot).status ≡ Ready
  within : slot < length slots

runs : (slots : List Slot) (current slot : ℕ) → running slots current ≡ Some slot → SlotIsReady slots slot
runs slots current slot found = record { ready = ready_is (slot_at slots slot).status passes; within = go (cases_lt slot (length slots)) }
  where
    passes : is_ready (slot_at slots slot).status ≡ true
    passes = found_passes (λ k. is_ready (slot_at slots k).status) (turn_order current (length slots)) slot found

    go : (slot < length slots) ⊎ (length slots ≤ slot) → slot < length slots
    go (inl l) = l
    go (inr past) =
        let none : slot_at slots slot ≡ no_slot = get_or-eq_default slots no_slot past in
        absurd (true≢false (sym passes ∙ ap (λ (s : Slot). is_ready s.status) none))

-- how many slots do what passes a test
abbrev counted : (Status → Bool) → List Slot → ℕ
counted test slots = weigh (λ slot. digit (test slot.status)) slots

abbrev is_live : Status → Bool
is_live status = not (is_halted status)

-- a slot that ran
ran_counts : (test : Status → Bool) (slots : List Slot) (slot : ℕ) (regs : Regs) (status : Status) → SlotIsReady slots slot
    → counted test (ran slots slot regs status) + digit (test Ready) ≡ counted test slots + digit (test status)
ran_counts test slots slot regs status is =
    ap (λ s. counted test (ran slots slot regs status) + digit (test s)) (sym is.ready) ∙ weigh_set (λ (s : Slot). digit (test s.status)) slots slot _ no_slot is.within

module _ (test : Status → Bool) (alike : (line : LineNo) → test Ready ≡ test (Waiting line)) where
  waits_alike : (line : ℕ) (status : Status) → waits_on line status ≡ true → test Ready ≡ test status
  waits_alike line Ready waits = refl
  waits_alike line (Waiting waited) waits = alike waited
  waits_alike line Halted waits = absurd (cc)
  waits_alike line (Trapped pc tt) waits = absurd (cc)

  woken_alike : (line : ℕ) (slot : Slot) → test (woken line slot).status ≡ test slot.status
  woken_alike line slot = go (waits_on line slot.status) refl
    where
      go : (b : Bool) → waits_on line slot.status ≡ b → test (cond b (record slot { status = Ready }) slot).status ≡ test slot.status
      go true waits = waits_alike line slot.status waits
      go false waits = refl

  wake_counts : (line : ℕ) (slots : List Slot) → counted test (wake line slots) ≡ counted test slots
  wake_counts line slots = weigh-map (λ (s : Slot). digit (test s.status)) (woken line) slots ∙ weigh-same _ _ (λ slot. ap digit (woken_alike line slot)) slots

  -- the end of a transaction: whom it wakes, and who gets a hold
  slots_after_count : (slots : List Slot) (line : ℕ) (came : Bool) (o : Option Transaction) → counted test (slots_after slots line came o) ≡ counted test slots
  slots_after_count slots line came None = refl
  slots_after_count slots line true (Some transaction) = weigh_kept (λ (s : Slot). digit (test s.status)) (wake line slots) transaction.opener _ no_slot refl ∙ wake_counts line slots
  slots_after_count slots line false (Some transaction) = wake_counts line slots

-- ---- what an event changes of its node

-- contexts that halt, contexts that trap, packets that come, and packets that go
pub record Change : Type 0 where
  pub halts : ℕ
  pub traps : ℕ
  pub comes : ℕ
  pub goes : ℕ

abbrev pub change_by : Did → Change
change_by (Turn slot Halt) = record { halts = 1; traps = 0; comes = 0; goes = 0 }
change_by (Turn slot (Trap tt)) = record { halts = 0; traps = 1; comes = 0; goes = 0 }
change_by Packet = record { halts = 0; traps = 0; comes = 1; goes = 0 }
change_by _ = record { halts = 0; traps = 0; comes = 0; goes = 0 }

abbrev pub change_of : Event → Did → Change
change_of (Handle at) did = record { halts = 0; traps = 0; comes = 0; goes = 1 }
change_of _ did = change_by did

pub record Changes (change : Change) (before after : NodeState) : Type 0 where
  pub live : live_in after + change.halts ≡ live_in before
  pub trapped : trapped_in after ≡ trapped_in before + change.traps
  pub packets : packets_in after + change.goes ≡ packets_in before + change.comes

module _ (parts : Parts) (parameters : Parameters) (number stamp : ℕ) (node : NodeState) where
  turn_changes : (slot : ℕ) (cache : Cache) (regs : Regs) (outcome : Outcome) → SlotIsReady node.slots slot → let s = take_turn parts parameters number node slot cache regs outcome in Changes (change_by s.did) node s.node
  turn_changes slot cache regs outcome is = go outcome
      (ran_counts is_live node.slots slot regs (status_after regs outcome) is) (ran_counts has_trapped node.slots slot regs (status_after regs outcome) is)
    where
      go : (outcome : Outcome) → counted is_live (ran node.slots slot regs (status_after regs outcome)) + 1 ≡ counted is_live node.slots + digit (is_live (status_after regs outcome))
          → counted has_trapped (ran node.slots slot regs (status_after regs outcome)) + 0 ≡ counted has_trapped node.slots + digit (has_trapped (status_after regs outcome))
          → let s = take_turn parts parameters number node slot cache regs outcome in Changes (change_by s.did) node s.node
      go Halt live trapped = record { live = omega arith; trapped = omega arith; packets = omega arith }
      go (Trap type) live trapped = record { live = omega arith; trapped = omega arith; packets = omega arith }
      go Done live trapped = record { live = omega arith; trapped = omega arith; packets = omega arith }
      go (Miss line mode) live trapped = record { live = omega arith; trapped = omega arith; packets = omega arith }
      go (Out word) live trapped = record { live = omega arith; trapped = omega arith; packets = omega arith }

  miss_changes : (slot line : ℕ) (mode : Mode) → SlotIsReady node.slots slot → let s = miss parts parameters number stamp node slot line mode in Changes (change_by s.did) node s.node
  miss_changes slot line mode is =
      let waits = Waiting (record { 0 = line }) in
      let live = ran_counts is_live node.slots slot (slot_at node.slots slot).regs waits is in
      let trapped = ran_counts has_trapped node.slots slot (slot_at node.slots slot).regs waits is in
      record { live = omega arith; trapped = omega arith; packets = omega arith }

  copy_changes : (slot line : ℕ) (mode : Mode) (o : Option Copy) → SlotIsReady node.slots slot → let s = access parts parameters number stamp node slot line mode o in Changes (change_by s.did) node s.node
  copy_changes slot line mode None is = miss_changes slot line mode is
  copy_changes slot line mode (Some copy) is = turn_changes slot _ _ _ is

  need_changes : (slot : ℕ) (need : Need) → SlotIsReady node.slots slot → let s = instr_by parts parameters number stamp node slot need in Changes (change_by s.did) node s.node
  need_changes slot (needs.Copy line mode) is = copy_changes slot line.0 mode (granted_copy parameters.sets node.cache line.0 mode) is
  need_changes slot needs.Nothing is = turn_changes slot _ _ _ is
  need_changes slot (needs.Trap type) is = turn_changes slot _ _ _ is

  nothing_changes : Changes (change_by Took) node node
  nothing_changes = record { live = omega arith; trapped = omega arith; packets = omega arith }

  instr_changes : (o : Option ℕ) → running node.slots node.current ≡ o → let s = instr parts parameters number stamp node o in Changes (change_by s.did) node s.node
  instr_changes None found = record { live = omega arith; trapped = omega arith; packets = omega arith }
  instr_changes (Some slot) found = need_changes slot (need_of parts.code (slot_at node.slots slot).regs (line_count parts)) (runs node.slots node.current slot found)

  home_changes : (msg : Msg) (said : ToMemory) (traps : Bool) → let s = at_home parts parameters number stamp node msg said traps in Changes (change_by s.did) node s.node
  home_changes msg said true = record { live = omega arith; trapped = omega arith; packets = omega (arith, length-append node.packets (msg ∷ [])) }
  home_changes msg said false = record { live = omega arith; trapped = omega arith; packets = omega arith }

  cache_changes : (line : ℕ) (said : ToCache) → let s = at_cache parts parameters number stamp node line said in Changes (change_by s.did) node s.node
  cache_changes line said =
      let live = slots_after_count is_live (λ l. refl) node.slots line (brings_line said) (ended_by node.transactions line said) in
      let trapped = slots_after_count has_trapped (λ l. refl) node.slots line (brings_line said) (ended_by node.transactions line said) in
      record { live = omega arith; trapped = omega arith; packets = omega arith }

  content_changes : (msg : Msg) (c : Content) → let s = deliver_by parts parameters number stamp node msg c in Changes (change_by s.did) node s.node
  content_changes msg (ForMemory said) = home_changes msg said (is_trapped parameters.pointers (home_at parts node msg.line.0) msg.src.0 said)
  content_changes msg (ForCache said) = cache_changes msg.line.0 said

  deliver_changes : (taken : Option Msg) → let s = deliver parts parameters number stamp node taken in Changes (change_by s.did) node s.node
  deliver_changes None = nothing_changes
  deliver_changes (Some msg) = content_changes msg (content msg)

  abbrev handled : Change
  handled = record { halts = 0; traps = 0; comes = 0; goes = 1 }

  packet_changes : (packet : Msg) (rest : List Msg) (c : Content) → node.packets ≡ packet ∷ rest → Changes handled node (handle_by parts parameters number stamp (record node { packets = rest }) packet c).node
  packet_changes packet rest (ForCache said) is = record { live = omega arith; trapped = omega arith; packets = omega (arith, ap length is) }
  packet_changes packet rest (ForMemory said) is = record { live = omega arith; trapped = omega arith; packets = omega (arith, ap length is) }

  front_changes : (packets : List Msg) → node.packets ≡ packets → is_nonempty packets ≡ true → Changes handled node (handle_front parts parameters number stamp node packets).node
  front_changes [] is some = absurd (cc)
  front_changes (packet ∷ rest) is some = packet_changes packet rest (content packet) is

  event_changes : (event : Event) (taken : Option Msg) → may parts parameters node event taken ≡ true
      → let s = event_at parts parameters number stamp node event taken in Changes (change_of event s.did) node s.node
  event_changes (Instr at) taken is = instr_changes (running node.slots node.current) refl
  event_changes (Handle at) taken is = front_changes node.packets refl is
  event_changes (Deliver from to) taken is = deliver_changes taken
  event_changes (Evict at emptied) taken is = record { live = omega arith; trapped = omega arith; packets = omega arith }

-- the clock doesn't count
pub step_changes : (parts : Parts) (parameters : Parameters) (number : ℕ) (node : NodeState) (event : Event) (taken : Option Msg) → may parts parameters node event taken ≡ true
    → let s = node_step parts parameters number node event taken in Changes (change_of event s.did) node s.node
step_changes parts parameters number node event taken is =
    let c = event_changes parts parameters number (stamp_of node.clock taken) node event taken is in
    record { live = c.live; trapped = c.trapped; packets = c.packets }

-- ---- all nodes

same_remains : (all next : Remains) → next.live ≡ all.live → next.trapped ≡ all.trapped → next.packets ≡ all.packets → next ≡ all
same_remains all next live trapped packets = λ x. record { live = live x; trapped = trapped x; packets = packets x }

-- numbers that changed so are those that remain
left_so : (all next : Remains) (did : Did) → next.live + (change_by did).halts ≡ all.live → next.trapped ≡ all.trapped + (change_by did).traps
    → next.packets + (change_by did).goes ≡ all.packets + (change_by did).comes → next ≡ left_by all did
left_so all next (Turn slot Halt) live trapped packets = same_remains (left_by all (Turn slot Halt)) next (omega arith) (omega arith) (omega arith)
left_so all next (Turn slot (Trap type)) live trapped packets = same_remains (left_by all (Turn slot (Trap type))) next (omega arith) (omega arith) (omega arith)
left_so all next (Turn slot Done) live trapped packets = same_remains (left_by all (Turn slot Done)) next (omega arith) (omega arith) (omega arith)
left_so all next (Turn slot (Miss line mode)) live trapped packets = same_remains (left_by all (Turn slot (Miss line mode))) next (omega arith) (omega arith) (omega arith)
left_so all next (Turn slot (Out word)) live trapped packets = same_remains (left_by all (Turn slot (Out word))) next (omega arith) (omega arith) (omega arith)
left_so all next (Missed slot) live trapped packets = same_remains (left_by all (Missed slot)) next (omega arith) (omega arith) (omega arith)
left_so all next Took live trapped packets = same_remains (left_by all Took) next (omega arith) (omega arith) (omega arith)
left_so all next Packet live trapped packets = same_remains (left_by all Packet) next (omega arith) (omega arith) (omega arith)
left_so all next (Handled kind state) live trapped packets = same_remains (left_by all (Handled kind state)) next (omega arith) (omega arith) (omega arith)
left_so all next Evicted live trapped packets = same_remains (left_by all Evicted) next (omega arith) (omega arith) (omega arith)

after_so : (all next : Remains) (event : Event) (did : Did) → next.live + (change_of event did).halts ≡ all.live → next.trapped ≡ all.trapped + (change_of event did).traps
    → next.packets + (change_of event did).goes ≡ all.packets + (change_of event did).comes → next ≡ remains_after all event did
after_so all next (Handle at) did live trapped packets = same_remains (record all { packets = all.packets - 1 }) next (omega arith) (omega arith) (omega arith)
after_so all next (Instr at) did live trapped packets = left_so all next did live trapped packets
after_so all next (Deliver from to) did live trapped packets = left_so all next did live trapped packets
after_so all next (Evict at emptied) did live trapped packets = left_so all next did live trapped packets

may_leave : (all : Remains) (did : Did) → (change_by did).halts ≤ all.live → AreFew all → MayLeave all did
may_leave all (Turn slot Halt) some few = some
may_leave all (Turn slot (Trap type)) some few = few.trapped
may_leave all (Turn slot Done) some few = tt
may_leave all (Turn slot (Miss line mode)) some few = tt
may_leave all (Turn slot (Out word)) some few = tt
may_leave all (Missed slot) some few = tt
may_leave all Took some few = tt
may_leave all Packet some few = few.packets
may_leave all (Handled kind state) some few = tt
may_leave all Evicted some few = tt

may_so : (all : Remains) (event : Event) (did : Did) → (change_of event did).halts ≤ all.live → (change_of event did).goes ≤ all.packets → AreFew all → MayFollow all event did
may_so all (Handle at) did halts goes few = goes
may_so all (Instr at) did halts goes few = may_leave all did halts few
may_so all (Deliver from to) did halts goes few = may_leave all did halts few
may_so all (Evict at emptied) did halts goes few = may_leave all did halts few

-- packets don't come and go at once
one_way-by : (did : Did) → (change_by did).comes + (change_by did).goes ≤ 1
one_way-by (Turn slot Halt) = omega arith
one_way-by (Turn slot (Trap type)) = omega arith
one_way-by (Turn slot Done) = omega arith
one_way-by (Turn slot (Miss line mode)) = omega arith
one_way-by (Turn slot (Out word)) = omega arith
one_way-by (Missed slot) = omega arith
one_way-by Took = omega arith
one_way-by Packet = omega arith
one_way-by (Handled kind state) = omega arith
one_way-by Evicted = omega arith

one_way : (event : Event) (did : Did) → (change_of event did).comes + (change_of event did).goes ≤ 1
one_way (Handle at) did = omega arith
one_way (Instr at) did = one_way-by did
one_way (Deliver from to) did = one_way-by did
one_way (Evict at emptied) did = one_way-by did

-- trapped contexts and packets together grow by one at most
left_grows : (all : Remains) (did : Did) → (left_by all did).trapped + (left_by all did).packets ≤ all.trapped + all.packets + 1
left_grows all (Turn slot Halt) = omega arith
left_grows all (Turn slot (Trap type)) = omega arith
left_grows all (Turn slot Done) = omega arith
left_grows all (Turn slot (Miss line mode)) = omega arith
left_grows all (Turn slot (Out word)) = omega arith
left_grows all (Missed slot) = omega arith
left_grows all Took = omega arith
left_grows all Packet = omega arith
left_grows all (Handled kind state) = omega arith
left_grows all Evicted = omega arith

pub grows_by_one : (all : Remains) (event : Event) (did : Did) → (remains_after all event did).trapped + (remains_after all event did).packets ≤ all.trapped + all.packets + 1
grows_by_one all (Handle at) did = omega arith
grows_by_one all (Instr at) did = left_grows all did
grows_by_one all (Deliver from to) did = left_grows all did
grows_by_one all (Evict at emptied) did = left_grows all did

module _ (parts : Parts) (parameters : Parameters) (machine : MachineState) (event : Event) (size : length machine.nodes ≡ node_count parts) (enabled : IsTrue (is_enabled parts parameters machine event)) where
  abbrev at : ℕ
  at = node_of event

  abbrev own : NodeState
  own = node_at machine at

  abbrev stepped : Stepped
  stepped = stepped_by parts parameters machine event

  named : (nat_lt at (node_count parts) && (nat_lt own.clock (2 ^ 32 - 1) && may parts parameters own event (taken_by parts machine event))) ≡ true
  named = (and_parts (at == at) _ enabled).1

  here : at < length machine.nodes
  here = rw size (ltb-true at (node_count parts) (and_parts (nat_lt at (node_count parts)) _ named).0)

  changed : Changes (change_of event stepped.did) own stepped.node
  changed = step_changes parts parameters at own event (taken_by parts machine event)
      (and_parts (nat_lt own.clock (2 ^ 32 - 1)) _ (and_parts (nat_lt at (node_count parts)) _ named).1).1

  pub remains_are : remains_of (step parts parameters machine event).nodes ≡ remains_after (remains_of machine.nodes) event stepped.did
  remains_are =
      let live = weigh_set live_in machine.nodes at stepped.node no_node here in
      let trapped = weigh_set trapped_in machine.nodes at stepped.node no_node here in
      let packets = weigh_set packets_in machine.nodes at stepped.node no_node here in
      after_so (remains_of machine.nodes) (remains_of (step parts parameters machine event).nodes) event stepped.did
      (omega (arith, changed.live)) (omega (arith, changed.trapped)) (omega (arith, changed.packets))

  pub may_follow : AreFew (remains_of machine.nodes) → MayFollow (remains_of machine.nodes) event stepped.did
  may_follow few =
      let live = weigh_at live_in machine.nodes at no_node here in
      let packets = weigh_at packets_in machine.nodes at no_node here in
      may_so (remains_of machine.nodes) event stepped.did (omega (arith, changed.live)) (omega (arith, changed.packets, one_way event stepped.did)) few
