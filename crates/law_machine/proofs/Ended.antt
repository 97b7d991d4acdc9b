-- A context that has halted or is trapped stays so, and once every context has halted, every context has.
use Rattle.std.proofs.Common.{◌≡◌, ℕ, zero, suc, Bool, true, false, cond, Option, Some, None, List, [], ◌∷◌, length, get_or, set, IsTrue, refl, ap, ◌∙◌}
use Rattle.std.specs.List.{list_all}
use Rattle.std.proofs.lemmas.Bool.{ne_eqb}
use Rattle.alw_num.proofs.Weigh.{at_nodes}
use Rattle.law_machine.proofs.Vocabulary.{Need, need_of, Mode, Msg, Event, Instr, Handle, Deliver, Evict, Status, Ready, Waiting, Halted, Trapped, Parts, line_count, Parameters, ToMemory}
use Rattle.law_machine.proofs.Vocabulary.{brings_line, Content, ForMemory, ForCache, content, is_trapped, Copy, Transaction, granted_copy, ended_by, is_ready, is_halted, waits_on, Slot, slot_at}
use Rattle.law_machine.proofs.Vocabulary.{no_slot, woken, wake, running, all_halted, node_of, NodeState, stamp_of, home_at, slots_after, access, instr_by, instr, at_home, deliver_by, deliver}
use Rattle.law_machine.proofs.Vocabulary.{handle_by, handle_front, event_at, clocked, MachineState, no_node, node_at, taken_by, is_enabled, step, stepped_by, has_halted, IsStanding}
use Rattle.sparc_table.specs.declared.outcomes.Need.TheVariants as needs
use Rattle.alw_model.proofs.Journals.{and_parts, and_is}
use Rattle.law_lines.proofs.Links.{read_set}
use Rattle.law_lines.proofs.Steps.{enabled_is}
use Rattle.law_machine.specs.Endings.{has_ended}
use Rattle.law_machine.proofs.FlatSlots.{Chosen, runs_ready}
use Rattle.law_machine.proofs.ContextFacts.{wake_at, hold_status}

-- ---- lists and tests

-- a test of all is a test at each number, where what stands for no number passes it
pub all_at : {X : Type 0} (test : X → Bool) (d : X) (xs : List X) → test d ≡ true → list_all test xs ≡ true → (i : ℕ) → test (get_or xs i d) ≡ true
all_at test d [] none all i = none
all_at test d (x ∷ rest) none all zero = (and_parts (test x) (list_all test rest) all).0
all_at test d (x ∷ rest) none all (suc i) = all_at test d rest none (and_parts (test x) (list_all test rest) all).1 i

pub all_by : {X : Type 0} (test : X → Bool) (d : X) (xs : List X) → ((i : ℕ) → test (get_or xs i d) ≡ true) → list_all test xs ≡ true
all_by test d [] each = refl
all_by test d (x ∷ rest) each = and_is (test x) (list_all test rest) (each 0) (all_by test d rest (λ i. each (suc i)))

-- ---- statuses

ready_not_ended : (status : Status) → is_ready status ≡ true → has_ended status ≡ true → ⊥
ready_not_ended Ready ready ended = cc
ready_not_ended (Waiting line) ready ended = cc
ready_not_ended Halted ready ended = cc
ready_not_ended (Trapped pc tt) ready ended = cc

ended_not_waiting : (line : ℕ) (status : Status) → has_ended status ≡ true → waits_on line status ≡ false
ended_not_waiting line Ready ended = refl
ended_not_waiting line (Waiting waited) ended = absurd (cc)
ended_not_waiting line Halted ended = refl
ended_not_waiting line (Trapped pc tt) ended = refl

pub halted_ended : (status : Status) → is_halted status ≡ true → has_ended status ≡ true
halted_ended Ready is = absurd (cc)
halted_ended (Waiting line) is = absurd (cc)
halted_ended Halted is = refl
halted_ended (Trapped pc tt) is = refl

-- every context has halted where each number's has
pub halted_at : (s : MachineState) → has_halted s ≡ true → (n i : ℕ) → is_halted (slot_at (node_at s n).slots i).status ≡ true
halted_at s all n i = all_at (λ (slot : Slot). is_halted slot.status) no_slot (node_at s n).slots refl (all_at (λ (node : NodeState). all_halted node.slots) no_node s.nodes refl all n) i

pub halted_by : (s : MachineState) → ((n i : ℕ) → is_halted (slot_at (node_at s n).slots i).status ≡ true) → has_halted s ≡ true
halted_by s each = all_by (λ (node : NodeState). all_halted node.slots) no_node s.nodes (λ n. all_by (λ (slot : Slot). is_halted slot.status) no_slot (node_at s n).slots (each n))

-- ---- what an event does to a slot that has ended

woken_ended : (line : ℕ) (slot : Slot) → has_ended slot.status ≡ true → woken line slot ≡ slot
woken_ended line slot ended = ap (λ b. cond b (record slot { status = Ready }) slot) (ended_not_waiting line slot.status ended)

module _ (parts : Parts) (parameters : Parameters) (n stamp : ℕ) (node : NodeState) (i : ℕ) (ended : has_ended (slot_at node.slots i).status ≡ true) where
  -- the slot's status is as it was
  abbrev Stays : List Slot → Type 0
  Stays slots = (slot_at slots i).status ≡ (slot_at node.slots i).status

  -- another slot runs
  ran_stays : (slot : ℕ) → Chosen (λ j. is_ready (slot_at node.slots j).status) (length node.slots) slot → (next : Slot) → Stays (set node.slots slot next)
  ran_stays slot chosen next = ap (λ (u : Slot). u.status) (read_set node.slots slot next no_slot i chosen.below
      ∙ ap (λ b. cond b next (slot_at node.slots i)) (ne_eqb i slot (λ same. ready_not_ended (slot_at node.slots i).status (ap (λ j. is_ready (slot_at node.slots j).status) same ∙ chosen.passes) ended)))

  access_stays : (slot : ℕ) → Chosen (λ j. is_ready (slot_at node.slots j).status) (length node.slots) slot → (l : ℕ) (mode : Mode) (o : Option Copy) → Stays (clocked stamp (access parts parameters n stamp node slot l mode o)).node.slots
  access_stays slot chosen l mode None = ran_stays slot chosen _
  access_stays slot chosen l mode (Some copy) = ran_stays slot chosen _

  need_stays : (slot : ℕ) → Chosen (λ j. is_ready (slot_at node.slots j).status) (length node.slots) slot → (need : Need) → Stays (clocked stamp (instr_by parts parameters n stamp node slot need)).node.slots
  need_stays slot chosen (needs.Copy l mode) = access_stays slot chosen l.0 mode (granted_copy parameters.sets node.cache l.0 mode)
  need_stays slot chosen needs.Nothing = ran_stays slot chosen _
  need_stays slot chosen (needs.Trap tt) = ran_stays slot chosen _

  instr_stays : (slot : Option ℕ) → running node.slots node.current ≡ slot → Stays (clocked stamp (instr parts parameters n stamp node slot)).node.slots
  instr_stays None e = refl
  instr_stays (Some slot) e = need_stays slot (runs_ready node.slots node.current slot e) (need_of parts.code (slot_at node.slots slot).regs (line_count parts))

  wake_stays : (line : ℕ) → Stays (wake line node.slots)
  wake_stays line = ap (λ (u : Slot). u.status) (wake_at line node.slots i ∙ woken_ended line (slot_at node.slots i) ended)

  after_stays : (line : ℕ) (came : Bool) (o : Option Transaction) → Stays (slots_after node.slots line came o)
  after_stays line came None = refl
  after_stays line true (Some t) = hold_status line t.opener (wake line node.slots) i ∙ wake_stays line
  after_stays line false (Some t) = wake_stays line

  home_stays : (msg : Msg) (said : ToMemory) (b : Bool) → Stays (clocked stamp (at_home parts parameters n stamp node msg said b)).node.slots
  home_stays msg said true = refl
  home_stays msg said false = refl

  message_stays : (msg : Msg) (c : Content) → Stays (clocked stamp (deliver_by parts parameters n stamp node msg c)).node.slots
  message_stays msg (ForMemory said) = home_stays msg said (is_trapped parameters.pointers (home_at parts node msg.line.0) msg.src.0 said)
  message_stays msg (ForCache said) = after_stays msg.line.0 (brings_line said) (ended_by node.transactions msg.line.0 said)

  delivery_stays : (head : Option Msg) → Stays (clocked stamp (deliver parts parameters n stamp node head)).node.slots
  delivery_stays None = refl
  delivery_stays (Some msg) = message_stays msg (content msg)

  packet_stays : (packet : Msg) (waiting : List Msg) (c : Content)
      → Stays (clocked stamp (handle_by parts parameters n stamp (record node { packets = waiting }) packet c)).node.slots
  packet_stays packet waiting (ForMemory said) = refl
  packet_stays packet waiting (ForCache said) = refl

  queue_stays : (q : List Msg) → Stays (clocked stamp (handle_front parts parameters n stamp node q)).node.slots
  queue_stays [] = refl
  queue_stays (packet ∷ waiting) = packet_stays packet waiting (content packet)

  event_stays : (event : Event) (head : Option Msg) → Stays (clocked stamp (event_at parts parameters n stamp node event head)).node.slots
  event_stays (Instr at) head = instr_stays (running node.slots node.current) refl
  event_stays (Handle at) head = queue_stays node.packets
  event_stays (Deliver from to) head = delivery_stays head
  event_stays (Evict at set) head = refl

-- ---- of a machine

module _ (parts : Parts) (parameters : Parameters) (s : MachineState) (standing : IsStanding parts parameters s) (event : Event) (enabled : IsTrue (is_enabled parts parameters s event)) where
  pub ended_stays : (m i : ℕ) → has_ended (slot_at (node_at s m).slots i).status ≡ true → (slot_at (node_at (step parts parameters s event) m).slots i).status ≡ (slot_at (node_at s m).slots i).status
  ended_stays m i ended =
      let n = node_of event in
      let en = enabled_is parts parameters s event enabled in
      let v = (stepped_by parts parameters s event).node in
      ap (λ (u : NodeState). (slot_at u.slots i).status) (read_set s.nodes n v no_node m (rw standing.nodes en.here))
      ∙ at_nodes (λ j u. has_ended (slot_at (node_at s j).slots i).status ≡ true → (slot_at u.slots i).status ≡ (slot_at (node_at s j).slots i).status) (node_at s) n v
      (λ e. event_stays parts parameters n (stamp_of (node_at s n).clock (taken_by parts s event)) (node_at s n) i e event (taken_by parts s event))
      (λ j other e. refl) m ended

  pub halted_stays : has_halted s ≡ true → has_halted (step parts parameters s event) ≡ true
  halted_stays all = halted_by (step parts parameters s event) (λ m i. let was = halted_at s all m i in ap is_halted (ended_stays m i (halted_ended (slot_at (node_at s m).slots i).status was)) ∙ was)
