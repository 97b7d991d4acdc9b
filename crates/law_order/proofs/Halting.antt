-- Once every context has halted it stays so: Halted never changes.
use Rattle.std.proofs.Common.{◌≡◌, ℕ, zero, suc, Bool, true, false, cond, Option, Some, None, List, [], ◌∷◌, get_or, set, length, IsTrue, is_some, refl, sym, ap, ◌∙◌}
use Rattle.std.specs.List.{list_all, find}
use Rattle.std.proofs.lemmas.Bool.{false≢true}
use Rattle.alw_msg.specs.declared.contexts.Status.{Status}
use Rattle.alw_msg.specs.declared.contexts.Status.TheVariants.{Ready, Waiting, Halted, Trapped}
use Rattle.alw_msg.specs.declared.messages.Msg.{Msg}
use Rattle.alw_msg.specs.declared.events.Event.{Event}
use Rattle.alw_msg.specs.declared.events.Event.TheVariants.{Instr, Handle, Deliver, Evict}
use Rattle.alw_image.specs.declared.parts.Parts.{Parts}
use Rattle.alw_image.specs.Parameters.{Parameters}
use Rattle.alw_msg.specs.Contents.{ToMemory, brings_line, Content, ForMemory, ForCache, content}
use Rattle.alw_model.specs.LimitLess.{is_trapped}
use Rattle.alw_model.specs.Caches.{Transaction, ended_by}
use Rattle.alw_msg.specs.Statuses.{is_ready, is_halted, waits_on}
use Rattle.alw_model.specs.Contexts.{Slot, slot_at, no_slot, all_halted, running, turn_order, woken, wake}
use Rattle.alw_msg.specs.Events.{node_of}
use Rattle.alw_model.specs.NodeStates.{NodeState, home_at, stamp_of, may}
use Rattle.alw_model.specs.ProcessorSteps.{slots_after}
use Rattle.alw_model.specs.NodeSteps.{at_home, deliver_by, deliver, handle_by, handle_front, event_at}
use Rattle.alw_model.specs.Machine.{MachineState, node_at, no_node, taken_by, is_enabled, has_halted, step, stepped_by}
use Rattle.alw_model.proofs.Journals.{and_parts, and_is}
use Rattle.law_lines.proofs.Steps.{enabled_is}

-- ---- a test of each element of a list

pub all_set : {X : Type 0} (test : X → Bool) (xs : List X) (i : ℕ) (x : X) → IsTrue (list_all test xs) → IsTrue (test x) → IsTrue (list_all test (set xs i x))
all_set test [] i x all is = refl
all_set test (y ∷ rest) zero x all is = and_is (test x) (list_all test rest) is (and_parts (test y) (list_all test rest) all).1
all_set test (y ∷ rest) (suc i) x all is = let p = and_parts (test y) (list_all test rest) all in and_is (test y) (list_all test (set rest i x)) p.0 (all_set test rest i x p.1 is)

pub all_at : {X : Type 0} (test : X → Bool) (xs : List X) (i : ℕ) (d : X) → IsTrue (list_all test xs) → IsTrue (test d) → IsTrue (test (get_or xs i d))
all_at test [] i d all is = is
all_at test (y ∷ rest) zero d all is = (and_parts (test y) (list_all test rest) all).0
all_at test (y ∷ rest) (suc i) d all is = all_at test rest i d (and_parts (test y) (list_all test rest) all).1 is

-- ---- slots

abbrev has_ended : Slot → Bool
has_ended slot = is_halted slot.status

not_waiting : (line : ℕ) (status : Status) → IsTrue (is_halted status) → waits_on line status ≡ false
not_waiting line Halted is = refl
not_waiting line Ready is = absurd (false≢true is)
not_waiting line (Waiting waited) is = absurd (false≢true is)
not_waiting line (Trapped pc tt) is = absurd (false≢true is)

not_ready : (status : Status) → IsTrue (is_halted status) → is_ready status ≡ false
not_ready Halted is = refl
not_ready Ready is = absurd (false≢true is)
not_ready (Waiting waited) is = absurd (false≢true is)
not_ready (Trapped pc tt) is = absurd (false≢true is)

woken_ended : (line : ℕ) (slot : Slot) → IsTrue (has_ended slot) → IsTrue (has_ended (woken line slot))
woken_ended line slot is = ap (λ b. has_ended (cond b (record slot { status = Ready }) slot)) (not_waiting line slot.status is) ∙ is

all_woken : (line : ℕ) (slots : List Slot) → IsTrue (all_halted slots) → IsTrue (all_halted (wake line slots))
all_woken line [] all = refl
all_woken line (slot ∷ rest) all =
    let p = and_parts (has_ended slot) (all_halted rest) all in
    and_is (has_ended (woken line slot)) (all_halted (wake line rest)) (woken_ended line slot p.0) (all_woken line rest p.1)

none_found : (test : ℕ → Bool) (ks : List ℕ) → ((k : ℕ) → test k ≡ false) → find test ks ≡ None
none_found test [] none = refl
none_found test (k ∷ rest) none = ap (λ b. cond b (Some k) (find test rest)) (none k) ∙ none_found test rest none

-- where all slots have halted, none runs
none_runs : (slots : List Slot) (current : ℕ) → IsTrue (all_halted slots) → running slots current ≡ None
none_runs slots current all = none_found (λ slot. is_ready (slot_at slots slot).status) (turn_order current (length slots)) (λ k. not_ready (slot_at slots k).status (all_at has_ended slots k no_slot all refl))

ended_after : (slots : List Slot) (line : ℕ) (came : Bool) (o : Option Transaction) → IsTrue (all_halted slots) → IsTrue (all_halted (slots_after slots line came o))
ended_after slots line came None all = all
ended_after slots line false (Some transaction) all = all_woken line slots all
ended_after slots line true (Some transaction) all =
    let awake = all_woken line slots all in
    all_set has_ended (wake line slots) transaction.opener (record (slot_at (wake line slots) transaction.opener) { hold = Some line }) awake (all_at has_ended (wake line slots) transaction.opener no_slot awake refl)

-- ---- a node

module _ (parts : Parts) (parameters : Parameters) (n stamp : ℕ) (node : NodeState) (all : IsTrue (all_halted node.slots)) where
  home_halted : (msg : Msg) (said : ToMemory) (traps : Bool) → IsTrue (all_halted (at_home parts parameters n stamp node msg said traps).node.slots)
  home_halted msg said true = all
  home_halted msg said false = all

  message_halted : (msg : Msg) (said : Content) → IsTrue (all_halted (deliver_by parts parameters n stamp node msg said).node.slots)
  message_halted msg (ForMemory said) = home_halted msg said (is_trapped parameters.pointers (home_at parts node msg.line.0) msg.src.0 said)
  message_halted msg (ForCache said) = ended_after node.slots msg.line.0 (brings_line said) (ended_by node.transactions msg.line.0 said) all

  delivery_halted : (taken : Option Msg) → IsTrue (all_halted (deliver parts parameters n stamp node taken).node.slots)
  delivery_halted None = all
  delivery_halted (Some msg) = message_halted msg (content msg)

  packet_halted : (rest : List Msg) (packet : Msg) (said : Content)
      → IsTrue (all_halted (handle_by parts parameters n stamp (record node { packets = rest }) packet said).node.slots)
  packet_halted rest packet (ForCache said) = all
  packet_halted rest packet (ForMemory said) = all

  queue_halted : (queue : List Msg) → IsTrue (all_halted (handle_front parts parameters n stamp node queue).node.slots)
  queue_halted [] = all
  queue_halted (packet ∷ rest) = packet_halted rest packet (content packet)

  -- an event that may happen keeps all slots halted
  event_halted : (event : Event) (taken : Option Msg) → IsTrue (may parts parameters node event taken) → IsTrue (all_halted (event_at parts parameters n stamp node event taken).node.slots)
  event_halted (Instr at) taken may_be = absurd (false≢true (sym (ap is_some (none_runs node.slots node.current all)) ∙ may_be))
  event_halted (Handle at) taken may_be = queue_halted node.packets
  event_halted (Deliver from to) taken may_be = delivery_halted taken
  event_halted (Evict at emptied) taken may_be = all

-- ---- the machine

-- where every context has halted, no instruction is enabled, and they stay halted
pub halted_stays : (parts : Parts) (parameters : Parameters) (s : MachineState) (event : Event) → IsTrue (is_enabled parts parameters s event) → IsTrue (has_halted s) → IsTrue (has_halted (step parts parameters s event))
halted_stays parts parameters s event enabled all =
    let n = node_of event in
    let here : IsTrue (all_halted (node_at s n).slots) = all_at (λ (node : NodeState). all_halted node.slots) s.nodes n no_node all refl in
    all_set (λ (node : NodeState). all_halted node.slots) s.nodes n (stepped_by parts parameters s event).node all
    (event_halted parts parameters n (stamp_of (node_at s n).clock (taken_by parts s event)) (node_at s n) here event (taken_by parts s event) (enabled_is parts parameters s event enabled).may_be)
