-- What an event does to the holds of its node: data brings one, and a turn of its slot, which needs the held line, ends it.
use Rattle.std.proofs.Common.{◌≡◌, ℕ, ◌+◌, ◌<◌, Bool, true, false, cond, Option, Some, None, List, [], ◌∷◌, length, set, refl, sym, subst, ap, ◌∙◌, arith}
use Rattle.std.specs.Prelude.{is_some, IsSome}
use Rattle.std.proofs.lemmas.Bool.{false≢true}
use Rattle.law_machine.proofs.Vocabulary.{digit, weigh, value_at, passes, LineNo, Mode, need_of, Need, Msg, Ready, Event, Instr, Handle, Deliver, Evict, Parts, line_count, Parameters, ToMemory}
use Rattle.law_machine.proofs.Vocabulary.{ToCache, RDATA, WDATA, INV, BUSY, brings_line, Content, ForMemory, ForCache, content, is_trapped, Copy, Transaction, granted_copy, is_ready, waits_on}
use Rattle.law_machine.proofs.Vocabulary.{Slot, slot_at, no_slot, running, woken, wake, NodeState, home_at, slots_after, Stepped, clocked, access, instr_by, instr, at_home, at_cache, deliver_by}
use Rattle.law_machine.proofs.Vocabulary.{deliver, handle_by, handle_front, event_at, uses_hold, is_data, next_mode}
use Rattle.sparc_table.specs.declared.outcomes.Need.TheVariants as needs
use Rattle.law_machine.specs.Holds.{uses_by}
use Rattle.law_machine.proofs.FlatSlots.{Chosen, runs_ready}
use Rattle.law_machine.proofs.ContextFacts.{NodeContexts, ready_not_waiting, wake_at, length-wake}
use Rattle.law_machine.proofs.ContextTests.{mode_needed}
use Rattle.law_machine.proofs.Sums.{weigh_set}

-- the holds of slots
abbrev pub holds_of : List Slot → ℕ
holds_of slots = weigh (λ (slot : Slot). digit (is_some slot.hold)) slots

woken_hold : (line : ℕ) (slot : Slot) → (woken line slot).hold ≡ slot.hold
woken_hold line slot = go (waits_on line slot.status)
  where
    go : (b : Bool) → (cond b (record slot { status = Ready }) slot).hold ≡ slot.hold
    go true = refl
    go false = refl

wake_holds : (line : ℕ) (slots : List Slot) → holds_of (wake line slots) ≡ holds_of slots
wake_holds line [] = refl
wake_holds line (slot ∷ rest) = λ x. digit (is_some (woken_hold line slot x)) + wake_holds line rest x

-- what an event did to the holds of its node, by the message that it took
pub record HoldsGo (parts : Parts) (before : NodeState) (came : ℕ) (stepped : Stepped) : Type 0 where
  pub count : came + holds_of before.slots ≡ digit (uses_hold before stepped.did) + holds_of stepped.node.slots
  pub uses : uses_by parts before stepped.did

-- a message that brings a line meets a transaction
abbrev pub MeetsOne : NodeState → ℕ → Content → Type 0
MeetsOne node line (ForMemory said) = Unit {0}
MeetsOne node line (ForCache said) = brings_line said ≡ true → is_some (value_at node.transactions line) ≡ true

abbrev pub HeadMeets : NodeState → Option Msg → Type 0
HeadMeets node None = Unit {0}
HeadMeets node (Some msg) = MeetsOne node msg.line.0 (content msg)

-- 1 for a message that brings a line
abbrev pub data_in : Option Msg → ℕ
data_in head = digit (passes (λ (msg : Msg). is_data (content msg)) head)

module _ (parts : Parts) (parameters : Parameters) (n stamp : ℕ) (node : NodeState) (stands : NodeContexts parts parameters node) where
  -- ---- an instruction

  -- a slot that waits has no hold
  waits_holds_not : (i line : ℕ) → waits_on line (slot_at node.slots i).status ≡ true → (slot_at node.slots i).hold ≡ None
  waits_holds_not i line waits = go (slot_at node.slots i).hold refl
    where
      go : (o : Option ℕ) → (slot_at node.slots i).hold ≡ o → o ≡ None
      go None e = refl
      go (Some held) e = absurd (ready_not_waiting line (slot_at node.slots i).status (ap is_ready ((stands.each i).holds held e).ready) waits)

  -- a slot that misses has none
  misses_holds_not : (i : ℕ) (l : LineNo) (mode : Mode) → need_of parts.code (slot_at node.slots i).regs (line_count parts) ≡ needs.Copy l mode → granted_copy parameters.sets node.cache l.0 mode ≡ None → (slot_at node.slots i).hold ≡ None
  misses_holds_not i l mode need none = go (slot_at node.slots i).hold refl
    where
      go : (o : Option ℕ) → (slot_at node.slots i).hold ≡ o → o ≡ None
      go None e = refl
      go (Some held) e =
          let h = (stands.each i).holds held e in
          let same : needs.Copy (record { 0 = held }) h.mode ≡ needs.Copy l mode = sym h.need ∙ need in
          let line : record { 0 = held } ≡ l = cc in
          let modes : h.mode ≡ mode = cc in
          absurd (false≢true (sym (ap is_some none) ∙ ((λ x. is_some (granted_copy parameters.sets node.cache (sym line x).0 (sym modes x))) ∙ h.granted)))

  module _ (slot : ℕ) (chosen : Chosen (λ i. is_ready (slot_at node.slots i).status) (length node.slots) slot) where
    -- a turn ends the hold, and needed its line
    turn_goes : (stepped : Stepped) (next : Slot) → next.hold ≡ None → stepped.node.slots ≡ set node.slots slot next → uses_hold node stepped.did ≡ is_some (slot_at node.slots slot).hold → uses_by parts node stepped.did → HoldsGo parts node 0 stepped
    turn_goes stepped next none slots used uses =
        let was = weigh_set (λ (u : Slot). digit (is_some u.hold)) node.slots slot next no_slot chosen.below in
        let gone = ap (λ (o : Option ℕ). digit (is_some o)) none in
        let now = ap holds_of slots in
        let one = ap digit used in
        record { count = omega arith; uses = uses }

    uses_its : (line : ℕ) → (slot_at node.slots slot).hold ≡ Some line → IsSome (next_mode parts (slot_at node.slots slot) line)
    uses_its line e = let h = (stands.each slot).holds line e in ap is_some (mode_needed parts parameters (slot_at node.slots slot) line h.mode h.need)

    access_goes : (l : LineNo) (mode : Mode) (o : Option Copy) → need_of parts.code (slot_at node.slots slot).regs (line_count parts) ≡ needs.Copy l mode → granted_copy parameters.sets node.cache l.0 mode ≡ o → HoldsGo parts node 0 (clocked stamp (access parts parameters n stamp node slot l.0 mode o))
    access_goes l mode None need e =
        let none = misses_holds_not slot l mode need e in
        turn_goes (clocked stamp (access parts parameters n stamp node slot l.0 mode None)) _ refl refl (sym (ap is_some none)) none
    access_goes l mode (Some copy) need e = turn_goes (clocked stamp (access parts parameters n stamp node slot l.0 mode (Some copy))) _ refl refl refl uses_its

    need_goes : (need : Need) → need_of parts.code (slot_at node.slots slot).regs (line_count parts) ≡ need → HoldsGo parts node 0 (clocked stamp (instr_by parts parameters n stamp node slot need))
    need_goes (needs.Copy l mode) is = access_goes l mode (granted_copy parameters.sets node.cache l.0 mode) is refl
    need_goes needs.Nothing is = turn_goes (clocked stamp (instr_by parts parameters n stamp node slot needs.Nothing)) _ refl refl refl uses_its
    need_goes (needs.Trap type) is = turn_goes (clocked stamp (instr_by parts parameters n stamp node slot (needs.Trap type))) _ refl refl refl uses_its

  instr_goes : (slot : Option ℕ) → running node.slots node.current ≡ slot → HoldsGo parts node 0 (clocked stamp (instr parts parameters n stamp node slot))
  instr_goes None e = record { count = refl; uses = tt }
  instr_goes (Some slot) e = need_goes slot (runs_ready node.slots node.current slot e) (need_of parts.code (slot_at node.slots slot).regs (line_count parts)) refl

  -- ---- messages

  -- data brings a hold to the slot that opened the transaction
  after_holds : (l : ℕ) (came : Bool) (o : Option Transaction) → value_at node.transactions l ≡ o → (came ≡ true → is_some o ≡ true) → digit came + holds_of node.slots ≡ 0 + holds_of (slots_after node.slots l came o)
  after_holds l true None e meets = absurd (false≢true (meets refl))
  after_holds l false None e meets = refl
  after_holds l false (Some t) e meets = omega (arith, wake_holds l node.slots)
  after_holds l true (Some t) e meets =
      let s = stands.opened l t e in
      let fits : t.opener < length (wake l node.slots) = subst (λ k. t.opener < k) (sym (length-wake l node.slots ∙ stands.size)) s.opener in
      let none : digit (is_some (slot_at (wake l node.slots) t.opener).hold) ≡ 0 = ap (λ (u : Slot). digit (is_some u.hold)) (wake_at l node.slots t.opener)
      ∙ (ap (λ (o : Option ℕ). digit (is_some o)) (woken_hold l (slot_at node.slots t.opener) ∙ waits_holds_not t.opener l s.waits)) in
      omega (arith, weigh_set (λ (u : Slot). digit (is_some u.hold)) (wake l node.slots) t.opener (record (slot_at (wake l node.slots) t.opener) { hold = Some l }) no_slot fits, wake_holds l node.slots)

  cache_goes : (l : ℕ) (said : ToCache) → (brings_line said ≡ true → is_some (value_at node.transactions l) ≡ true) → HoldsGo parts node (digit (brings_line said)) (clocked stamp (at_cache parts parameters n stamp node l said))
  cache_goes l (RDATA body) meets = record { count = after_holds l true (value_at node.transactions l) refl meets; uses = tt }
  cache_goes l (WDATA body) meets = record { count = after_holds l true (value_at node.transactions l) refl meets; uses = tt }
  cache_goes l INV meets = record { count = refl; uses = tt }
  cache_goes l BUSY meets = record { count = after_holds l false (value_at node.transactions l) refl meets; uses = tt }

  home_goes : (msg : Msg) (said : ToMemory) (b : Bool) → HoldsGo parts node 0 (clocked stamp (at_home parts parameters n stamp node msg said b))
  home_goes msg said true = record { count = refl; uses = tt }
  home_goes msg said false = record { count = refl; uses = tt }

  message_goes : (msg : Msg) (c : Content) → MeetsOne node msg.line.0 c → HoldsGo parts node (digit (is_data c)) (clocked stamp (deliver_by parts parameters n stamp node msg c))
  message_goes msg (ForMemory said) meets = home_goes msg said (is_trapped parameters.pointers (home_at parts node msg.line.0) msg.src.0 said)
  message_goes msg (ForCache said) meets = cache_goes msg.line.0 said meets

  delivery_goes : (head : Option Msg) → HeadMeets node head → HoldsGo parts node (data_in head) (clocked stamp (deliver parts parameters n stamp node head))
  delivery_goes None meets = record { count = refl; uses = tt }
  delivery_goes (Some msg) meets = message_goes msg (content msg) meets

  packet_goes : (packet : Msg) (waiting : List Msg) (c : Content)
      → HoldsGo parts node 0 (clocked stamp (handle_by parts parameters n stamp (record node { packets = waiting }) packet c))
  packet_goes packet waiting (ForMemory said) = record { count = refl; uses = tt }
  packet_goes packet waiting (ForCache said) = record { count = refl; uses = tt }

  queue_goes : (q : List Msg) → HoldsGo parts node 0 (clocked stamp (handle_front parts parameters n stamp node q))
  queue_goes [] = record { count = refl; uses = tt }
  queue_goes (packet ∷ waiting) = packet_goes packet waiting (content packet)

  -- ---- by the kind of event, where only a delivery takes a message

  abbrev pub TakesRightly : Event → Option Msg → Type 0
  TakesRightly (Deliver from to) head = HeadMeets node head
  TakesRightly _ head = head ≡ None

  pub event_goes : (event : Event) (head : Option Msg) → TakesRightly event head → HoldsGo parts node (data_in head) (clocked stamp (event_at parts parameters n stamp node event head))
  event_goes (Instr at) head none = subst (λ k. HoldsGo parts node k (clocked stamp (instr parts parameters n stamp node (running node.slots node.current)))) (sym (ap data_in none)) (instr_goes (running node.slots node.current) refl)
  event_goes (Handle at) head none = subst (λ k. HoldsGo parts node k (clocked stamp (handle_front parts parameters n stamp node node.packets)))
      (sym (ap data_in none)) (queue_goes node.packets)
  event_goes (Deliver from to) head meets = delivery_goes head meets
  event_goes (Evict at set) head none = subst (λ k. HoldsGo parts node k (clocked stamp (event_at parts parameters n stamp node (Evict at set) head))) (sym (ap data_in none)) (record { count = refl; uses = tt })
