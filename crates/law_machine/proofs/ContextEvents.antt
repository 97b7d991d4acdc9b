-- Each event that a node may take keeps its contexts and transactions standing.
use Rattle.std.proofs.Common.{◌≡◌, ℕ, nat_lt, Bool, true, false, Option, Some, None, List, [], ◌∷◌, length, IsTrue, refl, sym, subst, ap, ◌∙◌}
use Rattle.std.specs.Prelude.{is_some}
use Rattle.std.proofs.lemmas.Bool.{false≢true}
use Rattle.law_machine.proofs.Vocabulary.{Line, LineNo, Mode, Read, Write, kept_if, value_at, passes, with_value, without_value, Need, need_of, turn_of, Msg, Event, Instr, Handle, Deliver, Evict}
use Rattle.law_machine.proofs.Vocabulary.{Parts, node_count, line_count, zero_line, Parameters, ToMemory, ToCache, RDATA, WDATA, INV, BUSY, Content, ForMemory, ForCache, content, is_trapped}
use Rattle.law_machine.proofs.Vocabulary.{Copy, Cache, Transaction, grants, copy_at, granted_copy, react, set_of, is_ready, slot_at, running, is_fit, node_of, NodeState, home_at, may, may_reach}
use Rattle.law_machine.proofs.Vocabulary.{may_reach_cache, may_deliver, written, slots_after, access, instr_by, instr, at_home, at_cache, deliver_by, deliver, handle_by, handle_front, event_at}
use Rattle.law_machine.proofs.Vocabulary.{clocked}
use Rattle.sparc_table.specs.declared.outcomes.Need.TheVariants as needs
use Rattle.alw_model.proofs.Journals.{and_parts}
use Rattle.law_machine.proofs.FlatSlots.{Chosen, runs_ready}
use Rattle.law_machine.proofs.ContextFacts.{ContextsStand, NodeContexts}
use Rattle.law_machine.proofs.ContextSteps.{KeepsHeld, cache_stands, turn_stands, miss_stands, wake_stands, none_stands, hold_stands}
use Rattle.law_machine.proofs.HeldCopies.{with_here, granted_by, written_keeps, evict_keeps, fill_keeps, inv_keeps}

-- a message that brings a line to read meets a Read transaction, if any, and no copy
pub record Awaited (sets : ℕ) (node : NodeState) (line : ℕ) : Type 0 where
  pub absent : copy_at sets node.cache line ≡ None
  pub reads : (transaction : Transaction) → value_at node.transactions line ≡ Some transaction → transaction.mode ≡ Read

-- the same of a message to a cache, by what it says
abbrev pub AwaitedBy : ℕ → NodeState → ℕ → ToCache → Type 0
AwaitedBy sets node line (RDATA body) = Awaited sets node line
AwaitedBy sets node line _ = Unit {0}

-- of a message
abbrev pub AwaitedIn : ℕ → NodeState → ℕ → Content → Type 0
AwaitedIn sets node line (ForMemory said) = Unit {0}
AwaitedIn sets node line (ForCache said) = AwaitedBy sets node line said

-- and of one that is taken, if any
abbrev pub AwaitedHead : ℕ → NodeState → Option Msg → Type 0
AwaitedHead sets node None = Unit {0}
AwaitedHead sets node (Some msg) = AwaitedIn sets node msg.line.0 (content msg)

module _ (parts : Parts) (parameters : Parameters) (n stamp : ℕ) (node : NodeState) (stands : NodeContexts parts parameters node) where
  -- ---- an instruction

  module _ (slot : ℕ) (chosen : Chosen (λ i. is_ready (slot_at node.slots i).status) (length node.slots) slot) where
    access_contexts : (l : LineNo) (mode : Mode) (o : Option Copy) → need_of parts.code (slot_at node.slots slot).regs (line_count parts) ≡ needs.Copy l mode → granted_copy parameters.sets node.cache l.0 mode ≡ o
        → NodeContexts parts parameters (clocked stamp (access parts parameters n stamp node slot l.0 mode o)).node
    access_contexts l mode None need e = miss_stands parts parameters node.slots node.current node.cache node.transactions stands slot chosen l.0 mode need (value_at node.transactions l.0) refl
    access_contexts l mode (Some copy) need e =
        let after = turn_of parts.code (slot_at node.slots slot).regs (line_count parts) copy.body in
        turn_stands parts parameters node.slots node.current node.cache node.transactions stands slot chosen after.0 after.2 (written parameters.sets node.cache copy mode after.1)
        (λ i line h needed is. written_keeps parameters.sets node.cache l.0 mode copy after.1 e line needed is)

    need_contexts : (need : Need) → need_of parts.code (slot_at node.slots slot).regs (line_count parts) ≡ need → NodeContexts parts parameters (clocked stamp (instr_by parts parameters n stamp node slot need)).node
    need_contexts (needs.Copy l mode) is = access_contexts l mode (granted_copy parameters.sets node.cache l.0 mode) is refl
    need_contexts needs.Nothing is = let after = turn_of parts.code (slot_at node.slots slot).regs (line_count parts) zero_line in
        turn_stands parts parameters node.slots node.current node.cache node.transactions stands slot chosen after.0 after.2 node.cache (λ i line h mode is. is)
    need_contexts (needs.Trap tt) is = let after = turn_of parts.code (slot_at node.slots slot).regs (line_count parts) zero_line in
        turn_stands parts parameters node.slots node.current node.cache node.transactions stands slot chosen after.0 after.2 node.cache (λ i line h mode is. is)

  instr_contexts : (slot : Option ℕ) → running node.slots node.current ≡ slot → NodeContexts parts parameters (clocked stamp (instr parts parameters n stamp node slot)).node
  instr_contexts None e = stands
  instr_contexts (Some slot) e = need_contexts slot (runs_ready node.slots node.current slot e) (need_of parts.code (slot_at node.slots slot).regs (line_count parts)) refl

  -- ---- a message to a cache

  module _ (l : ℕ) where
    -- the cache with a line that comes
    abbrev brought : Mode → Line → Cache
    brought came body = with_value node.cache (set_of parameters.sets l) (record { line = l; mode = came; body = body })

    -- a transaction ends, and nothing comes
    ends_contexts : (o : Option Transaction) → value_at node.transactions l ≡ o → ContextsStand parts parameters (slots_after node.slots l false o) node.current node.cache (without_value node.transactions l)
    ends_contexts None e = none_stands parts parameters node.slots node.current node.cache node.transactions stands l e
    ends_contexts (Some t) e = wake_stands parts parameters node.slots node.current node.cache node.transactions stands l

    -- a transaction ends, and the line comes in a mode that grants the transaction's
    comes_contexts : (next : Cache) → KeepsHeld parts parameters node.slots node.current node.cache node.transactions stands next → (o : Option Transaction) → value_at node.transactions l ≡ o
        → ((t : Transaction) → value_at node.transactions l ≡ Some t → is_some (granted_copy parameters.sets next l t.mode) ≡ true)
        → ContextsStand parts parameters (slots_after node.slots l true o) node.current next (without_value node.transactions l)
    comes_contexts next keeps None e granted = none_stands parts parameters node.slots node.current next node.transactions (cache_stands parts parameters node.slots node.current node.cache node.transactions stands next keeps) l e
    comes_contexts next keeps (Some t) e granted =
        hold_stands parts parameters node.slots node.current next node.transactions (cache_stands parts parameters node.slots node.current node.cache node.transactions stands next keeps) l t (stands.opened l t e) (granted t e)

    -- a line that comes is there
    brought_granted : (came mode : Mode) (body : Line) → grants came mode ≡ true → is_some (granted_copy parameters.sets (brought came body) l mode) ≡ true
    brought_granted came mode body permits = granted_by parameters.sets (brought came body) l mode (record { line = l; mode = came; body = body }) (record {
      stands = with_here parameters.sets node.cache (set_of parameters.sets l) (record { line = l; mode = came; body = body }) (set_of parameters.sets l) refl;
      is_its = refl;
      permits = permits;
    })

    -- without a copy of a line nobody holds it
    not_granted : (line : ℕ) (mode : Mode) → copy_at parameters.sets node.cache l ≡ None → line ≡ l → is_some (granted_copy parameters.sets node.cache line mode) ≡ true → ⊥
    not_granted line mode none same is = false≢true (sym (ap (λ (o : Option Copy). is_some (kept_if (λ (c : Copy). grants c.mode mode) o)) (ap (copy_at parameters.sets node.cache) same ∙ none)) ∙ is)

    arrival_contexts : (said : ToCache) → AwaitedBy parameters.sets node l said → may_reach_cache parameters.sets node.slots node.cache l said ≡ true
        → NodeContexts parts parameters (clocked stamp (at_cache parts parameters n stamp node l said)).node
    arrival_contexts (RDATA body) awaited free = comes_contexts (brought Read body)
        (λ i line h mode is. fill_keeps parameters.sets node.cache node.slots i line h mode is (record { line = l; mode = Read; body = body }) free (λ same. absurd (not_granted line mode awaited.absent same is)))
        (value_at node.transactions l) refl (λ t e. brought_granted Read t.mode body (ap (grants Read) (awaited.reads t e)))
    arrival_contexts (WDATA body) awaited free = comes_contexts (brought Write body)
        (λ i line h mode is. fill_keeps parameters.sets node.cache node.slots i line h mode is (record { line = l; mode = Write; body = body }) free (λ same. refl))
        (value_at node.transactions l) refl (λ t e. brought_granted Write t.mode body refl)
    arrival_contexts INV awaited free = cache_stands parts parameters node.slots node.current node.cache node.transactions stands (react parameters.sets node.cache l INV).0
        (λ i line h mode is. inv_keeps parameters.sets node.cache node.slots i line h mode is l (copy_at parameters.sets node.cache l) refl free)
    arrival_contexts BUSY awaited free = ends_contexts (value_at node.transactions l) refl

  -- ---- a delivery, and an action of the handler

  home_contexts : (msg : Msg) (said : ToMemory) (b : Bool) → NodeContexts parts parameters (clocked stamp (at_home parts parameters n stamp node msg said b)).node
  home_contexts msg said true = stands
  home_contexts msg said false = stands

  message_contexts : (msg : Msg) (c : Content) → AwaitedIn parameters.sets node msg.line.0 c → may_reach parts parameters node msg.line.0 c ≡ true → NodeContexts parts parameters (clocked stamp (deliver_by parts parameters n stamp node msg c)).node
  message_contexts msg (ForMemory said) awaited free = home_contexts msg said (is_trapped parameters.pointers (home_at parts node msg.line.0) msg.src.0 said)
  message_contexts msg (ForCache said) awaited free = arrival_contexts msg.line.0 said awaited free

  delivery_contexts : (from : ℕ) (head : Option Msg) → AwaitedHead parameters.sets node head → IsTrue (passes (may_deliver parts parameters from n node) head) → NodeContexts parts parameters (clocked stamp (deliver parts parameters n stamp node head)).node
  delivery_contexts from None awaited may_be = absurd (false≢true may_be)
  delivery_contexts from (Some msg) awaited may_be = message_contexts msg (content msg) awaited (and_parts (is_fit parts from n msg) _ may_be).1

  packet_contexts : (packet : Msg) (waiting : List Msg) (c : Content)
      → NodeContexts parts parameters (clocked stamp (handle_by parts parameters n stamp (record node { packets = waiting }) packet c)).node
  packet_contexts packet waiting (ForMemory said) = stands
  packet_contexts packet waiting (ForCache said) = stands

  queue_contexts : (q : List Msg) → NodeContexts parts parameters (clocked stamp (handle_front parts parameters n stamp node q)).node
  queue_contexts [] = stands
  queue_contexts (packet ∷ waiting) = packet_contexts packet waiting (content packet)

  -- ---- by the kind of event

  pub event_contexts : (event : Event) (head : Option Msg) → node_of event ≡ n → IsTrue (may parts parameters node event head) → AwaitedHead parameters.sets node head → NodeContexts parts parameters (clocked stamp (event_at parts parameters n stamp node event head)).node
  event_contexts (Instr at) head is may_be awaited = instr_contexts (running node.slots node.current) refl
  event_contexts (Handle at) head is may_be awaited = queue_contexts node.packets
  event_contexts (Deliver from to) head is may_be awaited =
      let p = and_parts (nat_lt from.0 (node_count parts)) _ may_be in
      delivery_contexts from.0 head awaited (subst (λ a. IsTrue (passes (may_deliver parts parameters from.0 a node) head)) is p.1)
  event_contexts (Evict at set) head is may_be awaited = cache_stands parts parameters node.slots node.current node.cache node.transactions stands (without_value node.cache set)
      (λ i line h mode is. evict_keeps parameters.sets node.cache node.slots i line h mode is set (and_parts (nat_lt set parameters.sets) _ may_be).1)
