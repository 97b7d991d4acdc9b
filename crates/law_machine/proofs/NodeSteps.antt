-- Each event that a node may take keeps the node standing.
use Rattle.std.proofs.Common.{◌≡◌, ℕ, ◌<◌, ◌≤◌, ◌==◌, nat_lt, Bool, true, false, Option, Some, None, List, [], ◌∷◌, IsTrue, refl, sym, subst, ap, ◌∙◌}
use Rattle.std.specs.List.{AllByRecursion}
use Rattle.std.proofs.lemmas.Bool.{eqb-true, ltb-true, false≢true}
use Rattle.law_machine.proofs.Vocabulary.{Line, Mode, Read, Write, Regs, Need, Outcome, need_of, turn_of, Msg, Event, Instr, Handle, Deliver, Evict, Parts, node_count, line_count, Parameters}
use Rattle.law_machine.proofs.Vocabulary.{value_at, passes, ToMemory, Content, ForMemory, ForCache, content, is_to_memory, is_trapped, is_in_progress, Copy, set_of, grants, copy_at, granted_copy}
use Rattle.law_machine.proofs.Vocabulary.{slot_at, running, home_node, is_fit, node_of, is_nonempty, NodeState, home_at, may, may_reach, may_deliver, written, take_turn, access, instr_by, instr}
use Rattle.law_machine.proofs.Vocabulary.{at_home, deliver_by, deliver, handle_by, handle_front, event_at, clocked, IsPacket, NodeStands}
use Rattle.sparc_table.specs.declared.outcomes.Need.TheVariants as needs
use Rattle.alw_model.proofs.Journals.{and_parts}
use Rattle.law_lines.proofs.Instructions.{kept_is}
use Rattle.law_lines.proofs.Steps.{Fit, fit_is, not_is}
use Rattle.law_machine.proofs.NodeKeeps.{cache_with, cache_without, cache_reacts, cache_changes, trap_stands, hardware_stands, handler_stands}

module _ (parts : Parts) (parameters : Parameters) (some : 1 ≤ parameters.pointers) (n stamp : ℕ) (node : NodeState) (here : n < node_count parts) (stands : NodeStands parts parameters n node) where
  -- ---- an instruction

  turn_stands : (slot l : ℕ) (mode : Mode) (copy : Copy) (regs : Regs) (outcome : Outcome) (body : Line)
      → granted_copy parameters.sets node.cache l mode ≡ Some copy
      → NodeStands parts parameters n
      (clocked stamp (take_turn parts parameters n node slot (written parameters.sets node.cache copy mode body) regs outcome)).node
  turn_stands slot l Read copy regs outcome body e = cache_changes parts parameters n node stands _ refl refl stands.caches
  turn_stands slot l Write copy regs outcome body e =
      let a = kept_is (λ (c : Copy). grants c.mode Write) (copy_at parameters.sets node.cache l) copy e in
      let b = kept_is (λ (c : Copy). c.line == l) (value_at node.cache (set_of parameters.sets l)) copy a.0 in
      cache_changes parts parameters n node stands _ refl refl (cache_with parts parameters node.cache (record copy { body = body }) stands.caches (stands.caches (set_of parameters.sets l) copy b.0).0)

  access_stands : (slot l : ℕ) (mode : Mode) (o : Option Copy) → granted_copy parameters.sets node.cache l mode ≡ o → NodeStands parts parameters n (clocked stamp (access parts parameters n stamp node slot l mode o)).node
  access_stands slot l mode None e = cache_changes parts parameters n node stands _ refl refl stands.caches
  access_stands slot l mode (Some copy) e = let after = turn_of parts.code (slot_at node.slots slot).regs (line_count parts) copy.body in turn_stands slot l mode copy after.0 after.2 after.1 e

  need_stands : (slot : ℕ) (need : Need) → NodeStands parts parameters n (clocked stamp (instr_by parts parameters n stamp node slot need)).node
  need_stands slot (needs.Copy l mode) = access_stands slot l.0 mode (granted_copy parameters.sets node.cache l.0 mode) refl
  need_stands slot needs.Nothing = cache_changes parts parameters n node stands _ refl refl stands.caches
  need_stands slot (needs.Trap tt) = cache_changes parts parameters n node stands _ refl refl stands.caches

  instr_stands : (slot : Option ℕ) → NodeStands parts parameters n (clocked stamp (instr parts parameters n stamp node slot)).node
  instr_stands None = cache_changes parts parameters n node stands _ refl refl stands.caches
  instr_stands (Some slot) = need_stands slot (need_of parts.code (slot_at node.slots slot).regs (line_count parts))

  -- ---- a delivery

  memory_stands : (msg : Msg) (said : ToMemory) → content msg ≡ ForMemory said → msg.src.0 < node_count parts → msg.line.0 < line_count parts → home_node parts msg.line.0 ≡ n → is_in_progress (home_at parts node msg.line.0).meta ≡ false
      → (b : Bool) → is_trapped parameters.pointers (home_at parts node msg.line.0) msg.src.0 said ≡ b → NodeStands parts parameters n (clocked stamp (at_home parts parameters n stamp node msg said b)).node
  memory_stands msg said is source lines home free true traps = trap_stands parts parameters n node stands msg said _ is source lines home free refl refl refl
  memory_stands msg said is source lines home free false calm = hardware_stands parts parameters n node stands msg.line.0 msg.src.0 said _ some lines home free calm refl refl refl

  message_stands : (from : ℕ) → from < node_count parts → (msg : Msg) (c : Content) → content msg ≡ c → Fit parts from n msg c → IsTrue (may_reach parts parameters node msg.line.0 c) → NodeStands parts parameters n (clocked stamp (deliver_by parts parameters n stamp node msg c)).node
  message_stands from f msg (ForMemory said) is fit reach = memory_stands msg said is (rw fit.source f) fit.exists (eqb-true _ _ fit.home) (not_is _ reach) (is_trapped parameters.pointers (home_at parts node msg.line.0) msg.src.0 said) refl
  message_stands from f msg (ForCache said) is fit reach = cache_changes parts parameters n node stands _ refl refl (cache_reacts parts parameters node.cache msg.line.0 said stands.caches fit.exists)

  delivery_stands : (from : ℕ) → from < node_count parts → (head : Option Msg) → IsTrue (passes (may_deliver parts parameters from n node) head) → NodeStands parts parameters n (clocked stamp (deliver parts parameters n stamp node head)).node
  delivery_stands from f None may_be = absurd (false≢true may_be)
  delivery_stands from f (Some msg) may_be = let p = and_parts (is_fit parts from n msg) _ may_be in message_stands from f msg (content msg) refl (fit_is parts from n msg p.0) p.1

  -- ---- the handler

  packet_stands : (packet : Msg) (waiting : List Msg) → node.packets ≡ packet ∷ waiting → IsPacket parts n packet → (c : Content) → content packet ≡ c
      → NodeStands parts parameters n (clocked stamp (handle_by parts parameters n stamp (record node { packets = waiting }) packet c)).node
  packet_stands packet waiting queue packed (ForMemory said) is = handler_stands parts parameters n node stands packet waiting said _ some queue is refl refl refl
  packet_stands packet waiting queue packed (ForCache said) is = absurd (false≢true (sym (ap is_to_memory is) ∙ packed.to_memory))

  queue_stands : (q : List Msg) → node.packets ≡ q → IsTrue (is_nonempty q)
      → NodeStands parts parameters n (clocked stamp (handle_front parts parameters n stamp node q)).node
  queue_stands [] e some_packet = absurd (false≢true some_packet)
  queue_stands (packet ∷ waiting) e some_packet = packet_stands packet waiting e (subst (AllByRecursion (IsPacket parts n)) e stands.packets).0 (content packet) refl

  -- ---- by the kind of event

  pub event_stands : (event : Event) (head : Option Msg) → node_of event ≡ n → IsTrue (may parts parameters node event head) → NodeStands parts parameters n (clocked stamp (event_at parts parameters n stamp node event head)).node
  event_stands (Instr at) head is may_be = instr_stands (running node.slots node.current)
  event_stands (Handle at) head is may_be = queue_stands node.packets refl may_be
  event_stands (Deliver from to) head is may_be =
      let p = and_parts (nat_lt from.0 (node_count parts)) _ may_be in
      delivery_stands from.0 (ltb-true from.0 (node_count parts) p.0) head (subst (λ a. IsTrue (passes (may_deliver parts parameters from.0 a node) head)) is p.1)
  event_stands (Evict at set) head is may_be = cache_changes parts parameters n node stands _ refl refl (cache_without parts parameters node.cache set stands.caches)
