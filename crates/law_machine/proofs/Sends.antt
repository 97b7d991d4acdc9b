-- What a node's event sends: messages of the node with the event's stamp, about lines that exist, each to or from its line's home.
use Rattle.std.proofs.Common.{◌≡◌, ℕ, ◌<◌, ◌≤◌, ◌==◌, nat_lt, not, Bool, true, false, cond, Option, Some, None, List, [], ◌∷◌, IsTrue, refl, sym, subst, ap, ◌∙◌, arith}
use Rattle.std.specs.List.{AllByRecursion}
use Rattle.std.proofs.lemmas.Bool.{eq-eqb, eqb-true, ltb-true, false≢true}
use Rattle.law_machine.proofs.Vocabulary.{has_node, value_at, passes, Line, Mode, Read, Write, need_of, Need, Msg, Event, Instr, Handle, Deliver, Evict, Parts, node_count, line_count, Parameters}
use Rattle.law_machine.proofs.Vocabulary.{ToMemory, ToCache, RDATA, WDATA, INV, BUSY, Content, ForMemory, ForCache, content, is_to_memory, Sends, full_map_of, is_trapped, is_in_progress, Copy}
use Rattle.law_machine.proofs.Vocabulary.{Requests, Transaction, granted_copy, copy_at, give_up, evicted, replaced, invalidate, react, set_of, slot_at, running, home_node, to_homes, to_caches}
use Rattle.law_machine.proofs.Vocabulary.{is_at_home, is_fit, node_of, NodeState, home_at, may, may_reach, may_deliver, opened, access, instr_by, instr, at_home, deliver_by, deliver, handle_by}
use Rattle.law_machine.proofs.Vocabulary.{handle_front, event_at, clocked, msgs_to, GoBelow, IsPacket, NodeStands}
use Rattle.sparc_table.specs.declared.outcomes.Need.TheVariants as needs
use Rattle.sparc_table.proofs.Effects.{turn_exists}
use Rattle.alw_model.proofs.Journals.{and_parts}
use Rattle.law_line.proofs.Homes.{DestsBelow}
use Rattle.law_entry.proofs.Actions.{hardware_acts}
use Rattle.law_lines.proofs.Contents.{content_is}
use Rattle.law_lines.proofs.Destinations.{act_below}
use Rattle.law_lines.proofs.Following.{home_below}
use Rattle.law_lines.proofs.Instructions.{kept_is}
use Rattle.law_lines.proofs.Steps.{Fit, fit_is, not_is}

-- a message on the link of two nodes: sent by the first, about a line that exists, to or from its home, and with a stamp of at most this clock
pub record MsgStands (parts : Parts) (from to clock : ℕ) (msg : Msg) : Type 0 where
  pub source : msg.src.0 ≡ from
  pub exists : msg.line.0 < line_count parts
  pub home : is_at_home (content msg) (home_node parts msg.line.0) from to ≡ true
  pub stamp : msg.stamp ≤ clock

-- what a node sends goes to nodes that exist, and each message stands on its link
abbrev pub AllSent : Parts → ℕ → ℕ → List (ℕ × Msg) → Type 0
AllSent parts n stamp sends = AllByRecursion (λ (send : ℕ × Msg). (send.0 < node_count parts) × MsgStands parts n send.0 stamp send.1) sends

-- requests are about lines that exist
abbrev pub AllAsked : Parts → Requests → Type 0
AllAsked parts requests = AllByRecursion (λ (request : ℕ × ToMemory). request.0 < line_count parts) requests

module _ (parts : Parts) (n stamp : ℕ) where
  pub all_go : (sends : List (ℕ × Msg)) → AllSent parts n stamp sends → GoBelow (node_count parts) sends
  all_go [] all = tt
  all_go (send ∷ rest) all = (all.0.0, all_go rest all.1)

  pub all_to : (b : ℕ) (sends : List (ℕ × Msg)) → AllSent parts n stamp sends → AllByRecursion (MsgStands parts n b stamp) (msgs_to b sends)
  all_to b [] all = tt
  all_to b (send ∷ rest) all = go (b == send.0) refl (all_to b rest all.1)
    where
      go : (c : Bool) → (b == send.0) ≡ c → AllByRecursion (MsgStands parts n b stamp) (msgs_to b rest) → AllByRecursion (MsgStands parts n b stamp) (cond c (send.1 ∷ msgs_to b rest) (msgs_to b rest))
      go true e tail = (subst (λ k. MsgStands parts n k stamp send.1) (sym (eqb-true b send.0 e)) all.0.1, tail)
      go false e tail = tail

  pub asked_stand : (requests : Requests) → AllAsked parts requests → AllSent parts n stamp (to_homes parts n stamp requests)
  asked_stand [] all = tt
  asked_stand (request ∷ rest) all = (
    (
      home_below parts request.0 all.0,
      record {
        source = refl;
        exists = all.0;
        home = ap (λ c. is_at_home c (home_node parts request.0) n (home_node parts request.0)) (content_is n stamp request.0 (ForMemory request.1)) ∙ eq-eqb (home_node parts request.0) (home_node parts request.0) refl;
        stamp = omega arith;
      },
    ),
    asked_stand rest all.1,
  )

  pub told_stand : (line : ℕ) → line < line_count parts → home_node parts line ≡ n → (sends : Sends) → DestsBelow (node_count parts) sends → AllSent parts n stamp (to_caches n stamp line sends)
  told_stand line lines home [] below = tt
  told_stand line lines home (send ∷ rest) below = (
    (
      below.0,
      record {
        source = refl;
        exists = lines;
        home = ap (λ c. is_at_home c (home_node parts line) n send.0) (content_is n stamp line (ForCache send.1)) ∙ eq-eqb (home_node parts line) n home;
        stamp = omega arith;
      },
    ),
    told_stand line lines home rest below.1,
  )

module _ (parts : Parts) (parameters : Parameters) (n stamp : ℕ) (node : NodeState) (stands : NodeStands parts parameters n node) (points : (l : ℕ) → l < line_count parts → home_node parts l ≡ n → (j : ℕ) → has_node (full_map_of (home_at parts node l)).pointers j ≡ true → j < node_count parts) where
  abbrev Sent : List (ℕ × Msg) → Type 0
  Sent sends = AllSent parts n stamp sends

  -- ---- a cache's messages

  given_asked : (line : ℕ) (mode : Mode) (body : Line) → line < line_count parts → AllAsked parts (give_up line mode body)
  given_asked line Write body lines = (lines, tt)
  given_asked line Read body lines = tt

  evicted_asked : (o : Option Copy) → ((copy : Copy) → o ≡ Some copy → copy.line < line_count parts) → AllAsked parts (evicted o)
  evicted_asked None exist = tt
  evicted_asked (Some copy) exist = given_asked copy.line copy.mode copy.body (exist copy refl)

  invalidate_asked : (l : ℕ) (o : Option Copy) → l < line_count parts → AllAsked parts (invalidate parameters.sets node.cache l o).1
  invalidate_asked l None lines = (lines, tt)
  invalidate_asked l (Some copy) lines = (lines, tt)

  replaced_exists : (l : ℕ) (copy : Copy) → replaced parameters.sets node.cache l ≡ Some copy → copy.line < line_count parts
  replaced_exists l copy e = (stands.caches (set_of parameters.sets l) copy (kept_is (λ (held : Copy). not (held.line == l)) (value_at node.cache (set_of parameters.sets l)) copy e).0).0

  react_asked : (l : ℕ) (said : ToCache) → l < line_count parts → AllAsked parts (react parameters.sets node.cache l said).1
  react_asked l (RDATA body) lines = evicted_asked (replaced parameters.sets node.cache l) (replaced_exists l)
  react_asked l (WDATA body) lines = evicted_asked (replaced parameters.sets node.cache l) (replaced_exists l)
  react_asked l INV lines = invalidate_asked l (copy_at parameters.sets node.cache l) lines
  react_asked l BUSY lines = tt

  -- ---- an instruction

  opened_asked : (slot l : ℕ) (mode : Mode) (o : Option Transaction) → l < line_count parts → AllAsked parts (opened node.transactions l mode slot o).1
  opened_asked slot l mode None lines = (lines, tt)
  opened_asked slot l mode (Some t) lines = tt

  access_sent : (slot l : ℕ) (mode : Mode) (o : Option Copy) → l < line_count parts → Sent (clocked stamp (access parts parameters n stamp node slot l mode o)).sends
  access_sent slot l mode None lines = asked_stand parts n stamp (opened node.transactions l mode slot (value_at node.transactions l)).1 (opened_asked slot l mode (value_at node.transactions l) lines)
  access_sent slot l mode (Some copy) lines = tt

  need_sent : (slot : ℕ) (need : Need) → need_of parts.code (slot_at node.slots slot).regs (line_count parts) ≡ need → Sent (clocked stamp (instr_by parts parameters n stamp node slot need)).sends
  need_sent slot (needs.Copy l mode) e = access_sent slot l.0 mode (granted_copy parameters.sets node.cache l.0 mode) (turn_exists parts.code (slot_at node.slots slot).regs (line_count parts) l mode e)
  need_sent slot needs.Nothing e = tt
  need_sent slot (needs.Trap type) e = tt

  instr_sent : (slot : Option ℕ) → Sent (clocked stamp (instr parts parameters n stamp node slot)).sends
  instr_sent None = tt
  instr_sent (Some slot) = need_sent slot (need_of parts.code (slot_at node.slots slot).regs (line_count parts)) refl

  -- ---- a home's messages

  home_sent : (msg : Msg) (said : ToMemory) → msg.src.0 < node_count parts → msg.line.0 < line_count parts → home_node parts msg.line.0 ≡ n → is_in_progress (home_at parts node msg.line.0).meta ≡ false
      → (b : Bool) → is_trapped parameters.pointers (home_at parts node msg.line.0) msg.src.0 said ≡ b → Sent (clocked stamp (at_home parts parameters n stamp node msg said b)).sends
  home_sent msg said source lines home free true traps = tt
  home_sent msg said source lines home free false calm =
      let d = home_at parts node msg.line.0 in
      told_stand parts n stamp msg.line.0 lines home _ (rw (hardware_acts parameters.pointers d msg.src.0 said (stands.entries msg.line.0 lines home) calm free).sent
      (act_below (node_count parts) (full_map_of d) msg.src.0 source (points msg.line.0 lines home) said))

  message_sent : (from : ℕ) → from < node_count parts → (msg : Msg) (c : Content) → content msg ≡ c → Fit parts from n msg c → IsTrue (may_reach parts parameters node msg.line.0 c) → Sent (clocked stamp (deliver_by parts parameters n stamp node msg c)).sends
  message_sent from f msg (ForMemory said) is fit reach = home_sent msg said (rw fit.source f) fit.exists (eqb-true _ _ fit.home) (not_is _ reach) (is_trapped parameters.pointers (home_at parts node msg.line.0) msg.src.0 said) refl
  message_sent from f msg (ForCache said) is fit reach = asked_stand parts n stamp (react parameters.sets node.cache msg.line.0 said).1 (react_asked msg.line.0 said fit.exists)

  delivery_sent : (from : ℕ) → from < node_count parts → (head : Option Msg) → IsTrue (passes (may_deliver parts parameters from n node) head) → Sent (clocked stamp (deliver parts parameters n stamp node head)).sends
  delivery_sent from f None may_be = absurd (false≢true may_be)
  delivery_sent from f (Some msg) may_be = let p = and_parts (is_fit parts from n msg) _ may_be in message_sent from f msg (content msg) refl (fit_is parts from n msg p.0) p.1

  packet_sent : (packet : Msg) (waiting : List Msg) → IsPacket parts n packet → (c : Content) → content packet ≡ c
      → Sent (clocked stamp (handle_by parts parameters n stamp (record node { packets = waiting }) packet c)).sends
  packet_sent packet waiting packed (ForMemory said) is =
      told_stand parts n stamp packet.line.0 packed.line packed.home _ (act_below (node_count parts) (full_map_of (home_at parts node packet.line.0)) packet.src.0 packed.source (points packet.line.0 packed.line packed.home) said)
  packet_sent packet waiting packed (ForCache said) is = absurd (false≢true (sym (ap is_to_memory is) ∙ packed.to_memory))

  queue_sent : (q : List Msg) → node.packets ≡ q → Sent (clocked stamp (handle_front parts parameters n stamp node q)).sends
  queue_sent [] e = tt
  queue_sent (packet ∷ waiting) e = packet_sent packet waiting (subst (AllByRecursion (IsPacket parts n)) e stands.packets).0 (content packet) refl

  -- ---- by the kind of event

  pub event_sent : (event : Event) (head : Option Msg) → node_of event ≡ n → IsTrue (may parts parameters node event head) → Sent (clocked stamp (event_at parts parameters n stamp node event head)).sends
  event_sent (Instr at) head is may_be = instr_sent (running node.slots node.current)
  event_sent (Handle at) head is may_be = queue_sent node.packets refl
  event_sent (Deliver from to) head is may_be =
      let p = and_parts (nat_lt from.0 (node_count parts)) _ may_be in
      delivery_sent from.0 (ltb-true from.0 (node_count parts) p.0) head (subst (λ a. IsTrue (passes (may_deliver parts parameters from.0 a node) head)) is p.1)
  event_sent (Evict at set) head is may_be = asked_stand parts n stamp (evicted (value_at node.cache set)) (evicted_asked (value_at node.cache set) (λ copy e. (stands.caches set copy e).0))
