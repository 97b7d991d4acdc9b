-- Each event of the machine is a turn of the flat machine, or nothing to it.
use Rattle.std.proofs.Common.{◌≡◌, ℕ, ◌+◌, ◌<◌, ◌==◌, Bool, true, false, cond, Option, Some, None, List, [], ◌∷◌, ◌++◌, length, refl, sym, ap, ◌∙◌, arith}
use Rattle.law_machine.proofs.Vocabulary.{Line, LineNo, Mode, Read, Write, Need, need_of, turn_of, Msg, Event, Instr, Handle, Deliver, Evict, Parts, node_count, line_count, Parameters, value_at}
use Rattle.law_machine.proofs.Vocabulary.{ToMemory, ToCache, brings_line, Content, ForMemory, ForCache, content, is_trapped, Copy, Transaction, granted_copy, ended_by, replaced, is_ready}
use Rattle.law_machine.proofs.Vocabulary.{slot_at, running, NodeState, home_at, Stepped, clocked, access, instr_by, instr, at_home, deliver_by, deliver, handle_by, handle_front, event_at}
use Rattle.law_machine.proofs.Vocabulary.{MachineState, node_at, LineNode, line_of, turn_in, LineEvent, Opens, Stores, Leaves, Comes, Acts, value_after, last_stored, about, in_leaving, in_miss}
use Rattle.law_machine.proofs.Vocabulary.{in_access, in_need, in_instr, in_cache, in_home, in_delivery, in_packet, in_queue, in_taken, events_at}
use Rattle.sparc_table.specs.declared.outcomes.Need.TheVariants as needs
use Rattle.sparc_table.proofs.Effects.{turn_exists}
use Rattle.law_line.proofs.Consequences.{copy_value}
use Rattle.law_lines.proofs.Views.{seen_copy}
use Rattle.law_lines.proofs.CacheSide.{old_part}
use Rattle.law_lines.proofs.Instructions.{granted_is}
use Rattle.law_machine.specs.Values.{MachineIsSoundWith}
use Rattle.law_machine.proofs.FlatViews.{HaveSlots, values_same, value_set}
use Rattle.law_machine.proofs.FlatSlots.{Chosen, runs_ready, after_same}
use Rattle.law_machine.proofs.FlatSteps.{Seen, calm, turns, turn_with, turn_without, miss_same}

-- ---- values

-- an event that isn't a store leaves each value
still_about : (x : Line) (k line : ℕ) (e : LineEvent) → ((y : Line) → value_after y e ≡ y) → last_stored x (about k line e) ≡ x
still_about x k line e still = go (k == line)
  where
    go : (b : Bool) → last_stored x (cond b (e ∷ []) []) ≡ x
    go true = still x
    go false = refl

still_leaving : (x : Line) (k n : ℕ) (o : Option Copy) → last_stored x (in_leaving k n o) ≡ x
still_leaving x k n None = refl
still_leaving x k n (Some copy) = still_about x k copy.line (Leaves n) (λ y. refl)

still_cache : (x : Line) (k n sets : ℕ) (node : NodeState) (l : ℕ) (said : ToCache) → last_stored x (in_cache k n sets node l said) ≡ x
still_cache x k n sets node l said = go (k == l) (brings_line said)
  where
    go : (b c : Bool) → last_stored x (cond b (Comes n ∷ []) [] ++ cond c (in_leaving k n (replaced sets node.cache l)) []) ≡ x
    go true true = still_leaving x k n (replaced sets node.cache l)
    go true false = refl
    go false true = still_leaving x k n (replaced sets node.cache l)
    go false false = refl

still_miss : (x : Line) (k n l : ℕ) (mode : Mode) (o : Option Transaction) → last_stored x (in_miss k n l mode o) ≡ x
still_miss x k n l mode None = still_about x k l (Opens n mode) (λ y. refl)
still_miss x k n l mode (Some transaction) = refl

still_home : (x : Line) (k l from : ℕ) (b : Bool) → last_stored x (in_home k l from b) ≡ x
still_home x k l from true = refl
still_home x k l from false = still_about x k l (Acts from) (λ y. refl)

stored_about : (x y : Line) (k l n : ℕ) → last_stored x (about k l (Stores n y)) ≡ cond (k == l) y x
stored_about x y k l n = go (k == l)
  where
    go : (b : Bool) → last_stored x (cond b (Stores n y ∷ []) []) ≡ cond b y x
    go true = refl
    go false = refl

module _ (parts : Parts) (parameters : Parameters) (s : MachineState) (values : ℕ → Line) (sound : MachineIsSoundWith parts parameters values s) (have : HaveSlots parts.contexts s.nodes) (n : ℕ) (fits : n < length s.nodes) (here : n < node_count parts) (stamp : ℕ) where
  abbrev node : NodeState
  node = node_at s n

  abbrev SeenAs : Stepped → (ℕ → List LineEvent) → Type 0
  SeenAs stepped events = Seen parts s values have n fits (clocked stamp stepped).node (λ k. last_stored (values k) (events k)) (turn_in parts n (clocked stamp stepped).did)

  -- ---- an instruction

  module _ (slot : ℕ) (is_chosen : Chosen (λ i. is_ready (slot_at node.slots i).status) (length node.slots) slot) where
    -- a copy holds the value
    copy_is : (l : ℕ) (mode : Mode) (copy : Copy) → l < line_count parts → granted_copy parameters.sets node.cache l mode ≡ Some copy → values l ≡ copy.body
    copy_is l mode copy lines e =
        sym (copy_value (node_count parts) (values l) (line_of parts parameters s l) (sound.lines l lines) n copy.mode copy.body
        (ap (λ (u : LineNode). u.copy) (old_part parts parameters s n l here) ∙ ap seen_copy (granted_is parts parameters s sound.standing n here stamp l lines l mode copy e).has))

    access_seen : (l : LineNo) (mode : Mode) (o : Option Copy) → need_of parts.code (slot_at node.slots slot).regs (line_count parts) ≡ needs.Copy l mode → granted_copy parameters.sets node.cache l.0 mode ≡ o
        → SeenAs (access parts parameters n stamp node slot l.0 mode o) (λ k. in_access parts n node slot l.0 mode k o)
    access_seen l mode None need e = calm parts s values have n fits _ _ (miss_same parts s values have n fits slot is_chosen l) (λ k m. still_miss (values k) k n l.0 mode (value_at node.transactions l.0))
    access_seen l Read (Some copy) need e =
        turns parts s values have n fits slot is_chosen _ _ _ _ _ refl (turn_with parts s values have n fits slot is_chosen l Read copy.body need (copy_is l.0 Read copy (turn_exists parts.code (slot_at node.slots slot).regs (line_count parts) l Read need) e)) refl
    access_seen l Write (Some copy) need e =
        let y = (turn_of parts.code (slot_at node.slots slot).regs (line_count parts) copy.body).1 in
        turns parts s values have n fits slot is_chosen _ _ _ _ _ refl (turn_with parts s values have n fits slot is_chosen l Write copy.body need (copy_is l.0 Write copy (turn_exists parts.code (slot_at node.slots slot).regs (line_count parts) l Write need) e))
        (values_same _ _ 0 (line_count parts) (λ k m o. stored_about (values k) y k l.0 n ∙ ap (λ j. cond (k == j) y (values k)) (first l.0)) ∙ sym (value_set values y 0 (line_count parts) l.0))
      where
        first : (j : ℕ) → j ≡ 0 + j
        first j = omega arith

    need_seen : (need : Need) → need_of parts.code (slot_at node.slots slot).regs (line_count parts) ≡ need → SeenAs (instr_by parts parameters n stamp node slot need) (λ k. in_need parts parameters n node slot k need)
    need_seen (needs.Copy l mode) is = access_seen l mode (granted_copy parameters.sets node.cache l.0 mode) is refl
    need_seen needs.Nothing is = turns parts s values have n fits slot is_chosen _ _ _ _ _ refl (turn_without parts s values have n fits slot is_chosen needs.Nothing is (λ l mode e. absurd (cc))) refl
    need_seen (needs.Trap tt) is = turns parts s values have n fits slot is_chosen _ _ _ _ _ refl (turn_without parts s values have n fits slot is_chosen (needs.Trap tt) is (λ l mode e. absurd (cc))) refl

  instr_seen : (slot : Option ℕ) → running node.slots node.current ≡ slot → SeenAs (instr parts parameters n stamp node slot) (λ k. in_instr parts parameters n node k slot)
  instr_seen None e = calm parts s values have n fits _ _ refl (λ k m. refl)
  instr_seen (Some slot) e = need_seen slot (runs_ready node.slots node.current slot e) (need_of parts.code (slot_at node.slots slot).regs (line_count parts)) refl

  -- ---- messages

  memory_seen : (msg : Msg) (said : ToMemory) (b : Bool) → SeenAs (at_home parts parameters n stamp node msg said b) (λ k. in_home k msg.line.0 msg.src.0 b)
  memory_seen msg said true = calm parts s values have n fits _ _ refl (λ k m. refl)
  memory_seen msg said false = calm parts s values have n fits _ _ refl (λ k m. still_home (values k) k msg.line.0 msg.src.0 false)

  message_seen : (msg : Msg) (c : Content) → SeenAs (deliver_by parts parameters n stamp node msg c) (λ k. in_delivery parts parameters n node k msg c)
  message_seen msg (ForMemory said) = memory_seen msg said (is_trapped parameters.pointers (home_at parts node msg.line.0) msg.src.0 said)
  message_seen msg (ForCache said) = calm parts s values have n fits _ _ (after_same node.slots msg.line.0 (brings_line said) (ended_by node.transactions msg.line.0 said)) (λ k m. still_cache (values k) k n parameters.sets node msg.line.0 said)

  delivery_seen : (head : Option Msg) → SeenAs (deliver parts parameters n stamp node head) (λ k. in_taken parts parameters n node k head)
  delivery_seen None = calm parts s values have n fits _ _ refl (λ k m. refl)
  delivery_seen (Some msg) = message_seen msg (content msg)

  packet_seen : (packet : Msg) (waiting : List Msg) (c : Content)
      → SeenAs (handle_by parts parameters n stamp (record node { packets = waiting }) packet c) (λ k. in_packet k packet c)
  packet_seen packet waiting (ForMemory said) = calm parts s values have n fits _ _ refl (λ k m. still_about (values k) k packet.line.0 (Acts packet.src.0) (λ y. refl))
  packet_seen packet waiting (ForCache said) = calm parts s values have n fits _ _ refl (λ k m. refl)

  queue_seen : (q : List Msg) → SeenAs (handle_front parts parameters n stamp node q) (λ k. in_queue k q)
  queue_seen [] = calm parts s values have n fits _ _ refl (λ k m. refl)
  queue_seen (packet ∷ waiting) = packet_seen packet waiting (content packet)

  -- an event by its kind
  pub event_seen : (event : Event) (head : Option Msg) → SeenAs (event_at parts parameters n stamp node event head) (events_at parts parameters n node event head)
  event_seen (Instr at) head = instr_seen (running node.slots node.current) refl
  event_seen (Handle at) head = queue_seen node.packets
  event_seen (Deliver from to) head = delivery_seen head
  event_seen (Evict at its) head = calm parts s values have n fits _ _ refl (λ k m. still_leaving (values k) k n (value_at node.cache its))
