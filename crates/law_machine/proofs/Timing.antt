-- Messages on links stand there with stamps of at most their senders' clocks, packets have stamps of at most their node's clock, and clocks are within the limit until every context has halted.
use Rattle.std.proofs.Common.{◌≡◌, ℕ, zero, suc, ◌+◌, ◌*◌, ◌<◌, ◌≤◌, ◌==◌, nat_le, ◌||◌, max, Bool, true, false, cond, Option, Some, None, List, [], ◌∷◌, length, get_or, set, IsTrue, refl, sym, subst, ap, ◌∙◌, arith}
use Rattle.std.specs.List.{AllByRecursion}
use Rattle.std.proofs.lemmas.Bool.{eq-eqb, eqb-true, leb-true, false≢true}
use Rattle.std.proofs.lemmas.List.{length-set}
use Rattle.alw_num.proofs.Weigh.{at_nodes}
use Rattle.law_machine.proofs.Vocabulary.{has_node, Line, Msg, Event, Instr, Handle, Deliver, Evict, Parts, node_count, line_count, Parameters, ToMemory, Content, ForMemory, ForCache, content}
use Rattle.law_machine.proofs.Vocabulary.{full_map_of, is_trapped, Copy, granted_copy, slot_at, running, node_of, NodeState, home_at, stamp_of, access, instr_by, instr, at_home, deliver_by}
use Rattle.law_machine.proofs.Vocabulary.{deliver, handle_by, handle_front, event_at, clocked, front, behind, MachineState, machine_start, no_node, node_at, link_at, link_place, taken_by}
use Rattle.law_machine.proofs.Vocabulary.{links_taken, is_enabled, is_within_limit, has_halted, stamp_at, step, stepped_by, Need, need_of, Mode, msgs_to}
use Rattle.sparc_table.specs.declared.outcomes.Need.TheVariants as needs
use Rattle.law_lines.proofs.Links.{read_set, link_sent}
use Rattle.law_lines.proofs.Steps.{Enabled, enabled_is}
use Rattle.law_machine.specs.Values.{MachineIsSoundWith}
use Rattle.law_machine.proofs.Runs.{node_at_start, link_at_start}
use Rattle.law_machine.proofs.Sends.{MsgStands, AllSent, all_go, all_to, event_sent}
use Rattle.law_machine.proofs.Ended.{halted_stays}
use Rattle.alw_num.proofs.Alls.{all_append, all_weaker}

-- ---- lists

each_behind : {X : Type 0} (P : X → Type 0) (xs : List X) → AllByRecursion P xs → AllByRecursion P (behind xs)
each_behind P [] all = tt
each_behind P (x ∷ rest) all = all.1

pub each_front : {X : Type 0} (P : X → Type 0) (xs : List X) (x : X) → AllByRecursion P xs → front xs ≡ Some x → P x
each_front P [] x all e = absurd (cc)
each_front P (y ∷ rest) x all e = let same : y ≡ x = cc in subst P same all.0

-- what holds of a list's members holds once a list has lost its front
left_all : {X : Type 0} (P : X → Type 0) (xs : List (List X)) (i j : ℕ) → AllByRecursion P (get_or xs j []) → AllByRecursion P (get_or (set xs i (behind (get_or xs i []))) j [])
left_all P [] i j all = tt
left_all P (x ∷ rest) zero zero all = each_behind P x all
left_all P (x ∷ rest) zero (suc j) all = all
left_all P (x ∷ rest) (suc i) zero all = all
left_all P (x ∷ rest) (suc i) (suc j) all = left_all P rest i j all

-- ---- stamps

pub above_clock : (clock : ℕ) (head : Option Msg) → clock < stamp_of clock head
above_clock clock None = omega arith
above_clock clock (Some msg) = omega arith

above_head : (clock : ℕ) (head : Option Msg) (msg : Msg) → head ≡ Some msg → msg.stamp < stamp_of clock head
above_head clock None msg e = absurd (cc)
above_head clock (Some other) msg e = let same : other ≡ msg = cc in subst (λ (m : Msg). m.stamp < max clock other.stamp + 1) same (omega arith)

later_stands : (parts : Parts) (a b clock later : ℕ) → clock ≤ later → (msg : Msg) → MsgStands parts a b clock msg → MsgStands parts a b later msg
later_stands parts a b clock later more msg m = record { source = m.source; exists = m.exists; home = m.home; stamp = omega (arith, m.stamp) }

-- each packet has a stamp of at most a clock
abbrev pub Stamped : ℕ → List Msg → Type 0
Stamped clock packets = AllByRecursion (λ (packet : Msg). packet.stamp ≤ clock) packets

module _ (parts : Parts) (parameters : Parameters) (n stamp : ℕ) (node : NodeState) (old : Stamped stamp node.packets) where
  home_packets : (msg : Msg) (said : ToMemory) → msg.stamp ≤ stamp → (b : Bool) → Stamped stamp (clocked stamp (at_home parts parameters n stamp node msg said b)).node.packets
  home_packets msg said below true = all_append (λ (packet : Msg). packet.stamp ≤ stamp) node.packets (msg ∷ []) old (below, tt)
  home_packets msg said below false = old

  message_packets : (msg : Msg) → msg.stamp ≤ stamp → (c : Content) → Stamped stamp (clocked stamp (deliver_by parts parameters n stamp node msg c)).node.packets
  message_packets msg below (ForMemory said) = home_packets msg said below (is_trapped parameters.pointers (home_at parts node msg.line.0) msg.src.0 said)
  message_packets msg below (ForCache said) = old

  delivery_packets : (head : Option Msg) → ((msg : Msg) → head ≡ Some msg → msg.stamp ≤ stamp) → Stamped stamp (clocked stamp (deliver parts parameters n stamp node head)).node.packets
  delivery_packets None below = old
  delivery_packets (Some msg) below = message_packets msg (below msg refl) (content msg)

  packet_packets : (packet : Msg) (waiting : List Msg) (c : Content) → Stamped stamp waiting
      → Stamped stamp (clocked stamp (handle_by parts parameters n stamp (record node { packets = waiting }) packet c)).node.packets
  packet_packets packet waiting (ForMemory said) rest = rest
  packet_packets packet waiting (ForCache said) rest = rest

  queue_packets : (q : List Msg) → node.packets ≡ q → Stamped stamp (clocked stamp (handle_front parts parameters n stamp node q)).node.packets
  queue_packets [] e = old
  queue_packets (packet ∷ waiting) e = packet_packets packet waiting (content packet) (subst (Stamped stamp) e old).1

  access_packets : (slot l : ℕ) (mode : Mode) (o : Option Copy) → Stamped stamp (clocked stamp (access parts parameters n stamp node slot l mode o)).node.packets
  access_packets slot l mode None = old
  access_packets slot l mode (Some copy) = old

  need_packets : (slot : ℕ) (need : Need) → Stamped stamp (clocked stamp (instr_by parts parameters n stamp node slot need)).node.packets
  need_packets slot (needs.Copy l mode) = access_packets slot l.0 mode (granted_copy parameters.sets node.cache l.0 mode)
  need_packets slot needs.Nothing = old
  need_packets slot (needs.Trap tt) = old

  instr_packets : (slot : Option ℕ) → Stamped stamp (clocked stamp (instr parts parameters n stamp node slot)).node.packets
  instr_packets None = old
  instr_packets (Some slot) = need_packets slot (need_of parts.code (slot_at node.slots slot).regs (line_count parts))

  event_packets : (event : Event) (head : Option Msg) → ((msg : Msg) → head ≡ Some msg → msg.stamp ≤ stamp) → Stamped stamp (clocked stamp (event_at parts parameters n stamp node event head)).node.packets
  event_packets (Instr at) head below = instr_packets (running node.slots node.current)
  event_packets (Handle at) head below = queue_packets node.packets refl
  event_packets (Deliver from to) head below = delivery_packets head below
  event_packets (Evict at set) head below = old

-- ---- a machine

pub record HasTimes (parts : Parts) (parameters : Parameters) (s : MachineState) : Type 0 where
  pub links : (from to : ℕ) → from < node_count parts → to < node_count parts → AllByRecursion (MsgStands parts from to (node_at s from).clock) (link_at parts s from to)
  pub packets : (n : ℕ) → n < node_count parts → Stamped (node_at s n).clock (node_at s n).packets
  pub clocks : has_halted s ≡ false → (n : ℕ) → n < node_count parts → (node_at s n).clock ≤ parameters.limit

module _ (parts : Parts) (parameters : Parameters) (s : MachineState) (values : ℕ → Line) (sound : MachineIsSoundWith parts parameters values s) (times : HasTimes parts parameters s) (event : Event) (enabled : IsTrue (is_enabled parts parameters s event)) where
  abbrev n : ℕ
  n = node_of event

  abbrev stamp : ℕ
  stamp = stamp_at parts s event

  abbrev v : NodeState
  v = (stepped_by parts parameters s event).node

  abbrev next : MachineState
  next = step parts parameters s event

  en : Enabled parts parameters s event
  en = enabled_is parts parameters s event enabled

  pub next_node_at : (m : ℕ) → node_at next m ≡ cond (m == n) v (node_at s m)
  next_node_at m = read_set s.nodes n v no_node m (rw sound.standing.nodes en.here)

  pub clock_grows : (m : ℕ) → (node_at s m).clock ≤ (node_at next m).clock
  clock_grows m = subst (λ (u : NodeState). (node_at s m).clock ≤ u.clock) (sym (next_node_at m))
      (at_nodes (λ j u. (node_at s j).clock ≤ u.clock) (node_at s) n v (let above = above_clock (node_at s n).clock (taken_by parts s event) in omega arith) (λ j other. omega arith) m)

  sends_stand : AllSent parts n stamp (stepped_by parts parameters s event).sends
  sends_stand = event_sent parts parameters n stamp (node_at s n) (sound.standing.each n en.here)
      (λ l lines home j has. (sound.lines l lines).members j (ap (λ a. has_node (full_map_of (home_at parts (node_at s a) l)).pointers j) home ∙ has))
      event (taken_by parts s event) refl en.may_be

  links_size : length (links_taken parts s.links event) ≡ node_count parts * node_count parts
  links_size = go event ∙ sound.standing.links
    where
      go : (event : Event) → length (links_taken parts s.links event) ≡ length s.links
      go (Instr at) = refl
      go (Handle at) = refl
      go (Evict at set) = refl
      go (Deliver from to) = length-set s.links (link_place parts from.0 to.0) _

  taken_all : (P : Msg → Type 0) (event : Event) (a b : ℕ) → AllByRecursion P (link_at parts s a b) → AllByRecursion P (get_or (links_taken parts s.links event) (link_place parts a b) [])
  taken_all P (Instr at) a b all = all
  taken_all P (Handle at) a b all = all
  taken_all P (Evict at set) a b all = all
  taken_all P (Deliver from to) a b all = left_all P s.links (link_place parts from.0 to.0) (link_place parts a b) all

  new_clock : (node_at next n).clock ≡ stamp
  new_clock = ap (λ (u : NodeState). u.clock) (next_node_at n) ∙ here (n == n) (eq-eqb n n refl)
    where
      here : (b : Bool) → b ≡ true → (cond b v (node_at s n)).clock ≡ stamp
      here true e = refl
      here false e = absurd (false≢true e)

  -- what a node has sent stands on its link
  sent_all : (a b : ℕ) → AllByRecursion (MsgStands parts a b (node_at next a).clock) (cond (a == n) (msgs_to b (stepped_by parts parameters s event).sends) [])
  sent_all a b = go (a == n) refl
    where
      go : (c : Bool) → (a == n) ≡ c → AllByRecursion (MsgStands parts a b (node_at next a).clock) (cond c (msgs_to b (stepped_by parts parameters s event).sends) [])
      go false e = tt
      go true e = subst (λ k. AllByRecursion (MsgStands parts k b (node_at next k).clock) (msgs_to b (stepped_by parts parameters s event).sends)) (sym (eqb-true a n e))
          (subst (λ c. AllByRecursion (MsgStands parts n b c) (msgs_to b (stepped_by parts parameters s event).sends)) (sym new_clock) (all_to parts n stamp b (stepped_by parts parameters s event).sends sends_stand))

  next_links : (a b : ℕ) → a < node_count parts → b < node_count parts → AllByRecursion (MsgStands parts a b (node_at next a).clock) (link_at parts next a b)
  next_links a b l m = subst (AllByRecursion (MsgStands parts a b (node_at next a).clock)) (sym (link_sent parts n a b (stepped_by parts parameters s event).sends (links_taken parts s.links event) en.here m links_size (all_go parts n stamp (stepped_by parts parameters s event).sends sends_stand)))
      (all_append (MsgStands parts a b (node_at next a).clock) (get_or (links_taken parts s.links event) (link_place parts a b) []) (cond (a == n) (msgs_to b (stepped_by parts parameters s event).sends) [])
      (taken_all (MsgStands parts a b (node_at next a).clock) event a b (all_weaker (MsgStands parts a b (node_at s a).clock) (MsgStands parts a b (node_at next a).clock) (later_stands parts a b (node_at s a).clock (node_at next a).clock (clock_grows a)) (link_at parts s a b) (times.links a b l m)))
      (sent_all a b))

  next_packets : (m : ℕ) → m < node_count parts → Stamped (node_at next m).clock (node_at next m).packets
  next_packets m here = subst (λ (u : NodeState). Stamped u.clock u.packets) (sym (next_node_at m))
      (at_nodes (λ j u. j < node_count parts → Stamped u.clock u.packets) (node_at s) n v
      (λ l. event_packets parts parameters n stamp (node_at s n)
      (all_weaker (λ (p : Msg). p.stamp ≤ (node_at s n).clock) (λ (p : Msg). p.stamp ≤ stamp) (λ p below. let above = above_clock (node_at s n).clock (taken_by parts s event) in omega arith) (node_at s n).packets (times.packets n l))
      event (taken_by parts s event) (λ msg e. let above = above_head (node_at s n).clock (taken_by parts s event) msg e in omega arith))
      (λ j other l. times.packets j l) m here)

  -- before every context has halted, clocks stay within the limit
  pub within_clocks : IsTrue (is_within_limit parts parameters s event) → has_halted s ≡ false → (m : ℕ) → m < node_count parts → (node_at next m).clock ≤ parameters.limit
  within_clocks within running m here = subst (λ (u : NodeState). u.clock ≤ parameters.limit) (sym (next_node_at m))
      (at_nodes (λ j u. j < node_count parts → u.clock ≤ parameters.limit) (node_at s) n v (λ l. leb-true stamp parameters.limit (either (nat_le stamp parameters.limit) (has_halted s) running within)) (λ j other l. times.clocks running j l) m here)
    where
      either : (b c : Bool) → c ≡ false → (b || c) ≡ true → b ≡ true
      either true c e is = refl
      either false c e is = absurd (false≢true (sym e ∙ is))

  next_clocks : IsTrue (is_within_limit parts parameters s event) → has_halted next ≡ false → (m : ℕ) → m < node_count parts → (node_at next m).clock ≤ parameters.limit
  next_clocks within running m here = go (has_halted s) refl
    where
      go : (b : Bool) → has_halted s ≡ b → (node_at next m).clock ≤ parameters.limit
      go true e = absurd (false≢true (sym running ∙ halted_stays parts parameters s sound.standing event enabled e))
      go false e = within_clocks within e m here

  pub step_times : IsTrue (is_within_limit parts parameters s event) → HasTimes parts parameters next
  step_times within = record { links = next_links; packets = next_packets; clocks = next_clocks within }

pub start_times : (parts : Parts) (parameters : Parameters) → HasTimes parts parameters (machine_start parts)
start_times parts parameters = record {
  links = λ a b l m. subst (AllByRecursion (MsgStands parts a b (node_at (machine_start parts) a).clock)) (sym (link_at_start parts a b)) tt;
  packets = λ n here. subst (λ (u : NodeState). Stamped u.clock u.packets) (sym (node_at_start parts n here)) tt;
  clocks = λ running n here. subst (λ (u : NodeState). u.clock ≤ parameters.limit) (sym (node_at_start parts n here)) (omega arith);
}
