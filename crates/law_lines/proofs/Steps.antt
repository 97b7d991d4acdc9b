-- Each line follows each enabled event of a machine that stands.
use Rattle.std.proofs.Common.{◌≡◌, ℕ, ◌-◌, ◌^◌, ◌<◌, ◌==◌, nat_lt, not, Bool, true, false, Option, Some, None, List, [], ◌∷◌, IsTrue, refl, sym, subst, ap, ◌∙◌}
use Rattle.std.specs.List.{AllByRecursion}
use Rattle.std.proofs.lemmas.Bool.{eqb-true, ltb-true, false≢true}
use Rattle.alw_num.specs.NodeSets.{has_node}
use Rattle.alw_msg.specs.declared.messages.Msg.{Msg}
use Rattle.alw_msg.specs.declared.events.Event.{Event}
use Rattle.alw_msg.specs.declared.events.Event.TheVariants.{Instr, Handle, Deliver, Evict}
use Rattle.alw_num.specs.declared.addresses.NodeNo.{NodeNo}
use Rattle.alw_image.specs.declared.parts.Parts.{Parts}
use Rattle.alw_image.specs.Images.{node_count, line_count}
use Rattle.alw_image.specs.Parameters.{Parameters}
use Rattle.alw_num.specs.Maps.{passes}
use Rattle.alw_msg.specs.Contents.{ToMemory, Content, ForMemory, ForCache, content, is_to_memory}
use Rattle.alw_model.specs.LimitLess.{full_map_of, is_trapped, is_in_progress}
use Rattle.alw_model.specs.Contexts.{running}
use Rattle.alw_model.specs.Messages.{home_node, is_at_home, is_fit}
use Rattle.alw_msg.specs.Events.{node_of}
use Rattle.alw_msg.specs.Lists.{is_nonempty, front}
use Rattle.alw_model.specs.NodeStates.{home_at, stamp_of, may, may_reach, may_deliver}
use Rattle.alw_model.specs.NodeSteps.{Stepped, clocked, node_step, deliver_by, at_home, handle_by, handle_front}
use Rattle.alw_model.specs.Machine.{MachineState, node_at, link_at, taken_by, is_enabled, after_step, step}
use Rattle.alw_model.specs.Lines.{LineState, line_of}
use Rattle.alw_model.proofs.Journals.{and_parts}
use Rattle.law_lines.specs.LineEvents.{Follows, in_home, in_packet, in_delivery, in_taken, in_queue, line_events}
use Rattle.law_lines.specs.Standing.{IsPacket, IsStanding}
use Rattle.law_lines.proofs.Views.{next_machine}
use Rattle.law_lines.proofs.Instructions.{instr_follows}
use Rattle.law_lines.proofs.Leaving.{evict_follows}
use Rattle.law_lines.proofs.Arrivals.{arrival_follows}
use Rattle.law_lines.proofs.HomeEvents.{trap_follows, hardware_follows, handler_follows}

-- what a fit message says
pub record Fit (parts : Parts) (from to : ℕ) (msg : Msg) (c : Content) : Type 0 where
  pub source : msg.src.0 ≡ from
  pub exists : msg.line.0 < line_count parts
  pub home : IsTrue (is_at_home c (home_node parts msg.line.0) from to)

pub fit_is : (parts : Parts) (from to : ℕ) (msg : Msg) → IsTrue (is_fit parts from to msg) → Fit parts from to msg (content msg)
fit_is parts from to msg is =
    let a = and_parts (msg.src.0 == from) _ is in
    let b = and_parts (nat_lt msg.line.0 (line_count parts)) _ a.1 in
    let c = and_parts (nat_lt msg.stamp (2 ^ 32 - 1)) _ b.1 in
    record { source = eqb-true msg.src.0 from a.0; exists = ltb-true msg.line.0 (line_count parts) b.0; home = c.1 }

pub not_is : (b : Bool) → IsTrue (not b) → b ≡ false
not_is true is = absurd (false≢true is)
not_is false is = refl

-- what an enabled event has
pub record Enabled (parts : Parts) (parameters : Parameters) (s : MachineState) (event : Event) : Type 0 where
  pub here : node_of event < node_count parts
  pub may_be : IsTrue (may parts parameters (node_at s (node_of event)) event (taken_by parts s event))

pub enabled_is : (parts : Parts) (parameters : Parameters) (s : MachineState) (event : Event) → IsTrue (is_enabled parts parameters s event) → Enabled parts parameters s event
enabled_is parts parameters s event is =
    let n = node_of event in
    let a = and_parts (n == n) _ is in
    let b = and_parts (nat_lt n (node_count parts)) _ a.1 in
    let c = and_parts (nat_lt (node_at s n).clock (2 ^ 32 - 1)) _ b.1 in
    record { here = ltb-true n (node_count parts) b.0; may_be = c.1 }

module _ (parts : Parts) (parameters : Parameters) (s : MachineState) (standing : IsStanding parts parameters s) (members : (l : ℕ) → l < line_count parts → (j : ℕ) → has_node (line_of parts parameters s l).home.pointers j ≡ true → j < node_count parts) (k : ℕ) (exists : k < line_count parts) where
  -- the pointers of a home's entry are nodes
  points_of : (n l : ℕ) → l < line_count parts → home_node parts l ≡ n → (j : ℕ) → has_node (full_map_of (home_at parts (node_at s n) l)).pointers j ≡ true → j < node_count parts
  points_of n l lines home j has = members l lines j (ap (λ a. has_node (full_map_of (home_at parts (node_at s a) l)).pointers j) home ∙ has)

  module _ (from to : NodeNo) (f : from.0 < node_count parts) (here : to.0 < node_count parts) (msg : Msg) (e : front (link_at parts s from.0 to.0) ≡ Some msg) where
    abbrev stamp_taken : ℕ
    stamp_taken = stamp_of (node_at s to.0).clock (Some msg)

    abbrev delivered : Stepped → LineState
    delivered stepped = line_of parts parameters (after_step parts s (Deliver from to) (clocked stamp_taken stepped)) k

    memory_follows : (said : ToMemory) → content msg ≡ ForMemory said → Fit parts from.0 to.0 msg (ForMemory said) → is_in_progress (home_at parts (node_at s to.0) msg.line.0).meta ≡ false
        → (b : Bool) → is_trapped parameters.pointers (home_at parts (node_at s to.0) msg.line.0) msg.src.0 said ≡ b → Follows (node_count parts) (line_of parts parameters s k) (in_home k msg.line.0 msg.src.0 b) (delivered (at_home parts parameters to.0 stamp_taken (node_at s to.0) msg said b))
    memory_follows said is fit free true traps = trap_follows parts parameters s standing from.0 to.0 f here stamp_taken k exists msg e (eqb-true _ _ fit.home) fit.exists fit.source said is
    memory_follows said is fit free false calm = hardware_follows parts parameters s standing from.0 to.0 f here stamp_taken k exists msg e (eqb-true _ _ fit.home) fit.exists fit.source said is calm free (points_of to.0 msg.line.0 fit.exists (eqb-true _ _ fit.home))

    message_follows : (c : Content) → content msg ≡ c → Fit parts from.0 to.0 msg c → IsTrue (may_reach parts parameters (node_at s to.0) msg.line.0 c) → Follows (node_count parts) (line_of parts parameters s k) (in_delivery parts parameters to.0 (node_at s to.0) k msg c) (delivered (deliver_by parts parameters to.0 stamp_taken (node_at s to.0) msg c))
    message_follows (ForMemory said) is fit reach = memory_follows said is fit (not_is _ reach) (is_trapped parameters.pointers (home_at parts (node_at s to.0) msg.line.0) msg.src.0 said) refl
    message_follows (ForCache said) is fit reach = arrival_follows parts parameters s standing from.0 to.0 f here stamp_taken k exists msg e (eqb-true _ _ fit.home) fit.exists said is

  delivery_follows : (from to : NodeNo) → from.0 < node_count parts → to.0 < node_count parts → (head : Option Msg) → front (link_at parts s from.0 to.0) ≡ head → IsTrue (passes (may_deliver parts parameters from.0 to.0 (node_at s to.0)) head)
      → Follows (node_count parts) (line_of parts parameters s k) (in_taken parts parameters to.0 (node_at s to.0) k head) (line_of parts parameters (after_step parts s (Deliver from to) (node_step parts parameters to.0 (node_at s to.0) (Deliver from to) head)) k)
  delivery_follows from to f here None e may = absurd (false≢true may)
  delivery_follows from to f here (Some msg) e may =
      let p = and_parts (is_fit parts from.0 to.0 msg) _ may in
      message_follows from to f here msg e (content msg) refl (fit_is parts from.0 to.0 msg p.0) p.1

  packet_follows : (n stamp : ℕ) → n < node_count parts → (packet : Msg) (waiting : List Msg) → (node_at s n).packets ≡ packet ∷ waiting → IsPacket parts n packet → (c : Content) → content packet ≡ c
      → Follows (node_count parts) (line_of parts parameters s k) (in_packet k packet c)
      (line_of parts parameters
      (next_machine parts parameters s n
      (clocked stamp (handle_by parts parameters n stamp (record (node_at s n) { packets = waiting }) packet c)).node s.links
      (clocked stamp (handle_by parts parameters n stamp (record (node_at s n) { packets = waiting }) packet c)).sends k) k)
  packet_follows n stamp here packet waiting queue packed (ForMemory said) is = handler_follows parts parameters s standing n here stamp k exists packet waiting queue packed said is (points_of n packet.line.0 packed.line packed.home)
  packet_follows n stamp here packet waiting queue packed (ForCache said) is = absurd (false≢true (sym (ap is_to_memory is) ∙ packed.to_memory))

  queue_follows : (n stamp : ℕ) → n < node_count parts → (q : List Msg) → (node_at s n).packets ≡ q → IsTrue (is_nonempty q)
      → Follows (node_count parts) (line_of parts parameters s k) (in_queue k q)
      (line_of parts parameters
      (next_machine parts parameters s n (clocked stamp (handle_front parts parameters n stamp (node_at s n) q)).node s.links
      (clocked stamp (handle_front parts parameters n stamp (node_at s n) q)).sends k) k)
  queue_follows n stamp here [] e some = absurd (false≢true some)
  queue_follows n stamp here (packet ∷ waiting) e some = packet_follows n stamp here packet waiting e (subst (AllByRecursion (IsPacket parts n)) e ((standing.each n here).packets)).0 (content packet) refl

  -- the line follows the event
  pub line_follows : (event : Event) → IsTrue (is_enabled parts parameters s event) → Follows (node_count parts) (line_of parts parameters s k) (line_events parts parameters s event k) (line_of parts parameters (step parts parameters s event) k)
  line_follows (Instr at) is = instr_follows parts parameters s standing at.0 (enabled_is parts parameters s (Instr at) is).here (stamp_of (node_at s at.0).clock None) k exists (running (node_at s at.0).slots (node_at s at.0).current)
  line_follows (Handle at) is = let en = enabled_is parts parameters s (Handle at) is in queue_follows at.0 (stamp_of (node_at s at.0).clock None) en.here (node_at s at.0).packets refl en.may_be
  line_follows (Deliver from to) is =
      let en = enabled_is parts parameters s (Deliver from to) is in
      let p = and_parts (nat_lt from.0 (node_count parts)) _ en.may_be in
      delivery_follows from to (ltb-true from.0 (node_count parts) p.0) en.here (front (link_at parts s from.0 to.0)) refl p.1
  line_follows (Evict at set) is = evict_follows parts parameters s standing at.0 (enabled_is parts parameters s (Evict at set) is).here (stamp_of (node_at s at.0).clock None) k exists set
