-- What a turn leaves of its node: one slot has run, with the registers that it had where the turn trapped; and its hold has ended.
use Rattle.std.proofs.Common.{◌≡◌, ℕ, ◌+◌, ◌<◌, ◌==◌, Bool, true, false, not, ◌&&◌, Option, Some, None, is_some, List, [], ◌∷◌, length, refl, sym, ap, subst, ◌∙◌, arith}
use Rattle.std.proofs.lemmas.Bool.{eq-eqb, ne_eqb, eqb-true}
use Rattle.std.proofs.lemmas.List.{get_or-set_same, length-set}
use Rattle.alw_num.specs.declared.states.Mode.{Mode}
use Rattle.alw_num.specs.Weights.{digit}
use Rattle.sparc_table.specs.declared.registers.Regs.{Regs}
use Rattle.sparc_table.specs.declared.outcomes.Need.{Need}
use Rattle.sparc_table.specs.declared.outcomes.Need.TheVariants as needs
use Rattle.sparc_table.specs.declared.outcomes.Outcome.{Outcome}
use Rattle.sparc_table.specs.declared.outcomes.Outcome.TheVariants.{Trap}
use Rattle.sparc_table.specs.declared.outcomes.Outcome.TheVariants as outcomes
use Rattle.sparc_table.specs.Meaning.{OutcomeIsStill}
use Rattle.sparc_table.specs.Turns.{need_of, turn_of}
use Rattle.sparc_table.proofs.Effects.{orderly_turn}
use Rattle.alw_msg.specs.declared.messages.Msg.{Msg}
use Rattle.alw_msg.specs.declared.events.Event.{Event}
use Rattle.alw_msg.specs.declared.events.Event.TheVariants.{Instr, Handle, Deliver, Evict}
use Rattle.alw_msg.specs.Contents.{ToMemory, Content, ForMemory, ForCache, content}
use Rattle.alw_image.specs.declared.parts.Parts.{Parts}
use Rattle.alw_image.specs.Images.{line_count, zero_line}
use Rattle.alw_image.specs.Parameters.{Parameters}
use Rattle.alw_model.specs.declared.steps.Did.{Did}
use Rattle.alw_model.specs.declared.steps.Did.TheVariants.{Turn, Missed, Took, Packet, Handled, Evicted}
use Rattle.alw_model.specs.LimitLess.{is_trapped}
use Rattle.alw_model.specs.Caches.{Copy, granted_copy}
use Rattle.alw_model.specs.Contexts.{Slot, slot_at, no_slot, running, ran}
use Rattle.alw_model.specs.NodeStates.{NodeState, home_at, stamp_of}
use Rattle.alw_model.specs.ProcessorSteps.{status_after}
use Rattle.alw_model.specs.NodeSteps.{access, instr_by, instr, at_home, deliver_by, deliver, handle_by, handle_front, event_at, node_step}
use Rattle.alw_model.specs.Counts.{is_turn, uses_hold}
use Rattle.alw_ready.specs.Changes.{hold_count}
use Rattle.alw_tally.specs.Moments.{HasPc}
use Rattle.alw_tally.proofs.Sums.{weigh_set}
use Rattle.law_machine.proofs.FlatSlots.{runs_ready}
use Rattle.alw_mesh.specs.Keeping.{PcOf, HasTrapPc}

pub record TurnLeft (node : NodeState) (slot : ℕ) (outcome : Outcome) (after : List Slot) : Type 0 where
  pub regs : Regs
  pub within : slot < length node.slots
  pub slots : after ≡ ran node.slots slot regs (status_after regs outcome)
  pub still : OutcomeIsStill outcome → regs ≡ (slot_at node.slots slot).regs

abbrev pub Left : NodeState → List Slot → Did → Type 0
Left node after (Turn slot outcome) = TurnLeft node slot outcome after
Left node after _ = Unit {0}

module _ (parts : Parts) (parameters : Parameters) (number stamp : ℕ) (node : NodeState) where
  left_by_copy : (slot line : ℕ) (mode : Mode) (o : Option Copy) → slot < length node.slots → let s = access parts parameters number stamp node slot line mode o in Left node s.node.slots s.did
  left_by_copy slot line mode None within = tt
  left_by_copy slot line mode (Some copy) within =
      let after = turn_of parts.code (slot_at node.slots slot).regs (line_count parts) copy.body in
      record { regs = after.0; within = within; slots = refl; still = λ h. ((orderly_turn parts.code (slot_at node.slots slot).regs (line_count parts) copy.body).still h).0 }

  left_by_need : (slot : ℕ) (need : Need) → slot < length node.slots → let s = instr_by parts parameters number stamp node slot need in Left node s.node.slots s.did
  left_by_need slot (needs.Copy line mode) within = left_by_copy slot line.0 mode (granted_copy parameters.sets node.cache line.0 mode) within
  left_by_need slot needs.Nothing within =
      let after = turn_of parts.code (slot_at node.slots slot).regs (line_count parts) zero_line in
      record { regs = after.0; within = within; slots = refl; still = λ h. ((orderly_turn parts.code (slot_at node.slots slot).regs (line_count parts) zero_line).still h).0 }
  left_by_need slot (needs.Trap type) within =
      let after = turn_of parts.code (slot_at node.slots slot).regs (line_count parts) zero_line in
      record { regs = after.0; within = within; slots = refl; still = λ h. ((orderly_turn parts.code (slot_at node.slots slot).regs (line_count parts) zero_line).still h).0 }

  left_by_slot : (o : Option ℕ) → running node.slots node.current ≡ o → let s = instr parts parameters number stamp node o in Left node s.node.slots s.did
  left_by_slot None runs = tt
  left_by_slot (Some slot) runs = left_by_need slot (need_of parts.code (slot_at node.slots slot).regs (line_count parts)) (runs_ready node.slots node.current slot runs).below

  left_at_home : (msg : Msg) (said : ToMemory) (traps : Bool) → let s = at_home parts parameters number stamp node msg said traps in Left node s.node.slots s.did
  left_at_home msg said true = tt
  left_at_home msg said false = tt

  left_by_content : (msg : Msg) (c : Content) → let s = deliver_by parts parameters number stamp node msg c in Left node s.node.slots s.did
  left_by_content msg (ForMemory said) = left_at_home msg said (is_trapped parameters.pointers (home_at parts node msg.line.0) msg.src.0 said)
  left_by_content msg (ForCache said) = tt

  left_deliver : (taken : Option Msg) → let s = deliver parts parameters number stamp node taken in Left node s.node.slots s.did
  left_deliver None = tt
  left_deliver (Some msg) = left_by_content msg (content msg)

  left_handle : (packet : Msg) (c : Content) (rest : List Msg) → let s = handle_by parts parameters number stamp (record node { packets = rest }) packet c in Left node s.node.slots s.did
  left_handle packet (ForCache said) rest = tt
  left_handle packet (ForMemory said) rest = tt

  left_front : (packets : List Msg) → let s = handle_front parts parameters number stamp node packets in Left node s.node.slots s.did
  left_front [] = tt
  left_front (packet ∷ rest) = left_handle packet (content packet) rest

  left_event : (event : Event) (taken : Option Msg) → let s = event_at parts parameters number stamp node event taken in Left node s.node.slots s.did
  left_event (Instr at) taken = left_by_slot (running node.slots node.current) refl
  left_event (Handle at) taken = left_front node.packets
  left_event (Deliver from to) taken = left_deliver taken
  left_event (Evict at emptied) taken = tt

-- the step of a node
pub left_step : (parts : Parts) (parameters : Parameters) (number : ℕ) (node : NodeState) (event : Event) (taken : Option Msg) → let s = node_step parts parameters number node event taken in Left node s.node.slots s.did
left_step parts parameters number node event taken = left_event parts parameters number (stamp_of node.clock taken) node event taken

-- what is no turn is asked for its holds
no_turn : (b changes : Bool) → (not (b && false) && changes) ≡ changes
no_turn true changes = refl
no_turn false changes = refl

-- a turn ended a hold where there are fewer
pub used_is : (node : NodeState) (after : List Slot) (did : Did) → Left node after did → (is_turn did && not (hold_count after == hold_count node.slots)) ≡ uses_hold node did
used_is node after (Turn slot outcome) left = go (is_some (slot_at node.slots slot).hold) refl
  where
    changed : hold_count after + digit (is_some (slot_at node.slots slot).hold) ≡ hold_count node.slots + 0
    changed = ap (λ slots. hold_count slots + digit (is_some (slot_at node.slots slot).hold)) left.slots ∙ weigh_set (λ (s : Slot). digit (is_some s.hold)) node.slots slot _ no_slot left.within

    go : (b : Bool) → is_some (slot_at node.slots slot).hold ≡ b → not (hold_count after == hold_count node.slots) ≡ is_some (slot_at node.slots slot).hold
    go true held = rw (ne_eqb (hold_count after) (hold_count node.slots) (λ same. absurd (let one = ap digit held in omega (arith, one, changed)))) (sym held)
    go false free = rw (eq-eqb (hold_count after) (hold_count node.slots) (let none = ap digit free in omega (arith, none, changed))) (sym free)
used_is node after (Missed slot) left = refl
used_is node after Took left = refl
used_is node after Packet left = refl
used_is node after (Handled kind state) left = refl
used_is node after Evicted left = refl

-- a turn of a node without a hold leaves it without one
pub none_given : (node : NodeState) (after : List Slot) (did : Did) → Left node after did
    → (not (hold_count node.slots == 0 && is_turn did) && not (hold_count after == hold_count node.slots)) ≡ not (hold_count after == hold_count node.slots)
none_given node after (Turn slot outcome) left = go (hold_count node.slots == 0) refl
  where
    left_none : hold_count node.slots ≡ 0 → hold_count after ≡ hold_count node.slots
    left_none none =
        let changed = ap (λ slots. hold_count slots + digit (is_some (slot_at node.slots slot).hold)) left.slots ∙ weigh_set (λ (s : Slot). digit (is_some s.hold)) node.slots slot _ no_slot left.within in
        omega (arith, none, changed)

    go : (b : Bool) → (hold_count node.slots == 0) ≡ b → (not (b && true) && not (hold_count after == hold_count node.slots)) ≡ not (hold_count after == hold_count node.slots)
    go true none = sym (ap not (eq-eqb (hold_count after) (hold_count node.slots) (left_none (eqb-true (hold_count node.slots) 0 none))))
    go false some = refl
none_given node after (Missed slot) left = no_turn (hold_count node.slots == 0) _
none_given node after Took left = no_turn (hold_count node.slots == 0) _
none_given node after Packet left = no_turn (hold_count node.slots == 0) _
none_given node after (Handled kind state) left = no_turn (hold_count node.slots == 0) _
none_given node after Evicted left = no_turn (hold_count node.slots == 0) _

-- a slot that has trapped has the PC that it had
pub pc_is : (node : NodeState) (after : List Slot) (did : Did) (pc : ℕ) → Left node after did → HasTrapPc after pc did → HasPc node pc did
pc_is node after (Turn slot (Trap type)) pc left has =
    let fits : slot < length after = rw (left.slots, length-set node.slots slot (record { regs = left.regs; status = status_after left.regs (Trap type); hold = None })) left.within in
    let ended = ap (λ slots. (slot_at slots slot).status) left.slots ∙ ap (λ (s : Slot). s.status) (get_or-set_same node.slots slot (record { regs = left.regs; status = status_after left.regs (Trap type); hold = None }) no_slot left.within) in
    let at : pc ≡ left.regs.pc = subst (PcOf pc) ended (has fits) in
    at ∙ ap (λ (r : Regs). r.pc) (left.still tt)
pc_is node after (Turn slot outcomes.Done) pc left has = tt
pc_is node after (Turn slot (outcomes.Miss line mode)) pc left has = tt
pc_is node after (Turn slot (outcomes.Out word)) pc left has = tt
pc_is node after (Turn slot outcomes.Halt) pc left has = tt
pc_is node after (Missed slot) pc left has = tt
pc_is node after Took pc left has = tt
pc_is node after Packet pc left has = tt
pc_is node after (Handled kind state) pc left has = tt
pc_is node after Evicted pc left has = tt
