-- Whether every context has halted stays where no turn halts its context.
use Rattle.std.proofs.Common.{◌≡◌, ◌==◌, false, length, IsTrue, refl, sym, ap, ◌∙◌}
use Rattle.sparc_table.specs.declared.outcomes.Outcome.TheVariants.{Done, Miss, Out, Halt, Trap}
use Rattle.alw_msg.specs.declared.events.Event.{Event}
use Rattle.alw_msg.specs.declared.events.Event.TheVariants.{Instr, Handle, Deliver, Evict}
use Rattle.alw_image.specs.declared.parts.Parts.{Parts}
use Rattle.alw_image.specs.Images.{node_count}
use Rattle.alw_image.specs.Parameters.{Parameters}
use Rattle.alw_model.specs.declared.steps.Did.{Did}
use Rattle.alw_model.specs.declared.steps.Did.TheVariants.{Turn, Missed, Took, Packet, Handled, Evicted}
use Rattle.alw_model.specs.Machine.{MachineState, is_enabled, has_halted, stepped_by, step}
use Rattle.alw_tally.specs.declared.remains.Remains.{Remains}
use Rattle.alw_tally.specs.Remaining.{remains_of, left_by, remains_after}
use Rattle.alw_tally.proofs.Ending.{halted_is}
use Rattle.alw_tally.proofs.Following.{remains_are}
use Rattle.alw_timing.specs.Takes.{halts_with}

left_live : (all : Remains) (did : Did) → halts_with did ≡ false → (left_by all did).live ≡ all.live
left_live all (Turn slot Done) is = refl
left_live all (Turn slot (Miss line mode)) is = refl
left_live all (Turn slot (Out word)) is = refl
left_live all (Turn slot Halt) is = absurd (cc)
left_live all (Turn slot (Trap type)) is = refl
left_live all (Missed slot) is = refl
left_live all Took is = refl
left_live all Packet is = refl
left_live all (Handled kind state) is = refl
left_live all Evicted is = refl

-- as many contexts haven't halted as before
live_stays : (all : Remains) (event : Event) (did : Did) → halts_with did ≡ false → (remains_after all event did).live ≡ all.live
live_stays all (Instr at) did is = left_live all did is
live_stays all (Handle at) did is = refl
live_stays all (Deliver from to) did is = left_live all did is
live_stays all (Evict at set) did is = left_live all did is

pub halts_alike : (parts : Parts) (parameters : Parameters) (s : MachineState) (event : Event) → length s.nodes ≡ node_count parts → IsTrue (is_enabled parts parameters s event) →
    halts_with (stepped_by parts parameters s event).did ≡ false → has_halted (step parts parameters s event) ≡ has_halted s
halts_alike parts parameters s event size enabled is =
    let next = step parts parameters s event in
    let live : (remains_of next.nodes).live ≡ (remains_of s.nodes).live =
    ap (λ (r : Remains). r.live) (remains_are parts parameters s event size enabled) ∙ live_stays (remains_of s.nodes) event (stepped_by parts parameters s event).did is in
    sym (halted_is (remains_of next.nodes) next refl) ∙ (λ i. live i == 0) ∙ halted_is (remains_of s.nodes) s refl
