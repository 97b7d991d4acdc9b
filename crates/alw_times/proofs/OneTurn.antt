-- A turn that sends nothing changes its own node's times alone.
use Rattle.std.proofs.Common.{◌≡◌, ℕ, ◌+◌, ◌≤◌, Bool, true, Option, List, [], sym, ap, ◌∙◌, arith}
use Rattle.std.proofs.lemmas.List.{set-get_or}
use Rattle.alw_num.specs.declared.addresses.NodeNo.{NodeNo}
use Rattle.alw_msg.specs.declared.events.Event.TheVariants.{Instr}
use Rattle.alw_msg.specs.declared.messages.Kind.{Kind}
use Rattle.alw_image.specs.declared.parts.Parts.{Parts}
use Rattle.alw_model.specs.declared.steps.Did.{Did}
use Rattle.alw_model.specs.declared.steps.Did.TheVariants.{Turn, Missed, Took, Packet, Handled, Evicted}
use Rattle.alw_model.specs.Counts.{is_turn}
use Rattle.alw_times.specs.declared.costs.Costs.{Costs}
use Rattle.alw_times.specs.declared.happenings.TimedMoment.{TimedMoment}
use Rattle.alw_times.specs.Happening.{IsTurnOf}
use Rattle.alw_times.specs.Times.{Times, start_by, start_of, finish_of, turn_cost, passed, kept}
use Rattle.alw_times.specs.Within.{TimesAreWithin}
use Rattle.alw_times.proofs.Bounds.{put_within}

module _ (parts : Parts) (costs : Costs) (times : Times) (at : NodeNo) (slot : Option ℕ) (last : ℕ) where
  abbrev pub begin : ℕ
  begin = start_by parts costs times slot (Instr at)

  abbrev of_turn : Option Kind → Did → List Bool → TimedMoment
  of_turn taken did woken = record { event = Instr at; slot = slot; last = last; taken = taken; did = did; woken = woken }

  module _ (happened : TimedMoment) (turn : IsTurnOf at slot last happened) where
    moment_is : happened ≡ of_turn happened.taken happened.did happened.woken
    moment_is = λ i. record { event = turn.event_is i; slot = turn.slot_is i; last = turn.last_is i; taken = happened.taken; did = happened.did; woken = happened.woken }

    pub turn_starts : begin ≡ start_of parts costs times happened
    turn_starts = λ i. start_by parts costs times (sym turn.slot_is i) (sym turn.event_is i)

    pub turn_finishes : begin + turn_cost costs last slot ≡ finish_of parts costs times happened []
    turn_finishes = sym (ap (λ (m : TimedMoment). finish_of parts costs times m []) moment_is)

    -- the port stays as it was, and so does all that isn't the node's own
    by_did : (taken : Option Kind) (did : Did) (woken : List Bool) → is_turn did ≡ true → passed parts costs times (of_turn taken did woken) [] ≡ kept (Instr at) begin (begin + turn_cost costs last slot) times
    by_did taken (Turn s outcome) woken is = λ i. kept (Instr at) begin (begin + turn_cost costs last slot) (record times { ports = set-get_or times.ports at.0 0 i })
    by_did taken (Missed s) woken is = absurd (cc)
    by_did taken Took woken is = absurd (cc)
    by_did taken Packet woken is = absurd (cc)
    by_did taken (Handled kind state) woken is = absurd (cc)
    by_did taken Evicted woken is = absurd (cc)

    pub turn_passes : kept (Instr at) begin (begin + turn_cost costs last slot) times ≡ passed parts costs times happened []
    turn_passes = sym (ap (λ (m : TimedMoment). passed parts costs times m []) moment_is ∙ by_did happened.taken happened.did happened.woken turn.turn_is)

-- a time more is within a wider bound
pub turn_within : (more : ℕ) (times : Times) (at : NodeNo) (start finish : ℕ) → TimesAreWithin more times → start ≤ more → finish ≤ more → TimesAreWithin more (kept (Instr at) start finish times)
turn_within more times at start finish wide begins ends = record {
  starts = put_within more times.starts at.0 start wide.starts begins;
  processors = put_within more times.processors at.0 finish wide.processors ends;
  controllers = wide.controllers;
  ports = wide.ports;
  wakes = wide.wakes;
  arrivals = wide.arrivals;
  packets = wide.packets;
  latest = (let le = wide.latest in omega (arith, le, ends));
}
