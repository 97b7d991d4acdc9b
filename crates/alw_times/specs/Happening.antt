-- What times depend on of an event that happened.
use Rattle.std.specs.Prelude.{◌≡◌, ℕ, Bool, true, not, ◌&&◌, Option, Some, None, List, map}
use Rattle.std.specs.List.{range_with_len}
use Rattle.alw_num.specs.declared.addresses.NodeNo.{NodeNo}
use Rattle.alw_msg.specs.declared.events.Event.TheVariants.{Instr}
use Rattle.alw_msg.specs.declared.messages.Kind.{Kind}
use Rattle.alw_msg.specs.declared.messages.Msg.{Msg}
use Rattle.alw_msg.specs.Statuses.{is_ready}
use Rattle.alw_model.specs.Contexts.{Slot, slot_at, running}
use Rattle.alw_model.specs.Counts.{is_turn}
use Rattle.alw_model.specs.Runs.{Moment}
use Rattle.alw_times.specs.declared.happenings.TimedMoment.{TimedMoment}

-- the kind of the message that an event takes
abbrev pub kind_of : Option Msg → Option Kind
kind_of None = None
kind_of (Some msg) = Some msg.kind

-- a slot becomes Ready
abbrev pub becomes_ready : List Slot → List Slot → ℕ → Bool
becomes_ready before after slot = not (is_ready (slot_at before slot).status) && is_ready (slot_at after slot).status

abbrev pub happened_of : Moment → TimedMoment
happened_of moment = record {
  event = moment.entry.event;
  slot = running moment.before.slots moment.before.current;
  last = moment.before.current;
  taken = kind_of moment.taken;
  did = moment.stepped.did;
  woken = map (becomes_ready moment.before.slots moment.stepped.node.slots) (range_with_len 0 4);
}

-- what happened was a turn of a node, with the slot that could run and the one that ran last
pub record IsTurnOf (at : NodeNo) (slot : Option ℕ) (last : ℕ) (happened : TimedMoment) : Type 0 where
  pub event_is : happened.event ≡ Instr at
  pub slot_is : happened.slot ≡ slot
  pub last_is : happened.last ≡ last
  pub turn_is : is_turn happened.did ≡ true
