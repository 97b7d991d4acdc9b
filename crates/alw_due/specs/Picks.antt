-- The first of some events that are due, with its key.
use Rattle.std.specs.Prelude.{◌≡◌, ℕ, ◌^◌, ◌-◌, ◌<◌, ◌≤◌, true, false, cond, Option, Some, None, List, [], ◌∷◌, ◌⊎◌}
use Rattle.alw_num.specs.declared.addresses.NodeNo.{NodeNo}
use Rattle.alw_num.specs.NodeSets.{Nodes, has_node}
use Rattle.alw_msg.specs.declared.events.Event.{Event}
use Rattle.alw_msg.specs.Events.{node_of}
use Rattle.alw_image.specs.declared.parts.Parts.{Parts}
use Rattle.alw_ready.specs.Rows.{delivery}
use Rattle.alw_mesh.specs.Histories.{History}
use Rattle.alw_times.specs.declared.costs.Costs.{Costs}
use Rattle.alw_times.specs.Times.{Times, arrival_of}
use Rattle.alw_due.specs.declared.keys.Due.{Due}
use Rattle.alw_due.specs.Due.{is_due_for, rank_of, sender_of, key_for, is_before}

-- the numbers that an event is compared by, and those behind its start
abbrev pub later_of : Due → List ℕ
later_of due = node_of due.event ∷ rank_of due.event ∷ due.arrival ∷ sender_of due.event ∷ []

abbrev pub numbers_of : Due → List ℕ
numbers_of due = due.start ∷ later_of due

-- of two events the one that comes first
abbrev pub earlier : Option Due → Option Due → Option Due
earlier None other = other
earlier (Some first) None = Some first
earlier (Some first) (Some second) = cond (is_before (numbers_of second) (numbers_of first)) (Some second) (Some first)

-- an event with its key, whose start isn't the greatest number
pub record IsKeyOf (h : History) (costs : Costs) (times : Times) (event : Event) (due : Due) : Type 0 where
  pub event_is : due.event ≡ event
  pub key_is : numbers_of due ≡ key_for h costs times event
  pub early : due.start < 2 ^ 64 - 1

-- an event is due, and has this key
pub record HasKey (h : History) (costs : Costs) (times : Times) (due : Due) : Type 0 where
  pub due_is : is_due_for h costs times due.event ≡ true
  pub key_is : numbers_of due ≡ key_for h costs times due.event
  pub early : due.start < 2 ^ 64 - 1

-- an event that is one of some
abbrev pub IsOneOf : History → Costs → Times → (Event → Type 0) → Option Due → Type 0
IsOneOf h costs times In None = Unit {0}
IsOneOf h costs times In (Some due) = HasKey h costs times due × In due.event

-- it is another one, or comes before it
abbrev pub IsFirstOf : History → Costs → Times → Option Due → Event → Type 0
IsFirstOf h costs times None other = ⊥
IsFirstOf h costs times (Some due) other = (other ≡ due.event) ⊎ (is_before (key_for h costs times due.event) (key_for h costs times other) ≡ true)

-- the first of some events that are due, and None where none is
pub record IsBestOf (h : History) (costs : Costs) (times : Times) (In : Event → Type 0) (best : Option Due) : Type 0 where
  pub one : IsOneOf h costs times In best
  pub first : (other : Event) → In other → is_due_for h costs times other ≡ true → IsFirstOf h costs times best other

-- ---- senders to a node

-- when the message arrived that a node would take from another
abbrev pub arrived_from : Parts → Times → ℕ → ℕ → ℕ
arrived_from parts times to from = arrival_of parts times (delivery from to)

-- of some senders the one whose message arrived first, and of several the lowest
pub record IsFirstOfSenders (parts : Parts) (times : Times) (to : ℕ) (senders : Nodes) (first : ℕ) : Type 0 where
  pub has : has_node senders first ≡ true
  pub least : (from : ℕ) → has_node senders from ≡ true → arrived_from parts times to first ≤ arrived_from parts times to from
  pub lowest : (from : ℕ) → has_node senders from ≡ true → from < first → arrived_from parts times to first < arrived_from parts times to from

-- the same, and None where there is no sender
abbrev pub IsFirstSender : Parts → Times → ℕ → Nodes → Option NodeNo → Type 0
IsFirstSender parts times to senders None = (from : ℕ) → has_node senders from ≡ false
IsFirstSender parts times to senders (Some first) = IsFirstOfSenders parts times to senders first.0
