-- Of each node the first of its events that are due.
use Rattle.std.specs.Prelude.{◌≡◌, ◌≢◌, ℕ, ◌^◌, ◌-◌, ◌<◌, ◌≤◌, true, false, Option, Some, None, List, length, map, slice_index_or}
use Rattle.alw_msg.specs.declared.events.Event.{Event}
use Rattle.alw_msg.specs.declared.messages.Msg.{Msg}
use Rattle.alw_msg.specs.Events.{node_of, is_evict}
use Rattle.alw_image.specs.Images.{node_count}
use Rattle.alw_ready.specs.Rows.{delivery}
use Rattle.alw_ready.specs.Changes.{is_fed_for}
use Rattle.alw_mesh.specs.Histories.{History, may_be_next}
use Rattle.alw_times.specs.declared.costs.Costs.{Costs}
use Rattle.alw_times.specs.Times.{Times}
use Rattle.alw_due.specs.declared.keys.Due.{Due}
use Rattle.alw_due.specs.Due.{is_due_for}
use Rattle.alw_due.specs.Picks.{earlier, IsOneOf, IsFirstOf, IsBestOf}

-- ---- sets of events

-- a main event of a node that may be next
abbrev pub IsOf : History → ℕ → Event → Type 0
IsOf h n event = (may_be_next h event ≡ true) × (is_evict event ≡ false) × (node_of event ≡ n)

-- one event, where it may be next
abbrev pub IsEvent : History → Event → Event → Type 0
IsEvent h one event = (event ≡ one) × (may_be_next h event ≡ true)

-- a delivery to a node that may be next
pub record IsDeliveryTo (h : History) (to : ℕ) (event : Event) : Type 0 where
  pub from : ℕ
  pub event_is : event ≡ delivery from to
  pub may : may_be_next h event ≡ true

-- ---- what is kept

-- what stands for a node
abbrev pub best_at : List (Option Due) → ℕ → Option Due
best_at bests n = slice_index_or bests n None

-- when it would start, and the greatest number where there is nothing
abbrev pub start_kept : Option Due → ℕ
start_kept None = 2 ^ 64 - 1
start_kept (Some due) = due.start

-- something for each of 256 nodes, with its start
pub record AreKept (bests : List (Option Due)) (starts : List ℕ) : Type 0 where
  pub counted : length bests ≡ 256
  pub starts_are : starts ≡ map start_kept bests

-- what stands at a place starts no later than anything, and before all that stands at lower places
pub record IsFirstKept (bests : List (Option Due)) (first : Option Due) : Type 0 where
  pub place : ℕ
  pub stands : first ≡ best_at bests place
  pub least : (n : ℕ) (other : Due) → best_at bests n ≡ Some other → start_kept first ≤ other.start
  pub lowest : (n : ℕ) (other : Due) → n < place → best_at bests n ≡ Some other → start_kept first < other.start

-- something stands for a node now, and all else as before
pub record IsPut (n : ℕ) (best : Option Due) (before after : List (Option Due)) : Type 0 where
  pub here : best_at after n ≡ best
  pub others : (m : ℕ) → m ≢ n → best_at after m ≡ best_at before m

-- nothing stands for nodes from a number on
abbrev pub NoneIsPast : ℕ → List (Option Due) → Type 0
NoneIsPast count bests = (n : ℕ) → count ≤ n → best_at bests n ≡ None

-- ---- what they are

-- of each node the first of its events that are due
pub record AreBests (h : History) (costs : Costs) (times : Times) (bests : List (Option Due)) : Type 0 where
  pub past : NoneIsPast (node_count h.image) bests
  pub each : (n : ℕ) → n < node_count h.image → IsBestOf h costs times (IsOf h n) (best_at bests n)

-- one of a node's events, and the first but for deliveries of what was sent
pub record IsBestBut (h : History) (costs : Costs) (times : Times) (own : ℕ) (sends : List (ℕ × Msg)) (n : ℕ) (best : Option Due) : Type 0 where
  pub one : IsOneOf h costs times (IsOf h n) best
  pub first : (other : Event) → IsOf h n other → is_fed_for own sends other ≡ false → is_due_for h costs times other ≡ true → IsFirstOf h costs times best other

-- the same of each node but the one that sent
pub record AreBestsBut (h : History) (costs : Costs) (times : Times) (own : ℕ) (sends : List (ℕ × Msg)) (bests : List (Option Due)) : Type 0 where
  pub past : NoneIsPast (node_count h.image) bests
  pub each : (n : ℕ) → n < node_count h.image → n ≢ own → IsBestBut h costs times own sends n (best_at bests n)

-- a node was looked at again
pub record NodeIsRenewed (h : History) (costs : Costs) (times : Times) (n : ℕ) (before after : List (Option Due)) : Type 0 where
  pub best : Option Due
  pub best_is : IsBestOf h costs times (IsOf h n) best
  pub put : IsPut n best before after

-- a delivery was compared with what stood for its node
pub record DeliveryIsCompared (h : History) (costs : Costs) (times : Times) (from to : ℕ) (before after : List (Option Due)) : Type 0 where
  pub due : Option Due
  pub due_is : IsBestOf h costs times (IsEvent h (delivery from to)) due
  pub put : IsPut to (earlier (best_at before to) due) before after
