-- Windows of cycles: each node goes on by itself through one, since what another node sends meanwhile arrives behind it.
use Rattle.std.specs.Prelude.{◌≡◌, ℕ, ◌+◌, ◌<◌, ◌≤◌, ◌==◌, true, false, List, [], ◌∷◌, ◌++◌, filter, ◌⊎◌}
use Rattle.std.specs.List.{AllByRecursion}
use Rattle.alw_msg.specs.declared.events.Event.{Event}
use Rattle.alw_msg.specs.Events.{node_of, is_evict}
use Rattle.alw_image.specs.Images.{node_count}
use Rattle.alw_model.specs.Machine.{node_at, link_place, has_halted}
use Rattle.alw_mesh.specs.Histories.{History, state_of, may_be_next, grown}
use Rattle.alw_times.specs.declared.costs.Costs.{Costs}
use Rattle.alw_times.specs.Times.{queue_at}
use Rattle.alw_due.specs.Due.{times_in, start_for, is_due_for, key_for, is_before, IsFirstDue, EventsAreTimed}

-- ---- what a message takes

-- A message to another node holds its sender's port, and takes a hop or more: no message takes fewer cycles than this from the start of the event that sends it.
abbrev pub lookahead : Costs → ℕ
lookahead costs = costs.send + costs.hop

-- when the messages arrive that are under way from one node to another, in order
abbrev pub arrivals_between : History → Costs → ℕ → ℕ → List ℕ
arrivals_between h costs from to = queue_at (times_in h costs).arrivals (link_place h.image from to)

-- behind those that there were come others, none before this time
pub record GoOnFrom (time : ℕ) (before after : List ℕ) : Type 0 where
  pub more : List ℕ
  pub after_is : after ≡ before ++ more
  pub late : AllByRecursion (λ arrival. time ≤ arrival) more

-- ---- a node by itself

-- when an event would start where it comes next, and what it is compared by
abbrev pub start_next : History → Costs → Event → ℕ
start_next h costs event = start_for h costs (times_in h costs) event

abbrev pub key_next : History → Costs → Event → List ℕ
key_next h costs event = key_for h costs (times_in h costs) event

-- a main event of a node that may be next and is due
pub record IsDueAt (h : History) (costs : Costs) (n : ℕ) (event : Event) : Type 0 where
  pub node : node_of event ≡ n
  pub main : is_evict event ≡ false
  pub may : may_be_next h event ≡ true
  pub due : is_due_for h costs (times_in h costs) event ≡ true

-- the first of these comes, where it starts below a bound
pub record ComesBelow (h : History) (costs : Costs) (n bound : ℕ) (event : Event) : Type 0 where
  pub due : IsDueAt h costs n event
  pub first : (other : Event) → IsDueAt h costs n other → (other ≡ event) ⊎ (is_before (key_next h costs event) (key_next h costs other) ≡ true)
  pub below : start_next h costs event < bound

-- a node's run alone, below a bound: one after another its first events come, while all other nodes stand still
abbrev pub RunsAlone : History → Costs → ℕ → ℕ → List Event → Type 0
RunsAlone h costs n bound [] = Unit {0}
RunsAlone h costs n bound (event ∷ rest) = ComesBelow h costs n bound event × RunsAlone (grown h event) costs n bound rest

-- a machine once these events have happened
abbrev pub grown_by : History → List Event → History
grown_by h [] = h
grown_by h (event ∷ rest) = grown_by (grown h event) rest

-- the whole of it: none is left below the bound
pub record IsRunAlone (h : History) (costs : Costs) (n bound : ℕ) (events : List Event) : Type 0 where
  pub runs : RunsAlone h costs n bound events
  pub none_left : (event : Event) → ComesBelow (grown_by h events) costs n bound event → ⊥

-- ---- a window

-- each of these events starts below a bound
abbrev pub StartBelow : History → Costs → ℕ → List Event → Type 0
StartBelow h costs bound [] = Unit {0}
StartBelow h costs bound (event ∷ rest) = (start_next h costs event < bound) × StartBelow (grown h event) costs bound rest

-- each node has a stamp left: its clock is below the limit
abbrev pub NoneIsAtLimit : History → Type 0
NoneIsAtLimit h = (n : ℕ) → n < node_count h.image → (node_at (state_of h) n).clock < h.parameters.limit

-- Once every context has halted the limit holds no longer. From one machine to a later one it is lifted of no node that it holds back: this doesn't come about, or no node is at the limit.
abbrev pub LiftsNoLimit : History → History → Type 0
LiftsNoLimit before after = (has_halted (state_of after) ≡ has_halted (state_of before)) ⊎ NoneIsAtLimit after

-- Events of the timed schedule within the lookahead from a time on, before which none would start. They lift the limit of no node that it holds back.
pub record IsWindow (h : History) (costs : Costs) (from : ℕ) (events : List Event) (after : History) : Type 0 where
  pub timed : EventsAreTimed h costs events after
  pub none_before : (event : Event) → IsFirstDue h costs (times_in h costs) event → from ≤ start_next h costs event
  pub within : StartBelow h costs (from + lookahead costs) events
  pub limit : LiftsNoLimit h after

-- nothing that is due starts below a bound
abbrev pub NothingIsLeft : History → Costs → ℕ → Type 0
NothingIsLeft h costs bound = (n : ℕ) → (event : Event) → IsDueAt h costs n event → bound ≤ start_next h costs event

-- the events of a node, in order
abbrev pub events_of : ℕ → List Event → List Event
events_of n events = filter (λ event. node_of event == n) events

-- ---- told with starts

-- events one after another, each with its start
abbrev pub timeline : History → Costs → List Event → List (ℕ × Event)
timeline h costs [] = []
timeline h costs (event ∷ rest) = (start_next h costs event, event) ∷ timeline (grown h event) costs rest

-- those of a node, in order
abbrev pub told_of : ℕ → List (ℕ × Event) → List (ℕ × Event)
told_of n told = filter (λ (one : ℕ × Event). node_of one.1 == n) told

-- one comes no later than another: by start, and then by node
abbrev pub NoLater : ℕ × Event → ℕ × Event → Type 0
NoLater one other = (one.0 < other.0) ⊎ ((one.0 ≡ other.0) × (node_of one.1 ≤ node_of other.1))

-- each comes no later than all behind it
abbrev pub AreMerged : List (ℕ × Event) → Type 0
AreMerged [] = Unit {0}
AreMerged (one ∷ rest) = AllByRecursion (NoLater one) rest × AreMerged rest

-- it is the merge of what each node did by itself, and has nothing of nodes that there aren't
pub record IsMergeOf (h : History) (costs : Costs) (own : ℕ → List Event) (told : List (ℕ × Event)) : Type 0 where
  pub merged : AreMerged told
  pub parts : (n : ℕ) → n < node_count h.image → told_of n told ≡ timeline h costs (own n)
  pub no_more : (n : ℕ) → node_count h.image ≤ n → told_of n told ≡ []

-- events that are the first ones of others
pub record IsFrontOf (front whole : List Event) : Type 0 where
  pub rest : List Event
  pub whole_is : whole ≡ front ++ rest
