-- Nodes that go through a window in turn, and what it comes to: the timed schedule once what is told of them is sorted.
use Rattle.std.specs.Prelude.{◌==◌, ◌||◌, ◌&&◌, nat_lt, Bool, cond, ◌≡◌, ℕ, ◌+◌, ◌<◌, ◌≤◌, false, List, [], ◌∷◌, ◌++◌, map}
use Rattle.std.specs.List.{Contains}
use Rattle.alw_msg.specs.declared.events.Event.{Event}
use Rattle.alw_msg.specs.Events.{node_of}
use Rattle.alw_image.specs.Images.{node_count}
use Rattle.alw_model.specs.Machine.{any_trapped}
use Rattle.alw_mesh.specs.Histories.{History, IsRun, state_of}
use Rattle.alw_times.specs.declared.costs.Costs.{Costs}
use Rattle.alw_due.specs.Due.{times_in, IsFirstDue}
use Rattle.law_windows.specs.Windows.{lookahead, start_next, grown_by, IsRunAlone, LiftsNoLimit, timeline, told_of, AreMerged}

-- the events of some parts, one part behind another
abbrev pub in_turn : List (List Event) → List Event
in_turn [] = []
in_turn (own ∷ parts) = own ++ in_turn parts

-- one node after another takes its whole run alone, below a bound, in the machine that those before it left
abbrev pub RunInTurn : History → Costs → ℕ → List ℕ → List (List Event) → Type 0
RunInTurn h costs bound [] [] = Unit {0}
RunInTurn h costs bound (n ∷ nodes) (own ∷ parts) = IsRunAlone h costs n bound own × RunInTurn (grown_by h own) costs bound nodes parts
RunInTurn h costs bound [] (own ∷ parts) = ⊥
RunInTurn h costs bound (n ∷ nodes) [] = ⊥

-- Nodes go in turn through the window that begins at a time before which none would start: all of them, in any order. They lift the limit of no node that it holds back, and leave no context trapped.
pub record GoInTurn (h : History) (costs : Costs) (from : ℕ) (nodes : List ℕ) (parts : List (List Event)) : Type 0 where
  pub none_before : (event : Event) → IsFirstDue h costs (times_in h costs) event → from ≤ start_next h costs event
  pub runs : RunInTurn h costs (from + lookahead costs) nodes parts
  pub all : (n : ℕ) → n < node_count h.image → Contains nodes n
  pub limit : LiftsNoLimit h (grown_by h (in_turn parts))
  pub untrapped : any_trapped (state_of (grown_by h (in_turn parts))) ≡ false

-- what is told, sorted by start and then by node: of each node the same, in the same order
pub record IsSortOf (sorted told : List (ℕ × Event)) : Type 0 where
  pub merged : AreMerged sorted
  pub same : (n : ℕ) → told_of n sorted ≡ told_of n told

-- one comes before another: by start, and then by node
abbrev pub starts_before : ℕ × Event → ℕ × Event → Bool
starts_before one other = nat_lt one.0 other.0 || (one.0 == other.0 && nat_lt (node_of one.1) (node_of other.1))

-- one more among others that are sorted, before all that don't come before it
abbrev pub put_by_start : ℕ × Event → List (ℕ × Event) → List (ℕ × Event)
put_by_start one [] = one ∷ []
put_by_start one (first ∷ rest) = cond (starts_before first one) (first ∷ put_by_start one rest) (one ∷ first ∷ rest)

-- what is told by start and then by node: what ties stays in order
abbrev pub sort_by_start : List (ℕ × Event) → List (ℕ × Event)
sort_by_start [] = []
sort_by_start (one ∷ rest) = put_by_start one (sort_by_start rest)

-- the events of what is told
abbrev pub events_told : List (ℕ × Event) → List Event
events_told told = map (λ (one : ℕ × Event). one.1) told

-- a fact of a machine, costs, a time, the events of nodes that go in turn from there, and the sort of what is told of them, holds wherever nodes do so
abbrev pub WhereNodesGoInTurn : (History → Costs → ℕ → List Event → List (ℕ × Event) → Type 0) → Type 0
WhereNodesGoInTurn Fact = (h : History) → (costs : Costs) → (from : ℕ) → (nodes : List ℕ) → (parts : List (List Event)) → IsRun h → GoInTurn h costs from nodes parts →
    (sorted : List (ℕ × Event)) → IsSortOf sorted (timeline h costs (in_turn parts)) → Fact h costs from (in_turn parts) sorted

-- two machines have the same state and the same times
pub record AreAlike (costs : Costs) (one other : History) : Type 0 where
  pub states : state_of one ≡ state_of other
  pub times : times_in one costs ≡ times_in other costs
