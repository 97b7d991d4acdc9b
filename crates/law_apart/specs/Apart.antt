-- Nodes that go through a window apart: each takes its whole run in a picture of its own.
use Rattle.std.specs.Prelude.{◌≡◌, ℕ, ◌+◌, ◌<◌, ◌⊎◌, false, max, List, [], ◌∷◌, map}
use Rattle.std.specs.List.{list_any, range_with_len}
use Rattle.alw_msg.specs.declared.events.Event.{Event}
use Rattle.alw_msg.specs.Statuses.{has_trapped}
use Rattle.alw_image.specs.Images.{node_count}
use Rattle.alw_model.specs.Contexts.{all_halted}
use Rattle.alw_model.specs.NodeStates.{NodeState}
use Rattle.alw_model.specs.Machine.{node_at}
use Rattle.alw_mesh.specs.Histories.{History, IsRun}
use Rattle.alw_times.specs.declared.costs.Costs.{Costs}
use Rattle.law_windows.specs.Windows.{lookahead, NothingIsLeft}
use Rattle.law_apart.specs.Pictures.{Picture, picture_of, IsPicture, Shows}
use Rattle.law_apart.specs.Alone.{after_all, IsWholeIn}

-- the nodes of a machine, in order
abbrev pub nodes_of : History → List ℕ
nodes_of h = range_with_len 0 (node_count h.image)

-- what each of them did, one behind another
abbrev pub parts_of : History → (ℕ → List Event) → List (List Event)
parts_of h own = map own (nodes_of h)

-- a node's last picture, and the node itself in it
abbrev pub last_of : History → Costs → (ℕ → Picture) → (ℕ → List Event) → ℕ → Picture
last_of h costs pictures own n = after_all h.image h.parameters costs (pictures n) (own n)

abbrev pub node_last : History → Costs → (ℕ → Picture) → (ℕ → List Event) → ℕ → NodeState
node_last h costs pictures own n = node_at (last_of h costs pictures own n).state n

-- the greatest of a finish and those of some pictures
abbrev pub latest_by : (ℕ → Picture) → List ℕ → ℕ → ℕ
latest_by last [] finish = finish
latest_by last (n ∷ nodes) finish = latest_by last nodes (max finish (last n).times.latest)

-- none of these nodes is at the limit, or one has a slot that hasn't halted
abbrev pub LimitStays : History → (ℕ → NodeState) → Type 0
LimitStays h node = ((n : ℕ) → n < node_count h.image → (node n).clock < h.parameters.limit) ⊎ ((n : ℕ) × ((n < node_count h.image) × (all_halted (node n).slots ≡ false)))

-- The nodes of a machine go apart from a time on, below which nothing is left, up to the lookahead behind it. Each has a picture that shows it, and takes its whole run there.
-- None comes to have a slot that is trapped, and the limit that holds them back isn't lifted.
pub record GoApart (h : History) (costs : Costs) (from : ℕ) (pictures : ℕ → Picture) (own : ℕ → List Event) : Type 0 where
  pub nothing_left : NothingIsLeft h costs from
  pub are : (n : ℕ) → n < node_count h.image → IsPicture h.image (pictures n)
  pub show : (n : ℕ) → n < node_count h.image → Shows h.image n (picture_of h costs) (pictures n)
  pub runs : (n : ℕ) → n < node_count h.image → IsWholeIn h.image h.parameters costs (pictures n) n (from + lookahead costs) (own n)
  pub untrapped : (n : ℕ) → n < node_count h.image → list_any (λ slot. has_trapped slot.status) (node_last h costs pictures own n).slots ≡ false
  pub limit : LimitStays h (node_last h costs pictures own)

-- a fact of a machine, costs, a time, pictures and what nodes did in them holds wherever the nodes go apart so
abbrev pub WhereNodesGoApart : (History → Costs → ℕ → (ℕ → Picture) → (ℕ → List Event) → Type 0) → Type 0
WhereNodesGoApart Fact = (h : History) → (costs : Costs) → (from : ℕ) → (pictures : ℕ → Picture) → (own : ℕ → List Event) → IsRun h → GoApart h costs from pictures own →
    Fact h costs from pictures own
