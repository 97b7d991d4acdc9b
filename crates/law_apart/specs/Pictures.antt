-- Pictures: a state and times of which one node's own are those of a machine, as a cell holds them that goes on with that node alone.
use Rattle.std.specs.Prelude.{◌≡◌, ◌≢◌, ℕ, ◌+◌, ◌*◌, ◌<◌, ◌≤◌, ◌==◌, cond, List, [], ◌∷◌, ◌++◌, length, map, slice_index_or, slice_set}
use Rattle.std.specs.List.{AllByRecursion}
use Rattle.alw_msg.specs.declared.messages.Msg.{Msg}
use Rattle.alw_image.specs.declared.parts.Parts.{Parts}
use Rattle.alw_image.specs.Images.{node_count}
use Rattle.alw_model.specs.NodeStates.{NodeState}
use Rattle.alw_model.specs.Machine.{MachineState, no_node, link_at, link_place}
use Rattle.law_order.specs.Aims.{IsAimed}
use Rattle.alw_mesh.specs.Histories.{History, state_of}
use Rattle.alw_times.specs.declared.costs.Costs.{Costs}
use Rattle.alw_times.specs.Times.{Times, queue_at}
use Rattle.alw_due.specs.Due.{times_in}
use Rattle.law_windows.specs.Windows.{GoOnFrom}

-- a state and times
pub record Picture : Type 0 where
  pub state : MachineState
  pub times : Times

-- those of a machine
abbrev pub picture_of : History → Costs → Picture
picture_of h costs = record { state = state_of h; times = times_in h costs }

-- two lists are equally long, and have the same at a place
pub record AreSameAt {X : Type 0} (none : X) (place : ℕ) (one other : List X) : Type 0 where
  pub long : length one ≡ length other
  pub here : slice_index_or one place none ≡ slice_index_or other place none

-- What each machine of an image keeps: its nodes name nodes and lines that exist, each link has as many arrivals as messages, and no node has more slots than the image has contexts of a node.
pub record IsPicture (image : Parts) (picture : Picture) : Type 0 where
  pub aimed : IsAimed image picture.state
  pub queues : length picture.times.arrivals ≡ length picture.state.links
  pub arrivals : (place : ℕ) → length (queue_at picture.times.arrivals place) ≡ length (slice_index_or picture.state.links place [])
  pub slots : AllByRecursion (λ (node : NodeState). length node.slots ≤ image.contexts) picture.state.nodes

-- ---- what a picture shows of a node

-- the node's own: its state, when its last event started and when its parts are free, its draws, when its contexts wake, when its packets came, and its link to itself
pub record ShowsItself (image : Parts) (n : ℕ) (whole part : Picture) : Type 0 where
  pub nodes : AreSameAt no_node n whole.state.nodes part.state.nodes
  pub starts : AreSameAt 0 n whole.times.starts part.times.starts
  pub processors : AreSameAt 0 n whole.times.processors part.times.processors
  pub controllers : AreSameAt 0 n whole.times.controllers part.times.controllers
  pub ports : AreSameAt 0 n whole.times.ports part.times.ports
  pub draws : AreSameAt 0 n whole.times.draws part.times.draws
  pub wakes : (slot : ℕ) → slot < image.contexts → AreSameAt 0 (n * image.contexts + slot) whole.times.wakes part.times.wakes
  pub packets : AreSameAt [] n whole.times.packets part.times.packets
  pub arrivals : AreSameAt [] (link_place image n n) whole.times.arrivals part.times.arrivals
  pub link : link_at image whole.state n n ≡ link_at image part.state n n

-- on its link from another node the whole has messages more, which arrive at a bound or later
pub record MayGoOn (image : Parts) (n bound from : ℕ) (whole part : Picture) : Type 0 where
  pub more : List Msg
  pub link : link_at image whole.state from n ≡ link_at image part.state from n ++ more
  pub arrivals : GoOnFrom bound (queue_at part.times.arrivals (link_place image from n)) (queue_at whole.times.arrivals (link_place image from n))

-- the part shows a node of the whole, but for such messages
pub record ShowsBelow (image : Parts) (n bound : ℕ) (whole part : Picture) : Type 0 where
  pub itself : ShowsItself image n whole part
  pub links : (from : ℕ) → from < node_count image → from ≢ n → MayGoOn image n bound from whole part

-- on its link from another node the whole has these messages more, each with its arrival
pub record HasCome (image : Parts) (n from : ℕ) (come : List (Msg × ℕ)) (whole part : Picture) : Type 0 where
  pub link : link_at image whole.state from n ≡ link_at image part.state from n ++ map (λ (one : Msg × ℕ). one.0) come
  pub arrivals : queue_at whole.times.arrivals (link_place image from n) ≡ queue_at part.times.arrivals (link_place image from n) ++ map (λ (one : Msg × ℕ). one.1) come

-- the part shows a node of the whole, but for what has come from each other node
pub record ShowsBut (image : Parts) (n : ℕ) (come : ℕ → List (Msg × ℕ)) (whole part : Picture) : Type 0 where
  pub itself : ShowsItself image n whole part
  pub links : (from : ℕ) → from < node_count image → from ≢ n → HasCome image n from (come from) whole part

-- the part shows it as it is
abbrev pub Shows : Parts → ℕ → Picture → Picture → Type 0
Shows image n whole part = ShowsBut image n (λ from. []) whole part

-- ---- what comes from other nodes

-- messages have come on the link from one node to another, each with its arrival
abbrev pub with_come : Parts → ℕ → ℕ → List (Msg × ℕ) → Picture → Picture
with_come image from to come picture = let place = link_place image from to in record {
  state = record picture.state { links = slice_set picture.state.links place (slice_index_or picture.state.links place [] ++ map (λ (one : Msg × ℕ). one.0) come) };
  times = record picture.times { arrivals = slice_set picture.times.arrivals place (queue_at picture.times.arrivals place ++ map (λ (one : Msg × ℕ). one.1) come) };
}

-- they have come to a node from each of these that is another
abbrev pub all_come : Parts → ℕ → (ℕ → List (Msg × ℕ)) → List ℕ → Picture → Picture
all_come image n come [] picture = picture
all_come image n come (from ∷ nodes) picture = all_come image n come nodes (cond (from == n) picture (with_come image from n (come from) picture))

-- from one node more has come
abbrev pub and_come : ℕ → List (Msg × ℕ) → (ℕ → List (Msg × ℕ)) → ℕ → List (Msg × ℕ)
and_come node more come from = cond (from == node) (come from ++ more) (come from)
