-- What routers keep after every list of injections and hops: what was injected has arrived, or waits on its route, in order.
use Rattle.std.specs.Prelude.{◌≡◌, ℕ, ◌+◌, ◌*◌, ◌/◌, ◌^◌, ◌<◌, ◌≤◌, List, [], ◌∷◌, ◌++◌, length, slice_index_or, ◌⊎◌}
use Rattle.std.specs.List.{AllByRecursion}
use Rattle.alw_num.specs.Weights.{digit, weigh, sum_below}
use Rattle.alw_msg.specs.Lists.{behind}
use Rattle.mesh_route.specs.declared.ports.Port.{Port}
use Rattle.mesh_route.specs.declared.queues.Packet.{Packet}
use Rattle.mesh_route.specs.Routes.{route, has_step, stops}
use Rattle.mesh_route.specs.Meshes.{Mesh, count_of, queue_of, arrivals_of, crossings_of, with_queue}
use Rattle.mesh_route.specs.Deliveries.{messages_of, waiting, load_of}

-- a queue of a node is one of some
abbrev pub IsStop : ℕ → Port → List (ℕ × Port) → Type 0
IsStop node port [] = ⊥
IsStop node port (stop ∷ rest) = ((node ≡ stop.0) × (port ≡ stop.1)) ⊎ IsStop node port rest

-- a message stands in a queue on its route
pub record MessageIsPlaced (width count node : ℕ) (port : Port) (packet : Packet) : Type 0 where
  pub from_within : packet.from.0 < count
  pub to_within : packet.to.0 < count
  pub stop : IsStop node port (stops width packet.from.0 packet.to.0)

-- how many of the messages in a queue of a node have a way before them on which one node stands directly before another
abbrev pub queue_load : ℕ → ℕ → ℕ → ℕ → List Packet → ℕ
queue_load width a b node packets = weigh (λ (packet : Packet). digit (has_step a b (route width node packet.to.0))) packets

-- the same of all queues, by their places
abbrev pub load_left : Mesh → ℕ → ℕ → ℕ
load_left mesh a b = sum_below (count_of mesh * 5) (λ place. queue_load mesh.width a b (place / 5) (slice_index_or mesh.queues place []))

pub record MessagesAreCarried (sent : List Packet) (mesh : Mesh) : Type 0 where
  pub wide : 0 < mesh.width
  pub counted : mesh.injected ≡ length sent
  pub queues_are : length mesh.queues ≡ count_of mesh * 5
  pub arrivals_are : length mesh.arrivals ≡ count_of mesh * count_of mesh
  pub crossings_are : length mesh.crossings ≡ count_of mesh * count_of mesh
  pub placed : (node : ℕ) (port : Port) → node < count_of mesh → AllByRecursion (MessageIsPlaced mesh.width (count_of mesh) node port) (queue_of mesh node port)
  pub in_order : (from to : ℕ) → from < count_of mesh → to < count_of mesh
      → arrivals_of mesh from to ++ waiting (queue_of mesh) from to (stops mesh.width from to) ≡ messages_of from to sent
  pub crossed : (a b : ℕ) → a < count_of mesh → b < count_of mesh → crossings_of mesh a b + load_left mesh a b ≡ load_of mesh.width a b sent

-- a message is the head of a queue of a node
pub record IsHead (mesh : Mesh) (node : ℕ) (port : Port) (packet : Packet) : Type 0 where
  pub below : node < count_of mesh
  pub goal : packet.to.0 < 256
  pub was : queue_of mesh node port ≡ packet ∷ behind (queue_of mesh node port)

-- a mesh without the head of a queue
abbrev pub without_head : Mesh → ℕ → Port → Mesh
without_head mesh node port = with_queue mesh node port (behind (queue_of mesh node port))

-- a mesh of routers of the sizes that there are, after some injections and hops
pub record IsHops (mesh : Mesh) : Type 0 where
  pub narrow : mesh.width ≤ 16
  pub low : mesh.height ≤ 16
  pub few : mesh.injected < 2 ^ 32
  pub sent : List Packet
  pub carried : MessagesAreCarried sent mesh
