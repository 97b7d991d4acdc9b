-- The hop run: routers with five input queues each, after a list of injections and hops. An injected message goes to the end of the Local queue of
-- its first node; a hop takes the head of a queue to the end of a queue of the next node of its route, or, at its last node, to its pair's arrivals.
use Rattle.std.specs.Prelude.{ℕ, ◌+◌, ◌*◌, ◌<◌, Option, Some, None, List, [], ◌∷◌, ◌++◌, replicate, slice_index_or, slice_set}
use Rattle.alw_num.specs.declared.addresses.NodeNo.{NodeNo}
use Rattle.alw_msg.specs.declared.messages.Msg.{Msg}
use Rattle.mesh_route.specs.declared.ports.Port.{Port}
use Rattle.mesh_route.specs.declared.ports.Port.TheVariants.{Local}
use Rattle.mesh_route.specs.declared.ports.Hop.{Hop}
use Rattle.mesh_route.specs.declared.ports.Hop.TheVariants.{Crossed, Arrived}
use Rattle.mesh_route.specs.declared.queues.Packet.{Packet}
use Rattle.mesh_route.specs.Routes.{next_on, port_number, port_from}

-- width and height, how many messages were injected, the queues, the arrivals of each pair, and how often each wire was crossed
pub record Mesh : Type 0 where
  pub width : ℕ
  pub height : ℕ
  pub injected : ℕ
  pub queues : List (List Packet)
  pub arrivals : List (List Msg)
  pub crossings : List ℕ

abbrev pub count_of : Mesh → ℕ
count_of mesh = mesh.width * mesh.height

-- the place of a queue among all queues, and of an ordered pair of nodes among all pairs
abbrev pub queue_place : ℕ → Port → ℕ
queue_place node port = node * 5 + port_number port

abbrev pub pair_place : Mesh → ℕ → ℕ → ℕ
pair_place mesh from to = from * count_of mesh + to

abbrev pub queue_of : Mesh → ℕ → Port → List Packet
queue_of mesh node port = slice_index_or mesh.queues (queue_place node port) []

abbrev pub arrivals_of : Mesh → ℕ → ℕ → List Msg
arrivals_of mesh from to = slice_index_or mesh.arrivals (pair_place mesh from to) []

abbrev pub crossings_of : Mesh → ℕ → ℕ → ℕ
crossings_of mesh a b = slice_index_or mesh.crossings (pair_place mesh a b) 0

abbrev pub with_queue : Mesh → ℕ → Port → List Packet → Mesh
with_queue mesh node port packets = record mesh { queues = slice_set mesh.queues (queue_place node port) packets }

abbrev pub mesh_start : ℕ → ℕ → Mesh
mesh_start width height = record {
  width = width;
  height = height;
  injected = 0;
  queues = replicate (width * height * 5) [];
  arrivals = replicate (width * height * (width * height)) [];
  crossings = replicate (width * height * (width * height)) 0;
}

-- a message is injected
abbrev pub after_injection : Mesh → Packet → Mesh
after_injection mesh packet =
    let queued = with_queue mesh packet.from.0 Local (queue_of mesh packet.from.0 Local ++ packet ∷ []) in
    record queued { injected = mesh.injected + 1 }

-- a message that has left a queue has arrived
abbrev pub after_arrival : Mesh → Packet → Mesh
after_arrival mesh packet =
    let place = pair_place mesh packet.from.0 packet.to.0 in
    record mesh { arrivals = slice_set mesh.arrivals place (slice_index_or mesh.arrivals place [] ++ packet.msg ∷ []) }

-- a message that has left a queue of a node has crossed the wire to another node
abbrev pub after_crossing : Mesh → ℕ → Packet → ℕ → Mesh
after_crossing mesh at packet next =
    let port = port_from mesh.width at next in
    let place = pair_place mesh at next in
    let queued = with_queue mesh next port (queue_of mesh next port ++ packet ∷ []) in
    record queued { crossings = slice_set mesh.crossings place (slice_index_or mesh.crossings place 0 + 1) }

-- a message that has left a queue of a node goes on to the next node, or has arrived where there is none
abbrev pub moved : Mesh → ℕ → Packet → Option ℕ → Hop × Mesh
moved mesh at packet None = (Arrived packet.from, after_arrival mesh packet)
moved mesh at packet (Some next) = (Crossed (record { 0 = next }), after_crossing mesh at packet next)

-- what a hop from a queue does, given what stands in it: nothing where that is nothing
abbrev pub hop_of : Mesh → ℕ → Port → List Packet → Option (Hop × Mesh)
hop_of mesh at port [] = None
hop_of mesh at port (packet ∷ rest) = Some (moved (with_queue mesh at port rest) at packet (next_on mesh.width at packet.to.0))

abbrev pub hop_from : Mesh → ℕ → Port → Option (Hop × Mesh)
hop_from mesh at port = hop_of mesh at port (queue_of mesh at port)

abbrev pub mesh_or : Mesh → Option (Hop × Mesh) → Mesh
mesh_or mesh None = mesh
mesh_or mesh (Some done) = done.1

-- ---- lists of injections and hops

pub data Act : Type 0 where
  Injects : Packet → Act
  HopsFrom : NodeNo → Port → Act

abbrev pub after_act : Mesh → Act → Mesh
after_act mesh (Injects packet) = after_injection mesh packet
after_act mesh (HopsFrom at port) = mesh_or mesh (hop_from mesh at.0 port)

abbrev pub after_acts : Mesh → List Act → Mesh
after_acts mesh [] = mesh
after_acts mesh (act ∷ rest) = after_acts (after_act mesh act) rest

-- the mesh after a list of injections and hops
unfoldable pub hop_run : ℕ → ℕ → List Act → Mesh
hop_run width height acts = after_acts (mesh_start width height) acts

-- the messages that were injected, in order
abbrev pub injections : List Act → List Packet
injections [] = []
injections (Injects packet ∷ rest) = packet ∷ injections rest
injections (HopsFrom at port ∷ rest) = injections rest

-- the nodes that an act names are below a number
abbrev pub ActIsWithin : ℕ → Act → Type 0
ActIsWithin count (Injects packet) = (packet.from.0 < count) × (packet.to.0 < count)
ActIsWithin count (HopsFrom at port) = at.0 < count
