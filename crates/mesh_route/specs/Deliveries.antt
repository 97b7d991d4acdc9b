-- What routers do, whatever the order of injections and hops: each pair's messages arrive in the order of their injection, and each wire carries those whose
-- route goes over it.
use Rattle.std.specs.Prelude.{◌≡◌, ℕ, ◌<◌, Bool, cond, not, ◌&&◌, ◌==◌, List, [], ◌∷◌, ◌++◌}
use Rattle.std.specs.List.{list_any, AllByRecursion}
use Rattle.alw_num.specs.Weights.{digit, weigh}
use Rattle.alw_msg.specs.declared.messages.Msg.{Msg}
use Rattle.alw_msg.specs.Lists.{is_nonempty}
use Rattle.mesh_route.specs.declared.ports.Port.{Port}
use Rattle.mesh_route.specs.declared.queues.Packet.{Packet}
use Rattle.mesh_route.specs.Routes.{route, has_step, stops}
use Rattle.mesh_route.specs.Meshes.{Mesh, Act, count_of, queue_of, arrivals_of, crossings_of, hop_run, injections, ActIsWithin}

-- the messages of a pair among some, in order
abbrev pub messages_of : ℕ → ℕ → List Packet → List Msg
messages_of from to [] = []
messages_of from to (packet ∷ rest) = cond (from == packet.from.0 && (to == packet.to.0)) (packet.msg ∷ messages_of from to rest) (messages_of from to rest)

-- a pair's messages in some queues, those of the last queue first
abbrev pub waiting : (ℕ → Port → List Packet) → ℕ → ℕ → List (ℕ × Port) → List Msg
waiting queue from to [] = []
waiting queue from to (stop ∷ rest) = waiting queue from to rest ++ messages_of from to (queue stop.0 stop.1)

-- how many of some messages have a route on which one node stands directly before another
abbrev pub load_of : ℕ → ℕ → ℕ → List Packet → ℕ
load_of width a b packets = weigh (λ (packet : Packet). digit (has_step a b (route width packet.from.0 packet.to.0))) packets

-- all queues are empty
abbrev pub is_idle : Mesh → Bool
is_idle mesh = not (list_any is_nonempty mesh.queues)

-- a mesh is what a list of acts on its nodes leads to
pub record MeshIsAfter (acts : List Act) (mesh : Mesh) : Type 0 where
  pub within : AllByRecursion (ActIsWithin (count_of mesh)) acts
  pub run : mesh ≡ hop_run mesh.width mesh.height acts

-- a pair's arrivals are the first of its injected messages, and the others stand in the queues on its route, in order
abbrev pub ArrivalsAreInOrder : Mesh → ℕ → ℕ → Type 0
ArrivalsAreInOrder mesh from to = (acts : List Act) → MeshIsAfter acts mesh
    → arrivals_of mesh from to ++ waiting (queue_of mesh) from to (stops mesh.width from to) ≡ messages_of from to (injections acts)

-- once all queues are empty each pair's arrivals are its injected messages, and each wire was crossed by the messages whose route goes over it
pub record AllAreDelivered (acts : List Act) (mesh : Mesh) : Type 0 where
  pub arrived : (from to : ℕ) → from < count_of mesh → to < count_of mesh → arrivals_of mesh from to ≡ messages_of from to (injections acts)
  pub crossed : (a b : ℕ) → a < count_of mesh → b < count_of mesh → crossings_of mesh a b ≡ load_of mesh.width a b (injections acts)
