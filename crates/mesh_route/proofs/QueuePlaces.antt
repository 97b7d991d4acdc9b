-- Places of queues, and which pair a message is of.
use Rattle.std.proofs.Common.{◌≡◌, ◌≢◌, ℕ, zero, suc, ◌*◌, ◌/◌, ◌<◌, ◌==◌, Bool, true, false, [], ◌∷◌, refl}
use Rattle.std.proofs.Common.{sym, ap, ◌∙◌, ◌⊎◌, inl, inr, arith}
use Rattle.std.proofs.lemmas.Bool.{eqb-true, eqb-false, eq-eqb}
use Rattle.std.proofs.lemmas.Nat.{div-mul-add, same_from_place}
use Rattle.mesh_route.specs.declared.ports.Port.{Port}
use Rattle.mesh_route.specs.declared.ports.Port.TheVariants.{Local, West, East, North, South}
use Rattle.mesh_route.specs.declared.queues.Packet.{Packet}
use Rattle.mesh_route.specs.Routes.{port_number}
use Rattle.mesh_route.specs.Meshes.{queue_place}
use Rattle.mesh_route.specs.Deliveries.{messages_of}

pub port_of : ℕ → Port
port_of zero = Local
port_of (suc zero) = West
port_of (suc (suc zero)) = East
port_of (suc (suc (suc zero))) = North
port_of (suc (suc (suc (suc n)))) = South

port_of-number : (port : Port) → port_of (port_number port) ≡ port
unfolding port_of
port_of-number Local = refl
port_of-number West = refl
port_of-number East = refl
port_of-number North = refl
port_of-number South = refl

pub port_number-of : (n : ℕ) → n < 5 → port_number (port_of n) ≡ n
unfolding port_of
port_number-of zero l = refl
port_number-of (suc zero) l = refl
port_number-of (suc (suc zero)) l = refl
port_number-of (suc (suc (suc zero))) l = refl
port_number-of (suc (suc (suc (suc n)))) l = omega arith

five_ports : (port : Port) → port_number port < 5
five_ports Local = omega arith
five_ports West = omega arith
five_ports East = omega arith
five_ports North = omega arith
five_ports South = omega arith

-- a queue has a place of its own
pub place_is : (node other : ℕ) (port in_port : Port) → queue_place node port ≡ queue_place other in_port → (node ≡ other) × (port ≡ in_port)
place_is node other port in_port e =
    let same = same_from_place node (port_number port) other (port_number in_port) 5 (five_ports port) (five_ports in_port) e in
    (same.0, sym (port_of-number port) ∙ (ap port_of same.1 ∙ port_of-number in_port))

pub place_below : (node count : ℕ) (port : Port) → node < count → queue_place node port < count * 5
place_below node count port l = omega (arith, five_ports port)

pub place_node : (node : ℕ) (port : Port) → queue_place node port / 5 ≡ node
place_node node port = div-mul-add node 5 (port_number port) (five_ports port)

-- a message is of a pair
pub record IsOfPair (from to : ℕ) (packet : Packet) : Type 0 where
  pub from_is : from ≡ packet.from.0
  pub to_is : to ≡ packet.to.0
  pub message : messages_of from to (packet ∷ []) ≡ packet.msg ∷ []

-- a message is of another pair
pub record IsOfAnother (from to : ℕ) (packet : Packet) : Type 0 where
  pub apart : from ≡ packet.from.0 → to ≢ packet.to.0
  pub message : messages_of from to (packet ∷ []) ≡ []

pub its_message : (packet : Packet) → messages_of packet.from.0 packet.to.0 (packet ∷ []) ≡ packet.msg ∷ []
its_message packet = rw (eq-eqb packet.from.0 packet.from.0 refl, eq-eqb packet.to.0 packet.to.0 refl) refl

pub pair_of : (from to : ℕ) (packet : Packet) → IsOfPair from to packet ⊎ IsOfAnother from to packet
pair_of from to packet = go (from == packet.from.0) (to == packet.to.0) refl refl
  where
    go : (c d : Bool) → (from == packet.from.0) ≡ c → (to == packet.to.0) ≡ d → IsOfPair from to packet ⊎ IsOfAnother from to packet
    go true true e f = inl (record { from_is = eqb-true from packet.from.0 e; to_is = eqb-true to packet.to.0 f; message = rw (e, f) refl })
    go true false e f = inr (record { apart = λ same also. eqb-false to packet.to.0 f also; message = rw (e, f) refl })
    go false d e f = inr (record { apart = λ same also. eqb-false from packet.from.0 e same; message = rw e refl })
