-- What a hop of the code may rest on: its indices exist, and its sums fit.
use Rattle.std.proofs.Common.{◌≡◌, ◌≢◌, ℕ, ◌+◌, ◌-◌, ◌*◌, ◌/◌, ◌^◌, ◌<◌, ◌≤◌, ◌==◌, Bool, true, false, cond, ◌&&◌, Some, List, [], ◌∷◌, ◌++◌}
use Rattle.std.proofs.Common.{length, get_or, refl, sym, ap, subst, ◌∙◌, ◌⊎◌, inl, inr, arith}
use Rattle.std.proofs.lemmas.Bool.{eq-eqb, cases_eq}
use Rattle.std.proofs.lemmas.List.{length-append, get_or_read}
use Rattle.std.proofs.lemmas.Nat.{mul-add-lt}
use Rattle.std.proofs.lemmas.Option.{same_Some}
use Rattle.alw_num.specs.Weights.{digit}
use Rattle.alw_num.proofs.Weigh.{digit_le, le_sum}
use Rattle.alw_msg.specs.declared.messages.Msg.{Msg}
use Rattle.alw_msg.specs.Lists.{behind}
use Rattle.mesh_route.specs.declared.ports.Port.{Port}
use Rattle.mesh_route.specs.declared.queues.Packet.{Packet}
use Rattle.mesh_route.specs.Routes.{route, has_step, stops, next_on}
use Rattle.mesh_route.specs.Meshes.{Mesh, count_of, queue_place, pair_place, queue_of, arrivals_of, crossings_of}
use Rattle.mesh_route.specs.Meshes.{mesh_start, after_injection, after_arrival, after_crossing}
use Rattle.mesh_route.specs.Deliveries.{messages_of, waiting, load_of}
use Rattle.mesh_route.specs.Keeping.{MessageIsPlaced, IsHead, without_head, queue_load, IsHops}
use Rattle.mesh_route.proofs.Steps.{IsStep, distance, steps, next_is, next_none}
use Rattle.mesh_route.proofs.Loads.{load_on}
use Rattle.mesh_route.proofs.QueuePlaces.{place_is, place_below, place_node}
use Rattle.mesh_route.proofs.Carrying.{later as injected_later, injects}
use Rattle.mesh_route.proofs.Arriving.{later as arrived_later, waits, arrives_at_last}
use Rattle.mesh_route.proofs.Passing.{later as passed_later, passes_on}
use Rattle.mesh_route.proofs.Runs.{start_carries}

-- no pair has more messages than there are, and no wire more
length-messages : (from to : ℕ) (packets : List Packet) → length (messages_of from to packets) ≤ length packets
length-messages from to [] = omega arith
length-messages from to (packet ∷ rest) = go (from == packet.from.0 && (to == packet.to.0)) (length-messages from to rest)
  where
    go : (mine : Bool) → length (messages_of from to rest) ≤ length rest → length
        (cond mine (packet.msg ∷ messages_of from to rest) (messages_of from to rest)) ≤ length (packet ∷ rest)
    go true l = omega arith
    go false l = omega arith

load-length : (width a b : ℕ) (packets : List Packet) → load_of width a b packets ≤ length packets
load-length width a b [] = omega arith
load-length width a b (packet ∷ rest) = omega (arith, load-length width a b rest, digit_le (has_step a b (route width packet.from.0 packet.to.0)))

pub started : (width height : ℕ) → 1 ≤ width → width ≤ 16 → height ≤ 16 → IsHops (mesh_start width height)
started width height wide narrow low = record {
  narrow = narrow;
  low = low;
  few = omega arith;
  sent = [];
  carried = start_carries width height wide;
}

pub injected : (mesh : Mesh) (packet : Packet) → IsHops mesh → packet.from.0 < count_of mesh → packet.to.0 < count_of mesh → mesh.injected < 2 ^ 32 - 1
    → IsHops (after_injection mesh packet)
unfolding injected_later
injected mesh packet is from to few = record {
  narrow = is.narrow;
  low = is.low;
  few = omega arith;
  sent = is.sent ++ packet ∷ [];
  carried = injects is.sent mesh packet is.carried from to;
}

-- what the code may rest on that sees the mesh as `view`
module _ (mesh : Mesh) (is : IsHops mesh) (view : Mesh) (same : mesh ≡ view) (node : ℕ) (port : Port) (packet : Packet)
    (seen : IsHead view node port packet) where
  head : IsHead mesh node port packet
  head = subst (λ (m : Mesh). IsHead m node port packet) (sym same) seen

  rest : List Packet
  rest = behind (queue_of mesh node port)

  was : queue_of mesh node port ≡ packet ∷ rest
  unfolding rest
  was = head.was

  stood : MessageIsPlaced mesh.width (count_of mesh) node port packet
  stood = (rw was at (is.carried.placed node port head.below)).0

  pub queue_fits : (place : ℕ) → place ≡ queue_place node port → place < length mesh.queues
  queue_fits place at = rw (at, is.carried.queues_are) (place_below node (count_of mesh) port head.below)

  module _ (last : node ≡ packet.to.0) where
    module _ (place : ℕ) (at : place ≡ pair_place mesh packet.from.0 packet.to.0) where
      pub pair_fits : place < length mesh.arrivals
      pair_fits = rw (at, is.carried.arrivals_are) (mul-add-lt _ _ _ _ stood.from_within stood.to_within)

      pub arrivals_few : (list : List Msg) → list ≡ get_or mesh.arrivals place list → length list < 2 ^ 32 - 1
      arrivals_few list read =
          let is_list : list ≡ arrivals_of mesh packet.from.0 packet.to.0 =
          get_or_read mesh.arrivals place list pair_fits read [] ∙ ap (λ p. get_or mesh.arrivals p []) at in
          let order = is.carried.in_order packet.from.0 packet.to.0 stood.from_within stood.to_within in
          let counts = length-append (arrivals_of mesh packet.from.0 packet.to.0)
          (waiting (queue_of mesh) packet.from.0 packet.to.0 (stops mesh.width packet.from.0 packet.to.0)) in
          omega (
            arith,
            ap length is_list,
            ap length order,
            length-messages packet.from.0 packet.to.0 is.sent,
            ap length (waits is.sent mesh node port packet rest is.carried head.below was last),
            is.carried.counted,
            is.few,
          )

    pub arrived : IsHops (after_arrival (without_head mesh node port) packet)
    unfolding arrived_later rest
    arrived = record {
      narrow = is.narrow;
      low = is.low;
      few = is.few;
      sent = is.sent;
      carried = arrives_at_last is.sent mesh node port packet rest is.carried head.below was last;
    }

  module _ (next : ℕ) (on : next_on view.width node packet.to.0 ≡ Some next) where
    on_mesh : next_on mesh.width node packet.to.0 ≡ Some next
    on_mesh = ap (λ (m : Mesh). next_on m.width node packet.to.0) same ∙ on

    step : IsStep mesh.width node packet.to.0 next
    step = go (cases_eq node packet.to.0)
      where
        go : (node ≡ packet.to.0) ⊎ (node ≢ packet.to.0) → IsStep mesh.width node packet.to.0 next
        go (inl last) = cc (on_mesh, next_none mesh.width node packet.to.0 is.carried.wide last)
        go (inr apart) =
            let step = steps mesh.width node packet.to.0 is.carried.wide apart in
            let goes = next_is mesh.width node packet.to.0 step.0 is.carried.wide step.1 in
            subst (IsStep mesh.width node packet.to.0) (same_Some step.0 next (sym goes ∙ on_mesh)) step.1

    pub next_below : next < count_of mesh
    next_below = step.within mesh.height head.below stood.to_within

    pub next_fits : (place : ℕ) (to : Port) → place ≡ queue_place next to → place < length mesh.queues
    next_fits place to at = rw (at, is.carried.queues_are) (place_below next (count_of mesh) to next_below)

    pub places_differ : (to : Port) → queue_place node port ≢ queue_place next to
    places_differ to e =
        absurd (omega (arith, step.nearer, ap (λ n. distance mesh.width n packet.to.0) (place_is node next port to e).0))

    module _ (place : ℕ) (at : place ≡ pair_place mesh node next) where
      pub wire_fits : place < length mesh.crossings
      wire_fits = rw (at, is.carried.crossings_are) (mul-add-lt _ _ _ _ head.below next_below)

      pub crossings_few : (count : ℕ) → count ≡ get_or mesh.crossings place count → count + 1 < 2 ^ 32
      crossings_few count read =
          let is_count : count ≡ crossings_of mesh node next =
          get_or_read mesh.crossings place count wire_fits read 0 ∙ ap (λ p. get_or mesh.crossings p 0) at in
          let from : ℕ = queue_place node port in
          let crossed = is.carried.crossed node next head.below next_below in
          let most = le_sum (count_of mesh * 5) (λ k. queue_load mesh.width node next (k / 5) (get_or mesh.queues k [])) from
          (place_below node (count_of mesh) port head.below) in
          let here : queue_load mesh.width node next (from / 5) (get_or mesh.queues from [])
          ≡ digit (has_step node next (route mesh.width node packet.to.0)) + queue_load mesh.width node next (from / 5) rest =
          ap (queue_load mesh.width node next (from / 5)) was ∙ ap (λ n. digit
          (has_step node next (route mesh.width n packet.to.0)) + queue_load mesh.width node next (from / 5) rest) (place_node node port) in
          let one : digit (node == node && (next == next)) ≡ 1 = rw (eq-eqb node node refl, eq-eqb next next refl) refl in
          omega (
            arith,
            is_count,
            load_on mesh.width packet.to.0 is.carried.wide node next node next step,
            load-length mesh.width node next is.sent,
            is.carried.counted,
            is.few,
          )

    pub passed : IsHops (after_crossing (without_head mesh node port) node packet next)
    unfolding passed_later rest
    passed = record {
      narrow = is.narrow;
      low = is.low;
      few = is.few;
      sent = is.sent;
      carried = passes_on is.sent mesh node next port packet rest is.carried head.below was step;
    }
