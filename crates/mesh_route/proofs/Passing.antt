-- A hop of a message to the next node of its route keeps what routers keep.
use Rattle.std.proofs.Common.{◌≡◌, ◌≢◌, ℕ, ◌+◌, ◌*◌, ◌/◌, ◌<◌, ◌==◌, Bool, true, false, ◌&&◌, Some, List, [], ◌∷◌, ◌++◌, length, get_or, set, refl, sym}
use Rattle.std.proofs.Common.{ap, subst, ◌∙◌, ◌⊎◌, inl, inr, append-nil, arith}
use Rattle.std.specs.List.{AllByRecursion}
use Rattle.std.proofs.lemmas.Bool.{eq-eqb, eqb-true, and_parts}
use Rattle.std.proofs.lemmas.List.{get_or-set_same, get_or-set_other, length-set}
use Rattle.std.proofs.lemmas.Nat.{mul-add-lt, same_from_place}
use Rattle.alw_num.specs.Weights.{digit}
use Rattle.alw_num.proofs.Weigh.{is_node, weigh_push, sum_at}
use Rattle.mesh_route.specs.declared.ports.Port.{Port}
use Rattle.mesh_route.specs.declared.ports.Port.TheVariants.{Local}
use Rattle.mesh_route.specs.declared.queues.Packet.{Packet}
use Rattle.mesh_route.specs.Routes.{route, has_step, stops, port_from}
use Rattle.mesh_route.specs.Meshes.{Mesh, count_of, queue_place, pair_place, queue_of, arrivals_of, crossings_of, with_queue, moved}
use Rattle.mesh_route.specs.Deliveries.{messages_of, waiting}
use Rattle.mesh_route.specs.Keeping.{MessageIsPlaced, queue_load, load_left, MessagesAreCarried}
use Rattle.mesh_route.proofs.Steps.{IsStep, distance}
use Rattle.mesh_route.proofs.Stops.{stops-from, messages-append, waiting-others, stop_next, passes}
use Rattle.mesh_route.proofs.Loads.{load_on}
use Rattle.mesh_route.proofs.QueuePlaces.{place_is, place_below, place_node, IsOfPair, IsOfAnother, its_message, pair_of}
use Rattle.alw_num.proofs.Alls.{all_push}

module _ (sent : List Packet) (mesh : Mesh) (node next : ℕ) (port : Port) (packet : Packet) (rest : List Packet) (is : MessagesAreCarried sent mesh)
    (below : node < count_of mesh)
    (was : queue_of mesh node port ≡ packet ∷ rest) (step : IsStep mesh.width node packet.to.0 next) where
  unfoldable pub later : Mesh
  later = (moved (with_queue mesh node port rest) node packet (Some next)).1

  in_port : Port
  in_port = port_from mesh.width node next

  place : ℕ
  place = queue_place node port

  next_place : ℕ
  next_place = queue_place next in_port

  fits : place < length mesh.queues
  unfolding place
  fits = rw is.queues_are (place_below node (count_of mesh) port below)

  stood : AllByRecursion (MessageIsPlaced mesh.width (count_of mesh) node port) (packet ∷ rest)
  stood = rw was at (is.placed node port below)

  next_below : next < count_of mesh
  next_below = step.within mesh.height below stood.0.to_within

  next_fits : next_place < length (set mesh.queues place rest)
  unfolding next_place
  next_fits = rw (length-set mesh.queues place rest, is.queues_are) (place_below next (count_of mesh) in_port next_below)

  -- the next node is another
  moves : next_place ≢ place
  unfolding next_place place
  moves same = absurd (omega (arith, step.nearer, ap (λ n. distance mesh.width n packet.to.0) (place_is next node in_port port same).0))

  left : queue_of later node port ≡ rest
  unfolding later place next_place in_port
  left = get_or-set_other (set mesh.queues place rest) next_place place _ [] (λ same. moves (sym same)) ∙ get_or-set_same mesh.queues place rest [] fits

  put : queue_of later next in_port ≡ queue_of mesh next in_port ++ packet ∷ []
  unfolding later place next_place in_port
  put = get_or-set_same (set mesh.queues place rest) next_place _ [] next_fits
      ∙ ap (λ xs. xs ++ packet ∷ []) (get_or-set_other mesh.queues place next_place rest [] moves)

  other : (k : ℕ) → k ≢ place → k ≢ next_place → get_or later.queues k [] ≡ get_or mesh.queues k []
  unfolding later place next_place in_port
  other k apart also = get_or-set_other (set mesh.queues place rest) next_place k _ [] also ∙ get_or-set_other mesh.queues place k rest [] apart

  -- the message stands on its route at the next node too
  stood_next : MessageIsPlaced mesh.width (count_of mesh) next in_port packet
  unfolding in_port
  stood_next = record {
    from_within = stood.0.from_within;
    to_within = stood.0.to_within;
    stop = rw (stops-from mesh.width packet.from.0 packet.to.0) (stop_next mesh.width packet.to.0 is.wide node next port step packet.from.0 Local
        (rw (stops-from mesh.width packet.from.0 packet.to.0) at stood.0.stop));
  }

  ArePlaced : ℕ × Port → Type 0
  ArePlaced stop = AllByRecursion (MessageIsPlaced mesh.width (count_of mesh) stop.0 stop.1) (queue_of later stop.0 stop.1)

  placed_later : (at : ℕ) (by : Port) → at < count_of mesh → AllByRecursion (MessageIsPlaced mesh.width (count_of mesh) at by) (queue_of later at by)
  unfolding place next_place ArePlaced
  placed_later at by l = is_node _ (queue_place at by) place
      (λ same. let here = place_is at node by port same in subst ArePlaced (λ i. (sym here.0 i, sym here.1 i)) (rw left stood.1))
      (λ apart. is_node _ (queue_place at by) next_place
      (λ same. let here = place_is at next by in_port same in subst ArePlaced (λ i. (sym here.0 i, sym here.1 i))
      (rw put (all_push (MessageIsPlaced mesh.width (count_of mesh) next in_port) (queue_of mesh next in_port) packet
      (is.placed next in_port next_below) stood_next)))
      (λ also. rw (other (queue_place at by) apart also) (is.placed at by l)))

  -- what the message's pair waits for stays in its order
  of_pair : waiting (queue_of later) packet.from.0 packet.to.0 (stops mesh.width packet.from.0 packet.to.0)
      ≡ waiting (queue_of mesh) packet.from.0 packet.to.0 (stops mesh.width packet.from.0 packet.to.0)
  unfolding place next_place in_port
  of_pair = rw (stops-from mesh.width packet.from.0 packet.to.0) (passes mesh.width packet.to.0 is.wide (queue_of mesh)
      (queue_of later) packet.from.0 node next port packet rest step (its_message packet) was left put
      (λ at by apart also. other (queue_place at by) (λ same. absurd (apart (place_is at node by port same).0))
      (λ same. absurd (also (place_is at next by in_port same).0)))
      packet.from.0 Local (rw (stops-from mesh.width packet.from.0 packet.to.0) at stood.0.stop))

  of_another : (from to : ℕ) → IsOfAnother from to packet → waiting (queue_of later) from to (stops mesh.width from to)
      ≡ waiting (queue_of mesh) from to (stops mesh.width from to)
  unfolding place next_place
  of_another from to another = waiting-others (queue_of mesh) (queue_of later) from to (stops mesh.width from to) same_messages
    where
      one_less : messages_of from to (queue_of later node port) ≡ messages_of from to (queue_of mesh node port)
      one_less = ap (messages_of from to) left ∙ (sym (messages-append from to (packet ∷ []) rest ∙ ap (λ xs. xs ++ messages_of from to rest) another.message)
          ∙ ap (messages_of from to) (sym was))

      one_more : messages_of from to (queue_of later next in_port) ≡ messages_of from to (queue_of mesh next in_port)
      one_more = ap (messages_of from to) put ∙ (messages-append from to (queue_of mesh next in_port) (packet ∷ [])
          ∙ (ap (λ xs. messages_of from to (queue_of mesh next in_port) ++ xs) another.message
          ∙ append-nil (messages_of from to (queue_of mesh next in_port))))

      at_place : (k j : ℕ) → k ≡ j → messages_of from to (get_or later.queues j []) ≡ messages_of from to (get_or mesh.queues j [])
          → messages_of from to (get_or later.queues k []) ≡ messages_of from to (get_or mesh.queues k [])
      at_place k j same = subst (λ n. messages_of from to (get_or later.queues n []) ≡ messages_of from to (get_or mesh.queues n [])) (sym same)

      same_messages : (at : ℕ) (by : Port) → messages_of from to (queue_of later at by) ≡ messages_of from to (queue_of mesh at by)
      same_messages at by = is_node _ (queue_place at by) place
          (λ same. at_place (queue_place at by) place same one_less)
          (λ apart. is_node _ (queue_place at by) next_place
          (λ same. at_place (queue_place at by) next_place same one_more)
          (λ also. ap (messages_of from to) (other (queue_place at by) apart also)))

  waits_later : (from to : ℕ) → IsOfPair from to packet ⊎ IsOfAnother from to packet → waiting (queue_of later) from to (stops mesh.width from to)
      ≡ waiting (queue_of mesh) from to (stops mesh.width from to)
  waits_later from to (inr another) = of_another from to another
  waits_later from to (inl its) =
      subst (λ (k : ℕ × ℕ). waiting (queue_of later) k.0 k.1 (stops mesh.width k.0 k.1) ≡ waiting (queue_of mesh) k.0 k.1 (stops mesh.width k.0 k.1))
      (λ i. (sym its.from_is i, sym its.to_is i)) of_pair

  -- the wire to the next node is crossed once more, and no other
  crossed_once : (a b : ℕ) → b < count_of mesh → crossings_of later a b ≡ crossings_of mesh a b + digit (a == node && (b == next))
  unfolding later
  crossed_once a b l = is_node _ (pair_place mesh a b) (pair_place mesh node next)
      (λ same. let pair = same_from_place a b node next (count_of mesh) l next_below same in
      rw (eq-eqb a node pair.0, eq-eqb b next pair.1, same) (get_or-set_same mesh.crossings (pair_place mesh node next) _ 0
      (rw is.crossings_are (mul-add-lt node (count_of mesh) next (count_of mesh) below next_below))))
      (λ apart. get_or-set_other mesh.crossings (pair_place mesh node next) (pair_place mesh a b) _ 0 apart ∙ not_there apart (a == node && (b == next)) refl)
    where
      not_there : pair_place mesh a b ≢ pair_place mesh node next → (c : Bool) → (a == node && (b == next)) ≡ c → crossings_of mesh a b
          ≡ crossings_of mesh a b + digit c
      not_there apart false e = omega arith
      not_there apart true e = let both = and_parts (a == node) (b == next) e in absurd
          (apart (λ i. pair_place mesh (eqb-true a node both.0 i) (eqb-true b next both.1 i)))

  load_later : (a b : ℕ) → load_left later a b + digit (a == node && (b == next)) ≡ load_left mesh a b
  unfolding later place next_place in_port
  load_later a b =
      let between : List (List Packet) = set mesh.queues place rest in
      let load : ℕ → List Packet → ℕ = queue_load mesh.width a b in
      let taken = sum_at (count_of mesh * 5) (λ k. load (k / 5) (get_or between k [])) (λ k. load (k / 5) (get_or mesh.queues k [])) place
      (place_below node (count_of mesh) port below) (λ k apart. ap (load (k / 5)) (get_or-set_other mesh.queues place k rest [] apart)) in
      let given = sum_at (count_of mesh * 5) (λ k. load (k / 5) (get_or later.queues k [])) (λ k. load (k / 5) (get_or between k [])) next_place
      (place_below next (count_of mesh) in_port next_below) (λ k apart. ap (load (k / 5)) (get_or-set_other between next_place k _ [] apart)) in
      let had : load (place / 5) (get_or mesh.queues place []) ≡ digit (has_step a b (route mesh.width node packet.to.0)) + load (place / 5) rest =
      ap (load (place / 5)) was ∙ ap (λ n. digit (has_step a b (route mesh.width n packet.to.0)) + load (place / 5) rest) (place_node node port) in
      let has : load (place / 5) (get_or between place []) ≡ load (place / 5) rest = ap (load (place / 5)) (get_or-set_same mesh.queues place rest [] fits) in
      let next_had : load (next_place / 5) (get_or between next_place []) ≡ load (next_place / 5) (get_or mesh.queues next_place []) = ap
      (load (next_place / 5)) (get_or-set_other mesh.queues place next_place rest [] moves) in
      let next_has : load (next_place / 5) (get_or later.queues next_place [])
      ≡ load (next_place / 5) (get_or mesh.queues next_place []) + digit (has_step a b (route mesh.width next packet.to.0)) =
      ap (load (next_place / 5)) put ∙ (weigh_push _ (queue_of mesh next in_port) packet
      ∙ ap (λ n. load (next_place / 5) (queue_of mesh next in_port) + digit (has_step a b (route mesh.width n packet.to.0))) (place_node next in_port)) in
      omega (arith, load_on mesh.width packet.to.0 is.wide node next a b step)

  pub passes_on : MessagesAreCarried sent later
  unfolding later
  passes_on = record {
    wide = is.wide;
    counted = is.counted;
    queues_are = length-set (set mesh.queues (queue_place node port) rest) (queue_place next (port_from mesh.width node next)) _
        ∙ (length-set mesh.queues (queue_place node port) rest ∙ is.queues_are);
    arrivals_are = is.arrivals_are;
    crossings_are = length-set mesh.crossings (pair_place mesh node next) _ ∙ is.crossings_are;
    placed = placed_later;
    in_order = λ from to f t. ap (λ xs. arrivals_of mesh from to ++ xs) (waits_later from to (pair_of from to packet)) ∙ is.in_order from to f t;
    crossed = λ a b f t. omega (arith, crossed_once a b t, load_later a b, is.crossed a b f t);
  }
