-- A hop of a message at its last node keeps what routers keep.
use Rattle.std.proofs.Common.{◌≡◌, ◌≢◌, ℕ, ◌+◌, ◌*◌, ◌/◌, ◌<◌, None, List, [], ◌∷◌, ◌++◌, get_or, sym}
use Rattle.std.proofs.Common.{ap, subst, ◌∙◌, ◌⊎◌, inl, inr, append_assoc, arith}
use Rattle.std.specs.List.{AllByRecursion}
use Rattle.std.proofs.lemmas.List.{get_or-set_same, get_or-set_other, length-set}
use Rattle.std.proofs.lemmas.Nat.{mul-add-lt, same_from_place}
use Rattle.alw_num.specs.Weights.{digit}
use Rattle.alw_num.proofs.Weigh.{is_node, sum_at}
use Rattle.mesh_route.specs.declared.ports.Port.{Port}
use Rattle.mesh_route.specs.declared.ports.Port.TheVariants.{Local}
use Rattle.mesh_route.specs.declared.queues.Packet.{Packet}
use Rattle.mesh_route.specs.Routes.{route, has_step, stops}
use Rattle.mesh_route.specs.Meshes.{Mesh, count_of, queue_place, pair_place, queue_of, arrivals_of, with_queue, moved}
use Rattle.mesh_route.specs.Deliveries.{messages_of, waiting}
use Rattle.mesh_route.specs.Keeping.{IsStop, MessageIsPlaced, queue_load, load_left, MessagesAreCarried}
use Rattle.mesh_route.proofs.Stops.{stops_from, stops-from, messages-append, waiting-others, arrives}
use Rattle.mesh_route.proofs.Loads.{steps_end}
use Rattle.mesh_route.proofs.QueuePlaces.{place_is, place_below, place_node, IsOfPair, IsOfAnother, its_message, pair_of}

module _ (sent : List Packet) (mesh : Mesh) (node : ℕ) (port : Port) (packet : Packet) (rest : List Packet) (is : MessagesAreCarried sent mesh)
    (below : node < count_of mesh)
    (was : queue_of mesh node port ≡ packet ∷ rest) (last : node ≡ packet.to.0) where
  unfoldable pub later : Mesh
  later = (moved (with_queue mesh node port rest) node packet None).1

  place : ℕ
  place = queue_place node port

  stood : AllByRecursion (MessageIsPlaced mesh.width (count_of mesh) node port) (packet ∷ rest)
  stood = rw was at (is.placed node port below)

  left : queue_of later node port ≡ rest
  unfolding later
  left = get_or-set_same mesh.queues (queue_place node port) rest [] (rw is.queues_are (place_below node (count_of mesh) port below))

  other : (at : ℕ) (in_port : Port) → queue_place at in_port ≢ place → queue_of later at in_port ≡ queue_of mesh at in_port
  unfolding later place
  other at in_port apart = get_or-set_other mesh.queues place (queue_place at in_port) rest [] apart

  placed_later : (at : ℕ) (in_port : Port) → at < count_of mesh → AllByRecursion (MessageIsPlaced mesh.width (count_of mesh) at in_port) (queue_of later at in_port)
  unfolding place
  placed_later at in_port l = is_node _ (queue_place at in_port) place
      (λ same. let here = place_is at node in_port port same in subst (λ (k : ℕ × Port). AllByRecursion (MessageIsPlaced mesh.width (count_of mesh) k.0 k.1)
      (queue_of later k.0 k.1)) (λ i. (sym here.0 i, sym here.1 i)) (rw left stood.1))
      (λ apart. rw (other at in_port apart) (is.placed at in_port l))

  came : arrivals_of later packet.from.0 packet.to.0 ≡ arrivals_of mesh packet.from.0 packet.to.0 ++ packet.msg ∷ []
  unfolding later
  came = get_or-set_same mesh.arrivals (pair_place mesh packet.from.0 packet.to.0) _ []
      (rw is.arrivals_are (mul-add-lt packet.from.0 (count_of mesh) packet.to.0 (count_of mesh) stood.0.from_within stood.0.to_within))

  goal_stop : IsStop packet.to.0 port (stops_from mesh.width packet.to.0 packet.from.0 Local)
  goal_stop = subst (λ n. IsStop n port (stops_from mesh.width packet.to.0 packet.from.0 Local)) last
      (rw (stops-from mesh.width packet.from.0 packet.to.0) at stood.0.stop)

  pub waits : waiting (queue_of mesh) packet.from.0 packet.to.0 (stops mesh.width packet.from.0 packet.to.0)
      ≡ packet.msg ∷ waiting (queue_of later) packet.from.0 packet.to.0 (stops mesh.width packet.from.0 packet.to.0)
  unfolding place
  waits = rw (stops-from mesh.width packet.from.0 packet.to.0) (arrives mesh.width packet.to.0 is.wide (queue_of mesh)
      (queue_of later) packet.from.0 port packet rest (its_message packet)
      ((λ i. queue_of mesh (sym last i) port) ∙ was) ((λ i. queue_of later (sym last i) port) ∙ left)
      (λ at in_port apart. other at in_port (λ same. absurd (apart ((place_is at node in_port port same).0 ∙ last)))) packet.from.0 Local goal_stop)

  -- the pair of the message: it is the next to arrive
  of_pair : arrivals_of later packet.from.0 packet.to.0 ++ waiting (queue_of later) packet.from.0 packet.to.0 (stops mesh.width packet.from.0 packet.to.0)
      ≡ arrivals_of mesh packet.from.0 packet.to.0 ++ waiting (queue_of mesh) packet.from.0 packet.to.0 (stops mesh.width packet.from.0 packet.to.0)
  of_pair =
      (λ i. came i ++ waiting (queue_of later) packet.from.0 packet.to.0 (stops mesh.width packet.from.0 packet.to.0))
      ∙ (append_assoc (arrivals_of mesh packet.from.0 packet.to.0) (packet.msg ∷ [])
      (waiting (queue_of later) packet.from.0 packet.to.0 (stops mesh.width packet.from.0 packet.to.0))
      ∙ ap (λ xs. arrivals_of mesh packet.from.0 packet.to.0 ++ xs) (sym waits))

  -- another pair
  of_another : (from to : ℕ) → to < count_of mesh → IsOfAnother from to packet
      → arrivals_of later from to ++ waiting (queue_of later) from to (stops mesh.width from to)
      ≡ arrivals_of mesh from to ++ waiting (queue_of mesh) from to (stops mesh.width from to)
  unfolding later place
  of_another from to t another = λ i. same_arrivals i ++ waiting-others (queue_of mesh) (queue_of later) from to (stops mesh.width from to) same_messages i
    where
      same_arrivals : arrivals_of later from to ≡ arrivals_of mesh from to
      same_arrivals = get_or-set_other mesh.arrivals (pair_place mesh packet.from.0 packet.to.0) (pair_place mesh from to) _ []
          (λ same. let pair = same_from_place from to packet.from.0 packet.to.0 (count_of mesh) t stood.0.to_within same in absurd
          (another.apart pair.0 pair.1))

      same_messages : (at : ℕ) (in_port : Port) → messages_of from to (queue_of later at in_port) ≡ messages_of from to (queue_of mesh at in_port)
      same_messages at in_port = is_node _ (queue_place at in_port) place
          (λ same. (λ i. messages_of from to (get_or later.queues (same i) []))
          ∙ (ap (messages_of from to) left ∙ (sym (messages-append from to (packet ∷ []) rest ∙ ap (λ xs. xs ++ messages_of from to rest) another.message)
          ∙ (ap (messages_of from to) (sym was) ∙ (λ i. messages_of from to (get_or mesh.queues (sym same i) []))))))
          (λ apart. ap (messages_of from to) (other at in_port apart))

  load_later : (a b : ℕ) → load_left later a b ≡ load_left mesh a b
  unfolding later place
  load_later a b =
      let change = sum_at (count_of mesh * 5) (λ k. queue_load mesh.width a b (k / 5) (get_or later.queues k []))
      (λ k. queue_load mesh.width a b (k / 5) (get_or mesh.queues k [])) place
      (place_below node (count_of mesh) port below)
      (λ k apart. ap (queue_load mesh.width a b (k / 5)) (get_or-set_other mesh.queues place k _ [] apart)) in
      let none : digit (has_step a b (route mesh.width (place / 5) packet.to.0))
      ≡ 0 = ap (λ n. digit (has_step a b (route mesh.width n packet.to.0))) (place_node node port ∙ last)
      ∙ ap digit (steps_end mesh.width packet.to.0 is.wide a b) in
      let old : queue_load mesh.width a b (place / 5) (get_or mesh.queues place [])
      ≡ digit (has_step a b (route mesh.width (place / 5) packet.to.0)) + queue_load mesh.width a b (place / 5) rest = ap
      (queue_load mesh.width a b (place / 5)) was in
      let new : queue_load mesh.width a b (place / 5) (get_or later.queues place [])
      ≡ queue_load mesh.width a b (place / 5) rest = ap (queue_load mesh.width a b (place / 5)) left in
      omega arith

  pub arrives_at_last : MessagesAreCarried sent later
  unfolding later
  arrives_at_last = record {
    wide = is.wide;
    counted = is.counted;
    queues_are = length-set mesh.queues (queue_place node port) rest ∙ is.queues_are;
    arrivals_are = length-set mesh.arrivals (pair_place mesh packet.from.0 packet.to.0) _ ∙ is.arrivals_are;
    crossings_are = is.crossings_are;
    placed = placed_later;
    in_order = λ from to f t. in_order_later from to t (pair_of from to packet) ∙ is.in_order from to f t;
    crossed = λ a b f t. omega (arith, load_later a b, is.crossed a b f t);
  }
    where
      in_order_later : (from to : ℕ) → to < count_of mesh → IsOfPair from to packet ⊎ IsOfAnother from to packet
          → arrivals_of later from to ++ waiting (queue_of later) from to (stops mesh.width from to)
          ≡ arrivals_of mesh from to ++ waiting (queue_of mesh) from to (stops mesh.width from to)
      in_order_later from to t (inr another) = of_another from to t another
      in_order_later from to t (inl its) =
          subst (λ (k : ℕ × ℕ). arrivals_of later k.0 k.1 ++ waiting (queue_of later) k.0 k.1 (stops mesh.width k.0 k.1)
          ≡ arrivals_of mesh k.0 k.1 ++ waiting (queue_of mesh) k.0 k.1 (stops mesh.width k.0 k.1))
          (λ i. (sym its.from_is i, sym its.to_is i)) of_pair
