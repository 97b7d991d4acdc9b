-- An injection keeps what routers keep.
use Rattle.std.proofs.Common.{◌≡◌, ◌≢◌, ℕ, ◌+◌, ◌*◌, ◌/◌, ◌<◌, List, [], ◌∷◌, ◌++◌, get_or, sym, ap}
use Rattle.std.proofs.Common.{subst, ◌∙◌, ◌⊎◌, inl, inr, append-nil, append_assoc, arith}
use Rattle.std.specs.List.{AllByRecursion}
use Rattle.std.proofs.lemmas.List.{get_or-set_same, get_or-set_other, length-set, length_push}
use Rattle.alw_num.specs.Weights.{digit}
use Rattle.alw_num.proofs.Weigh.{is_node, weigh_push, sum_at}
use Rattle.mesh_route.specs.declared.ports.Port.{Port}
use Rattle.mesh_route.specs.declared.ports.Port.TheVariants.{Local}
use Rattle.mesh_route.specs.declared.queues.Packet.{Packet}
use Rattle.mesh_route.specs.Routes.{route, has_step, stops}
use Rattle.mesh_route.specs.Meshes.{Mesh, count_of, queue_place, queue_of, arrivals_of, after_injection}
use Rattle.mesh_route.specs.Deliveries.{messages_of, waiting}
use Rattle.mesh_route.specs.Keeping.{MessageIsPlaced, queue_load, load_left, MessagesAreCarried}
use Rattle.mesh_route.proofs.Steps.{distance}
use Rattle.mesh_route.proofs.Stops.{stops-from, stop_first, messages-append, waiting-others, puts}
use Rattle.mesh_route.proofs.QueuePlaces.{place_is, place_below, place_node, IsOfPair, IsOfAnother, its_message, pair_of}
use Rattle.alw_num.proofs.Alls.{all_push}

module _ (sent : List Packet) (mesh : Mesh) (packet : Packet) (is : MessagesAreCarried sent mesh) (from_within : packet.from.0 < count_of mesh)
    (to_within : packet.to.0 < count_of mesh) where
  unfoldable pub later : Mesh
  later = after_injection mesh packet

  place : ℕ
  place = queue_place packet.from.0 Local

  put : queue_of later packet.from.0 Local ≡ queue_of mesh packet.from.0 Local ++ packet ∷ []
  unfolding later place
  put = get_or-set_same mesh.queues place _ [] (rw is.queues_are (place_below packet.from.0 (count_of mesh) Local from_within))

  other : (node : ℕ) (port : Port) → queue_place node port ≢ place → queue_of later node port ≡ queue_of mesh node port
  unfolding later place
  other node port apart = get_or-set_other mesh.queues place (queue_place node port) _ [] apart

  placed_later : (node : ℕ) (port : Port) → node < count_of mesh → AllByRecursion (MessageIsPlaced mesh.width (count_of mesh) node port) (queue_of later node port)
  unfolding place
  placed_later node port l = is_node _ (queue_place node port) place
      (λ same. let at = place_is node packet.from.0 port Local same in subst
      (λ (k : ℕ × Port). AllByRecursion (MessageIsPlaced mesh.width (count_of mesh) k.0 k.1) (queue_of later k.0 k.1)) (λ i. (sym at.0 i, sym at.1 i)) first)
      (λ apart. rw (other node port apart) (is.placed node port l))
    where
      first : AllByRecursion (MessageIsPlaced mesh.width (count_of mesh) packet.from.0 Local) (queue_of later packet.from.0 Local)
      first = rw put (all_push (MessageIsPlaced mesh.width (count_of mesh) packet.from.0 Local) (queue_of mesh packet.from.0 Local) packet
          (is.placed packet.from.0 Local from_within)
          (record {
            from_within = from_within;
            to_within = to_within;
            stop = rw (stops-from mesh.width packet.from.0 packet.to.0)
                (stop_first mesh.width packet.from.0 packet.to.0 Local);
          }))

  waits_later : (from to : ℕ) → waiting (queue_of later) from to (stops mesh.width from to)
      ≡ waiting (queue_of mesh) from to (stops mesh.width from to) ++ messages_of from to (packet ∷ [])
  unfolding place
  waits_later from to = go (pair_of from to packet)
    where
      of_pair : waiting (queue_of later) packet.from.0 packet.to.0 (stops mesh.width packet.from.0 packet.to.0)
          ≡ waiting (queue_of mesh) packet.from.0 packet.to.0 (stops mesh.width packet.from.0 packet.to.0) ++ packet.msg ∷ []
      of_pair = rw (stops-from mesh.width packet.from.0 packet.to.0) (puts mesh.width packet.to.0 is.wide (queue_of mesh)
          (queue_of later) packet.from.0 packet.from.0 Local packet (its_message packet) put
          (λ node port l. other node port (λ same. absurd (omega (
            arith,
            ap (λ n. distance mesh.width n packet.to.0)
                (place_is node packet.from.0 port Local same).0,
          )))))

      same_messages : messages_of from to (packet ∷ []) ≡ [] → (node : ℕ) (port : Port) → messages_of from to (queue_of later node port)
          ≡ messages_of from to (queue_of mesh node port)
      same_messages none node port = is_node _ (queue_place node port) place
          (λ same. (λ i. messages_of from to (get_or later.queues (same i) []))
          ∙ (ap (messages_of from to) put
          ∙ (messages-append from to (queue_of mesh packet.from.0 Local) (packet ∷ [])
          ∙ (ap (λ xs. messages_of from to (queue_of mesh packet.from.0 Local) ++ xs) none
          ∙ (append-nil (messages_of from to (queue_of mesh packet.from.0 Local)) ∙ (λ i. messages_of from to (get_or mesh.queues (sym same i) [])))))))
          (λ apart. ap (messages_of from to) (other node port apart))

      go : IsOfPair from to packet ⊎ IsOfAnother from to packet → waiting (queue_of later) from to (stops mesh.width from to)
          ≡ waiting (queue_of mesh) from to (stops mesh.width from to) ++ messages_of from to (packet ∷ [])
      go (inl its) =
          subst (λ (k : ℕ × ℕ). waiting (queue_of later) k.0 k.1 (stops mesh.width k.0 k.1)
          ≡ waiting (queue_of mesh) k.0 k.1 (stops mesh.width k.0 k.1) ++ packet.msg ∷ [])
          (λ i. (sym its.from_is i, sym its.to_is i)) of_pair
          ∙ ap (λ xs. waiting (queue_of mesh) from to (stops mesh.width from to) ++ xs) (sym its.message)
      go (inr others) = rw others.message (waiting-others (queue_of mesh) (queue_of later) from to (stops mesh.width from to) (same_messages others.message)
          ∙ sym (append-nil (waiting (queue_of mesh) from to (stops mesh.width from to))))

  load_later : (a b : ℕ) → load_left later a b ≡ load_left mesh a b + digit (has_step a b (route mesh.width packet.from.0 packet.to.0))
  unfolding later place
  load_later a b =
      let change = sum_at (count_of mesh * 5) (λ k. queue_load mesh.width a b (k / 5) (get_or later.queues k []))
      (λ k. queue_load mesh.width a b (k / 5) (get_or mesh.queues k [])) place
      (place_below packet.from.0 (count_of mesh) Local from_within)
      (λ k apart. ap (queue_load mesh.width a b (k / 5)) (get_or-set_other mesh.queues place k _ [] apart)) in
      let grown : queue_load mesh.width a b (place / 5) (get_or later.queues place [])
      ≡ queue_load mesh.width a b (place / 5) (get_or mesh.queues place []) + digit (has_step a b (route mesh.width packet.from.0 packet.to.0)) =
      ap (queue_load mesh.width a b (place / 5)) put ∙ (weigh_push _ (queue_of mesh packet.from.0 Local) packet
      ∙ ap (λ n. queue_load mesh.width a b (place / 5) (queue_of mesh packet.from.0 Local) + digit (has_step a b (route mesh.width n packet.to.0)))
      (place_node packet.from.0 Local)) in
      omega arith

  pub injects : MessagesAreCarried (sent ++ packet ∷ []) later
  unfolding later
  injects = record {
    wide = is.wide;
    counted = omega (arith, is.counted, length_push sent packet);
    queues_are = length-set mesh.queues (queue_place packet.from.0 Local) _ ∙ is.queues_are;
    arrivals_are = is.arrivals_are;
    crossings_are = is.crossings_are;
    placed = placed_later;
    in_order = λ from to f t. ap (λ xs. arrivals_of mesh from to ++ xs) (waits_later from to)
        ∙ (sym (append_assoc (arrivals_of mesh from to) (waiting (queue_of mesh) from to (stops mesh.width from to)) (messages_of from to (packet ∷ [])))
        ∙ (ap (λ xs. xs ++ messages_of from to (packet ∷ [])) (is.in_order from to f t) ∙ sym (messages-append from to sent (packet ∷ []))));
    crossed = λ a b f t. omega (
      arith,
      load_later a b,
      is.crossed a b f t,
      weigh_push
          (λ (p : Packet). digit (has_step a b (route mesh.width p.from.0 p.to.0))) sent packet,
    );
  }
