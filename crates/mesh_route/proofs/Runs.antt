-- After every list of injections and hops routers keep what they keep, and once idle they have delivered.
use Rattle.std.proofs.Common.{◌≡◌, ◌≢◌, ℕ, zero, suc, ◌+◌, ◌*◌, ◌/◌, ◌<◌, true, false, Option, None, Some, List, [], ◌∷◌, ◌++◌}
use Rattle.std.proofs.Common.{replicate, get_or, refl, sym, ap, subst, ◌∙◌, ◌⊎◌, inl, inr, append-nil, append_assoc, arith}
use Rattle.std.specs.List.{list_any, AllByRecursion}
use Rattle.std.proofs.lemmas.Bool.{cases_eq, not-true}
use Rattle.std.proofs.lemmas.List.{length-replicate}
use Rattle.alw_num.proofs.Weigh.{sum_none}
use Rattle.alw_msg.specs.Lists.{is_nonempty}
use Rattle.mesh_route.specs.declared.ports.Port.{Port}
use Rattle.mesh_route.specs.declared.queues.Packet.{Packet}
use Rattle.mesh_route.specs.Routes.{next_on, stops}
use Rattle.mesh_route.specs.Meshes.{Mesh, Act, Injects, HopsFrom, count_of, queue_place, queue_of, arrivals_of, with_queue, mesh_start, moved}
use Rattle.mesh_route.specs.Meshes.{hop_of, hop_from, mesh_or, after_act, after_acts, hop_run, injections, ActIsWithin}
use Rattle.mesh_route.specs.Deliveries.{messages_of, waiting, is_idle, MeshIsAfter, ArrivalsAreInOrder, AllAreDelivered}
use Rattle.mesh_route.specs.Keeping.{queue_load, load_left, MessagesAreCarried}
use Rattle.mesh_route.proofs.Steps.{steps, next_is, next_none}
use Rattle.mesh_route.proofs.Carrying.{later as injected_later, injects}
use Rattle.mesh_route.proofs.Arriving.{later as arrived_later, arrives_at_last}
use Rattle.mesh_route.proofs.Passing.{later as passed_later, passes_on}

-- ---- the start

get_or-none : {X : Type 0} (n i : ℕ) (x : X) → get_or (replicate n x) i x ≡ x
get_or-none zero i x = refl
get_or-none (suc n) zero x = refl
get_or-none (suc n) (suc i) x = get_or-none n i x

waiting-none : (queue : ℕ → Port → List Packet) → ((node : ℕ) (port : Port) → queue node port ≡ []) → (from to : ℕ) (list : List (ℕ × Port))
    → waiting queue from to list ≡ []
waiting-none queue none from to [] = refl
waiting-none queue none from to (stop ∷ rest) = λ i. waiting-none queue none from to rest i ++ messages_of from to (none stop.0 stop.1 i)

-- no queue has a message
load-none : (mesh : Mesh) → ((k : ℕ) → get_or mesh.queues k [] ≡ []) → (a b : ℕ) → load_left mesh a b ≡ 0
load-none mesh none a b = sum_none (count_of mesh * 5) (λ k. queue_load mesh.width a b (k / 5) (get_or mesh.queues k []))
    (λ k l. ap (queue_load mesh.width a b (k / 5)) (none k))

pub start_carries : (width height : ℕ) → 0 < width → MessagesAreCarried [] (mesh_start width height)
start_carries width height wide = record {
  wide = wide;
  counted = refl;
  queues_are = length-replicate (width * height * 5) [];
  arrivals_are = length-replicate (width * height * (width * height)) [];
  crossings_are = length-replicate (width * height * (width * height)) 0;
  placed = λ node port l. rw (get_or-none {X = List Packet} (width * height * 5) (queue_place node port) []) tt;
  in_order = λ from to f t. (λ i. get_or-none (width * height * (width * height)) (from * (width * height) + to) [] i ++ nothing from to i);
  crossed = λ a b f t. omega (
    arith,
    get_or-none {X = ℕ} (width * height * (width * height)) (a * (width * height) + b) 0,
    load-none (mesh_start width height)
        (λ k. get_or-none (width * height * 5) k []) a b,
  );
}
  where
    nothing : (from to : ℕ) → waiting (queue_of (mesh_start width height)) from to (stops width from to) ≡ []
    nothing from to = waiting-none (queue_of (mesh_start width height)) (λ node port. get_or-none (width * height * 5) (queue_place node port) []) from to
        (stops width from to)

-- ---- a hop

pub hop_carries : (sent : List Packet) (mesh : Mesh) (node : ℕ) (port : Port) → MessagesAreCarried sent mesh → node < count_of mesh
    → MessagesAreCarried sent (mesh_or mesh (hop_from mesh node port))
unfolding arrived_later passed_later
hop_carries sent mesh node port is below = go (queue_of mesh node port) refl
  where
    moves : (packet : Packet) (rest : List Packet) → queue_of mesh node port ≡ packet ∷ rest → (node ≡ packet.to.0) ⊎ (node ≢ packet.to.0)
        → MessagesAreCarried sent (moved (with_queue mesh node port rest) node packet (next_on mesh.width node packet.to.0)).1
    moves packet rest was (inl last) =
        let done : MessagesAreCarried sent (moved (with_queue mesh node port rest) node packet None).1 = arrives_at_last sent mesh node port packet rest is below was
        last in
        subst (λ next. MessagesAreCarried sent (moved (with_queue mesh node port rest) node packet next).1)
        (sym (next_none mesh.width node packet.to.0 is.wide last)) done
    moves packet rest was (inr apart) =
        let step = steps mesh.width node packet.to.0 is.wide apart in
        let done : MessagesAreCarried sent (moved (with_queue mesh node port rest) node packet (Some step.0)).1 = passes_on sent mesh node step.0 port packet rest is
        below was step.1 in
        subst (λ next. MessagesAreCarried sent (moved (with_queue mesh node port rest) node packet next).1)
        (sym (next_is mesh.width node packet.to.0 step.0 is.wide step.1)) done

    go : (queue : List Packet) → queue_of mesh node port ≡ queue → MessagesAreCarried sent (mesh_or mesh (hop_of mesh node port queue))
    go [] was = is
    go (packet ∷ rest) was = moves packet rest was (cases_eq node packet.to.0)

-- ---- lists of injections and hops

nodes_stay : (mesh : Mesh) (act : Act) → count_of (after_act mesh act) ≡ count_of mesh
nodes_stay mesh (Injects packet) = refl
nodes_stay mesh (HopsFrom node port) = go (queue_of mesh node.0 port)
  where
    by_next : (packet : Packet) (rest : List Packet) (next : Option ℕ) → count_of (moved (with_queue mesh node.0 port rest) node.0 packet next).1
        ≡ count_of mesh
    by_next packet rest None = refl
    by_next packet rest (Some next) = refl

    go : (queue : List Packet) → count_of (mesh_or mesh (hop_of mesh node.0 port queue)) ≡ count_of mesh
    go [] = refl
    go (packet ∷ rest) = by_next packet rest (next_on mesh.width node.0 packet.to.0)

act_carries : (sent : List Packet) (mesh : Mesh) (act : Act) → MessagesAreCarried sent mesh → ActIsWithin (count_of mesh) act
    → MessagesAreCarried (sent ++ injections (act ∷ [])) (after_act mesh act)
unfolding injected_later
act_carries sent mesh (Injects packet) is within = injects sent mesh packet is within.0 within.1
act_carries sent mesh (HopsFrom node port) is below = subst (λ xs. MessagesAreCarried xs (mesh_or mesh (hop_from mesh node.0 port))) (sym (append-nil sent))
    (hop_carries sent mesh node.0 port is below)

injections-cons : (act : Act) (rest : List Act) → injections (act ∷ rest) ≡ injections (act ∷ []) ++ injections rest
injections-cons (Injects packet) rest = refl
injections-cons (HopsFrom node port) rest = refl

pub acts_carry : (sent : List Packet) (mesh : Mesh) (acts : List Act) → MessagesAreCarried sent mesh → AllByRecursion (ActIsWithin (count_of mesh)) acts
    → MessagesAreCarried (sent ++ injections acts) (after_acts mesh acts)
acts_carry sent mesh [] is within = subst (λ xs. MessagesAreCarried xs mesh) (sym (append-nil sent)) is
acts_carry sent mesh (act ∷ rest) is within =
    let more : MessagesAreCarried (sent ++ injections (act ∷ [])) (after_act mesh act) = act_carries sent mesh act is within.0 in
    let later = acts_carry (sent ++ injections (act ∷ [])) (after_act mesh act) rest more
    (subst (λ n. AllByRecursion (ActIsWithin n) rest) (sym (nodes_stay mesh act)) within.1) in
    subst (λ xs. MessagesAreCarried xs (after_acts mesh (act ∷ rest))) (append_assoc sent (injections (act ∷ [])) (injections rest)
    ∙ ap (λ xs. sent ++ xs) (sym (injections-cons act rest))) later

pub run_carries : (acts : List Act) (mesh : Mesh) → 0 < mesh.width → MeshIsAfter acts mesh → MessagesAreCarried (injections acts) mesh
unfolding hop_run
run_carries acts mesh wide is =
    subst (MessagesAreCarried (injections acts)) (sym is.run) (acts_carry [] (mesh_start mesh.width mesh.height) acts
    (start_carries mesh.width mesh.height wide) is.within)

-- ---- the two laws

wide_of : (width height node : ℕ) → node < width * height → 0 < width
wide_of zero height node l = absurd (omega arith)
wide_of (suc width) height node l = omega arith

pub keeps_order : (mesh : Mesh) (from to : ℕ) → from < count_of mesh → to < count_of mesh → ArrivalsAreInOrder mesh from to
keeps_order mesh from to f t acts is = (run_carries acts mesh (wide_of mesh.width mesh.height from f) is).in_order from to f t

idle_queues : (queues : List (List Packet)) → list_any is_nonempty queues ≡ false → (k : ℕ) → get_or queues k [] ≡ []
idle_queues [] e k = refl
idle_queues ([] ∷ rest) e zero = refl
idle_queues ([] ∷ rest) e (suc k) = idle_queues rest e k
idle_queues ((packet ∷ more) ∷ rest) e k = cc

pub delivers : (acts : List Act) (mesh : Mesh) → MeshIsAfter acts mesh → is_idle mesh ≡ true → AllAreDelivered acts mesh
delivers acts mesh is idle = record {
  arrived = λ from to f t.
      sym (append-nil (arrivals_of mesh from to)) ∙ (ap (λ xs. arrivals_of mesh from to ++ xs)
      (sym (waiting-none (queue_of mesh) (λ node port. empty (queue_place node port)) from to (stops mesh.width from to)))
      ∙ keeps_order mesh from to f t acts is);
  crossed = λ a b f t. omega (arith, (run_carries acts mesh (wide_of mesh.width mesh.height a f) is).crossed a b f t, load-none mesh empty a b);
}
  where
    empty : (k : ℕ) → get_or mesh.queues k [] ≡ []
    empty = idle_queues mesh.queues (not-true (list_any is_nonempty mesh.queues) idle)
