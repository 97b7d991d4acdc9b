-- What waits of a pair in the queues on its route, before and after one message is put at the end of a queue, taken off its front, or both.
use Rattle.std.proofs.Common.{◌≡◌, ◌≢◌, ℕ, ◌<◌, ◌≤◌, ◌==◌, Bool, true, false, cond, ◌&&◌, List, [], ◌∷◌, ◌++◌, refl, sym, ap, subst, ◌∙◌}
use Rattle.std.proofs.Common.{◌⊎◌, inl, inr, ⊎_elim, append_assoc, arith}
use Rattle.std.specs.List.{AllByRecursion}
use Rattle.std.proofs.lemmas.Bool.{cases_eq}
use Rattle.alw_msg.specs.declared.messages.Msg.{Msg}
use Rattle.alw_msg.specs.Lists.{behind}
use Rattle.mesh_route.specs.declared.ports.Port.{Port}
use Rattle.mesh_route.specs.declared.ports.Port.TheVariants.{Local}
use Rattle.mesh_route.specs.declared.queues.Packet.{Packet}
use Rattle.mesh_route.specs.Routes.{route, port_from, stops_behind, stops}
use Rattle.mesh_route.specs.Deliveries.{messages_of, waiting}
use Rattle.mesh_route.specs.Keeping.{IsStop}
use Rattle.mesh_route.proofs.Steps.{IsStep, distance, distance-same, steps, route_end, route_first, along}
use Rattle.alw_num.proofs.Alls.{all_weaker}

-- the queues on a route from one of its nodes on, where its messages come in by a port
unfoldable pub stops_from : ℕ → ℕ → ℕ → Port → List (ℕ × Port)
stops_from width to node port = (node, port) ∷ stops_behind width node (behind (route width node to))

front_apart : (mine : Bool) (msg : Msg) (rest more : List Msg) → cond mine (msg ∷ (rest ++ more)) (rest ++ more) ≡ cond mine (msg ∷ rest) rest ++ more
front_apart true msg rest more = refl
front_apart false msg rest more = refl

pub messages-append : (from to : ℕ) (packets more : List Packet) → messages_of from to (packets ++ more)
    ≡ messages_of from to packets ++ messages_of from to more
messages-append from to [] more = refl
messages-append from to (packet ∷ rest) more = rw (messages-append from to rest more)
    (front_apart (from == packet.from.0 && (to == packet.to.0)) packet.msg (messages_of from to rest) (messages_of from to more))

pub waiting-same : (queue later : ℕ → Port → List Packet) (from to : ℕ) (list : List (ℕ × Port))
    → AllByRecursion (λ (stop : ℕ × Port). messages_of from to (later stop.0 stop.1) ≡ messages_of from to (queue stop.0 stop.1)) list
    → waiting later from to list ≡ waiting queue from to list
waiting-same queue later from to [] same = refl
waiting-same queue later from to (stop ∷ rest) same = λ i. waiting-same queue later from to rest same.1 i ++ same.0 i

each_of : {X : Type 0} (P : X → Type 0) → ((x : X) → P x) → (xs : List X) → AllByRecursion P xs
each_of P each [] = tt
each_of P each (x ∷ xs) = (each x, each_of P each xs)

-- what holds of each of some queues holds of one of them
of_stop : (node : ℕ) (port : Port) (P : ℕ × Port → Type 0) (list : List (ℕ × Port)) → AllByRecursion P list → IsStop node port list → P (node, port)
of_stop node port P [] each there = absurd there
of_stop node port P (stop ∷ rest) each (inl (same, also)) = subst P (λ i. (sym same i, sym also i)) each.0
of_stop node port P (stop ∷ rest) each (inr further) = of_stop node port P rest each.1 further

-- a pair none of whose messages moved waits as before
pub waiting-others : (queue later : ℕ → Port → List Packet) (from to : ℕ) (list : List (ℕ × Port))
    → ((node : ℕ) (port : Port) → messages_of from to (later node port) ≡ messages_of from to (queue node port)) → waiting later from to list
    ≡ waiting queue from to list
waiting-others queue later from to list same = waiting-same queue later from to list (each_of _ (λ stop. same stop.0 stop.1) list)

-- the first queue of a route
pub stop_first : (width from to : ℕ) (port : Port) → IsStop from port (stops_from width to from port)
unfolding stops_from
stop_first width from to port = inl (refl, refl)

module _ (width to : ℕ) (wide : 0 < width) where
  -- the queues from a node on are its own and those from the next node on
  pub stops_on : (node next : ℕ) (port : Port) → IsStep width node to next → stops_from width to node port
      ≡ (node, port) ∷ stops_from width to next (port_from width node next)
  unfolding stops_from
  stops_on node next port step =
      ap (λ nodes. (node, port) ∷ stops_behind width node (behind nodes)) step.on
      ∙ ap (λ nodes. (node, port) ∷ stops_behind width node nodes) (sym (route_first width next to wide))

  pub stops_end : (port : Port) → stops_from width to to port ≡ (to, port) ∷ []
  unfolding stops_from
  stops_end port = ap (λ nodes. (to, port) ∷ stops_behind width to (behind nodes)) (route_end width to to wide refl)

  IsNear : ℕ → ℕ × Port → Type 0
  IsNear node stop = distance width stop.0 to ≤ distance width node to

  -- no queue from a node on is farther than the node, and those behind it are nearer
  stops_near : (node : ℕ) (port : Port) → AllByRecursion (IsNear node) (stops_from width to node port)
  unfolding IsNear
  stops_near = along width to (λ node port. AllByRecursion (IsNear node) (stops_from width to node port)) wide
      (λ port. rw (stops_end port) (omega arith, tt))
      (λ node next port step near. rw (stops_on node next port step) (
        omega arith,
        all_weaker (IsNear next) (IsNear node) (λ stop l. omega (arith, step.nearer))
            (stops_from width to next (port_from width node next)) near,
      ))

  module _ (queue later : ℕ → Port → List Packet) (from : ℕ) where
    -- queues nearer than a node are as before
    abbrev pub IsKeptBelow : ℕ → Type 0
    IsKeptBelow node = (other : ℕ) (port : Port) → distance width other to < distance width node to → later other port ≡ queue other port

    kept_near : (node next : ℕ) (port : Port) → IsStep width node to next → IsKeptBelow node → waiting later from to (stops_from width to next port)
        ≡ waiting queue from to (stops_from width to next port)
    unfolding IsNear
    kept_near node next port step kept = waiting-same queue later from to (stops_from width to next port)
        (all_weaker (IsNear next) _ (λ stop near. ap (messages_of from to) (kept stop.0 stop.1 (omega (arith, step.nearer)))) (stops_from width to next port)
        (stops_near next port))

    -- a message more at the end of a queue is the last to wait from there on
    pub puts : (node : ℕ) (port : Port) (packet : Packet) → messages_of from to (packet ∷ []) ≡ packet.msg ∷ []
        → later node port ≡ queue node port ++ packet ∷ [] → IsKeptBelow node
        → waiting later from to (stops_from width to node port) ≡ waiting queue from to (stops_from width to node port) ++ packet.msg ∷ []
    puts node port packet mine put kept = go (cases_eq node to)
      where
        alone : node ≡ to → stops_from width to node port ≡ (node, port) ∷ []
        alone same = ap (λ n. stops_from width to n port) same ∙ (stops_end port ∙ ap (λ n. (n, port) ∷ []) (sym same))

        put_on : (nearer : List (ℕ × Port)) → waiting later from to nearer ≡ waiting queue from to nearer
            → waiting later from to ((node, port) ∷ nearer) ≡ waiting queue from to ((node, port) ∷ nearer) ++ packet.msg ∷ []
        put_on nearer same =
            (λ i. same i ++ (ap (messages_of from to) put ∙ (messages-append from to (queue node port) (packet ∷ [])
            ∙ ap (λ xs. messages_of from to (queue node port) ++ xs) mine)) i)
            ∙ sym (append_assoc (waiting queue from to nearer) (messages_of from to (queue node port)) (packet.msg ∷ []))

        go : (node ≡ to) ⊎ (node ≢ to) → waiting later from to (stops_from width to node port)
            ≡ waiting queue from to (stops_from width to node port) ++ packet.msg ∷ []
        go (inl same) = rw (alone same) (put_on [] refl)
        go (inr apart) = let step = steps width node to wide apart in rw (stops_on node step.0 port step.1)
            (put_on (stops_from width to step.0 (port_from width node step.0)) (kept_near node step.0 (port_from width node step.0) step.1 kept))

    -- the head of a queue goes to the end of the next node's queue
    pub passes : (node next : ℕ) (port : Port) (packet : Packet) (rest : List Packet) → IsStep width node to next → messages_of from to (packet ∷ [])
        ≡ packet.msg ∷ []
        → queue node port ≡ packet ∷ rest → later node port ≡ rest → later next (port_from width node next)
        ≡ queue next (port_from width node next) ++ packet ∷ []
        → ((other : ℕ) (p : Port) → other ≢ node → other ≢ next → later other p ≡ queue other p)
        → (first : ℕ) (in_port : Port) → IsStop node port (stops_from width to first in_port) → waiting later from to (stops_from width to first in_port)
        ≡ waiting queue from to (stops_from width to first in_port)
    unfolding IsNear
    passes node next port packet rest step mine was left put others =
        along width to (λ first p. IsStop node port (stops_from width to first p) → waiting later from to (stops_from width to first p)
        ≡ waiting queue from to (stops_from width to first p)) wide
        (λ p there. at_last p (rw (stops_end p) at there)) (λ first second p on further there. on_the_way first second p on further
        (rw (stops_on first second p on) at there))
      where
        nearer : List (ℕ × Port)
        nearer = stops_from width to next (port_from width node next)

        at_last : (p : Port) → IsStop node port ((to, p) ∷ []) → waiting later from to (stops_from width to to p)
            ≡ waiting queue from to (stops_from width to to p)
        at_last p (inl (same, also)) = absurd (omega (arith, step.nearer, ap (λ n. distance width n to) same, distance-same width to))
        at_last p (inr none) = absurd none

        below : IsKeptBelow next
        below other p l = others other p (λ same. absurd (omega (arith, step.nearer, ap (λ n. distance width n to) same)))
            (λ same. absurd (omega (arith, ap (λ n. distance width n to) same)))

        head : waiting later from to ((node, port) ∷ nearer) ≡ waiting queue from to ((node, port) ∷ nearer)
        head =
            let gone : messages_of from to (queue node port) ≡ packet.msg ∷ messages_of from to (later node port) =
            ap (messages_of from to) was ∙ (messages-append from to (packet ∷ []) rest ∙ (λ i. mine i ++ messages_of from to (sym left i))) in
            ap (λ xs. xs ++ messages_of from to (later node port)) (puts next (port_from width node next) packet mine put below)
            ∙ (append_assoc (waiting queue from to nearer) (packet.msg ∷ []) (messages_of from to (later node port))
            ∙ ap (λ xs. waiting queue from to nearer ++ xs) (sym gone))

        on_the_way : (first second : ℕ) (p : Port) → IsStep width first to second
            → (IsStop node port (stops_from width to second (port_from width first second))
            → waiting later from to (stops_from width to second (port_from width first second))
            ≡ waiting queue from to (stops_from width to second (port_from width first second)))
            → IsStop node port ((first, p) ∷ stops_from width to second (port_from width first second)) → waiting later from to (stops_from width to first p)
            ≡ waiting queue from to (stops_from width to first p)
        on_the_way first second p on further (inl (same, also)) =
            let here : stops_from width to first p ≡ (node, port) ∷ nearer = (λ i. stops_from width to (sym same i) (sym also i))
            ∙ stops_on node next port step in
            rw here head
        on_the_way first second p on further (inr there) =
            let l = of_stop node port (IsNear second) _ (stops_near second (port_from width first second)) there in
            let same : later first p ≡ queue first p = others first p
            (λ e. absurd (omega (arith, on.nearer, ap (λ n. distance width n to) e)))
            (λ e. absurd (omega (arith, on.nearer, step.nearer, ap (λ n. distance width n to) e))) in
            rw (stops_on first second p on) (λ i. further there i ++ messages_of from to (same i))

    -- the head of a queue of the last node arrives
    pub arrives : (port : Port) (packet : Packet) (rest : List Packet) → messages_of from to (packet ∷ []) ≡ packet.msg ∷ []
        → queue to port ≡ packet ∷ rest → later to port ≡ rest → ((other : ℕ) (p : Port) → other ≢ to → later other p ≡ queue other p)
        → (first : ℕ) (in_port : Port) → IsStop to port (stops_from width to first in_port) → waiting queue from to (stops_from width to first in_port)
        ≡ packet.msg ∷ waiting later from to (stops_from width to first in_port)
    arrives port packet rest mine was left others =
        along width to (λ first p. IsStop to port (stops_from width to first p) → waiting queue from to (stops_from width to first p)
        ≡ packet.msg ∷ waiting later from to (stops_from width to first p)) wide
        (λ p there. at_last p (rw (stops_end p) at there)) (λ first second p on further there. on_the_way first second p on further
        (rw (stops_on first second p on) at there))
      where
        at_last : (p : Port) → IsStop to port ((to, p) ∷ []) → waiting queue from to (stops_from width to to p)
            ≡ packet.msg ∷ waiting later from to (stops_from width to to p)
        at_last p (inr none) = absurd none
        at_last p (inl (same, also)) =
            let here : queue to p ≡ packet ∷ rest = ap (queue to) (sym also) ∙ was in
            let gone : later to p ≡ rest = ap (later to) (sym also) ∙ left in
            rw (stops_end p) (ap (messages_of from to) here ∙ (messages-append from to (packet ∷ []) rest ∙ (λ i. mine i ++ messages_of from to (sym gone i))))

        on_the_way : (first second : ℕ) (p : Port) → IsStep width first to second
            → (IsStop to port (stops_from width to second (port_from width first second))
            → waiting queue from to (stops_from width to second (port_from width first second))
            ≡ packet.msg ∷ waiting later from to (stops_from width to second (port_from width first second)))
            → IsStop to port ((first, p) ∷ stops_from width to second (port_from width first second)) → waiting queue from to (stops_from width to first p)
            ≡ packet.msg ∷ waiting later from to (stops_from width to first p)
        on_the_way first second p on further there =
            let apart : first ≢ to = λ e. absurd (omega (arith, on.nearer, ap (λ n. distance width n to) e, distance-same width to)) in
            let beyond : IsStop to port (stops_from width to second (port_from width first second)) = ⊎_elim (λ here. absurd (apart (sym here.0)))
            (λ deeper. deeper) there in
            rw (stops_on first second p on) (λ i. further beyond i ++ messages_of from to (sym (others first p apart) i))

  -- the next queue on the route is one of the route's
  pub stop_next : (node next : ℕ) (port : Port) → IsStep width node to next → (first : ℕ) (in_port : Port)
      → IsStop node port (stops_from width to first in_port) → IsStop next (port_from width node next) (stops_from width to first in_port)
  stop_next node next port step =
      along width to (λ first p. IsStop node port (stops_from width to first p) → IsStop next (port_from width node next) (stops_from width to first p)) wide
      (λ p there. at_last p (rw (stops_end p) at there)) (λ first second p on further there. on_the_way first second p on further
      (rw (stops_on first second p on) at there))
    where
      at_last : (p : Port) → IsStop node port ((to, p) ∷ []) → IsStop next (port_from width node next) (stops_from width to to p)
      at_last p (inr none) = absurd none
      at_last p (inl (same, also)) = absurd (omega (arith, step.nearer, ap (λ n. distance width n to) same, distance-same width to))

      on_the_way : (first second : ℕ) (p : Port) → IsStep width first to second
          → (IsStop node port (stops_from width to second (port_from width first second))
          → IsStop next (port_from width node next) (stops_from width to second (port_from width first second)))
          → IsStop node port ((first, p) ∷ stops_from width to second (port_from width first second))
          → IsStop next (port_from width node next) (stops_from width to first p)
      on_the_way first second p on further (inl (same, also)) =
          let here : stops_from width to first p ≡ (node, port) ∷ stops_from width to next (port_from width node next) =
          (λ i. stops_from width to (sym same i) (sym also i)) ∙ stops_on node next port step in
          rw here (inr (stop_first width next to (port_from width node next)))
      on_the_way first second p on further (inr there) = rw (stops_on first second p on) (inr (further there))

pub stops-from : (width from to : ℕ) → stops width from to ≡ stops_from width to from Local
unfolding stops stops_from
stops-from width from to = refl
