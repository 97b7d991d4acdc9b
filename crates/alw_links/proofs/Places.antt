-- What a link has once a message has been sent or taken, what several sends come to, and when nothing is on the way.
use Rattle.std.proofs.Common.{◌≡◌, ℕ, zero, suc, ◌+◌, ◌*◌, ◌<◌, ◌==◌, cond, not, ◌&&◌, List, [], ◌∷◌, ◌++◌, length, get_or, set, drop, slice_get, Some}
use Rattle.std.proofs.Common.{refl, sym, ap, ◌∙◌, arith}
use Rattle.std.specs.List.{list_any}
use Rattle.std.proofs.lemmas.Bool.{eq-eqb, ne_eqb}
use Rattle.std.proofs.lemmas.List.{get_or-set_same, get_or-set_other, drop_more}
use Rattle.std.proofs.lemmas.Option.{get_or_from_slice_get}
use Rattle.std.proofs.lemmas.Nat.{mul-add-lt, same_from_place}
use Rattle.alw_num.specs.Weights.{digit}
use Rattle.alw_num.proofs.Weigh.{is_node}
use Rattle.alw_msg.specs.declared.messages.Msg.{Msg}
use Rattle.alw_msg.specs.Lists.{is_nonempty, behind}
use Rattle.alw_links.specs.Traffic.{Traffic, place_of, link_of, links_without, links_with, links_with_all, in_flight, after_take}

module _ (nodes : ℕ) where
  -- the link of a pair has a place of its own
  pub place_below : (from to : ℕ) → from < nodes → to < nodes → place_of nodes from to < nodes * nodes
  place_below from to l m = mul-add-lt from nodes to nodes l m

  pub same_place : (a b from to : ℕ) → b < nodes → to < nodes → (place_of nodes a b == place_of nodes from to) ≡ (a == from && (b == to))
  same_place a b from to l m = is_node _ a from
      (λ e. is_node _ b to
      (λ f. rw (eq-eqb a from e, eq-eqb b to f) (eq-eqb _ _ (λ i. place_of nodes (e i) (f i))))
      (λ f. rw (eq-eqb a from e, ne_eqb b to f) (ne_eqb _ _ (λ same. f (same_from_place a b from to nodes l m same).1))))
      (λ e. rw (ne_eqb a from e) (ne_eqb _ _ (λ same. e (same_from_place a b from to nodes l m same).0)))

  -- links of which one has been set, read at any pair
  pub link_set : (links : List (List Msg)) (from to : ℕ) (link : List Msg) (a b : ℕ) → from < nodes → to < nodes → b < nodes → length links ≡ nodes * nodes
      → link_of nodes (set links (place_of nodes from to) link) a b ≡ cond (a == from && (b == to)) link (link_of nodes links a b)
  link_set links from to link a b f t l size =
      let fits : place_of nodes from to < length links = rw size (place_below from to f t) in
      read fits ∙ ap (λ c. cond c link (link_of nodes links a b)) (same_place a b from to l t)
    where
      read : place_of nodes from to < length links → link_of nodes (set links (place_of nodes from to) link) a b
          ≡ cond (place_of nodes a b == place_of nodes from to) link (link_of nodes links a b)
      read fits = is_node _ (place_of nodes a b) (place_of nodes from to)
          (λ same. rw (eq-eqb _ _ same, same) (get_or-set_same links (place_of nodes from to) link [] fits))
          (λ other. rw (ne_eqb _ _ other) (get_or-set_other links (place_of nodes from to) (place_of nodes a b) link [] other))

  -- a link after a send
  pub link_sent : (links : List (List Msg)) (from to : ℕ) (msg : Msg) (a b : ℕ) → from < nodes → to < nodes → b < nodes → length links ≡ nodes * nodes
      → link_of nodes (links_with nodes links from to msg) a b ≡ cond (a == from && (b == to)) (link_of nodes links from to ++ msg ∷ [])
      (link_of nodes links a b)
  link_sent links from to msg = link_set links from to (link_of nodes links from to ++ msg ∷ [])

  -- a link after a take
  pub link_taken : (links : List (List Msg)) (from to a b : ℕ) → from < nodes → to < nodes → b < nodes → length links ≡ nodes * nodes
      → link_of nodes (links_without nodes links from to) a b ≡ cond (a == from && (b == to)) (behind (link_of nodes links from to)) (link_of nodes links a b)
  link_taken links from to = link_set links from to (behind (link_of nodes links from to))

  -- the sends from place i on are send i, and then those behind it
  pub with_all_more : (links : List (List Msg)) (from : ℕ) (sends : List (ℕ × Msg)) (i : ℕ) (send : ℕ × Msg) → i < length sends → slice_get sends i ≡ Some send
      → links_with_all nodes links from (drop i sends) ≡ links_with_all nodes (links_with nodes links from send.0 send.1) from (drop (i + 1) sends)
  with_all_more links from sends i send l e =
      ap (links_with_all nodes links from) (drop_more sends i send l ∙ ap (λ (first : ℕ × Msg). first ∷ drop (i + 1) sends)
      (get_or_from_slice_get sends i send send e))

-- ---- a link that has no message

-- nothing is taken from it
pub taken_none : (nodes room : ℕ) (links : List (List Msg)) (from to : ℕ) → link_of nodes links from to ≡ []
    → let traffic : Traffic = record { nodes = nodes; room = room; links = links } in traffic ≡ after_take traffic from to
taken_none nodes room links from to none =
    let more : room ≡ room + digit (is_nonempty (link_of nodes links from to)) = omega (arith, ap (λ (link : List Msg). digit (is_nonempty link)) none) in
    let same = sym (stays links (place_of nodes from to) none) in
    λ i. record { nodes = nodes; room = more i; links = same i }
  where
    stays : (links : List (List Msg)) (i : ℕ) → get_or links i [] ≡ [] → set links i (behind (get_or links i [])) ≡ links
    stays [] i e = refl
    stays (first ∷ rest) zero e = ap (λ (link : List Msg). link ∷ rest) (ap behind e ∙ sym e)
    stays (first ∷ rest) (suc i) e = ap (λ (links : List (List Msg)). first ∷ links) (stays rest i e)

-- nothing is on the way exactly where no link has a message
pub in_flight-none : (links : List (List Msg)) → (in_flight links == 0) ≡ not (list_any is_nonempty links)
in_flight-none [] = refl
in_flight-none ([] ∷ rest) = ap (λ n. n == 0) (omega arith) ∙ in_flight-none rest
in_flight-none ((msg ∷ more) ∷ rest) = ne_eqb _ 0 (λ e. omega arith)
