-- What links hold after an event: a delivery takes the front of one, and what a node sends goes to the ends of its own.
use Rattle.std.proofs.Common.{◌≡◌, ℕ, ◌*◌, ◌<◌, ◌==◌, Bool, true, false, cond, ◌&&◌, List, [], ◌∷◌, ◌++◌, length, get_or, set, refl, sym, ap, ◌∙◌, append-nil, append_assoc}
use Rattle.std.proofs.lemmas.Bool.{eq-eqb, ne_eqb}
use Rattle.std.proofs.lemmas.List.{get_or-set_same, get_or-set_other, length-set}
use Rattle.std.proofs.lemmas.Nat.{mul-add-lt, same_from_place}
use Rattle.alw_msg.specs.declared.messages.Msg.{Msg}
use Rattle.alw_image.specs.declared.parts.Parts.{Parts}
use Rattle.alw_image.specs.Images.{node_count}
use Rattle.alw_msg.specs.Lists.{behind}
use Rattle.alw_model.specs.Machine.{link_place, links_sent}
use Rattle.alw_num.proofs.Weigh.{is_node}
use Rattle.law_lines.specs.Links.{msgs_to, GoBelow}

-- a list with one place changed, read at a place
pub read_set : {X : Type 0} (xs : List X) (i : ℕ) (x d : X) (j : ℕ) → i < length xs → get_or (set xs i x) j d ≡ cond (j == i) x (get_or xs j d)
read_set xs i x d j l = is_node _ j i
    (λ same. rw (eq-eqb j i same, same) (get_or-set_same xs i x d l))
    (λ other. rw (ne_eqb j i other) (get_or-set_other xs i j x d other))

module _ (parts : Parts) where
  -- the link of a pair has a place of its own
  place_below : (a b : ℕ) → a < node_count parts → b < node_count parts → link_place parts a b < node_count parts * node_count parts
  place_below a b l m = mul-add-lt a (node_count parts) b (node_count parts) l m

  same_place : (a b c d : ℕ) → b < node_count parts → d < node_count parts → (link_place parts a b == link_place parts c d) ≡ (a == c && (b == d))
  same_place a b c d l m = is_node _ a c
      (λ e. is_node _ b d
      (λ f. rw (eq-eqb a c e, eq-eqb b d f) (eq-eqb _ _ (λ i. link_place parts (e i) (f i))))
      (λ f. rw (eq-eqb a c e, ne_eqb b d f) (ne_eqb _ _ (λ same. f (same_from_place a b c d (node_count parts) l m same).1))))
      (λ e. rw (ne_eqb a c e) (ne_eqb _ _ (λ same. e (same_from_place a b c d (node_count parts) l m same).0)))

  -- the ends of a node's links, after it has sent
  pub length-sent : (from : ℕ) (sends : List (ℕ × Msg)) (links : List (List Msg)) → length (links_sent parts links from sends) ≡ length links
  length-sent from [] links = refl
  length-sent from (send ∷ rest) links = length-sent from rest _ ∙ length-set links (link_place parts from send.0) _

  sent_once : (from a b : ℕ) (send : ℕ × Msg) (rest : List (ℕ × Msg)) (old : List Msg) → b < node_count parts → send.0 < node_count parts
      → cond (link_place parts a b == link_place parts from send.0) (old ++ send.1 ∷ []) old ++ cond (a == from) (msgs_to b rest) [] ≡ old ++ cond (a == from) (msgs_to b (send ∷ rest)) []
  sent_once from a b send rest old m here = rw (same_place a b from send.0 m here) (go (a == from) (b == send.0))
    where
      go : (c d : Bool) → cond (c && d) (old ++ send.1 ∷ []) old ++ cond c (msgs_to b rest) [] ≡ old ++ cond c (cond d (send.1 ∷ msgs_to b rest) (msgs_to b rest)) []
      go true true = append_assoc old (send.1 ∷ []) (msgs_to b rest)
      go true false = refl
      go false d = refl

  -- a link after a node has sent
  pub link_sent : (from a b : ℕ) (sends : List (ℕ × Msg)) (links : List (List Msg)) → from < node_count parts → b < node_count parts → length links ≡ node_count parts * node_count parts → GoBelow (node_count parts) sends
      → get_or (links_sent parts links from sends) (link_place parts a b) [] ≡ get_or links (link_place parts a b) [] ++ cond (a == from) (msgs_to b sends) []
  link_sent from a b [] links f m size below = none (a == from)
    where
      none : (c : Bool) → get_or links (link_place parts a b) [] ≡ get_or links (link_place parts a b) [] ++ cond c [] []
      none true = sym (append-nil (get_or links (link_place parts a b) []))
      none false = sym (append-nil (get_or links (link_place parts a b) []))
  link_sent from a b (send ∷ rest) links f m size (here, below) =
      let place = link_place parts from send.0 in
      let old = get_or links (link_place parts a b) [] in
      let next = set links place (get_or links place [] ++ send.1 ∷ []) in
      let fits : place < length links = rw size (place_below from send.0 f here) in
      link_sent from a b rest next f m (length-set links place _ ∙ size) below
      ∙ (ap (λ (l : List Msg). l ++ cond (a == from) (msgs_to b rest) []) (read_set links place (get_or links place [] ++ send.1 ∷ []) [] (link_place parts a b) fits ∙ same_old a b send links)
      ∙ sent_once from a b send rest old m here)
    where
      -- at the place that changes the old link is the one that is read
      same_old : (a b : ℕ) (send : ℕ × Msg) (links : List (List Msg))
          → cond (link_place parts a b == link_place parts from send.0) (get_or links (link_place parts from send.0) [] ++ send.1 ∷ []) (get_or links (link_place parts a b) [])
          ≡ cond (link_place parts a b == link_place parts from send.0) (get_or links (link_place parts a b) [] ++ send.1 ∷ []) (get_or links (link_place parts a b) [])
      same_old a b send links = is_node _ (link_place parts a b) (link_place parts from send.0)
          (λ e. ap (λ p. cond (link_place parts a b == link_place parts from send.0) (get_or links p [] ++ send.1 ∷ []) (get_or links (link_place parts a b) [])) (sym e))
          (λ other. rw (ne_eqb (link_place parts a b) (link_place parts from send.0) other) refl)

  -- a link after an event has taken its message
  pub link_taken : (links : List (List Msg)) (from to a b : ℕ) → from < node_count parts → to < node_count parts → b < node_count parts → length links ≡ node_count parts * node_count parts
      → get_or (set links (link_place parts from to) (behind (get_or links (link_place parts from to) []))) (link_place parts a b) [] ≡ cond (a == from && (b == to)) (behind (get_or links (link_place parts from to) [])) (get_or links (link_place parts a b) [])
  link_taken links from to a b f t m size =
      let fits : link_place parts from to < length links = rw size (place_below from to f t) in
      read_set links (link_place parts from to) _ [] (link_place parts a b) fits ∙ ap (λ c. cond c (behind (get_or links (link_place parts from to) [])) (get_or links (link_place parts a b) [])) (same_place a b from to m t)
