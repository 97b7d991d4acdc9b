-- The messages of a link, in a list of all links' messages by their nodes.
use Rattle.std.proofs.Common.{◌≡◌, ◌≢◌, ℕ, ◌<◌, ◌≤◌, ◌==◌, Bool, false, ◌&&◌, List, [], ◌∷◌, map, filter, refl, ap, ◌∙◌, arith}
use Rattle.std.specs.List.{flat_map, range_with_len}
use Rattle.std.proofs.Math.Bool.{and-false}
use Rattle.std.proofs.lemmas.Bool.{eq-eqb, ne_eqb}
use Rattle.alw_msg.specs.declared.messages.Msg.{Msg}
use Rattle.alw_laws.specs.Views.{Sent, is_between, link_in}
use Rattle.alw_laws.specs.Shown.{message_shown}
use Rattle.alw_laws.proofs.Links.{bare}
use Rattle.alw_laws.proofs.Picks.{picks_one, picks_none}

module _ (count : ℕ) (own : ℕ → ℕ → List Msg) where
  abbrev on_link : ℕ → ℕ → List Sent
  on_link from to = map (message_shown from to) (own from to)

  abbrev from_node : ℕ → List Sent
  from_node from = flat_map (on_link from) (range_with_len 0 count)

  abbrev all_links : List Sent
  all_links = flat_map from_node (range_with_len 0 count)

  module _ (a b : ℕ) where
    abbrev on : Sent → Bool
    on = is_between a b

    other_link : (from to : ℕ) → (from == a && (to == b)) ≡ false → (msgs : List Msg) → filter on (map (message_shown from to) msgs) ≡ []
    other_link from to off [] = refl
    other_link from to off (msg ∷ rest) = rw off (other_link from to off rest)

    this_link : (msgs : List Msg) → map bare (filter on (map (message_shown a b) msgs)) ≡ msgs
    this_link [] = refl
    this_link (msg ∷ rest) = rw (eq-eqb a a refl, eq-eqb b b refl) (ap (λ (msgs : List Msg). msg ∷ msgs) (this_link rest))

    to_other : (from to : ℕ) → to ≢ b → filter on (on_link from to) ≡ []
    to_other from to apart = other_link from to (ap (λ (same : Bool). from == a && same) (ne_eqb to b apart) ∙ and-false (from == a)) (own from to)

    from_other : (from : ℕ) → from ≢ a → filter on (from_node from) ≡ []
    from_other from apart =
        let off : (to : ℕ) → (from == a && (to == b)) ≡ false = λ to. ap (λ (same : Bool). same && (to == b)) (ne_eqb from a apart) in
        picks_none on (on_link from) 0 count (λ to l m. other_link from to (off to) (own from to))

    pub link_is : a < count → b < count → link_in all_links a b ≡ own a b
    link_is l m =
        let from_a = picks_one on from_node 0 count a (omega arith) (omega arith) from_other in
        let to_b = picks_one on (on_link a) 0 count b (omega arith) (omega arith) (to_other a) in
        ap (map bare) (from_a ∙ to_b) ∙ this_link (own a b)

    -- a node that doesn't exist has no link
    pub no_link_from : count ≤ a → link_in all_links a b ≡ []
    no_link_from past = ap (map bare) (picks_none on from_node 0 count (λ from l m. from_other from (λ e. omega arith)))

    pub no_link_to : count ≤ b → link_in all_links a b ≡ []
    no_link_to past =
        let none : (from to : ℕ) → to < count → filter on (on_link from to) ≡ [] = λ from to k. to_other from to (λ e. omega arith) in
        ap (map bare) (picks_none on from_node 0 count (λ from l m. picks_none on (on_link from) 0 count (λ to h k. none from to (omega arith))))
