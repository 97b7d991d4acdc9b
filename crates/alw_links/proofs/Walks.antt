-- A walk along a chain: the message at hand, and those behind it.
use Rattle.std.proofs.Common.{◌≡◌, ◌≢◌, ◌≤◌, ◌<◌, ℕ, ◌+◌, ◌==◌, Option, Some, List, [], ◌∷◌, length, map, get_or, slice_get, refl, sym, ap, ◌∙◌, arith}
use Rattle.std.proofs.lemmas.Option.{get_or_from_slice_get, slice_get-get_or, slice_get_past, same_Some}
use Rattle.std.proofs.lemmas.Bool.Decides.{nat_tests}
use Rattle.std.proofs.lemmas.List.{length-map}
use Rattle.alw_num.specs.Weights.{weigh}
use Rattle.alw_msg.specs.Lists.{front}
use Rattle.alw_links.specs.declared.pools.Ends.{Ends}
use Rattle.alw_links.specs.declared.pools.PoolPlace.{PoolPlace}
use Rattle.alw_links.specs.Traffic.{in_flight}
use Rattle.alw_links.specs.Chains.{no_place, messages_on, messages_from, links_of, Spot, start_of, messages_of, place_with, IsPath, IsChain, IsPool}
use Rattle.alw_links.proofs.Chains.{within, along}
use Rattle.alw_links.proofs.Moves.{lists, walked, walked_is}

module _ (places : List PoolPlace) (k : ℕ) (is : IsChain places k) where
  messages_are : messages_from places k ≡ messages_of is.chain
  messages_are = ap (messages_from places) is.starts ∙ along places (length places) is.chain is.few is.short is.path

  -- the walk has ended
  pub ends : k ≡ no_place → messages_from places k ≡ []
  ends e = ap (messages_from places) e ∙ ap (λ (o : Option PoolPlace). messages_on places o (length places)) (slice_get_past places no_place is.few)

  -- the walk stands at a place
  record Stands : Type 0 where
    pub spot : Spot
    pub rest : List Spot
    pub whole : is.chain ≡ spot ∷ rest
    pub at : spot.at ≡ k
    pub path : IsPath places (spot ∷ rest)

  stands : k ≢ no_place → Stands
  stands open_end = go is.chain refl is.starts is.path
    where
      go : (chain : List Spot) → is.chain ≡ chain → k ≡ start_of chain → IsPath places chain → Stands
      go [] e starts path = absurd (open_end starts)
      go (spot ∷ rest) e starts path = record { spot = spot; rest = rest; whole = e; at = sym starts; path = path }

  pub stands_within : k ≢ no_place → k < length places
  stands_within open_end = let s = stands open_end in omega (arith, s.at, within places s.spot s.rest s.path)

  module _ (seen : PoolPlace) (open_end : k ≢ no_place) (read : seen ≡ get_or places k seen) where
    seen_is : (s : Stands) → seen ≡ place_with s.spot.msg (start_of s.rest)
    seen_is s = read ∙ get_or_from_slice_get places k (place_with s.spot.msg (start_of s.rest)) seen (ap (slice_get places) (sym s.at) ∙ s.path.0)

    pub goes_on : IsChain places seen.next
    goes_on = let s = stands open_end in record {
      chain = s.rest;
      starts = ap (λ (p : PoolPlace). p.next) (seen_is s);
      path = s.path.1;
      short = omega (arith, is.short, ap length s.whole);
      few = is.few;
    }

    pub steps : messages_from places k ≡ seen.msg ∷ messages_from places seen.next
    steps =
        let s = stands open_end in
        let here = messages_are ∙ ap messages_of s.whole in
        let short : length s.rest ≤ length places = omega (arith, is.short, ap length s.whole) in
        let there : messages_from places seen.next ≡ messages_of s.rest = ap (λ (p : PoolPlace). messages_from places p.next) (seen_is s) ∙ along places (length places) s.rest is.few short s.path.1 in
        here ∙ (λ i. sym (ap (λ (p : PoolPlace). p.msg) (seen_is s)) i ∷ sym there i)

  -- the place at hand, as it stands in the pool
  pub steps_at : (d : PoolPlace) → k ≢ no_place → messages_from places k ≡ (get_or places k d).msg ∷ messages_from places (get_or places k d).next
  steps_at d open_end = steps (get_or places k d) open_end
      (same_Some (get_or places k d) (get_or places k (get_or places k d)) (sym (slice_get-get_or places k d (stands_within open_end)) ∙ slice_get-get_or places k (get_or places k d) (stands_within open_end)))

-- ---- a link as it was read

module _ (places : List PoolPlace) (links : List Ends) (spare room : ℕ) (is : IsPool places links spare room) (i : ℕ) (here : i < length links) (read_ends : Ends) (read : read_ends ≡ get_or links i read_ends) where
  chain : IsChain places read_ends.first
  chain = walked places links spare room is i here read_ends read

  pub none_first : read_ends.first ≡ no_place → get_or (links_of places links) i [] ≡ []
  none_first e = walked_is places links spare room is i here read_ends read ∙ ends places read_ends.first chain e

  pub first_within : read_ends.first ≢ no_place → read_ends.first < length places
  first_within some = stands_within places read_ends.first chain some

  pub front_is : (seen : PoolPlace) → read_ends.first ≢ no_place → seen ≡ get_or places read_ends.first seen → front (get_or (links_of places links) i []) ≡ Some seen.msg
  front_is seen some seen_is = ap front (walked_is places links spare room is i here read_ends read ∙ steps places read_ends.first chain seen some seen_is)

-- ---- how many messages there are

pub in_flight_is : (places : List PoolPlace) (links : List Ends) (spare room : ℕ) → IsPool places links spare room → in_flight (links_of places links) + room ≡ length places
in_flight_is places links spare room is = omega (arith, ap in_flight (lists places links spare room is), all is.chains, is.counted, is.left)
  where
    all : (chains : List (List Spot)) → in_flight (map messages_of chains) ≡ weigh (λ chain. length chain) chains
    all [] = refl
    all (chain ∷ chains) = omega (arith, length-map chain (λ (spot : Spot). spot.msg), all chains)

pub none_beside : (all room count : ℕ) → count + room ≡ all → (all == room) ≡ (count == 0)
none_beside all room count e = grind (arith, nat_tests)
