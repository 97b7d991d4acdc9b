-- Chains through the pool of places: each place names the next one of its chain by its index.
use Rattle.std.specs.Prelude.{◌≡◌, ◌≤◌, ℕ, zero, suc, ◌+◌, ◌==◌, nat_lt, Option, Some, None, List, [], ◌∷◌, length, map, slice_get}
use Rattle.alw_num.specs.Weights.{digit, weigh}
use Rattle.alw_msg.specs.declared.messages.Msg.{Msg}
use Rattle.alw_links.specs.declared.pools.Ends.{Ends}
use Rattle.alw_links.specs.declared.pools.PoolPlace.{PoolPlace}

-- the index that ends a chain, which no place has
abbrev pub no_place : ℕ
no_place = 4294967295

-- ---- what a chain says, read from the pool

-- the messages from a place on, with no more than so many places behind it
abbrev pub messages_on : List PoolPlace → Option PoolPlace → ℕ → List Msg
messages_on places None most = []
messages_on places (Some place) zero = place.msg ∷ []
messages_on places (Some place) (suc most) = place.msg ∷ messages_on places (slice_get places place.next) most

-- the messages of the chain that starts at a place
abbrev pub messages_from : List PoolPlace → ℕ → List Msg
messages_from places first = messages_on places (slice_get places first) (length places)

-- the messages of each link
abbrev pub links_of : List PoolPlace → List Ends → List (List Msg)
links_of places links = map (λ ends. messages_from places ends.first) links

-- ---- chains

-- a place of a chain, and its message
pub record Spot : Type 0 where
  pub at : ℕ
  pub msg : Msg

abbrev pub start_of : List Spot → ℕ
start_of [] = no_place
start_of (spot ∷ rest) = spot.at

abbrev pub end_of : List Spot → ℕ
end_of [] = no_place
end_of (spot ∷ []) = spot.at
end_of (spot ∷ next ∷ rest) = end_of (next ∷ rest)

abbrev pub messages_of : List Spot → List Msg
messages_of chain = map (λ spot. spot.msg) chain

-- how often a place stands on a chain
abbrev pub times_in : ℕ → List Spot → ℕ
times_in k chain = weigh (λ spot. digit (k == spot.at)) chain

abbrev pub place_with : Msg → ℕ → PoolPlace
place_with msg next = record { msg = msg; next = next }

-- the places of the pool have these messages, and each names the next one
abbrev pub IsPath : List PoolPlace → List Spot → Type 0
IsPath places [] = Unit {0}
IsPath places (spot ∷ rest) = (slice_get places spot.at ≡ Some (place_with spot.msg (start_of rest))) × IsPath places rest

-- From place k on there is a chain, with no more places than the pool, whose indices are all below the one that ends a chain.
pub record IsChain (places : List PoolPlace) (k : ℕ) : Type 0 where
  pub chain : List Spot
  pub starts : k ≡ start_of chain
  pub path : IsPath places chain
  pub short : length chain ≤ length places
  pub few : length places ≤ no_place

-- the ends of a link are those of a chain
pub record IsLink (places : List PoolPlace) (ends : Ends) (chain : List Spot) : Type 0 where
  pub first : ends.first ≡ start_of chain
  pub last : ends.last ≡ end_of chain
  pub path : IsPath places chain

abbrev pub AreLinks : List PoolPlace → List Ends → List (List Spot) → Type 0
AreLinks places [] [] = Unit {0}
AreLinks places [] (chain ∷ chains) = ⊥
AreLinks places (ends ∷ links) [] = ⊥
AreLinks places (ends ∷ links) (chain ∷ chains) = IsLink places ends chain × AreLinks places links chains

-- Each place of the pool is on one chain, once: on a link's or on the spare one, which has so many places.
pub record IsPool (places : List PoolPlace) (links : List Ends) (spare room : ℕ) : Type 0 where
  pub chains : List (List Spot)
  pub loose : List Spot
  pub linked : AreLinks places links chains
  pub starts : spare ≡ start_of loose
  pub path : IsPath places loose
  pub left : length loose ≡ room
  pub once : (k : ℕ) → weigh (λ chain. times_in k chain) chains + times_in k loose ≡ digit (nat_lt k (length places))
  pub counted : weigh (λ chain. length chain) chains + length loose ≡ length places
  pub few : length places ≤ no_place

-- a pool whose links have these messages
pub record IsPoolOf (places : List PoolPlace) (links : List Ends) (spare room : ℕ) (lists : List (List Msg)) : Type 0 where
  pub pool : IsPool places links spare room
  pub lists_are : links_of places links ≡ lists
