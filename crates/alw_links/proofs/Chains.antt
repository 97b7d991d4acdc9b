-- Chains of places: what stays of them where a place changes, and what a message more or less does to one.
use Rattle.std.proofs.Common.{◌≡◌, ◌≢◌, ◌≤◌, ◌<◌, ℕ, zero, suc, ◌+◌, Option, Some, List, [], ◌∷◌, ◌++◌, length, map, get_or, slice_get, slice_set, refl, sym, ap, ◌∙◌, arith}
use Rattle.std.proofs.lemmas.Option.{slice_get_past, slice_get_within, same_Some}
use Rattle.alw_num.specs.Weights.{weigh}
use Rattle.alw_num.proofs.Weigh.{digit_same}
use Rattle.alw_msg.specs.declared.messages.Msg.{Msg}
use Rattle.alw_links.specs.declared.pools.Ends.{Ends}
use Rattle.alw_links.specs.declared.pools.PoolPlace.{PoolPlace}
use Rattle.alw_links.specs.Chains.{no_place, messages_on, messages_from, links_of, Spot, start_of, end_of, messages_of, times_in, place_with, IsPath, IsLink, AreLinks}

-- ---- lists of which one member changes

module _ {X : Type 0} where
  pub get-set_same : (xs : List X) (k : ℕ) (x : X) → k < length xs → slice_get (slice_set xs k x) k ≡ Some x
  get-set_same [] k x l = absurd (omega arith)
  get-set_same (y ∷ ys) zero x l = refl
  get-set_same (y ∷ ys) (suc k) x l = get-set_same ys k x (omega arith)

  pub get-set_other : (xs : List X) (k j : ℕ) (x : X) → j ≢ k → slice_get (slice_set xs k x) j ≡ slice_get xs j
  get-set_other [] k j x apart = refl
  get-set_other (y ∷ ys) zero zero x apart = absurd (apart refl)
  get-set_other (y ∷ ys) zero (suc j) x apart = refl
  get-set_other (y ∷ ys) (suc k) zero x apart = refl
  get-set_other (y ∷ ys) (suc k) (suc j) x apart = get-set_other ys k j x (λ e. apart (ap suc e))

  get-more : (xs more : List X) (j : ℕ) (x : X) → slice_get xs j ≡ Some x → slice_get (xs ++ more) j ≡ Some x
  get-more [] more j x e = absurd (omega (arith, slice_get_within [] j x e))
  get-more (y ∷ ys) more zero x e = e
  get-more (y ∷ ys) more (suc j) x e = get-more ys more j x e

  pub get-push : (xs : List X) (x : X) → slice_get (xs ++ x ∷ []) (length xs) ≡ Some x
  get-push [] x = refl
  get-push (y ∷ ys) x = get-push ys x

  pub weigh-set : (f : X → ℕ) (xs : List X) (i : ℕ) (x d : X) → i < length xs → weigh f (slice_set xs i x) + f (get_or xs i d) ≡ weigh f xs + f x
  weigh-set f [] i x d l = absurd (omega arith)
  weigh-set f (y ∷ ys) zero x d l = omega arith
  weigh-set f (y ∷ ys) (suc i) x d l = omega (arith, weigh-set f ys i x d (omega arith))

  pub weigh-at : (f : X → ℕ) (xs : List X) (i : ℕ) (d : X) → i < length xs → f (get_or xs i d) ≤ weigh f xs
  weigh-at f [] i d l = absurd (omega arith)
  weigh-at f (y ∷ ys) zero d l = omega arith
  weigh-at f (y ∷ ys) (suc i) d l = omega (arith, weigh-at f ys i d (omega arith))

-- ---- a path stays where its places do

kept : (places after : List PoolPlace) (chain : List Spot) → ((j : ℕ) → 1 ≤ times_in j chain → slice_get after j ≡ slice_get places j) → IsPath places chain → IsPath after chain
kept places after [] same path = tt
kept places after (spot ∷ rest) same path = (
  same spot.at (omega (arith, digit_same spot.at spot.at refl)) ∙ path.0,
  kept places after rest (λ j l. same j (omega arith)) path.1,
)

-- a place that isn't on a path changes
pub kept_beside : (places : List PoolPlace) (k : ℕ) (place : PoolPlace) (chain : List Spot) → times_in k chain ≡ 0 → IsPath places chain → IsPath (slice_set places k place) chain
kept_beside places k place chain off path =
    kept places (slice_set places k place) chain (λ j l. get-set_other places k j place (λ e. absurd (omega (arith, ap (λ i. times_in i chain) e)))) path

-- the pool has more places
pub kept_more : (places more : List PoolPlace) (chain : List Spot) → IsPath places chain → IsPath (places ++ more) chain
kept_more places more [] path = tt
kept_more places more (spot ∷ rest) path = (get-more places more spot.at (place_with spot.msg (start_of rest)) path.0, kept_more places more rest path.1)

pub within : (places : List PoolPlace) (spot : Spot) (rest : List Spot) → IsPath places (spot ∷ rest) → spot.at < length places
within places spot rest path = slice_get_within places spot.at (place_with spot.msg (start_of rest)) path.0

pub end_within : (places : List PoolPlace) (spot : Spot) (rest : List Spot) → IsPath places (spot ∷ rest) → end_of (spot ∷ rest) < length places
end_within places spot [] path = within places spot [] path
end_within places spot (next ∷ rest) path = end_within places next rest path.1

pub end_stands : (spot : Spot) (rest : List Spot) → 1 ≤ times_in (end_of (spot ∷ rest)) (spot ∷ rest)
end_stands spot [] = omega (arith, digit_same spot.at spot.at refl)
end_stands spot (next ∷ rest) = omega (arith, end_stands next rest)

-- ---- what is read along a path

pub along : (places : List PoolPlace) (most : ℕ) (chain : List Spot) → length places ≤ no_place → length chain ≤ most → IsPath places chain
    → messages_on places (slice_get places (start_of chain)) most ≡ messages_of chain
along places most [] few short path = ap (λ (o : Option PoolPlace). messages_on places o most) (slice_get_past places no_place few)
along places zero (spot ∷ rest) few short path = absurd (omega arith)
along places (suc most) (spot ∷ rest) few short path =
    ap (λ (o : Option PoolPlace). messages_on places o (suc most)) path.0 ∙ ap (λ (msgs : List Msg). spot.msg ∷ msgs) (along places most rest few (omega arith) path.1)

pub links_are : (places : List PoolPlace) (links : List Ends) (chains : List (List Spot)) → length places ≤ no_place → weigh (λ chain. length chain) chains ≤ length places
    → AreLinks places links chains → links_of places links ≡ map messages_of chains
links_are places [] [] few short are = refl
links_are places [] (chain ∷ chains) few short are = absurd are
links_are places (ends ∷ links) [] few short are = absurd are
links_are places (ends ∷ links) (chain ∷ chains) few short are =
    let here = ap (messages_from places) are.0.first ∙ along places (length places) chain few (omega arith) are.0.path in
    let there = links_are places links chains few (omega arith) are.1 in
    λ i. here i ∷ there i

-- ---- the chains of all links

pub as_many : (places : List PoolPlace) (links : List Ends) (chains : List (List Spot)) → AreLinks places links chains → length chains ≡ length links
as_many places [] [] are = refl
as_many places [] (chain ∷ chains) are = absurd are
as_many places (ends ∷ links) [] are = absurd are
as_many places (ends ∷ links) (chain ∷ chains) are = omega (arith, as_many places links chains are.1)

pub link_read : (places : List PoolPlace) (links : List Ends) (chains : List (List Spot)) (i : ℕ) (d : Ends) → AreLinks places links chains → i < length links
    → IsLink places (get_or links i d) (get_or chains i [])
link_read places [] chains i d are l = absurd (omega arith)
link_read places (ends ∷ links) [] i d are l = absurd are
link_read places (ends ∷ links) (chain ∷ chains) zero d are l = are.0
link_read places (ends ∷ links) (chain ∷ chains) (suc i) d are l = link_read places links chains i d are.1 (omega arith)

link_beside : (places : List PoolPlace) (k : ℕ) (place : PoolPlace) (ends : Ends) (chain : List Spot) → times_in k chain ≡ 0 → IsLink places ends chain → IsLink (slice_set places k place) ends chain
link_beside places k place ends chain off is = record { first = is.first; last = is.last; path = kept_beside places k place chain off is.path }

-- a place that is on no link changes
pub links_beside : (places : List PoolPlace) (k : ℕ) (place : PoolPlace) (links : List Ends) (chains : List (List Spot)) → weigh (λ chain. times_in k chain) chains ≡ 0
    → AreLinks places links chains → AreLinks (slice_set places k place) links chains
links_beside places k place [] [] off are = tt
links_beside places k place [] (chain ∷ chains) off are = absurd are
links_beside places k place (ends ∷ links) [] off are = absurd are
links_beside places k place (ends ∷ links) (chain ∷ chains) off are = (
  link_beside places k place ends chain (omega arith) are.0,
  links_beside places k place links chains (omega arith) are.1,
)

-- a place that is on no other link than one changes, and this one with it
pub links_changed : (places : List PoolPlace) (k : ℕ) (place : PoolPlace) (now : Ends) (path : List Spot) (links : List Ends) (chains : List (List Spot)) (i : ℕ) → i < length links
    → weigh (λ chain. times_in k chain) chains ≤ times_in k (get_or chains i []) → IsLink (slice_set places k place) now path → AreLinks places links chains
    → AreLinks (slice_set places k place) (slice_set links i now) (slice_set chains i path)
links_changed places k place now path [] chains i l off is are = absurd (omega arith)
links_changed places k place now path (ends ∷ links) [] i l off is are = absurd are
links_changed places k place now path (ends ∷ links) (chain ∷ chains) zero l off is are = (is, links_beside places k place links chains (omega arith) are.1)
links_changed places k place now path (ends ∷ links) (chain ∷ chains) (suc i) l off is are =
    let some = weigh-at (λ chain. times_in k chain) chains i [] (omega (arith, as_many places links chains are.1)) in (
      link_beside places k place ends chain (omega arith) are.0,
      links_changed places k place now path links chains i (omega arith) (omega arith) is are.1,
    )

-- the pool has more places
pub links_more : (places more : List PoolPlace) (links : List Ends) (chains : List (List Spot)) → AreLinks places links chains → AreLinks (places ++ more) links chains
links_more places more [] [] are = tt
links_more places more [] (chain ∷ chains) are = absurd are
links_more places more (ends ∷ links) [] are = absurd are
links_more places more (ends ∷ links) (chain ∷ chains) are = (
  record { first = are.0.first; last = are.0.last; path = kept_more places more chain are.0.path },
  links_more places more links chains are.1,
)

-- ---- a message more at the end of a chain

pub end_push : (chain : List Spot) (spot : Spot) → end_of (chain ++ spot ∷ []) ≡ spot.at
end_push [] spot = refl
end_push (first ∷ []) spot = refl
end_push (first ∷ next ∷ rest) spot = end_push (next ∷ rest) spot

-- the last place names the new one
pub extended : (places : List PoolPlace) (first : Spot) (rest : List Spot) (spot : Spot) (seen : PoolPlace) → times_in (end_of (first ∷ rest)) (first ∷ rest) ≤ 1
    → spot.at ≢ end_of (first ∷ rest) → slice_get places spot.at ≡ Some (place_with spot.msg no_place) → slice_get places (end_of (first ∷ rest)) ≡ Some seen
    → IsPath places (first ∷ rest) → IsPath (slice_set places (end_of (first ∷ rest)) (place_with seen.msg spot.at)) (first ∷ (rest ++ spot ∷ []))
extended places first [] spot seen once apart here there path =
    let same : seen.msg ≡ first.msg = ap (λ (p : PoolPlace). p.msg) (same_Some seen (place_with first.msg no_place) (sym there ∙ path.0)) in (
      get-set_same places first.at (place_with seen.msg spot.at) (within places first [] path) ∙ ap (λ (msg : Msg). Some (place_with msg spot.at)) same,
      (get-set_other places first.at spot.at (place_with seen.msg spot.at) apart ∙ here, tt),
    )
extended places first (next ∷ rest) spot seen once apart here there path =
    let last = end_of (next ∷ rest) in
    let stands = end_stands next rest in (
      get-set_other places last first.at (place_with seen.msg spot.at) (λ e. absurd (omega (arith, digit_same last first.at (sym e)))) ∙ path.0,
      extended places next rest spot seen (omega arith) apart here there path.1,
    )
