-- An ending that is listed is one of the list.
use Rattle.std.proofs.Common.{◌≡◌, ℕ, zero, suc, List, [], ◌∷◌, Some, map, slice_index_or, ap, ◌∙◌, subst}
use Rattle.std.specs.List.{slice_get, Contains}
use Rattle.std.proofs.lemmas.List.Elements.{Contains-append_left, Contains-append_right}
use Rattle.std.proofs.lemmas.Option.{get_or_from_slice_get}
use Rattle.alw_image.specs.declared.parts.Parts.{Parts}
use Rattle.alw_places.specs.Outcomes.{Ending, Halts, Traps, ComesTo, HasEvery}
use Rattle.alw_outcomes.specs.Explored.{Found, HasHalted, HasTrapped, IsListed, no_place, halt_of, trap_of, endings_in}
use Rattle.alw_outcomes.proofs.Pooling.{some_is}
use Rattle.alw_outcomes.proofs.Sorting.{contains_get}

get-map : {A B : Type 0} (f : A → B) (xs : List A) (k : ℕ) (x : A) → slice_get xs k ≡ Some x → slice_get (map f xs) k ≡ Some (f x)
get-map f [] k x e = absurd (cc)
get-map f (y ∷ xs) zero x e = ap (λ a. Some (f a)) (some_is y x e)
get-map f (y ∷ xs) (suc k) x e = get-map f xs k x e

halts_in : (found : Found) → List Ending
halts_in found = map (λ at. halt_of (slice_index_or found.places at no_place)) found.halted

halt_contained : (found : Found) (printed : _) (memory : _) → HasHalted found printed memory → Contains (endings_in found) (Halts printed memory)
unfolding halts_in
halt_contained found printed memory has =
    let place : slice_index_or found.places has.at no_place ≡ has.place = get_or_from_slice_get found.places has.at has.place no_place has.there in
    let same : halt_of (slice_index_or found.places has.at no_place) ≡ Halts printed memory = ap halt_of place ∙ (λ i. Halts (has.printed_is i) (has.memory_is i)) in
    let front = contains_get (halts_in found) has.index _ (get-map (λ at. halt_of (slice_index_or found.places at no_place)) found.halted has.index has.at has.listed) in
    subst (Contains (endings_in found)) same (Contains-append_left (halts_in found) (map trap_of found.trapped) _ front)

trap_contained : (found : Found) (context pc type : ℕ) → HasTrapped found context pc type → Contains (endings_in found) (Traps context pc type)
unfolding halts_in
trap_contained found context pc type has =
    let same : trap_of has.turn ≡ Traps context pc type = λ i. Traps (has.context_is i) (has.pc_is i) (has.type_is i) in
    let back = contains_get (map trap_of found.trapped) has.index _ (get-map trap_of found.trapped has.index has.turn has.listed) in
    subst (Contains (endings_in found)) same (Contains-append_right (halts_in found) (map trap_of found.trapped) _ back)

contained : (found : Found) (ending : Ending) → IsListed found ending → Contains (endings_in found) ending
contained found (Halts printed memory) has = halt_contained found printed memory has
contained found (Traps context pc type) has = trap_contained found context pc type has

pub every_contained : (parts : Parts) (found : Found) → ((ending : Ending) → ComesTo parts ending → IsListed found ending) → HasEvery parts (endings_in found)
every_contained parts found all ending comes = contained found ending (all ending comes)
