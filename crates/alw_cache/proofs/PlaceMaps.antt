-- What the map of places holds, and what a change of one place does to it.
use Rattle.std.proofs.Common.{◌≡◌, ◌≢◌, ℕ, zero, suc, ◌+◌, ◌-◌, ◌<◌, ◌≤◌, ◌%◌, Bool, true, false, cond, ◌==◌, Option, Some, None, is_some, IsTrue, List, [], ◌∷◌, length, replicate, slice_set, slice_index_or, refl, sym, ap, ◌∙◌, subst, ◌⊎◌, inl, inr, arith}
use Rattle.std.proofs.lemmas.Bool.{cases_lt, eq-eqb}
use Rattle.std.proofs.lemmas.List.{get_or_read, get_or-replicate, length-replicate}
use Rattle.std.proofs.Math.ListN.{get_or-eq_default}
use Rattle.std.proofs.lemmas.Bool.Decides.{nat_tests}
use Rattle.std.specs.Option.{option_map}
use Rattle.alw_num.specs.declared.addresses.Line.{Line}
use Rattle.alw_num.specs.declared.states.Mode.{Mode}
use Rattle.alw_num.specs.declared.states.Mode.TheVariants.{Read, Write}
use Rattle.alw_num.specs.Maps.{kept_if, empty_map, value_at, with_value, without_value, passes_if_some}
use Rattle.alw_num.proofs.MapLaws.{value-empty, value-with, value-without, same_maps}
use Rattle.alw_model.specs.Caches.{Copy, Cache, set_of, grants, granted_copy, invalidate}
use Rattle.alw_cache.specs.declared.places.SetCopy.{SetCopy}
use Rattle.alw_cache.specs.declared.places.Evicted.{Evicted}
use Rattle.alw_cache.specs.Places.{Copies, copy_of, evicted_of, held_at, with_place, map_from, no_place, place_at, belongs_in, AreInSets, ArePlaced}

abbrev place_of : ℕ → Option Mode → Line → SetCopy
place_of line mode body = record { line = line; mode = mode; body = body }

abbrev copies_of : ℕ → Cache → Copies
copies_of sets copies = record { sets = sets; copies = copies }

-- ---- what the map holds

with_place-other : (set : ℕ) (o : Option Copy) (cache : Cache) (at : ℕ) → (at == set) ≡ false → value_at (with_place set o cache) at ≡ value_at cache at
with_place-other set None cache at other = refl
with_place-other set (Some copy) cache at other = value-with cache set copy at ∙ rw other refl

with_place-same : (set : ℕ) (o : Option Copy) (cache : Cache) → value_at cache set ≡ None → value_at (with_place set o cache) set ≡ o
with_place-same set None cache none = none
with_place-same set (Some copy) cache none = value-with cache set copy set ∙ grind (arith, nat_tests)

below : (places : List SetCopy) (set at : ℕ) → at < set → value_at (map_from set places) at ≡ None
below [] set at l = value-empty at
below (place ∷ rest) set at l = with_place-other set (held_at place) (map_from (set + 1) rest) at (grind (arith, nat_tests)) ∙ below rest (set + 1) at (omega arith)

value_from : (places : List SetCopy) (set k at : ℕ) → at ≡ set + k → value_at (map_from set places) at ≡ held_at (place_at places k)
value_from [] set k at e = value-empty at
value_from (place ∷ rest) set zero at e =
    let same : at ≡ set = omega arith in
    rw same (with_place-same set (held_at place) (map_from (set + 1) rest) (below rest (set + 1) set (omega arith)))
value_from (place ∷ rest) set (suc k) at e =
    with_place-other set (held_at place) (map_from (set + 1) rest) at (grind (arith, nat_tests)) ∙ value_from rest (set + 1) k at (omega arith)

-- at a set the map has what its place holds
pub value_of : (places : List SetCopy) (set : ℕ) → value_at (map_from 0 places) set ≡ held_at (place_at places set)
value_of places set = value_from places 0 set set (omega arith)

some_is_not : (mode : Mode) → Some mode ≡ None → ⊥
some_is_not mode e = cc

-- each copy belongs in the set of its place
pub are_placed : (sets : ℕ) (places : List SetCopy) → AreInSets sets places → ArePlaced (copies_of sets (map_from 0 places))
are_placed sets places stand set = subst (λ (o : Option Copy). IsTrue (passes_if_some (belongs_in sets set) o)) (sym (value_of places set)) (go (place_at places set) (stand set))
  where
    go : (place : SetCopy) → (place.mode ≢ None → place.line % sets ≡ set) → IsTrue (passes_if_some (belongs_in sets set) (held_at place))
    go place here = by place.mode refl
      where
        by : (o : Option Mode) → place.mode ≡ o → IsTrue (passes_if_some (belongs_in sets set) (held_at place))
        by None e = rw e refl
        by (Some mode) e = let same : place.line % sets ≡ set = here (λ none. absurd (some_is_not mode (sym e ∙ none))) in rw (e, same) (eq-eqb set set refl)

-- ---- a place changes

place-set : (places : List SetCopy) (set : ℕ) (place : SetCopy) (at : ℕ) → set < length places → place_at (slice_set places set place) at ≡ cond (at == set) place (place_at places at)
place-set [] set place at l = absurd (omega arith)
place-set (first ∷ rest) zero place zero l = refl
place-set (first ∷ rest) zero place (suc at) l = grind (arith, nat_tests)
place-set (first ∷ rest) (suc set) place zero l = grind (arith, nat_tests)
place-set (first ∷ rest) (suc set) place (suc at) l = grind (arith, nat_tests, place-set rest set place at)

held_cond : (b : Bool) (one other : SetCopy) → held_at (cond b one other) ≡ cond b (held_at one) (held_at other)
held_cond true one other = refl
held_cond false one other = refl

held-set : (places : List SetCopy) (set : ℕ) (place : SetCopy) (at : ℕ) → set < length places → value_at (map_from 0 (slice_set places set place)) at ≡ cond (at == set) (held_at place) (value_at (map_from 0 places) at)
held-set places set place at l =
    value_of (slice_set places set place) at ∙ (ap held_at (place-set places set place at l) ∙ (held_cond (at == set) place (place_at places at)
    ∙ ap (λ (o : Option Copy). cond (at == set) (held_at place) o) (sym (value_of places at))))

-- a copy comes into a set
pub map_filled : (places : List SetCopy) (set : ℕ) (place : SetCopy) (copy : Copy) → set < length places → held_at place ≡ Some copy → map_from 0 (slice_set places set place) ≡ with_value (map_from 0 places) set copy
map_filled places set place copy l e = same_maps _ _ (λ at. held-set places set place at l ∙ (ap (λ (o : Option Copy). cond (at == set) o (value_at (map_from 0 places) at)) e ∙ sym (value-with (map_from 0 places) set copy at)))

-- a set is emptied
pub map_emptied : (places : List SetCopy) (set : ℕ) (place : SetCopy) → set < length places → held_at place ≡ None → map_from 0 (slice_set places set place) ≡ without_value (map_from 0 places) set
map_emptied places set place l e = same_maps _ _ (λ at. held-set places set place at l ∙ (ap (λ (o : Option Copy). cond (at == set) o (value_at (map_from 0 places) at)) e ∙ sym (value-without (map_from 0 places) set at)))

-- ---- as the functions of a cache meet them

-- two caches with the same map
pub same_copies : (sets : ℕ) (one other : Cache) → one ≡ other → copies_of sets one ≡ copies_of sets other
same_copies sets one other e = ap (copies_of sets) e

-- places that hold nothing
pub empty_from : (n set : ℕ) → map_from set (replicate n no_place) ≡ empty_map
empty_from n set = same_maps _ _ (λ at. go at (cases_lt at set))
  where
    none : (k : ℕ) → held_at (place_at (replicate n no_place) k) ≡ None
    none k = go (cases_lt k n)
      where
        go : (k < n) ⊎ (n ≤ k) → held_at (place_at (replicate n no_place) k) ≡ None
        go (inl l) = ap held_at (get_or-replicate n k no_place no_place l)
        go (inr l) = ap held_at (get_or-eq_default (replicate n no_place) no_place (omega (arith, length-replicate n no_place)))

    go : (at : ℕ) → (at < set) ⊎ (set ≤ at) → value_at (map_from set (replicate n no_place)) at ≡ value_at empty_map at
    go at (inl l) = below (replicate n no_place) set at l ∙ sym (value-empty at)
    go at (inr l) = value_from (replicate n no_place) set (at - set) at (omega arith) ∙ (none (at - set) ∙ sym (value-empty at))

-- what was read of a place
pub held_read : (places : List SetCopy) (set : ℕ) (seen : SetCopy) → set < length places → seen ≡ slice_index_or places set seen → held_at seen ≡ value_at (map_from 0 places) set
held_read places set seen l read = ap held_at (get_or_read places set seen l read no_place) ∙ sym (value_of places set)

-- a line's copy is taken out: its set is emptied
pub dropped : (sets : ℕ) (cache : Cache) (line : ℕ) (o : Option Copy) (copy : Evicted) → Some copy ≡ option_map evicted_of o → (invalidate sets cache line o).0 ≡ without_value cache (set_of sets line)
dropped sets cache line None copy e = absurd (cc)
dropped sets cache line (Some held) copy e = refl

-- the place of a line with a Read-Write copy is that line's, in Write mode
written_place : (at : ℕ) (mode : Option Mode) (was body : Line) (line : ℕ) → IsTrue (is_some (kept_if (λ copy. grants copy.mode Write) (kept_if (λ copy. copy.line == line) (held_at (place_of at mode was)))))
    → held_at (place_of at mode body) ≡ Some (copy_of line Write body)
written_place at None was body line h = grind (arith, nat_tests)
written_place at (Some Read) was body line h = grind (arith, nat_tests)
written_place at (Some Write) was body line h = grind (arith, nat_tests)

pub held_written : (places : List SetCopy) (sets line : ℕ) (seen : SetCopy) (body : Line) → line % sets < length places → seen ≡ slice_index_or places (line % sets) seen
    → IsTrue (is_some (granted_copy sets (map_from 0 places) line Write)) → held_at (place_of seen.line seen.mode body) ≡ Some (copy_of line Write body)
held_written places sets line seen body l read h =
    let Q : Option Copy → Type 0 = λ o. IsTrue (is_some (kept_if (λ copy. grants copy.mode Write) (kept_if (λ copy. copy.line == line) o))) in
    written_place seen.line seen.mode seen.body body line (subst Q (sym (held_read places (line % sets) seen l read)) h)
