-- Ends told one by one, and what turns to a place tell.
use Rattle.std.proofs.Common.{◌≡◌, ℕ, ◌+◌, ◌<◌, true, List, [], ◌∷◌, ◌++◌, Some, length, map, refl, sym, ap, ◌∙◌, subst, arith}
use Rattle.std.specs.Prelude.{slice_get, slice_index_or, IsTrue}
use Rattle.std.specs.List.{AllByRecursion, Contains}
use Rattle.std.specs.List.Sorted.{IsStrictlySortedBy}
use Rattle.std.proofs.lemmas.Option.{slice_get_read, slice_get_within, slice_get-get_or, get_or_from_slice_get}
use Rattle.alw_image.specs.declared.parts.Parts.{Parts}
use Rattle.alw_image.specs.Images.{line_count, sizes_of}
use Rattle.alw_msg.specs.Stretches.{stretches, turns_in}
use Rattle.alw_msg.proofs.StretchLaws.{same_turns}
use Rattle.alw_places.specs.Places.{Place}
use Rattle.alw_places.specs.Outcomes.{Ending, Traps, EndsIn, HasEvery, all_halted, CanEnd}
use Rattle.alw_outcomes.specs.Explored.{Found, found_in, places_in, place_in, no_place, halt_of, trap_of, endings_in, IsStored, IsReal, IsHalted, IsTrapping, LeadsTo, PlacesAreDifferent}
use Rattle.alw_outcomes.specs.Pools.{place_of}
use Rattle.alw_outcomes.specs.Endings.{halt_at, ending_cmp, told_in, AreDifferent}
use Rattle.alw_outcomes.specs.Stuck.{IsStuckAt}
use Rattle.alw_outcomes.specs.declared.explored.Explored.{Explored}
use Rattle.alw_outcomes.specs.declared.explored.Trapped.{Trapped}
use Rattle.alw_outcomes.proofs.Finding.{same_member}
use Rattle.alw_outcomes.proofs.Storing.{places_length, number_place}
use Rattle.alw_outcomes.proofs.Witnesses.{each_reached}
use Rattle.alw_outcomes.specs.declared.endings.Endings.{Endings}
use Rattle.alw_endings.specs.declared.values.Outcomes.{Outcomes}
use Rattle.alw_endings.specs.declared.values.HaltEnd.{HaltEnd}
use Rattle.alw_endings.specs.Ends.{prints_at, memory_at, place_by, halt_told, trap_told, endings_told, IsHaltEnd, IsTrapEnd, IsStuckRun, IsStuckThere, KeepsPlaces, AreOutcomes}

-- members that are told of the numbers so far; the rest is to come
pub record ToldSoFar {X Y : Type 0} (Is : X → Type 0) (tells : X → Ending) (names : Y → Ending) (all rest : List Y) (told : List X) : Type 0 where
  pub each : AllByRecursion Is told
  pub same : map tells told ++ map names rest ≡ map names all
  pub few : length told + length rest ≡ length all

each_push : {X : Type 0} (Is : X → Type 0) (xs : List X) (x : X) → AllByRecursion Is xs → Is x → AllByRecursion Is (xs ++ x ∷ [])
each_push Is [] x each is = (is, tt)
each_push Is (y ∷ rest) x each is = (each.0, each_push Is rest x each.1 is)

map_push : {X : Type 0} (tells : X → Ending) (xs : List X) (x : X) (rest : List Ending) → map tells (xs ++ x ∷ []) ++ rest ≡ map tells xs ++ tells x ∷ rest
map_push tells [] x rest = refl
map_push tells (y ∷ xs) x rest = ap (λ (endings : List Ending). tells y ∷ endings) (map_push tells xs x rest)

length_push : {X : Type 0} (xs : List X) (x : X) → length (xs ++ x ∷ []) ≡ length xs + 1
length_push [] x = refl
length_push (y ∷ xs) x = omega (arith, length_push xs x)

module _ {X Y : Type 0} (Is : X → Type 0) (tells : X → Ending) (names : Y → Ending) (all : List Y) where
  pub begins : (told : List X) → told ≡ [] → ToldSoFar Is tells names all all told
  begins told none = subst (ToldSoFar Is tells names all all) (sym none) (record { each = tt; same = refl; few = omega arith })

  pub goes_on : (rest : List Y) (y : Y) (left : List Y) (told : List X) (x : X) (more : List X) → rest ≡ y ∷ left → ToldSoFar Is tells names all rest told → Is x → tells x ≡ names y →
      more ≡ told ++ x ∷ [] → ToldSoFar Is tells names all left more
  goes_on rest y left told x more parts so_far is told_so grown = subst (ToldSoFar Is tells names all left) (sym grown) (record {
    each = each_push Is told x so_far.each is;
    same = map_push tells told x (map names left)
        ∙ ap (λ (ending : Ending). map tells told ++ ending ∷ map names left) told_so
        ∙ ap (λ (ys : List Y). map tells told ++ map names ys) (sym parts)
        ∙ so_far.same;
    few = omega (arith, length_push told x, so_far.few, ap length parts);
  })

-- ---- of what a search has found

contained : {X : Type 0} (xs : List X) (x : X) → Contains xs x → (k : ℕ) × (slice_get xs k ≡ Some x)
contained xs x has = (has.0, slice_get_read xs (length xs) has.0 x refl has.1 (sym has.2))

-- a listed number is that of a place
pub halted_at : (parts : Parts) (found : Found) (at : ℕ) → IsReal parts found → Contains found.halted at → IsHalted found at
halted_at parts found at real listed = let k = contained found.halted at listed in real.halted k.0 at k.1

pub trapped_at : (parts : Parts) (found : Found) (turn : Trapped) → IsReal parts found → Contains found.trapped turn → IsTrapping parts found turn
trapped_at parts found turn real listed = let k = contained found.trapped turn listed in real.trapped k.0 turn k.1

pub within : (e : Explored) (at : ℕ) (place : Place) → slice_get (places_in e) at ≡ Some place → at < length e.memories.items
within e at place there = omega (arith, slice_get_within (places_in e) at place there, places_length e)

-- a place has all lines
pub memory_sized : (parts : Parts) (e : Explored) (at : ℕ) → IsStored parts e → at < length e.memories.items → length (place_in e at).flat.memory ≡ line_count parts
unfolding place_of
memory_sized parts e at stored l =
    let number : ℕ = slice_index_or e.memories.items at 0 in
    let inside = stored.memory_in at number (slice_get-get_or e.memories.items at 0 l) in
    stored.pools.sizes number (slice_index_or e.pools.memories.items number []) (slice_get-get_or e.pools.memories.items number [] inside)

-- what turns to a place tell, where all contexts have halted there
module _ (parts : Parts) (e : Explored) (at : ℕ) (turns : List ℕ) (real : IsReal parts (found_in e)) (listed : Contains e.halted.items at)
    (leads : LeadsTo parts (found_in e) at turns) where
  is_halted : IsHalted (found_in e) at
  is_halted = halted_at parts (found_in e) at real listed

  the_place : place_in e at ≡ place_by parts turns
  the_place = same_member (places_in e) at (place_in e at) leads.place (number_place e at (within e at is_halted.place is_halted.there)) leads.there ∙ sym leads.after

  all_have : all_halted (place_by parts turns) ≡ true
  all_have = subst (λ (p : Place). all_halted p ≡ true)
      (same_member (places_in e) at is_halted.place leads.place is_halted.there leads.there ∙ sym leads.after) is_halted.halted

  pub halt_is : (halt : HaltEnd) → halt.runs ≡ stretches turns → halt.prints ≡ prints_at parts (place_in e at) → halt.memory ≡ memory_at parts (place_in e at) → IsHaltEnd parts halt
  halt_is halt runs prints memory = record {
    turns = turns;
    lead = runs;
    run = leads.run;
    halted = all_have;
    prints = prints ∙ ap (prints_at parts) the_place;
    memory = memory ∙ ap (memory_at parts) the_place;
  }

  pub halt_tells : (prints memory runs : List (ℕ × ℕ)) → runs ≡ stretches turns → halt_told parts (record { prints = prints; memory = memory; runs = runs }) ≡ halt_at (found_in e) at
  halt_tells prints memory runs are =
      let same : turns_in runs ≡ turns = ap turns_in are ∙ same_turns turns in
      let there : slice_index_or (places_in e) at no_place ≡ leads.place = get_or_from_slice_get (places_in e) at leads.place no_place leads.there in
      ap (λ (ts : List ℕ). halt_of (place_by parts ts)) same ∙ ap halt_of (leads.after ∙ sym there)

-- what turns to a place tell, where the turn of a context traps there
pub trap_is : (parts : Parts) (found : Found) (turn : Trapped) (turns all : List ℕ) → IsReal parts found → Contains found.trapped turn → LeadsTo parts found turn.at turns →
    all ≡ turns ++ turn.context ∷ [] → (runs : List (ℕ × ℕ)) → runs ≡ stretches all → IsTrapEnd parts (record { context = turn.context; pc = turn.pc; tt = turn.tt; runs = runs })
trap_is parts found turn turns all real listed leads grown runs are =
    let traps = trapped_at parts found turn real listed in
    record {
      turns = turns;
      lead = are ∙ ap stretches grown;
      run = leads.run;
      traps = subst (λ (p : Place). EndsIn parts p (Traps turn.context turn.pc turn.tt))
          (same_member found.places turn.at traps.place leads.place traps.there leads.there ∙ sym leads.after) traps.ends;
    }

-- turns to a place from which no end can be reached
pub stuck_there : (parts : Parts) (found : Found) (at : ℕ) (turns : List ℕ) (runs : List (ℕ × ℕ)) → IsStuckAt parts found at → LeadsTo parts found at turns → runs ≡ stretches turns → IsStuckThere parts runs
stuck_there parts found at turns runs stuck leads are = record {
  turns = turns;
  lead = are;
  run = leads.run;
  never = subst (λ (p : Place). CanEnd parts p → ⊥) (same_member found.places at stuck.place leads.place stuck.there leads.there ∙ sym leads.after) stuck.never;
}

-- the places that are kept, and turns to each
pub keeps_places : (parts : Parts) (found : Found) (count : ℕ) → IsReal parts found → PlacesAreDifferent found → length found.places ≡ count → KeepsPlaces parts count
keeps_places parts found count real different counted = record {
  places = found.places;
  counted = counted;
  different = different;
  reached = λ at place there. let led = each_reached parts found real at place there in
      record { turns = led.0; run = led.1.run; there = led.1.after ∙ same_member found.places at led.1.place place led.1.there there };
}

-- ---- the whole

module _ (parts : Parts) (found : Found) (endings : Endings) (told : Outcomes)
    (halts_told : map (halt_told parts) told.halts ≡ map (halt_at found) endings.ends.items)
    (traps_told : map trap_told told.traps ≡ map trap_of endings.traps.items)
    (different : AreDifferent (endings_in found) (told_in found endings)) where
  all_told : endings_told parts told ≡ told_in found endings
  all_told =
      ap (λ (one : List Ending). one ++ map trap_told told.traps) halts_told
      ∙ ap (λ (other : List Ending). map (halt_at found) endings.ends.items ++ other) traps_told

  pub are_outcomes : told.sizes ≡ sizes_of parts → KeepsPlaces parts told.places → AllByRecursion (IsHaltEnd parts) told.halts → AllByRecursion (IsTrapEnd parts) told.traps →
      (IsTrue told.is_complete → HasEvery parts (endings_in found)) → IsStuckRun parts told.stuck → AreOutcomes parts told
  are_outcomes sizes kept halts traps every stuck = record {
    sizes = sizes;
    kept = kept;
    halts = halts;
    traps = traps;
    ascending = subst (IsStrictlySortedBy ending_cmp) (sym all_told) different.ascending;
    every = λ complete ending comes. subst (λ (all : List Ending). Contains all ending) (sym all_told) (different.every ending (every complete ending comes));
    stuck = stuck;
  }
