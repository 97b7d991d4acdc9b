-- What is found grows, and stays real.
use Rattle.std.proofs.Common.{◌≡◌, ℕ, zero, suc, ◌<◌, ◌⊎◌, inl, inr, Some, List, [], ◌∷◌, ◌++◌, length, replicate, sym, ap, ◌∙◌, subst, arith, length-append}
use Rattle.std.specs.List.{slice_get}
use Rattle.std.proofs.lemmas.Option.{slice_get_within}
use Rattle.alw_num.specs.declared.addresses.Line.{Line}
use Rattle.alw_image.specs.declared.parts.Parts.{Parts}
use Rattle.alw_places.specs.Places.{Place, place_turn, places_after, IsRun, PlaceHasSizes, place_turns}
use Rattle.alw_places.specs.Outcomes.{Ending, Halts, Traps}
use Rattle.alw_places.specs.declared.classes.Class.{Class}
use Rattle.alw_outcomes.specs.Explored.{Found, IsAmong, IsHeld, HasHalted, HasTrapped, IsListed, IsBroken, CameFrom, IsHalted, IsTrapping, IsReal, IsExpanded, Grows, IsTurnFound, AddsPlace, GoesTo}
use Rattle.alw_outcomes.specs.declared.explored.Origin.{Origin}
use Rattle.alw_outcomes.specs.declared.explored.Trapped.{Trapped}
use Rattle.alw_places.specs.declared.classes.Broken.{Broken}
use Rattle.alw_outcomes.proofs.Pooling.{get-append, get-last, some_is, get-cases}
use Rattle.alw_places.proofs.Sizes.{sizes_stay, sizes_start}

-- ---- members

pub same_member : {A : Type 0} (xs : List A) (k : ℕ) (x y : A) → slice_get xs k ≡ Some x → slice_get xs k ≡ Some y → x ≡ y
same_member xs k x y e f = some_is x y (sym e ∙ f)

-- ---- growing

pub grows_refl : (found : Found) → Grows found found
grows_refl found = record { places = λ at place e. e; halted = λ index at e. e; trapped = λ index turn e. e; broken = omega arith }

pub grows_trans : (one two three : Found) → Grows one two → Grows two three → Grows one three
grows_trans one two three first second = record {
  places = λ at place e. second.places at place (first.places at place e);
  halted = λ index at e. second.halted index at (first.halted index at e);
  trapped = λ index turn e. second.trapped index turn (first.trapped index turn e);
  broken = let a = first.broken in let b = second.broken in omega arith;
}

module _ (parts : Parts) (classes : List Class) (before after : Found) (grows : Grows before after) where
  pub among_grows : (place : Place) → IsAmong before.places place → IsAmong after.places place
  among_grows place among = record { at = among.at; there = grows.places among.at place among.there }

  pub held_grows : (place : Place) → IsHeld parts classes (IsAmong before.places) place → IsHeld parts classes (IsAmong after.places) place
  held_grows place held = record { context = held.context; steps = held.steps; private = held.private; among = among_grows (place_turns parts place held.context held.steps) held.among }

  halts_grows : (printed : List (List ℕ)) (memory : List Line) → HasHalted before printed memory → HasHalted after printed memory
  halts_grows printed memory has = record {
    index = has.index;
    at = has.at;
    place = has.place;
    listed = grows.halted has.index has.at has.listed;
    there = grows.places has.at has.place has.there;
    printed_is = has.printed_is;
    memory_is = has.memory_is;
  }

  traps_grows : (context pc tt' : ℕ) → HasTrapped before context pc tt' → HasTrapped after context pc tt'
  traps_grows context pc tt' has = record {
    index = has.index;
    turn = has.turn;
    listed = grows.trapped has.index has.turn has.listed;
    context_is = has.context_is;
    pc_is = has.pc_is;
    type_is = has.type_is;
  }

  listed_grows : (ending : Ending) → IsListed before ending → IsListed after ending
  listed_grows (Halts printed memory) listed = halts_grows printed memory listed
  listed_grows (Traps context pc tt') listed = traps_grows context pc tt' listed

  broken_grows : IsBroken before → IsBroken after
  broken_grows some = let more = grows.broken in omega arith

  traps_or : (context pc tt' : ℕ) → HasTrapped before context pc tt' ⊎ IsBroken before → HasTrapped after context pc tt' ⊎ IsBroken after
  traps_or context pc tt' (inl has) = inl (traps_grows context pc tt' has)
  traps_or context pc tt' (inr some) = inr (broken_grows some)

  listed_or : (ending : Ending) → IsListed before ending ⊎ IsBroken before → IsListed after ending ⊎ IsBroken after
  listed_or ending (inl has) = inl (listed_grows ending has)
  listed_or ending (inr some) = inr (broken_grows some)

  pub turn_grows : (place : Place) (context : ℕ) → IsTurnFound parts classes before place context → IsTurnFound parts classes after place context
  turn_grows place context is = record {
    next = λ goes. held_grows _ (is.next goes);
    trap = λ pc tt' ends. traps_or context pc tt' (is.trap pc tt' ends);
    kept = λ breaks. broken_grows (is.kept breaks);
  }

  pub expanded_grows : (place : Place) → IsExpanded parts classes before place → IsExpanded parts classes after place
  expanded_grows place (inl one) = inl (record { context = one.context; private = one.private; forward = one.forward; next = held_grows _ one.next })
  expanded_grows place (inr full) =
      inr (record {
        next = λ context goes. held_grows _ (full.next context goes);
        endings = λ ending ends. listed_or ending (full.endings ending ends);
        kept = λ context breaks. broken_grows (full.kept context breaks);
      })

  from_grows : (at : ℕ) (place : Place) → ((at : ℕ) (origin : Origin) → slice_get before.origins at ≡ Some origin → slice_get after.origins at ≡ Some origin) → CameFrom parts before at place
      → CameFrom parts after at place
  from_grows at place origins came = record {
    origin = came.origin;
    before = came.before;
    listed = origins at came.origin came.listed;
    earlier = came.earlier;
    there = grows.places came.origin.from came.before came.there;
    run = came.run;
    after = came.after;
  }

  halted_grows : (at : ℕ) → IsHalted before at → IsHalted after at
  halted_grows at is = record { place = is.place; there = grows.places at is.place is.there; halted = is.halted }

  trapping_grows : (turn : Trapped) → IsTrapping parts before turn → IsTrapping parts after turn
  trapping_grows turn is = record { place = is.place; there = grows.places turn.at is.place is.there; ends = is.ends }

-- ---- one place more

added : Found → Place → Origin → Found
added before place origin = record before { places = before.places ++ place ∷ []; origins = before.origins ++ origin ∷ [] }

added_grows : (before : Found) (place : Place) (origin : Origin) → Grows before (added before place origin)
unfolding added
added_grows before place origin = record { places = λ at p e. get-append before.places _ at p e; halted = λ index at e. e; trapped = λ index turn e. e; broken = omega arith }

-- where the place came from
pub record IsFrom (parts : Parts) (found : Found) (place : Place) (origin : Origin) : Type 0 where
  pub before : Place
  pub there : slice_get found.places origin.from ≡ Some before
  pub run : IsRun parts before (replicate origin.turns origin.context)
  pub after : places_after parts before (replicate origin.turns origin.context) ≡ place

added_real : (parts : Parts) (before : Found) (place : Place) (origin : Origin) → IsReal parts before → IsFrom parts before place origin → IsReal parts (added before place origin)
unfolding added
added_real parts before place origin real from =
    let grows = added_grows before place origin in
    let within = slice_get_within before.places origin.from from.before from.there in
    record {
      paired = omega (arith, real.paired, length-append before.origins (origin ∷ []), length-append before.places (place ∷ []));
      start = get-append before.places _ 0 _ real.start;
      from = λ at p some e. go at p some (get-cases before.places place at p e);
      halted = λ index at e. halted_grows parts [] before _ grows at (real.halted index at e);
      trapped = λ index turn e. trapping_grows parts [] before _ grows turn (real.trapped index turn e);
    }
  where
    go : (at : ℕ) (p : Place) → 0 < at → (slice_get before.places at ≡ Some p) ⊎ ((at ≡ length before.places) × (place ≡ p)) → CameFrom parts (added before place origin) at p
    go at p some (inl here) = from_grows parts [] before _ (added_grows before place origin) at p (λ k o e. get-append before.origins _ k o e) (real.from at p some here)
    go at p some (inr last) = record {
      origin = origin;
      before = from.before;
      listed = ap (λ (n : ℕ). slice_get (before.origins ++ origin ∷ []) n) (last.0 ∙ sym real.paired) ∙ get-last before.origins origin;
      earlier = omega (arith, slice_get_within before.places origin.from from.before from.there, last.0);
      there = get-append before.places _ origin.from from.before from.there;
      run = from.run;
      after = from.after ∙ last.1;
    }

-- what finding a place leaves
pub record IsAdded (parts : Parts) (before after : Found) (place : Place) : Type 0 where
  pub goes : GoesTo parts before after
  pub among : IsAmong after.places place

new_is : (parts : Parts) (before : Found) (place : Place) (origin : Origin) → IsReal parts before → IsFrom parts before place origin
    → IsAdded parts before (record before { places = before.places ++ place ∷ []; origins = before.origins ++ origin ∷ [] }) place
unfolding added
new_is parts before place origin real from = record {
  goes = record { real = added_real parts before place origin real from; grows = added_grows before place origin };
  among = record { at = length before.places; there = get-last before.places place };
}

pub adds_is : (parts : Parts) (before after : Found) (place : Place) (origin : Origin) → IsReal parts before → IsFrom parts before place origin → AddsPlace before after place origin
    → IsAdded parts before after place
adds_is parts before after place origin real from (inl old) =
    subst (λ (f : Found). IsAdded parts before f place) (sym old.1) (record { goes = record { real = real; grows = grows_refl before }; among = old.0 })
adds_is parts before after place origin real from (inr new) = subst (λ (f : Found). IsAdded parts before f place) (sym new) (new_is parts before place origin real from)

-- ---- one ending more

pub halt_listed : (parts : Parts) (before : Found) (at : ℕ) → IsReal parts before → IsHalted before at → GoesTo parts before (record before { halted = before.halted ++ at ∷ [] })
halt_listed parts before at real is =
    let grows : Grows before (record before { halted = before.halted ++ at ∷ [] }) = record {
      places = λ k p e. e;
      halted = λ index k e. get-append before.halted _ index k e;
      trapped = λ index turn e. e;
      broken = omega arith;
    } in
    record {
      grows = grows;
      real = record {
        paired = real.paired;
        start = real.start;
        from = λ k p some e. from_grows parts [] before _ grows k p (λ j o f. f) (real.from k p some e);
        halted = λ index k e. go index k (get-cases before.halted at index k e);
        trapped = λ index turn e. trapping_grows parts [] before _ grows turn (real.trapped index turn e);
      };
    }
  where
    go : (index k : ℕ) → (slice_get before.halted index ≡ Some k) ⊎ ((index ≡ length before.halted) × (at ≡ k)) → IsHalted (record before { halted = before.halted ++ at ∷ [] }) k
    go index k (inl old) = let was = real.halted index k old in record { place = was.place; there = was.there; halted = was.halted }
    go index k (inr last) = record { place = is.place; there = ap (slice_get before.places) (sym last.1) ∙ is.there; halted = is.halted }

pub trap_listed : (parts : Parts) (before : Found) (turn : Trapped) → IsReal parts before → IsTrapping parts before turn → GoesTo parts before (record before { trapped = before.trapped ++ turn ∷ [] })
trap_listed parts before turn real is =
    let grows : Grows before (record before { trapped = before.trapped ++ turn ∷ [] }) = record {
      places = λ k p e. e;
      halted = λ index k e. e;
      trapped = λ index t e. get-append before.trapped _ index t e;
      broken = omega arith;
    } in
    record {
      grows = grows;
      real = record {
        paired = real.paired;
        start = real.start;
        from = λ k p some e. from_grows parts [] before _ grows k p (λ j o f. f) (real.from k p some e);
        halted = λ index k e. halted_grows parts [] before _ grows k (real.halted index k e);
        trapped = λ index t e. go index t (get-cases before.trapped turn index t e);
      };
    }
  where
    go : (index : ℕ) (t : Trapped) → (slice_get before.trapped index ≡ Some t) ⊎ ((index ≡ length before.trapped) × (turn ≡ t))
        → IsTrapping parts (record before { trapped = before.trapped ++ turn ∷ [] }) t
    go index t (inl old) = let was = real.trapped index t old in record { place = was.place; there = was.there; ends = was.ends }
    go index t (inr last) =
        let here : IsTrapping parts (record before { trapped = before.trapped ++ turn ∷ [] }) turn = record { place = is.place; there = is.there; ends = is.ends } in
        subst (λ (u : Trapped). IsTrapping parts (record before { trapped = before.trapped ++ turn ∷ [] }) u) last.1 here

pub break_listed : (parts : Parts) (before : Found) (turn : Broken) → IsReal parts before → GoesTo parts before (record before { broken = before.broken ++ turn ∷ [] })
break_listed parts before turn real =
    let grows : Grows before (record before { broken = before.broken ++ turn ∷ [] }) = record {
      places = λ k p e. e;
      halted = λ index k e. e;
      trapped = λ index t e. e;
      broken = omega (arith, length-append before.broken (turn ∷ []));
    } in
    record {
      grows = grows;
      real = record {
        paired = real.paired;
        start = real.start;
        from = λ k p some e. from_grows parts [] before _ grows k p (λ j o f. f) (real.from k p some e);
        halted = λ index k e. halted_grows parts [] before _ grows k (real.halted index k e);
        trapped = λ index t e. trapping_grows parts [] before _ grows t (real.trapped index t e);
      };
    }

-- ---- sizes, and runs

sizes_after : (parts : Parts) (place : Place) (turns : List ℕ) → PlaceHasSizes parts place → PlaceHasSizes parts (places_after parts place turns)
sizes_after parts place [] sizes = sizes
sizes_after parts place (context ∷ rest) sizes = sizes_after parts (place_turn parts place context) rest (sizes_stay parts place context sizes)

-- all places that are found have the sizes
pub sizes_found : (parts : Parts) (found : Found) → IsReal parts found → (at : ℕ) (place : Place) → slice_get found.places at ≡ Some place → PlaceHasSizes parts place
sizes_found parts found real at place e = below (suc at) at place (omega arith) e
  where
    below : (past at : ℕ) (place : Place) → at < past → slice_get found.places at ≡ Some place → PlaceHasSizes parts place
    below zero at place less e = absurd (omega arith)
    below (suc past) zero place less e = subst (λ (p : Place). PlaceHasSizes parts p) (same_member found.places 0 _ place real.start e) (sizes_start parts)
    below (suc past) (suc at) place less e =
        let came = real.from (suc at) place (omega arith) e in
        let earlier = came.earlier in
        subst (λ (p : Place). PlaceHasSizes parts p) came.after
        (sizes_after parts came.before (replicate came.origin.turns came.origin.context) (below past came.origin.from came.before (omega arith) came.there))
