-- Pools without doubles: different numbers are of different places.
use Rattle.std.proofs.Common.{◌≡◌, ℕ, zero, suc, ◌+◌, ◌<◌, Some, List, [], ◌∷◌, ◌++◌, length, map, slice_index_or, refl, sym, ap, ◌∙◌, arith, length-append}
use Rattle.std.specs.List.{slice_get}
use Rattle.std.proofs.lemmas.Option.{slice_get-get_or}
use Rattle.alw_num.specs.declared.addresses.Line.{Line}
use Rattle.alw_image.specs.declared.parts.Parts.{Parts}
use Rattle.alw_outcomes.specs.declared.pools.Seat.{Seat}
use Rattle.alw_outcomes.specs.declared.pools.Link.{Link}
use Rattle.alw_outcomes.specs.declared.pools.Pools.{Pools}
use Rattle.alw_outcomes.specs.declared.explored.Explored.{Explored}
use Rattle.alw_places.specs.Places.{Place}
use Rattle.alw_outcomes.specs.Pools.{AreApart, ArePools, lists_of, no_seat, seat_in, context_in, words_in, memory_in, place_of}
use Rattle.alw_outcomes.specs.Explored.{Row, IsStored, PlacesAreDifferent, no_place, row_in, place_in, found_in}
use Rattle.alw_outcomes.proofs.Pooling.{link_words}
use Rattle.alw_outcomes.proofs.Spelling.{no_words}
use Rattle.alw_outcomes.proofs.Rows.{row_get}
use Rattle.alw_outcomes.proofs.Storing.{RowIn, row_inside, memory_inside, place_at, places_length}

-- ---- a list's first member, and the others

first_is : {A : Type 0} (x y : A) (xs ys : List A) → x ∷ xs ≡ y ∷ ys → x ≡ y
first_is x y xs ys e = cc

rest_is : {A : Type 0} (x y : A) (xs ys : List A) → x ∷ xs ≡ y ∷ ys → xs ≡ ys
rest_is x y xs ys e = cc

-- ---- lists that links spell

not_empty : (words : List ℕ) (word : ℕ) → words ++ word ∷ [] ≡ [] → ⊥
not_empty words word e = let l = ap length e in let m = length-append words (word ∷ []) in omega (arith, l, m)

record EndsSo (one two : List ℕ) (word word' : ℕ) : Type 0 where
  front : one ≡ two
  last : word ≡ word'

ends_so : (one two : List ℕ) (word word' : ℕ) → one ++ word ∷ [] ≡ two ++ word' ∷ [] → EndsSo one two word word'
ends_so [] [] word word' e = record { front = refl; last = cc }
ends_so [] (y ∷ two) word word' e = absurd (let l = ap length e in let m = length-append two (word' ∷ []) in omega (arith, l, m))
ends_so (x ∷ one) [] word word' e = absurd (let l = ap length e in let m = length-append one (word ∷ []) in omega (arith, l, m))
ends_so (x ∷ one) (y ∷ two) word word' e =
    let head : x ≡ y = cc in
    let tail : one ++ word ∷ [] ≡ two ++ word' ∷ [] = cc in
    let rest = ends_so one two word word' tail in
    record { front = λ i. head i ∷ rest.front i; last = rest.last }

module _ (links : List Link) (back : (k : ℕ) (link : Link) → slice_get links k ≡ Some link → link.before < suc k) (apart : AreApart links) where
  abbrev word_list : ℕ → List ℕ
  word_list n = slice_index_or (lists_of links) n []

  abbrev link_at : ℕ → Link
  link_at n = slice_index_or links n (record { before = 0; word = 0 })

  link_there : (at : ℕ) → suc at < suc (length links) → slice_get links at ≡ Some (link_at at)
  link_there at inside = slice_get-get_or links at (record { before = 0; word = 0 }) (omega (arith, inside))

  step_words : (at : ℕ) → suc at < suc (length links) → word_list (suc at) ≡ word_list (link_at at).before ++ (link_at at).word ∷ []
  step_words at inside =
      let more : suc at ≡ at + 1 = omega arith in
      ap word_list more ∙ link_words links at (link_at at) back (link_there at inside)

  apart_words : (at : ℕ) → suc at < suc (length links) → word_list 0 ≡ word_list (suc at) → ⊥
  apart_words at inside same = not_empty (word_list (link_at at).before) (link_at at).word (sym (step_words at inside) ∙ sym same ∙ no_words links)

  -- lists of numbers below a bound
  lists_below : (bound one two : ℕ) → one < bound → two < bound → one < suc (length links) → two < suc (length links) → word_list one ≡ word_list two → one ≡ two
  lists_below zero one two less less' inside inside' same = absurd (omega (arith, less))
  lists_below (suc bound) zero zero less less' inside inside' same = refl
  lists_below (suc bound) zero (suc two) less less' inside inside' same = absurd (apart_words two inside' same)
  lists_below (suc bound) (suc one) zero less less' inside inside' same = absurd (apart_words one inside (sym same))
  lists_below (suc bound) (suc one) (suc two) less less' inside inside' same =
      let ends = ends_so (word_list (link_at one).before) (word_list (link_at two).before) (link_at one).word (link_at two).word (sym (step_words one inside) ∙ same ∙ step_words two inside') in
      let low = back one (link_at one) (link_there one inside) in
      let low' = back two (link_at two) (link_there two inside') in
      let before =
      lists_below bound (link_at one).before (link_at two).before (omega (arith, low, less)) (omega (arith, low', less')) (omega (arith, low, inside)) (omega (arith, low', inside')) ends.front in
      let link : link_at one ≡ link_at two = (λ i. record { before = before i; word = ends.last i }) in
      ap suc (apart one two (link_at one) (link_there one inside) (link_there two inside' ∙ ap (λ (l : Link). Some l) (sym link)))

  pub lists_differ : (one two : ℕ) → one < suc (length links) → two < suc (length links) → slice_index_or (lists_of links) one [] ≡ slice_index_or (lists_of links) two [] → one ≡ two
  lists_differ one two inside inside' same = lists_below (suc (length links)) one two inside inside' inside inside' same

-- ---- members of pools

module _ (parts : Parts) (pools : Pools) (are : ArePools parts pools) where
  seat_there : (n : ℕ) → n < length pools.seats.items → slice_get pools.seats.items n ≡ Some (seat_in pools n)
  seat_there n inside = slice_get-get_or pools.seats.items n no_seat inside

  seats_differ : (one two : ℕ) → one < length pools.seats.items → two < length pools.seats.items → context_in pools one ≡ context_in pools two → words_in pools one ≡ words_in pools two → one ≡ two
  seats_differ one two inside inside' context words =
      let list = lists_differ pools.links.items are.back are.links.apart (seat_in pools one).list (seat_in pools two).list (are.lists one (seat_in pools one) (seat_there one inside))
      (are.lists two (seat_in pools two) (seat_there two inside')) words in
      let seat : seat_in pools one ≡ seat_in pools two = (λ i. record { regs = (context i).regs; status = (context i).status; list = list i }) in
      are.seats.apart one two (seat_in pools one) (seat_there one inside) (seat_there two inside' ∙ ap (λ (s : Seat). Some s) (sym seat))

  memories_differ : (one two : ℕ) → one < length pools.memories.items → two < length pools.memories.items → memory_in pools one ≡ memory_in pools two → one ≡ two
  memories_differ one two inside inside' same =
      are.memories.apart one two (memory_in pools one) (slice_get-get_or pools.memories.items one [] inside)
      (slice_get-get_or pools.memories.items two [] inside' ∙ ap (λ (m : List Line). Some m) (sym same))

  rows_differ : (one two : List ℕ) → RowIn pools one → RowIn pools two → map (context_in pools) one ≡ map (context_in pools) two → map (words_in pools) one ≡ map (words_in pools) two → one ≡ two
  rows_differ [] [] inside inside' contexts words = refl
  rows_differ [] (y ∷ two) inside inside' contexts words = absurd (cc)
  rows_differ (x ∷ one) [] inside inside' contexts words = absurd (cc)
  rows_differ (x ∷ one) (y ∷ two) inside inside' contexts words =
      let context : context_in pools x ≡ context_in pools y = first_is (context_in pools x) (context_in pools y) (map (context_in pools) one) (map (context_in pools) two) contexts in
      let printed : words_in pools x ≡ words_in pools y = first_is (words_in pools x) (words_in pools y) (map (words_in pools) one) (map (words_in pools) two) words in
      let head = seats_differ x y (inside 0 x refl) (inside' 0 y refl) context printed in
      let rest = rows_differ one two (λ i s e. inside (suc i) s e) (λ i s e. inside' (suc i) s e)
      (rest_is (context_in pools x) (context_in pools y) (map (context_in pools) one) (map (context_in pools) two) contexts)
      (rest_is (words_in pools x) (words_in pools y) (map (words_in pools) one) (map (words_in pools) two) words) in
      λ i. head i ∷ rest i

  -- places by different numbers are different
  pub places_differ : (memory memory' : ℕ) (row row' : List ℕ) → memory < length pools.memories.items → memory' < length pools.memories.items → RowIn pools row → RowIn pools row'
      → place_of pools memory row ≡ place_of pools memory' row'
      → (let one : Row = record { memory = memory; contexts = row } in one ≡ record { memory = memory'; contexts = row' })
  unfolding place_of
  places_differ memory memory' row row' inside inside' seats seats' same =
      let lines = memories_differ memory memory' inside inside' (ap (λ (p : Place). p.flat.memory) same) in
      let contexts = rows_differ row row' seats seats' (ap (λ (p : Place). p.flat.contexts) same) (ap (λ (p : Place). p.printed) same) in
      λ i. record { memory = lines i; contexts = contexts i }

-- ---- what is found

-- the places that are kept are different
pub kept_differ : (parts : Parts) (e : Explored) → IsStored parts e → PlacesAreDifferent (found_in e)
kept_differ parts e stored one two less less' same =
    let within : one < length e.memories.items = omega (arith, less, places_length e) in
    let within' : two < length e.memories.items = omega (arith, less', places_length e) in
    let place : place_in e one ≡ place_in e two = sym (place_at e one no_place within) ∙ same ∙ place_at e two no_place within' in
    let row =
    places_differ parts e.pools stored.pools (slice_index_or e.memories.items one 0) (slice_index_or e.memories.items two 0) (row_in e one) (row_in e two)
    (memory_inside parts e one stored within) (memory_inside parts e two stored within') (row_inside parts e one stored within) (row_inside parts e two stored within') place in
    stored.indexed.apart one two (record { memory = slice_index_or e.memories.items one 0; contexts = row_in e one }) (row_get e.width e.memories.items e.rows.items one within)
    (row_get e.width e.memories.items e.rows.items two within' ∙ ap (λ (r : Row). Some r) (sym row))
