-- What is told of a search, as code makes it.
use Rattle.std.proofs.Common.{◌≡◌, ℕ, ◌+◌, ◌<◌, ◌≤◌, ◌++◌, List, [], ◌∷◌, length, map, take, slice_index_or, sym, ap, ◌∙◌, subst, arith}
use Rattle.std.specs.List.{slice_get, Contains, range_with_len}
use Rattle.std.proofs.lemmas.Option.{slice_get_within, slice_get-get_or}
use Rattle.std.proofs.lemmas.List.{take_more, take_all, map-append}
use Rattle.std.proofs.lemmas.List.Elements.{Contains-get_or}
use Rattle.alw_image.specs.declared.parts.Parts.{Parts}
use Rattle.alw_outcomes.specs.declared.explored.Trapped.{Trapped}
use Rattle.alw_outcomes.specs.declared.explored.Explored.{Explored}
use Rattle.alw_outcomes.specs.declared.endings.Keyed.{Keyed}
use Rattle.alw_outcomes.specs.Explored.{found_in, place_in, no_place, IsReal}
use Rattle.alw_outcomes.specs.Keys.{place_key, end_key, trap_key, numbers_of, AreKeyed, AreOneOfEach}
use Rattle.alw_outcomes.proofs.Storing.{places_length, place_at}
use Rattle.alw_outcomes.proofs.Sorting.{numbers_more, keyed_more}
use Rattle.alw_outcomes.proofs.Keying.{count_below}

-- a listed number is that of a place
pub listed_within : (parts : Parts) (e : Explored) (items : List ℕ) (k : ℕ) → IsReal parts (found_in e) → items ≡ e.halted.items → k < length items → slice_index_or items k 0 < length e.memories.items
listed_within parts e items k real same less =
    let is = real.halted k (slice_index_or items k 0) (ap (λ (l : List ℕ). slice_get l k) (sym same) ∙ slice_get-get_or items k 0 less) in
    let w = slice_get_within _ (slice_index_or items k 0) is.place is.there in
    omega (arith, w, places_length e)

-- one place more, with its key
pub ends_more : (e : Explored) (keyed after : List Keyed) (items : List ℕ) (k : ℕ) (one : Keyed) → items ≡ e.halted.items → k < length items → one.number ≡ slice_index_or items k 0
    → one.number < length e.memories.items → one.key.items ≡ place_key (place_in e one.number) → numbers_of keyed ≡ take k e.halted.items → AreKeyed (end_key (found_in e)) keyed
    → after ≡ keyed ++ one ∷ []
    → (numbers_of after ≡ take (k + 1) e.halted.items) × AreKeyed (end_key (found_in e)) after
ends_more e keyed after items k one same less number within key numbers keys pushed = (
  numbers_more keyed after one pushed ∙ (λ i. numbers i ++ number i ∷ []) ∙ (λ i. take k e.halted.items ++ slice_index_or (same i) k 0 ∷ [])
      ∙ sym (take_more e.halted.items k 0 (subst (λ (l : List ℕ). k < length l) same less)),
  keyed_more (end_key (found_in e)) keyed after one keys (key ∙ ap place_key (sym (place_at e one.number no_place within))) pushed,
)

pub map_more : (f : ℕ → Trapped) (turns : List ℕ) (traps after : List Trapped) (k : ℕ) → k < length turns → traps ≡ map f (take k turns) → after ≡ traps ++ f (slice_index_or turns k 0) ∷ []
    → after ≡ map f (take (k + 1) turns)
map_more f turns traps after k less is pushed =
    pushed ∙ (λ i. is i ++ f (slice_index_or turns k 0) ∷ []) ∙ sym (map-append f (take k turns) (slice_index_or turns k 0 ∷ [])) ∙ ap (map f) (sym (take_more turns k 0 less))

pub map_all : (f : ℕ → Trapped) (turns all : List ℕ) (traps : List Trapped) (k : ℕ) → turns ≡ all → length turns ≤ k → traps ≡ map f (take k turns) → traps ≡ map f all
map_all f turns all traps k same long is = is ∙ ap (map f) (take_all k turns long ∙ same)

pub traps_of : (trapped items : List Trapped) (numbers turns : List ℕ) → items ≡ trapped → numbers ≡ range_with_len 0 (length items) → AreOneOfEach (trap_key items) numbers turns
    → AreOneOfEach (trap_key trapped) (range_with_len 0 (length trapped)) turns
traps_of trapped items numbers turns same is each =
    subst (λ (t : List Trapped). AreOneOfEach (trap_key t) (range_with_len 0 (length t)) turns) same (subst (λ (l : List ℕ). AreOneOfEach (trap_key items) l turns) is each)

-- a number that is told is that of a turn
pub turn_within : (trapped : List Trapped) (turns items : List ℕ) (k : ℕ) → AreOneOfEach (trap_key trapped) (range_with_len 0 (length trapped)) turns → items ≡ turns → k < length items
    → slice_index_or items k 0 < length trapped
turn_within trapped turns items k each same less =
    count_below trapped turns each (slice_index_or items k 0) (subst (λ (l : List ℕ). Contains l (slice_index_or items k 0)) same (Contains-get_or items k 0 less))
