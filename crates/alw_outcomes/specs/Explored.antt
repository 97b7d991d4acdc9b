-- What a search has found: places, how each was found, and the endings.
use Rattle.std.specs.Prelude.{◌≡◌, ℕ, ◌*◌, ◌<◌, ◌≤◌, Bool, true, ◌⊎◌, List, [], ◌∷◌, ◌++◌, length, map, take, drop, replicate, slice_get, slice_index_or, Some}
use Rattle.std.specs.List.{range_with_len, list_all}
use Rattle.alw_num.specs.declared.addresses.Line.{Line}
use Rattle.alw_image.specs.declared.parts.Parts.{Parts}
use Rattle.alw_image.specs.Images.{context_count}
use Rattle.alw_msg.specs.Statuses.{is_halted}
use Rattle.alw_model.specs.Flat.{context_start}
use Rattle.alw_places.specs.Places.{Place, place_start, place_turn, place_turns, places_after, IsForward, IsRun}
use Rattle.alw_places.specs.Outcomes.{Ending, Halts, Traps, EndsIn, all_halted}
use Rattle.alw_places.specs.Sharing.{Goes, Breaks, CanBreak, IsPrivate, PrivateTurns, HasNext, HasPrivateNext}
use Rattle.alw_outcomes.specs.Digests.{row_digest}
use Rattle.alw_outcomes.specs.Pools.{IsIndexed, ArePools, no_seat, context_of, place_of}
use Rattle.alw_outcomes.specs.Remembered.{AreLeads}
use Rattle.alw_places.specs.declared.classes.Class.{Class}
use Rattle.alw_places.specs.declared.classes.Broken.{Broken}
use Rattle.alw_outcomes.specs.declared.pools.Seat.{Seat}
use Rattle.alw_outcomes.specs.declared.explored.Origin.{Origin}
use Rattle.alw_outcomes.specs.declared.explored.Trapped.{Trapped}
use Rattle.alw_outcomes.specs.declared.explored.Explored.{Explored}

-- places, where each came from, the numbers of those where all contexts have halted, and turns that trap
pub record Found : Type 0 where
  pub places : List Place
  pub origins : List Origin
  pub halted : List ℕ
  pub trapped : List Trapped
  pub broken : List Broken

-- the numbers of the contexts at a place
abbrev pub row_in : Explored → ℕ → List ℕ
row_in e at = take e.width (drop (at * e.width) e.rows.items)

-- a place by numbers: that of its memory, and those of its contexts
pub record Row : Type 0 where
  pub memory : ℕ
  pub contexts : List ℕ

-- the rows of places: of each number the memory, and so many contexts of the list
unfoldable pub rows_of : ℕ → List ℕ → List ℕ → List Row
rows_of width memories rows = map (λ k. record { memory = slice_index_or memories k 0; contexts = take width (drop (k * width) rows) }) (range_with_len 0 (length memories))

abbrev pub rows_in : Explored → List Row
rows_in e = rows_of e.width e.memories.items e.rows.items

abbrev pub digest_in : Row → ℕ
digest_in row = row_digest row.memory row.contexts

-- the place with a number
abbrev pub place_in : Explored → ℕ → Place
place_in e at = place_of e.pools (slice_index_or e.memories.items at 0) (row_in e at)

unfoldable pub places_in : Explored → List Place
places_in e = map (place_in e) (range_with_len 0 (length e.memories.items))

abbrev pub found_in : Explored → Found
found_in e = record { places = places_in e; origins = e.origins.items; halted = e.halted.items; trapped = e.trapped.items; broken = e.broken.items }

-- the place of no number
abbrev pub no_place : Place
no_place = record { flat = record { memory = []; contexts = [] }; printed = [] }

-- two numbers of places whose places are the same are the same number
abbrev pub PlacesAreDifferent : Found → Type 0
PlacesAreDifferent found = (one two : ℕ) → one < length found.places → two < length found.places → slice_index_or found.places one no_place ≡ slice_index_or found.places two no_place → one ≡ two

-- all numbers are of what the pools hold, each place has a row, which no other has, what is remembered as a lead is one, and a hint that was broken can be
pub record IsStored (parts : Parts) (e : Explored) : Type 0 where
  pub width : e.width ≡ context_count parts
  pub rows : length e.rows.items ≡ length e.memories.items * e.width
  pub memory_in : (k m : ℕ) → slice_get e.memories.items k ≡ Some m → m < length e.pools.memories.items
  pub seat_in : (k s : ℕ) → slice_get e.rows.items k ≡ Some s → s < length e.pools.seats.items
  pub pools : ArePools parts e.pools
  pub leads : AreLeads parts e.classes.items e.pools e.leads.slots.items
  pub breaks : 0 < length e.broken.items → CanBreak e.classes.items
  pub indexed : IsIndexed digest_in (rows_in e) e.by_row

-- the place with this number has this memory and these contexts
pub record IsPlaceRow (e : Explored) (at memory : ℕ) (row : List ℕ) : Type 0 where
  pub exists : at < length e.memories.items
  pub memory_is : slice_get e.memories.items at ≡ Some memory
  pub row_is : row_in e at ≡ row

-- all contexts of a row have halted
abbrev pub halted_in : List Seat → List ℕ → Bool
halted_in seats row = list_all (λ n. is_halted (slice_index_or seats n no_seat).status) row

-- the first so many contexts of an image are these, and have printed nothing
pub record AreAtStart (parts : Parts) (seats : List Seat) (rows : List ℕ) (count : ℕ) : Type 0 where
  pub contexts : map (λ n. context_of (slice_index_or seats n no_seat)) rows ≡ map (context_start parts) (range_with_len 0 count)
  pub within : (k s : ℕ) → slice_get rows k ≡ Some s → s < length seats
  pub lists : (k : ℕ) → (seat : Seat) → slice_get seats k ≡ Some seat → seat.list ≡ 0

-- the place is one of these
pub record IsAmong (places : List Place) (place : Place) : Type 0 where
  pub at : ℕ
  pub there : slice_get places at ≡ Some place

-- a listed place where all contexts have halted, with this
pub record HasHalted (found : Found) (printed : List (List ℕ)) (memory : List Line) : Type 0 where
  pub index : ℕ
  pub at : ℕ
  pub place : Place
  pub listed : slice_get found.halted index ≡ Some at
  pub there : slice_get found.places at ≡ Some place
  pub printed_is : place.printed ≡ printed
  pub memory_is : place.flat.memory ≡ memory

-- a listed turn that traps so
pub record HasTrapped (found : Found) (context pc tt' : ℕ) : Type 0 where
  pub index : ℕ
  pub turn : Trapped
  pub listed : slice_get found.trapped index ≡ Some turn
  pub context_is : turn.context ≡ context
  pub pc_is : turn.pc ≡ pc
  pub type_is : turn.tt ≡ tt'

-- what it comes to where all contexts have halted at a place, and where a turn traps
abbrev pub halt_of : Place → Ending
halt_of place = Halts place.printed place.flat.memory

abbrev pub trap_of : Trapped → Ending
trap_of turn = Traps turn.context turn.pc turn.tt

-- the ending is listed
abbrev pub IsListed : Found → Ending → Type 0
IsListed found (Halts printed memory) = HasHalted found printed memory
IsListed found (Traps context pc tt') = HasTrapped found context pc tt'

-- private turns of a context, if any, lead from the place to one of a set
pub record IsHeld (parts : Parts) (classes : List Class) (Among : Place → Type 0) (place : Place) : Type 0 where
  pub context : ℕ
  pub steps : ℕ
  pub private : PrivateTurns parts classes place context steps
  pub among : Among (place_turns parts place context steps)

-- a place came from an earlier one by turns of a context
pub record CameFrom (parts : Parts) (found : Found) (at : ℕ) (place : Place) : Type 0 where
  pub origin : Origin
  pub before : Place
  pub listed : slice_get found.origins at ≡ Some origin
  pub earlier : origin.from < at
  pub there : slice_get found.places origin.from ≡ Some before
  pub run : IsRun parts before (replicate origin.turns origin.context)
  pub after : places_after parts before (replicate origin.turns origin.context) ≡ place

-- a listed number is that of a place where all contexts have halted
pub record IsHalted (found : Found) (at : ℕ) : Type 0 where
  pub place : Place
  pub there : slice_get found.places at ≡ Some place
  pub halted : all_halted place ≡ true

-- a listed turn traps at its place
pub record IsTrapping (parts : Parts) (found : Found) (turn : Trapped) : Type 0 where
  pub place : Place
  pub there : slice_get found.places turn.at ≡ Some place
  pub ends : EndsIn parts place (Traps turn.context turn.pc turn.tt)

-- all that is found is there: the first place is the start, each other came from an earlier one, and the endings are endings
pub record IsReal (parts : Parts) (found : Found) : Type 0 where
  pub paired : length found.origins ≡ length found.places
  pub start : slice_get found.places 0 ≡ Some (place_start parts)
  pub from : (at : ℕ) → (place : Place) → 0 < at → slice_get found.places at ≡ Some place → CameFrom parts found at place
  pub halted : (index at : ℕ) → slice_get found.halted index ≡ Some at → IsHalted found at
  pub trapped : (index : ℕ) → (turn : Trapped) → slice_get found.trapped index ≡ Some turn → IsTrapping parts found turn

-- some turn didn't keep to the hint
abbrev pub IsBroken : Found → Type 0
IsBroken found = 0 < length found.broken

-- from the place all turns are found, and what it comes to
pub record IsFull (parts : Parts) (classes : List Class) (found : Found) (place : Place) : Type 0 where
  pub next : HasNext parts classes (IsHeld parts classes (IsAmong found.places)) place
  pub endings : (ending : Ending) → EndsIn parts place ending → IsListed found ending ⊎ IsBroken found
  pub kept : (context : ℕ) → Breaks parts classes place context → IsBroken found

-- from the place one local turn is found, or all turns
abbrev pub IsExpanded : Parts → List Class → Found → Place → Type 0
IsExpanded parts classes found place = HasPrivateNext parts classes (IsHeld parts classes (IsAmong found.places)) place ⊎ IsFull parts classes found place

-- from each place that is found one local turn is found, or all turns, and each keeps to the hint
pub record IsClosed (parts : Parts) (classes : List Class) (found : Found) : Type 0 where
  pub expanded : (place : Place) → IsAmong found.places place → IsExpanded parts classes found place
  pub kept : IsBroken found → ⊥

-- what was found stays found
pub record Grows (before after : Found) : Type 0 where
  pub places : (at : ℕ) → (place : Place) → slice_get before.places at ≡ Some place → slice_get after.places at ≡ Some place
  pub halted : (index at : ℕ) → slice_get before.halted index ≡ Some at → slice_get after.halted index ≡ Some at
  pub trapped : (index : ℕ) → (turn : Trapped) → slice_get before.trapped index ≡ Some turn → slice_get after.trapped index ≡ Some turn
  pub broken : length before.broken ≤ length after.broken

-- what one context's turn leads to from the place is found, or it didn't keep to the hint
pub record IsTurnFound (parts : Parts) (classes : List Class) (found : Found) (place : Place) (context : ℕ) : Type 0 where
  pub next : Goes parts classes place context → IsHeld parts classes (IsAmong found.places) (place_turn parts place context)
  pub trap : (pc tt' : ℕ) → EndsIn parts place (Traps context pc tt') → HasTrapped found context pc tt' ⊎ IsBroken found
  pub kept : Breaks parts classes place context → IsBroken found

-- a place is found: it was already, or it is the last one now, with where it came from
abbrev pub AddsPlace : Found → Found → Place → Origin → Type 0
AddsPlace before after place origin =
    (IsAmong before.places place × (after ≡ before)) ⊎ (after ≡ record before { places = before.places ++ place ∷ []; origins = before.origins ++ origin ∷ [] })

-- all that is found is there, and what was found before still is
pub record GoesTo (parts : Parts) (before after : Found) : Type 0 where
  pub real : IsReal parts after
  pub grows : Grows before after

-- the context's turn at the place with this number is private, and goes forward
abbrev pub IsPrivateTurn : Parts → List Class → Found → ℕ → ℕ → Type 0
IsPrivateTurn parts classes found at context = (place : Place) → slice_get found.places at ≡ Some place → IsPrivate parts classes place context × IsForward parts place context

-- from the place with this number a private turn is found
abbrev pub HasFirst : Parts → List Class → Found → ℕ → Type 0
HasFirst parts classes found at = (place : Place) → slice_get found.places at ≡ Some place → HasPrivateNext parts classes (IsHeld parts classes (IsAmong found.places)) place

-- what one context's turn leads to from the place with this number is found
abbrev pub HasTurn : Parts → List Class → Found → ℕ → ℕ → Type 0
HasTurn parts classes found at context = (place : Place) → slice_get found.places at ≡ Some place → IsTurnFound parts classes found place context

-- that all contexts have halted at the place with this number is listed
abbrev pub TellsHalt : Found → ℕ → Type 0
TellsHalt found at = (place : Place) → slice_get found.places at ≡ Some place → all_halted place ≡ true → HasHalted found place.printed place.flat.memory

-- from the place with this number all turns are found, or one that is local
abbrev pub HasFull : Parts → List Class → Found → ℕ → Type 0
HasFull parts classes found at = (place : Place) → slice_get found.places at ≡ Some place → IsFull parts classes found place

abbrev pub HasExpanded : Parts → List Class → Found → ℕ → Type 0
HasExpanded parts classes found at = (place : Place) → slice_get found.places at ≡ Some place → IsExpanded parts classes found place

-- what is listed, as a list: the ends where all contexts have halted, and the traps
abbrev pub endings_in : Found → List Ending
endings_in found = map (λ at. halt_of (slice_index_or found.places at no_place)) found.halted ++ map trap_of found.trapped

-- the turns lead from the start to the place with this number
pub record LeadsTo (parts : Parts) (found : Found) (at : ℕ) (turns : List ℕ) : Type 0 where
  pub place : Place
  pub there : slice_get found.places at ≡ Some place
  pub run : IsRun parts (place_start parts) turns
  pub after : places_after parts (place_start parts) turns ≡ place
