-- Places by their numbers: what is read of them, and that they stay as pools and rows grow.
use Rattle.std.proofs.Common.{◌≡◌, ℕ, zero, suc, ◌+◌, ◌*◌, ◌<◌, ◌≤◌, ◌⊎◌, inl, inr, Bool, ◌&&◌, Option, Some, None, List, [], ◌∷◌, ◌++◌, length, map, take, drop, replicate, slice_index_or, slice_set, refl, sym, ap, ◌∙◌, subst, arith, length-append, length-set}
use Rattle.std.specs.List.{slice_get, range_with_len, list_all}
use Rattle.std.specs.Option.{IfSome}
use Rattle.std.proofs.lemmas.Nat.{mul-le}
use Rattle.std.proofs.lemmas.Option.{slice_get_within, get_or_from_slice_get, slice_get-get_or}
use Rattle.std.proofs.lemmas.List.{map-append, map-set, take-append-le, drop-append-le, drop_at, length-drop, length-map, get_or-map}
use Rattle.std.proofs.lemmas.List.FromFn.{map-range_with_len_more, get_or-map-range_with_len, length-map-range_with_len}
use Rattle.alw_num.specs.declared.addresses.Line.{Line}
use Rattle.sparc_table.specs.Registers.{start_of}
use Rattle.alw_msg.specs.declared.contexts.Status.TheVariants.{Halted}
use Rattle.alw_image.specs.declared.parts.Parts.{Parts}
use Rattle.alw_image.specs.Images.{line_count, context_count, body_of}
use Rattle.alw_msg.specs.Statuses.{is_halted}
use Rattle.alw_model.specs.Flat.{Context, context_start}
use Rattle.alw_outcomes.specs.declared.pools.Seat.{Seat}
use Rattle.alw_outcomes.specs.declared.pools.Link.{Link}
use Rattle.alw_outcomes.specs.declared.pools.Numbers.{Numbers}
use Rattle.alw_outcomes.specs.declared.explored.Trapped.{Trapped}
use Rattle.alw_outcomes.specs.declared.pools.Pools.{Pools}
use Rattle.alw_outcomes.specs.declared.explored.Origin.{Origin}
use Rattle.alw_outcomes.specs.declared.explored.Explored.{Explored}
use Rattle.alw_outcomes.specs.declared.remembered.Known.{Known}
use Rattle.alw_outcomes.specs.Remembered.{AreLeads}
use Rattle.alw_places.specs.Places.{Place, place_start}
use Rattle.alw_places.specs.Outcomes.{all_halted}
use Rattle.alw_places.specs.Threads.{thread_at, with_thread}
use Rattle.alw_outcomes.specs.Digests.{seat_digest, link_digest, memory_digest, row_digest}
use Rattle.alw_outcomes.specs.Pools.{HasGrown, Numbered, IsIndexed, AreIn, ArePools, PoolsGrow, GoOn, lists_of, no_seat, seat_in, context_of, context_in, words_in, memory_in, place_of, thread_in}
use Rattle.alw_outcomes.specs.Explored.{IsAmong, Grows, IsStored, IsPlaceRow, AreAtStart, IsReal, halted_in, row_in, place_in, places_in, found_in}
use Rattle.alw_outcomes.proofs.Pooling.{at_place, or-append, some_is, front_or, front_length, get-cases, numbered_get, numbered_front, numbered_cases}
use Rattle.alw_outcomes.proofs.Rows.{take_whole, rows_apart, row_alone}
use Rattle.alw_outcomes.proofs.Leading.{words_grow}

-- ---- rows

get-drop : {A : Type 0} (xs : List A) (n i : ℕ) → slice_get (drop n xs) i ≡ slice_get xs (n + i)
get-drop xs zero i = ap (slice_get xs) (let e : i ≡ 0 + i = omega arith in e)
get-drop [] (suc n) i = refl
get-drop (x ∷ xs) (suc n) i = get-drop xs n i ∙ ap (slice_get (x ∷ xs)) (let e : suc (n + i) ≡ suc n + i = omega arith in e)

get-take : {A : Type 0} (xs : List A) (n i : ℕ) (x : A) → slice_get (take n xs) i ≡ Some x → slice_get xs i ≡ Some x
get-take xs zero i x e = absurd (cc)
get-take [] (suc n) i x e = e
get-take (y ∷ xs) (suc n) zero x e = e
get-take (y ∷ xs) (suc n) (suc i) x e = get-take xs n i x e

-- each number of a row is of a context that is there
abbrev pub RowIn : Pools → List ℕ → Type 0
RowIn pools row = (i s : ℕ) → slice_get row i ≡ Some s → s < length pools.seats.items

pub row_within : (at n w : ℕ) → at < n → at * w + w ≤ n * w
row_within at n w less = let m = mul-le (at + 1) w n w (omega arith) (omega arith) in let e : (at + 1) * w ≡ at * w + w = omega arith in omega (arith, m, e)

pub room_of : (parts : Parts) (e : Explored) (at : ℕ) → IsStored parts e → at < length e.memories.items → at * e.width + e.width ≤ length e.rows.items
room_of parts e at stored within = let r = row_within at (length e.memories.items) e.width within in omega (arith, r, stored.rows)

length-take_drop : (rows : List ℕ) (n w : ℕ) → n + w ≤ length rows → length (take w (drop n rows)) ≡ w
length-take_drop rows n w room = length-take-le w (drop n rows) (let d = length-drop n rows in omega (arith, d))
  where
    length-take-le : (w : ℕ) (xs : List ℕ) → w ≤ length xs → length (take w xs) ≡ w
    length-take-le zero xs less = refl
    length-take-le (suc w) [] less = absurd (omega arith)
    length-take-le (suc w) (x ∷ xs) less = ap suc (length-take-le w xs (omega arith))

module _ (parts : Parts) (e : Explored) (at : ℕ) (stored : IsStored parts e) (within : at < length e.memories.items) where
  pub row_length : length (row_in e at) ≡ context_count parts
  row_length = length-take_drop e.rows.items (at * e.width) e.width (room_of parts e at stored within) ∙ stored.width

  pub row_inside : RowIn e.pools (row_in e at)
  row_inside i s get = stored.seat_in (at * e.width + i) s (sym (get-drop e.rows.items (at * e.width) i) ∙ get-take (drop (at * e.width) e.rows.items) e.width i s get)

  pub memory_inside : slice_index_or e.memories.items at 0 < length e.pools.memories.items
  memory_inside = stored.memory_in at (slice_index_or e.memories.items at 0) (slice_get-get_or e.memories.items at 0 within)

-- ---- pools that grow leave places

module _ (parts : Parts) (before after : Pools) (are : ArePools parts before) (grow : PoolsGrow before after) where
  contexts_grow : (row : List ℕ) → RowIn before row → map (context_in after) row ≡ map (context_in before) row
  contexts_grow [] inside = refl
  contexts_grow (s ∷ row) inside =
      let first : context_in after s ≡ context_in before s = ap context_of (front_or before.seats.items after.seats.items s no_seat grow.seats (inside 0 s refl)) in
      let rest = contexts_grow row (λ i t e. inside (suc i) t e) in
      λ i. first i ∷ rest i

  all_words_grow : (row : List ℕ) → RowIn before row → map (words_in after) row ≡ map (words_in before) row
  all_words_grow [] inside = refl
  all_words_grow (s ∷ row) inside =
      let first = words_grow parts before after s are grow (inside 0 s refl) in
      let rest = all_words_grow row (λ i t e. inside (suc i) t e) in
      λ i. first i ∷ rest i

  pub place_grows : (memory : ℕ) (row : List ℕ) → memory < length before.memories.items → RowIn before row → place_of after memory row ≡ place_of before memory row
  unfolding place_of
  place_grows memory row within inside =
      let lines : memory_in after memory ≡ memory_in before memory = front_or before.memories.items after.memories.items memory [] grow.memories within in
      let contexts = contexts_grow row inside in
      let words = all_words_grow row inside in
      λ i. record { flat = record { memory = lines i; contexts = contexts i }; printed = words i }

map_range : (f g : ℕ → Place) (n : ℕ) → ((k : ℕ) → k < n → f k ≡ g k) → map f (range_with_len 0 n) ≡ map g (range_with_len 0 n)
map_range f g zero same = refl
map_range f g (suc n) same =
    let one : suc n ≡ n + 1 = omega arith in
    let rest = map_range f g n (λ k less. same k (omega arith)) in
    let last = same n (omega arith) in
    ap (λ (m : ℕ). map f (range_with_len 0 m)) one ∙ map-range_with_len_more f 0 n n (omega arith) ∙ (λ i. rest i ++ last i ∷ []) ∙ sym (map-range_with_len_more g 0 n n (omega arith))
    ∙ ap (λ (m : ℕ). map g (range_with_len 0 m)) (sym one)

-- the pools have grown, leads may be others, and all else is as it was
pub record IsGrown (parts : Parts) (before after : Explored) : Type 0 where
  pub rest : after ≡ record before { pools = after.pools; leads = after.leads }
  pub stored : IsStored parts before
  pub go : GoOn parts before.pools after.pools

module _ (parts : Parts) (before after : Explored) (grown : IsGrown parts before after) where
  pub place_stays : (at : ℕ) → at < length before.memories.items → place_in after at ≡ place_in before at
  place_stays at within =
      ap (λ (e : Explored). place_in e at) grown.rest
      ∙ place_grows parts before.pools after.pools grown.stored.pools grown.go.grow (slice_index_or before.memories.items at 0) (row_in before at)
      (memory_inside parts before at grown.stored within) (row_inside parts before at grown.stored within)

  -- the places of what was found
  pub places_grow : places_in after ≡ places_in before
  unfolding places_in
  places_grow =
      ap (λ (e : Explored). map (place_in after) (range_with_len 0 (length e.memories.items))) grown.rest
      ∙ map_range (place_in after) (place_in before) (length before.memories.items) place_stays

  pub stored_grows : AreLeads parts before.classes.items after.pools after.leads.slots.items → IsStored parts after
  stored_grows leads = subst (IsStored parts) (sym grown.rest) (record {
    width = grown.stored.width;
    rows = grown.stored.rows;
    memory_in = λ k m e. front_length before.pools.memories.items after.pools.memories.items m grown.go.grow.memories (grown.stored.memory_in k m e);
    seat_in = λ k s e. front_length before.pools.seats.items after.pools.seats.items s grown.go.grow.seats (grown.stored.seat_in k s e);
    pools = grown.go.pools;
    leads = leads;
    breaks = grown.stored.breaks;
    indexed = grown.stored.indexed;
  })

-- ---- a place by its number

pub number_place : (e : Explored) (at : ℕ) → at < length e.memories.items → slice_get (places_in e) at ≡ Some (place_in e at)
unfolding places_in
number_place e at within =
    let n = length e.memories.items in
    let long = length-map-range_with_len (place_in e) 0 n in
    slice_get-get_or (places_in e) at (place_in e at) (omega (arith, long)) ∙ ap (λ (p : Place). Some p) (get_or-map-range_with_len (place_in e) 0 n at at (place_in e at) within (omega arith))

pub places_length : (e : Explored) → length (places_in e) ≡ length e.memories.items
unfolding places_in
places_length e = length-map-range_with_len (place_in e) 0 (length e.memories.items)

pub place_at : (e : Explored) (at : ℕ) (none : Place) → at < length e.memories.items → slice_index_or (places_in e) at none ≡ place_in e at
place_at e at none within = get_or_from_slice_get (places_in e) at (place_in e at) none (number_place e at within)

pub printed_length : (parts : Parts) (e : Explored) (at : ℕ) → IsStored parts e → at < length e.memories.items → length (place_in e at).printed ≡ context_count parts
unfolding place_of
printed_length parts e at stored within = length-map (row_in e at) (words_in e.pools) ∙ row_length parts e at stored within

-- the memory at a place, as code reads it
pub memory_read : (parts : Parts) (e : Explored) (at : ℕ) (memory : List Line) → IsStored parts e → at < length e.memories.items
    → memory ≡ slice_index_or e.pools.memories.items (slice_index_or e.memories.items at 0) memory → memory ≡ (place_in e at).flat.memory
unfolding place_of
memory_read parts e at memory stored within read = sym (at_place e.pools.memories.items (slice_index_or e.memories.items at 0) [] memory (memory_inside parts e at stored within) read)

-- the thread of a context at a place
pub thread_read : (parts : Parts) (e : Explored) (at context seat : ℕ) (memory : ℕ) → IsStored parts e → at < length e.memories.items → context < context_count parts
    → memory ≡ slice_index_or e.memories.items at 0 → seat ≡ slice_index_or (row_in e at) context 0
    → thread_in e.pools (record { memory = memory; seat = seat }) ≡ thread_at (place_in e at) context
unfolding thread_in place_of
thread_read parts e at context seat memory stored within exists memory_is seat_is =
    let none : Context = record { regs = start_of 0 0 0; status = Halted } in
    let empty : List ℕ = [] in
    let long = row_length parts e at stored within in
    let less : context < length (row_in e at) = omega (arith, long) in
    let here : slice_index_or (map (context_in e.pools) (row_in e at)) context none ≡ context_in e.pools (slice_index_or (row_in e at) context 0) =
    get_or-map (context_in e.pools) (row_in e at) context 0 none less in
    let words : slice_index_or (map (words_in e.pools) (row_in e at)) context empty ≡ words_in e.pools (slice_index_or (row_in e at) context 0) =
    get_or-map (words_in e.pools) (row_in e at) context 0 empty less in
    λ i. record { memory = memory_in e.pools (memory_is i); context = (ap (context_in e.pools) seat_is ∙ sym here) i; printed = (ap (words_in e.pools) seat_is ∙ sym words) i }

pub numbers_inside : (parts : Parts) (e : Explored) (at context seat memory : ℕ) → IsStored parts e → at < length e.memories.items → context < context_count parts
    → memory ≡ slice_index_or e.memories.items at 0 → seat ≡ slice_index_or (row_in e at) context 0
    → AreIn e.pools (record { memory = memory; seat = seat })
numbers_inside parts e at context seat memory stored within exists memory_is seat_is = record {
  memory = let m = memory_inside parts e at stored within in omega (arith, m, memory_is);
  seat =
      let long = row_length parts e at stored within in
      let there = slice_get-get_or (row_in e at) context 0 (omega (arith, long)) in
      let r = row_inside parts e at stored within context (slice_index_or (row_in e at) context 0) there in
      omega (arith, r, seat_is);
}

-- ---- one place more

-- a place more, whose row is that of a place but for one context
pub record IsAdded (before after : Explored) (at context : ℕ) (to : Numbers) (row : List ℕ) : Type 0 where
  pub rest : after ≡ record before { memories = after.memories; rows = after.rows; by_row = after.by_row; origins = after.origins }
  pub memories : after.memories.items ≡ before.memories.items ++ to.memory ∷ []
  pub rows : after.rows.items ≡ before.rows.items ++ row
  pub row_is : row ≡ slice_set (row_in before at) context to.seat

module _ (parts : Parts) (before : Explored) (at context : ℕ) (to : Numbers) (stored : IsStored parts before) (within : at < length before.memories.items) (inside : AreIn before.pools to) where
  pub target : place_of before.pools to.memory (slice_set (row_in before at) context to.seat) ≡ with_thread (place_in before at) context (thread_in before.pools to)
  unfolding place_of thread_in
  target =
      let contexts = map-set (context_in before.pools) (row_in before at) context to.seat in
      let words = map-set (words_in before.pools) (row_in before at) context to.seat in
      λ i. record { flat = record { memory = memory_in before.pools to.memory; contexts = contexts i }; printed = words i }

  pub row_there : (k : ℕ) → IsPlaceRow before k to.memory (slice_set (row_in before at) context to.seat)
      → slice_get (places_in before) k ≡ Some (with_thread (place_in before at) context (thread_in before.pools to))
  row_there k is =
      number_place before k is.exists
      ∙ (λ i. Some (place_of before.pools (get_or_from_slice_get before.memories.items k to.memory 0 is.memory_is i) (is.row_is i)))
      ∙ ap (λ (p : Place). Some p) target

  pub rows_there : (number : Option ℕ) (row : List ℕ) → row ≡ slice_set (row_in before at) context to.seat → IfSome number (λ k. IsPlaceRow before k to.memory row)
      → IfSome number (λ k. slice_get (places_in before) k ≡ Some (with_thread (place_in before at) context (thread_in before.pools to)))
  rows_there None row same is = is
  rows_there (Some k) row same is = row_there k (subst (λ (l : List ℕ). IsPlaceRow before k to.memory l) same is)

  pub already : (k : ℕ) → IsPlaceRow before k to.memory (slice_set (row_in before at) context to.seat)
      → IsAmong (places_in before) (with_thread (place_in before at) context (thread_in before.pools to))
  already k is = record { at = k; there = row_there k is }

  module _ (after : Explored) (row : List ℕ) (added : IsAdded before after at context to row) where
    long : length row ≡ before.width
    long = ap length added.row_is ∙ length-set (row_in before at) context to.seat ∙ row_length parts before at stored within ∙ sym stored.width

    place_told : (k : ℕ)
        → place_in after k ≡ place_of before.pools (slice_index_or (before.memories.items ++ to.memory ∷ []) k 0) (take before.width (drop (k * before.width) (before.rows.items ++ row)))
    place_told k =
        ap (λ (e : Explored). place_in e k) added.rest
        ∙ (λ i. place_of before.pools (slice_index_or (added.memories i) k 0) (take before.width (drop (k * before.width) (added.rows i))))

    old_place : (k : ℕ) → k < length before.memories.items → place_in after k ≡ place_in before k
    old_place k less =
        let room = room_of parts before k stored less in
        let first = or-append before.memories.items (to.memory ∷ []) k 0 less in
        let rest = drop-append-le (k * before.width) before.rows.items row (omega (arith, room)) in
        let kept = take-append-le before.width (drop (k * before.width) before.rows.items) row (let d = length-drop (k * before.width) before.rows.items in omega (arith, d, room)) in
        place_told k
        ∙ (λ i. place_of before.pools (first i) (take before.width (rest i)))
        ∙ ap (place_of before.pools (slice_index_or before.memories.items k 0)) kept

    new_place : place_in after (length before.memories.items) ≡ with_thread (place_in before at) context (thread_in before.pools to)
    new_place =
        let n = length before.memories.items in
        let first : slice_index_or (before.memories.items ++ to.memory ∷ []) n 0 ≡ to.memory =
        get_or_from_slice_get (before.memories.items ++ to.memory ∷ []) n to.memory 0 (get-end before.memories.items to.memory) in
        let rest : drop (n * before.width) (before.rows.items ++ row) ≡ row = drop_at before.rows.items row (n * before.width) stored.rows in
        let whole : take before.width row ≡ row = take_whole before.width row long in
        place_told n
        ∙ (λ i. place_of before.pools (first i) (take before.width (rest i)))
        ∙ (λ i. place_of before.pools to.memory ((whole ∙ added.row_is) i))
        ∙ target
      where
        get-end : (xs : List ℕ) (x : ℕ) → slice_get (xs ++ x ∷ []) (length xs) ≡ Some x
        get-end [] x = refl
        get-end (y ∷ xs) x = get-end xs x

    pub places_added : places_in after ≡ places_in before ++ with_thread (place_in before at) context (thread_in before.pools to) ∷ []
    unfolding places_in
    places_added =
        let n = length before.memories.items in
        let count : length after.memories.items ≡ n + 1 = ap length added.memories ∙ length-append before.memories.items (to.memory ∷ []) in
        let old = map_range (place_in after) (place_in before) n old_place in
        ap (λ (m : ℕ). map (place_in after) (range_with_len 0 m)) count ∙ map-range_with_len_more (place_in after) 0 n n (omega arith) ∙ (λ i. old i ++ new_place i ∷ [])

    pub stored_added : context < context_count parts → after.by_row ≡ before.by_row ++ row_digest to.memory row ∷ [] → ((k : ℕ) → IsPlaceRow before k to.memory row → ⊥) → IsStored parts after
    stored_added exists by_row new = subst (IsStored parts) (sym added.rest) (record {
      width = stored.width;
      rows =
          let a = ap length added.rows in let b = length-append before.rows.items row in let c = ap length added.memories in let d = length-append before.memories.items (to.memory ∷ []) in
          let m : (length before.memories.items + 1) * before.width ≡ length before.memories.items * before.width + before.width = omega arith in
          let sum : length after.rows.items ≡ (length before.memories.items + 1) * before.width = omega (arith, a, b, long, stored.rows, m) in
          let e : length after.memories.items ≡ length before.memories.items + 1 = omega (arith, c, d) in
          sum ∙ (λ i. sym e i * before.width);
      memory_in = λ k m e. held k m (get-cases before.memories.items to.memory k m (ap (λ (l : List ℕ). slice_get l k) (sym added.memories) ∙ e));
      seat_in = λ k s e. seated before.rows.items k s (λ j t f. stored.seat_in j t f) (ap (λ (l : List ℕ). slice_get l k) (sym added.rows) ∙ e);
      pools = stored.pools;
      leads = stored.leads;
      breaks = stored.breaks;
      indexed = rows_apart before before.width to.memory after.memories.items after.rows.items row after.by_row refl added.memories added.rows stored.rows long by_row new stored.indexed;
    })
      where
        held : (k m : ℕ) → (slice_get before.memories.items k ≡ Some m) ⊎ ((k ≡ length before.memories.items) × (to.memory ≡ m)) → m < length before.pools.memories.items
        held k m (inl old) = stored.memory_in k m old
        held k m (inr new) = let i = inside.memory in let e = new.1 in omega (arith, i, e)

        set_in : (xs : List ℕ) (j k s : ℕ) → ((i t : ℕ) → slice_get xs i ≡ Some t → t < length before.pools.seats.items) → slice_get (slice_set xs j to.seat) k ≡ Some s
            → s < length before.pools.seats.items
        set_in [] j k s each e = absurd (cc)
        set_in (x ∷ xs) zero zero s each e = let i = inside.seat in let same : to.seat ≡ s = some_is to.seat s e in omega (arith, i, same)
        set_in (x ∷ xs) zero (suc k) s each e = each (suc k) s e
        set_in (x ∷ xs) (suc j) zero s each e = each 0 s e
        set_in (x ∷ xs) (suc j) (suc k) s each e = set_in xs j k s (λ i t f. each (suc i) t f) e

        row_seats : (k s : ℕ) → slice_get row k ≡ Some s → s < length before.pools.seats.items
        row_seats k s e = set_in (row_in before at) context k s (row_inside parts before at stored within) (ap (λ (l : List ℕ). slice_get l k) (sym added.row_is) ∙ e)

        seated : (xs : List ℕ) (k s : ℕ) → ((j t : ℕ) → slice_get xs j ≡ Some t → t < length before.pools.seats.items) → slice_get (xs ++ row) k ≡ Some s → s < length before.pools.seats.items
        seated [] k s each e = row_seats k s e
        seated (x ∷ xs) zero s each e = each 0 s e
        seated (x ∷ xs) (suc k) s each e = seated xs k s (λ j t f. each (suc j) t f) e

-- ---- halts

all_map : (pools : Pools) (row : List ℕ) → list_all (λ (c : Context). is_halted c.status) (map (context_in pools) row) ≡ halted_in pools.seats.items row
all_map pools [] = refl
all_map pools (s ∷ row) = ap (λ (b : Bool). is_halted (context_in pools s).status && b) (all_map pools row)

pub halted_is : (e : Explored) (at : ℕ) → all_halted (place_in e at) ≡ halted_in e.pools.seats.items (row_in e at)
unfolding place_of
halted_is e at = all_map e.pools (row_in e at)

-- ---- a place that is still there

pub still_there : (before after : Explored) (at : ℕ) → at < length before.memories.items → Grows (found_in before) (found_in after) → at < length after.memories.items
still_there before after at within grows =
    let w = slice_get_within (places_in after) at (place_in before at) (grows.places at (place_in before at) (number_place before at within)) in
    omega (arith, w, places_length after)

-- ---- the start

abbrev context_by : List Seat → ℕ → Context
context_by seats n = context_of (slice_index_or seats n no_seat)

contexts_stay : (before after : List Seat) (rows : List ℕ) → HasGrown before after → ((k s : ℕ) → slice_get rows k ≡ Some s → s < length before)
    → map (context_by after) rows ≡ map (context_by before) rows
contexts_stay before after [] front inside = refl
contexts_stay before after (s ∷ rows) front inside =
    let first : context_by after s ≡ context_by before s = ap context_of (front_or before after s no_seat front (inside 0 s refl)) in
    let rest = contexts_stay before after rows front (λ k t e. inside (suc k) t e) in
    λ i. first i ∷ rest i

pub start_more : (parts : Parts) (before after : List Seat) (rows rows' : List ℕ) (n at : ℕ) (seat : Seat) → AreAtStart parts before rows n → Numbered before after seat at
    → context_of seat ≡ context_start parts n → seat.list ≡ 0 → rows' ≡ rows ++ at ∷ [] → AreAtStart parts after rows' (n + 1)
start_more parts before after rows rows' n at seat start numbered context list pushed = subst (λ (l : List ℕ). AreAtStart parts after l (n + 1)) (sym pushed) (record {
  contexts =
      let front = numbered_front before after seat at numbered in
      let get = numbered_get before after seat at numbered in
      let here : context_by after at ≡ context_start parts n = ap context_of (get_or_from_slice_get after at seat no_seat get) ∙ context in
      let stay = contexts_stay before after rows front start.within ∙ start.contexts in
      map-append (context_by after) rows (at ∷ []) ∙ (λ i. stay i ++ here i ∷ []) ∙ sym (map-range_with_len_more (context_start parts) 0 n n (omega arith));
  within = λ k s e. inside k s (get-cases rows at k s e);
  lists = λ k s e. listed k s (numbered_cases before after seat at k s numbered e);
})
  where
    inside : (k s : ℕ) → (slice_get rows k ≡ Some s) ⊎ ((k ≡ length rows) × (at ≡ s)) → s < length after
    inside k s (inl old) = front_length before after s (numbered_front before after seat at numbered) (start.within k s old)
    inside k s (inr new) = let w = slice_get_within after at seat (numbered_get before after seat at numbered) in let e = new.1 in omega (arith, w, e)

    listed : (k : ℕ) (s : Seat) → (slice_get before k ≡ Some s) ⊎ ((k ≡ length before) × (seat ≡ s)) → s.list ≡ 0
    listed k s (inl old) = start.lists k s old
    listed k s (inr new) = ap (λ (x : Seat). x.list) (sym new.1) ∙ list

no_words : (pools : Pools) (rows : List ℕ) → pools.links.items ≡ [] → ((k : ℕ) (seat : Seat) → slice_get pools.seats.items k ≡ Some seat → seat.list ≡ 0)
    → ((k s : ℕ) → slice_get rows k ≡ Some s → s < length pools.seats.items) → (let none : List ℕ = [] in map (words_in pools) rows ≡ replicate (length rows) none)
unfolding lists_of
no_words pools [] links lists inside = refl
no_words pools (s ∷ rows) links lists inside =
    let none : List ℕ = [] in
    let zero_is = lists s (seat_in pools s) (slice_get-get_or pools.seats.items s no_seat (inside 0 s refl)) in
    let first : words_in pools s ≡ none = (λ i. slice_index_or (lists_of (links i)) (zero_is i) none) in
    let rest = no_words pools rows links lists (λ k t e. inside (suc k) t e) in
    λ i. first i ∷ rest i

one_member : (x y k : ℕ) → slice_get (x ∷ []) k ≡ Some y → x ≡ y
one_member x y zero e = cc
one_member x y (suc k) e = absurd (cc)

-- one place: this memory alone, and all contexts at their start
pub record SearchIsBegun (parts : Parts) (found : Explored) (memory : List Line) (number : ℕ) : Type 0 where
  pub width : found.width ≡ context_count parts
  pub numbered : Numbered [] found.pools.memories.items memory number
  pub memory_is : memory ≡ map (body_of parts) (range_with_len 0 (line_count parts))
  pub start : AreAtStart parts found.pools.seats.items found.rows.items (context_count parts)
  pub links : found.pools.links.items ≡ []
  pub memories : found.memories.items ≡ number ∷ []

-- each pool finds its members, and the rows the one place
pub record AreTables (found : Explored) (number : ℕ) : Type 0 where
  pub by_seat : IsIndexed seat_digest found.pools.seats.items found.pools.by_seat
  pub by_link : IsIndexed link_digest found.pools.links.items found.pools.by_link
  pub by_memory : IsIndexed memory_digest found.pools.memories.items found.pools.by_memory
  pub by_row : found.by_row ≡ row_digest number found.rows.items ∷ []

module _ (parts : Parts) (found : Explored) (memory : List Line) (number : ℕ) (begun : SearchIsBegun parts found memory number) where
  rows_long : length found.rows.items ≡ context_count parts
  rows_long = sym (length-map found.rows.items (context_by found.pools.seats.items)) ∙ ap length begun.start.contexts ∙ length-map-range_with_len (context_start parts) 0 (context_count parts)

  pub start_stored : AreTables found number → found.broken.items ≡ [] → ((k : ℕ) (known : Known) → slice_get found.leads.slots.items k ≡ Some (Some known) → ⊥) → IsStored parts found
  start_stored tables broken leads = record {
    width = begun.width;
    rows = let one : 1 * found.width ≡ found.width = omega arith in rows_long ∙ sym begun.width ∙ sym one ∙ (λ i. length (sym begun.memories i) * found.width);
    memory_in =
        λ k m e.
        let same = one_member number m k (ap (λ (l : List ℕ). slice_get l k) (sym begun.memories) ∙ e) in
        let w = slice_get_within found.pools.memories.items number memory (numbered_get [] found.pools.memories.items memory number begun.numbered) in
        omega (arith, same, w);
    seat_in = begun.start.within;
    pools = record {
      lists = λ k seat e. let z = begun.start.lists k seat e in omega (arith, z);
      back = λ k link e. absurd (no_link k link (ap (λ l. slice_get l k) (sym begun.links) ∙ e));
      sizes = λ k m e. sized k m (numbered_cases [] found.pools.memories.items memory number k m begun.numbered e);
      seats = tables.by_seat;
      links = tables.by_link;
      memories = tables.by_memory;
    };
    leads = λ known there. absurd (leads there.slot known there.there);
    breaks = λ some. absurd (omega (arith, some, ap length broken));
    indexed = row_alone found.width number found.memories.items found.rows.items found.by_row begun.memories (rows_long ∙ sym begun.width) tables.by_row;
  }
    where
      no_link : (k : ℕ) (link : Link) → slice_get [] k ≡ Some link → ⊥
      no_link k link e = cc

      sized : (k : ℕ) (m : List Line) → (slice_get [] k ≡ Some m) ⊎ ((k ≡ 0) × (memory ≡ m)) → length m ≡ line_count parts
      sized k m (inl old) = absurd (cc)
      sized k m (inr new) = ap length (sym new.1 ∙ begun.memory_is) ∙ length-map-range_with_len (body_of parts) 0 (line_count parts)

  count_one : length found.memories.items ≡ 1
  count_one = ap length begun.memories

  place_is : place_in found 0 ≡ place_start parts
  unfolding place_of
  place_is =
      let none : List ℕ = [] in
      let first : slice_index_or found.memories.items 0 0 ≡ number = ap (λ (l : List ℕ). slice_index_or l 0 0) begun.memories in
      let lines : memory_in found.pools number ≡ map (body_of parts) (range_with_len 0 (line_count parts)) =
      get_or_from_slice_get found.pools.memories.items number memory [] (numbered_get [] found.pools.memories.items memory number begun.numbered) ∙ begun.memory_is in
      let nought : 0 * found.width ≡ 0 = omega arith in
      let row : row_in found 0 ≡ found.rows.items = ap (λ (n : ℕ). take found.width (drop n found.rows.items)) nought ∙ take_whole found.width found.rows.items (rows_long ∙ sym begun.width) in
      let words : map (words_in found.pools) found.rows.items ≡ replicate (context_count parts) none =
      no_words found.pools found.rows.items begun.links begun.start.lists begun.start.within ∙ ap (λ (n : ℕ). replicate n none) rows_long in
      (λ i. place_of found.pools (first i) (row i)) ∙ (λ i. record { flat = record { memory = lines i; contexts = begun.start.contexts i }; printed = words i })

  pub start_real : (origin : Origin) → found.origins.items ≡ origin ∷ [] → found.halted.items ≡ [] → found.trapped.items ≡ [] → IsReal parts (found_in found)
  start_real origin origins halted trapped = record {
    paired = ap length origins ∙ sym count_one ∙ sym (places_length found);
    start = number_place found 0 (let c = count_one in omega (arith, c)) ∙ ap (λ (p : Place). Some p) place_is;
    from = λ at place some e. absurd (let w = slice_get_within (places_in found) at place e in let c = count_one in omega (arith, w, c, places_length found));
    halted = λ index at e. absurd (no_halt index at (ap (λ l. slice_get l index) (sym halted) ∙ e));
    trapped = λ index turn e. absurd (no_trap index turn (ap (λ l. slice_get l index) (sym trapped) ∙ e));
  }
    where
      no_halt : (k n : ℕ) → slice_get [] k ≡ Some n → ⊥
      no_halt k n e = cc

      no_trap : (k : ℕ) (turn : Trapped) → slice_get [] k ≡ Some turn → ⊥
      no_trap k turn e = cc

pub within_same : (one two : Explored) (at : ℕ) → at < length two.memories.items → one.memories.items ≡ two.memories.items → at < length one.memories.items
within_same one two at within same = subst (λ (l : List ℕ). at < length l) (sym same) within
