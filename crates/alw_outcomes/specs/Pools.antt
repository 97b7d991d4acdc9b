-- How places are kept: by numbers of memories, contexts and printed lists, each different one once.
use Rattle.std.specs.Prelude.{◌≡◌, ℕ, suc, ◌<◌, ◌++◌, ◌⊎◌, List, [], ◌∷◌, Some, length, map, slice_get, slice_index_or}
use Rattle.alw_num.specs.declared.addresses.Line.{Line}
use Rattle.sparc_table.specs.Registers.{start_of}
use Rattle.alw_msg.specs.declared.contexts.Status.TheVariants.{Halted}
use Rattle.alw_image.specs.declared.parts.Parts.{Parts}
use Rattle.alw_image.specs.Images.{line_count}
use Rattle.alw_model.specs.Flat.{Context}
use Rattle.alw_outcomes.specs.declared.pools.Seat.{Seat}
use Rattle.alw_outcomes.specs.declared.pools.Link.{Link}
use Rattle.alw_outcomes.specs.declared.pools.Pools.{Pools}
use Rattle.alw_outcomes.specs.declared.pools.Numbers.{Numbers}
use Rattle.alw_places.specs.Places.{Place}
use Rattle.alw_places.specs.Threads.{Thread}
use Rattle.alw_outcomes.specs.Digests.{seat_digest, link_digest, memory_digest}

-- a list that has grown at its end
pub record HasGrown {A : Type 0} (before after : List A) : Type 0 where
  pub more : List A
  pub is : after ≡ before ++ more

-- a member has this number: it was there already, or it is the last one now
abbrev pub Numbered : {A : Type 0} → List A → List A → A → ℕ → Type 0
Numbered before after x at = ((slice_get before at ≡ Some x) × (after ≡ before)) ⊎ ((at ≡ length before) × (after ≡ before ++ x ∷ []))

-- different places of a list have different members
abbrev pub AreApart : {A : Type 0} → List A → Type 0
AreApart {A} xs = (j k : ℕ) → (x : A) → slice_get xs j ≡ Some x → slice_get xs k ≡ Some x → j ≡ k

-- members that are apart, with the digest of each by its number
pub record IsIndexed {A : Type 0} (digest : A → ℕ) (members : List A) (digests : List ℕ) : Type 0 where
  pub apart : AreApart members
  pub told : digests ≡ map digest members

-- lists, and those that links add: each is an earlier list and a word behind it
abbrev pub with_links : List (List ℕ) → List Link → List (List ℕ)
with_links lists [] = lists
with_links lists (link ∷ links) = with_links (lists ++ (slice_index_or lists link.before [] ++ link.word ∷ []) ∷ []) links

-- the lists that links spell: number 0 is empty
unfoldable pub lists_of : List Link → List (List ℕ)
lists_of links = with_links ([] ∷ []) links

abbrev pub no_seat : Seat
no_seat = record { regs = start_of 0 0 0; status = Halted; list = 0 }

abbrev pub context_of : Seat → Context
context_of seat = record { regs = seat.regs; status = seat.status }

abbrev pub seat_in : Pools → ℕ → Seat
seat_in pools number = slice_index_or pools.seats.items number no_seat

abbrev pub context_in : Pools → ℕ → Context
context_in pools number = context_of (seat_in pools number)

abbrev pub words_in : Pools → ℕ → List ℕ
words_in pools number = slice_index_or (lists_of pools.links.items) (seat_in pools number).list []

abbrev pub memory_in : Pools → ℕ → List Line
memory_in pools number = slice_index_or pools.memories.items number []

-- the place of this memory and these contexts, by their numbers
unfoldable pub place_of : Pools → ℕ → List ℕ → Place
place_of pools memory seats = record { flat = record { memory = memory_in pools memory; contexts = map (context_in pools) seats }; printed = map (words_in pools) seats }

unfoldable pub thread_in : Pools → Numbers → Thread
thread_in pools numbers = record { memory = memory_in pools numbers.memory; context = context_in pools numbers.seat; printed = words_in pools numbers.seat }

-- the numbers are of a memory and of a context
pub record AreIn (pools : Pools) (numbers : Numbers) : Type 0 where
  pub memory : numbers.memory < length pools.memories.items
  pub seat : numbers.seat < length pools.seats.items

-- each list is one that is there, each memory has all lines, and no member is there twice
pub record ArePools (parts : Parts) (pools : Pools) : Type 0 where
  pub lists : (k : ℕ) → (seat : Seat) → slice_get pools.seats.items k ≡ Some seat → seat.list < suc (length pools.links.items)
  pub back : (k : ℕ) → (link : Link) → slice_get pools.links.items k ≡ Some link → link.before < suc k
  pub sizes : (k : ℕ) → (memory : List Line) → slice_get pools.memories.items k ≡ Some memory → length memory ≡ line_count parts
  pub seats : IsIndexed seat_digest pools.seats.items pools.by_seat
  pub links : IsIndexed link_digest pools.links.items pools.by_link
  pub memories : IsIndexed memory_digest pools.memories.items pools.by_memory

-- what was there has its number still
pub record PoolsGrow (before after : Pools) : Type 0 where
  pub seats : HasGrown before.seats.items after.seats.items
  pub links : HasGrown before.links.items after.links.items
  pub memories : HasGrown before.memories.items after.memories.items

-- pools are pools still, and hold what they held
pub record GoOn (parts : Parts) (before after : Pools) : Type 0 where
  pub pools : ArePools parts after
  pub grow : PoolsGrow before after

-- links that have grown, each behind an earlier list
pub record LinksGoOn (before after : List Link) : Type 0 where
  pub back : (k : ℕ) → (link : Link) → slice_get after k ≡ Some link → link.before < suc k
  pub front : HasGrown before after

-- the list of this number has these words
pub record ListHasWords (links : List Link) (list : ℕ) (words : List ℕ) : Type 0 where
  pub exists : list < suc (length links)
  pub is : slice_index_or (lists_of links) list [] ≡ words
