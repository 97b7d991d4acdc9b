-- The different endings of a search, in their order: ends before traps; ends by prints, then by the words of memory; traps by context, PC and type.
use Rattle.std.specs.Prelude.{ℕ, ◌+◌, ◌==◌, if◌then◌else◌, List, [], ◌∷◌, ◌++◌, map, slice_index_or}
use Rattle.std.specs.List.{Contains}
use Rattle.std.specs.List.Sorted.{IsStrictlySortedBy}
use Rattle.std.specs.declared.cmp.Ordering.{Ordering}
use Rattle.std.specs.declared.cmp.Ordering.TheVariants.{Less, Greater}
use Rattle.std.specs.Ordering.{nat_cmp, ordering_then}
use Rattle.std.specs.Cmp.Lexicographic.{slice_cmp}
use Rattle.alw_num.specs.Limits.{shared_base}
use Rattle.alw_num.specs.declared.addresses.Line.{Line}
use Rattle.alw_places.specs.Outcomes.{Ending, Halts, Traps}
use Rattle.alw_outcomes.specs.declared.endings.Endings.{Endings}
use Rattle.alw_outcomes.specs.Explored.{Found, no_place, halt_of, trap_of}

-- lists of numbers by the first that differs; a list that another goes on from comes first
abbrev pub list_cmp : List ℕ → List ℕ → Ordering
list_cmp = slice_cmp nat_cmp

-- a word with its address, where it isn't 0
abbrev pub kept_word : ℕ → ℕ → List (ℕ × ℕ)
kept_word address word = if word == 0 then [] else (address, word) ∷ []

-- the words of a line at this address that aren't 0, each with its address
abbrev pub line_words : ℕ → Line → List (ℕ × ℕ)
line_words address line = kept_word address line.a ++ (kept_word (address + 4) line.b ++ (kept_word (address + 8) line.c ++ kept_word (address + 12) line.d))

-- those of lines, of which the first is at this address
abbrev pub words_from : ℕ → List Line → List (ℕ × ℕ)
words_from address [] = []
words_from address (line ∷ rest) = line_words address line ++ words_from (address + 16) rest

-- the words of a memory that aren't 0, each with its address, ascending
abbrev pub memory_words : List Line → List (ℕ × ℕ)
memory_words = words_from shared_base

-- by address, and then by the word there
abbrev pub word_cmp : ℕ × ℕ → ℕ × ℕ → Ordering
word_cmp one other = ordering_then (nat_cmp one.0 other.0) (nat_cmp one.1 other.1)

-- memories by the first word of their lists that differs; a list that another goes on from comes first
abbrev pub memory_cmp : List Line → List Line → Ordering
memory_cmp one other = slice_cmp word_cmp (memory_words one) (memory_words other)

abbrev pub ending_cmp : Ending → Ending → Ordering
ending_cmp (Halts printed memory) (Halts printed' memory') = ordering_then (slice_cmp list_cmp printed printed') (memory_cmp memory memory')
ending_cmp (Halts printed memory) (Traps context pc type) = Less
ending_cmp (Traps context pc type) (Halts printed memory) = Greater
ending_cmp (Traps context pc type) (Traps context' pc' type') = ordering_then (nat_cmp context context') (ordering_then (nat_cmp pc pc') (nat_cmp type type'))

-- the ending at the place with this number, where all contexts have halted
abbrev pub halt_at : Found → ℕ → Ending
halt_at found at = halt_of (slice_index_or found.places at no_place)

-- what these numbers and turns are the endings of
abbrev pub told_in : Found → Endings → List Ending
told_in found endings = map (halt_at found) endings.ends.items ++ map trap_of endings.traps.items

-- the different endings of a list, ascending
pub record AreDifferent (all some : List Ending) : Type 0 where
  pub within : (ending : Ending) → Contains some ending → Contains all ending
  pub every : (ending : Ending) → Contains all ending → Contains some ending
  pub ascending : IsStrictlySortedBy ending_cmp some
