-- Worked runs of three nodes: their images and journals.
use Rattle.std.specs.Prelude.{List, [], ◌∷◌, ◌++◌}
use Rattle.alw_msg.specs.declared.events.Entry.{Entry}
use Rattle.alw_image.specs.declared.parts.Parts.{Parts}
use Rattle.alw_image.specs.Parameters.{Parameters}
use Rattle.alw_model.specs.Rows.{I, H, D, E, row_of, at}

-- each node loads a line twice and then stores in it: sethi %hi(0x40000000),%g1; ld [%g1],%o0; ld [%g1],%o0; st %o0,[%g1]; ta 0
unfoldable pub spill_image : Parts
spill_image = row_of 3 1 1 (0x03100000 ∷ 0xD0004000 ∷ 0xD0004000 ∷ 0xD0204000 ∷ 0x91D02000 ∷ []) (at 0 0 0 ∷ at 1 0 0 ∷ at 2 0 0 ∷ [])

-- entries with one hardware pointer
unfoldable pub one_pointer : Parameters
one_pointer = record { pointers = 1; sets = 256; limit = 32768; evict = 0 }

-- a second reader overflows the one pointer, and the handler takes both into software
unfoldable pub spill_handled : List Entry
spill_handled = I 1 0 ∷ I 2 0 ∷ D 3 0 0 ∷ D 4 0 0 ∷ I 1 1 ∷ I 2 1 ∷ D 5 1 0 ∷ H 6 0 ∷ []

-- the third reader is hardware's again
unfoldable pub spill_journal : List Entry
spill_journal = spill_handled ++ I 1 2 ∷ I 2 2 ∷ D 7 2 0 ∷ []

-- node 0 drops its copy and reads again: all three readers are in software
unfoldable pub all_in_software : List Entry
all_in_software = spill_journal ++ D 7 0 1 ∷ D 8 0 2 ∷ I 8 0 ∷ E 9 0 0 ∷ I 10 0 ∷ D 11 0 0 ∷ H 12 0 ∷ []

-- node 1 drops its copy and reads again: it is in both sets
unfoldable pub in_both : List Entry
in_both = all_in_software ++ D 13 0 0 ∷ I 8 1 ∷ E 9 1 0 ∷ I 10 1 ∷ D 14 1 0 ∷ []

-- node 0 stores
unfoldable pub both_journal : List Entry
both_journal = in_both ++ I 15 0 ∷ I 16 0 ∷ D 17 0 0 ∷ H 18 0 ∷ []

-- node 1 uses its copy and drops it, and then answers the INV all the same: up to the first answer that the home takes
unfoldable pub one_answer : List Entry
one_answer = both_journal ++ D 15 0 1 ∷ I 16 1 ∷ E 17 1 0 ∷ I 9 2 ∷ D 19 0 1 ∷ D 19 0 2 ∷ D 20 1 0 ∷ []

unfoldable pub silent_journal : List Entry
silent_journal = one_answer ++ D 21 2 0 ∷ []

-- nodes 1 and 2 store in a line and load it: sethi %hi(0x40000000),%g1; st %o0,[%g1]; ld [%g1],%o0; ta 0
unfoldable pub crossing_image : Parts
crossing_image = row_of 3 1 1 (0x03100000 ∷ 0xD0204000 ∷ 0xD0004000 ∷ 0x91D02000 ∷ []) (at 1 0 0 ∷ at 2 0 0 ∷ [])

-- node 1's REPM crosses the INV that the home sends for node 2's request: up to where the home has stored the REPM
unfoldable pub crossing_stored : List Entry
crossing_stored = I 1 1 ∷ I 2 1 ∷ D 3 1 0 ∷ D 4 0 1 ∷ I 5 1 ∷ E 6 1 0 ∷ I 7 1 ∷ I 1 2 ∷ I 2 2 ∷ D 4 2 0 ∷ D 7 1 0 ∷ []

unfoldable pub crossing_journal : List Entry
crossing_journal = crossing_stored ++ D 8 1 0 ∷ D 8 0 1 ∷ D 9 0 1 ∷ D 9 1 0 ∷ D 10 0 2 ∷ I 11 2 ∷ I 10 1 ∷ []

-- To unfold this is to unfold each word of this file.
unfoldable pub three_node_runs : Unit {0}
unfolding spill_image one_pointer spill_handled spill_journal all_in_software in_both both_journal one_answer silent_journal crossing_image crossing_stored crossing_journal
three_node_runs = tt
