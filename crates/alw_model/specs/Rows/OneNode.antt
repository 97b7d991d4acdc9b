-- Worked runs of one node: their images and journals.
use Rattle.std.specs.Prelude.{List, [], ◌∷◌}
use Rattle.alw_msg.specs.declared.events.Entry.{Entry}
use Rattle.alw_image.specs.declared.parts.Parts.{Parts}
use Rattle.alw_image.specs.Parameters.{Parameters}
use Rattle.alw_model.specs.Rows.{I, D, row_of, at}

-- a node stores 5 in a line, loads it and prints it: sethi %hi(0x40000000),%g1; mov 5,%o0; st %o0,[%g1]; mov 0,%o0; ld [%g1],%o0; ta 1; ta 0
unfoldable pub itself_image : Parts
itself_image = row_of 1 1 1 (0x03100000 ∷ 0x90102005 ∷ 0xD0204000 ∷ 0x90100000 ∷ 0xD0004000 ∷ 0x91D02001 ∷ 0x91D02000 ∷ []) (at 0 0 0 ∷ [])

unfoldable pub itself_journal : List Entry
itself_journal = I 1 0 ∷ I 2 0 ∷ I 3 0 ∷ D 4 0 0 ∷ D 5 0 0 ∷ I 6 0 ∷ I 7 0 ∷ I 8 0 ∷ I 9 0 ∷ I 10 0 ∷ []

-- two contexts access one line: slot 0 is sethi %hi(0x40000000),%g1; ld [%g1],%o0; ta 0, and slot 1 sethi %hi(0x40000000),%g1; st %o1,[%g1]; ta 0
unfoldable pub contexts_image : Parts
contexts_image = row_of 1 2 1 (0x03100000 ∷ 0xD0004000 ∷ 0x91D02000 ∷ 0x03100000 ∷ 0xD2204000 ∷ 0x91D02000 ∷ []) (at 0 0 0 ∷ at 0 1 0x0C ∷ [])

unfoldable pub contexts_journal : List Entry
contexts_journal = I 1 0 ∷ I 2 0 ∷ I 3 0 ∷ I 4 0 ∷ D 5 0 0 ∷ D 6 0 0 ∷ I 7 0 ∷ I 8 0 ∷ I 9 0 ∷ D 10 0 0 ∷ D 11 0 0 ∷ I 12 0 ∷ I 13 0 ∷ []

-- two lines of one set: sethi %hi(0x40000000),%g1; st %o1,[%g1]; st %o1,[%g1+64]; ta 0
unfoldable pub set_image : Parts
set_image = row_of 1 1 8 (0x03100000 ∷ 0xD2204000 ∷ 0xD2206040 ∷ 0x91D02000 ∷ []) (at 0 0 0 ∷ [])

-- caches of four sets
unfoldable pub four_sets : Parameters
four_sets = record { pointers = 4; sets = 4; limit = 32768; evict = 0 }

unfoldable pub set_journal : List Entry
set_journal = I 1 0 ∷ I 2 0 ∷ D 3 0 0 ∷ D 4 0 0 ∷ I 5 0 ∷ I 6 0 ∷ D 7 0 0 ∷ D 8 0 0 ∷ []

-- sethi %hi(0x40000000),%g1, and then a load that traps
unfoldable pub trap_image : Parts
trap_image = row_of 1 1 1 (0x03100000 ∷ 0xD0006002 ∷ []) (at 0 0 0 ∷ [])

unfoldable pub trap_journal : List Entry
trap_journal = I 1 0 ∷ I 2 0 ∷ []

-- ba,a . goes on for ever
unfoldable pub loop_image : Parts
loop_image = row_of 1 1 1 (0x30800000 ∷ []) (at 0 0 0 ∷ [])

unfoldable pub limit_3 : Parameters
limit_3 = record { pointers = 4; sets = 256; limit = 3; evict = 0 }

unfoldable pub loop_journal : List Entry
loop_journal = I 1 0 ∷ I 2 0 ∷ I 3 0 ∷ []

-- To unfold this is to unfold each word of this file.
unfoldable pub one_node_runs : Unit {0}
unfolding itself_image itself_journal contexts_image contexts_journal set_image four_sets set_journal trap_image trap_journal loop_image limit_3 loop_journal
one_node_runs = tt
