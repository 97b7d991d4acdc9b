-- Worked runs of two nodes: their images and journals.
use Rattle.std.specs.Prelude.{List, [], ◌∷◌, ◌++◌}
use Rattle.alw_msg.specs.declared.events.Entry.{Entry}
use Rattle.alw_image.specs.declared.parts.Parts.{Parts}
use Rattle.alw_model.specs.Rows.{I, H, D, E, row_of, at}

-- two nodes store in one line, and the first then loads it: node 0 is sethi %hi(0x40000000),%g1; st %o1,[%g1]; ld [%g1],%o0; ta 1; ta 0, and node 1 sethi %hi(0x40000000),%g1; st %o0,[%g1]; ta 0
unfoldable pub writers_image : Parts
writers_image = row_of 2 1 1 (0x03100000 ∷ 0xD2204000 ∷ 0xD0004000 ∷ 0x91D02001 ∷ 0x91D02000 ∷ 0x03100000 ∷ 0xD0204000 ∷ 0x91D02000 ∷ []) (at 0 0 0 ∷ at 1 0 0x14 ∷ [])

-- all entries but the last
unfoldable pub writers_before : List Entry
writers_before =
    I 1 0 ∷ I 2 0 ∷ D 3 0 0 ∷ D 4 0 0 ∷ I 5 0 ∷ I 1 1 ∷ I 2 1 ∷ D 6 1 0 ∷ D 7 0 0 ∷ D 8 0 0 ∷ D 9 0 1 ∷ I 10 1 ∷ I 11 1 ∷
    I 9 0 ∷ D 10 0 0 ∷ D 12 0 1 ∷ D 13 1 0 ∷ D 14 0 0 ∷ I 15 0 ∷ I 16 0 ∷ []

unfoldable pub writers_journal : List Entry
writers_journal = writers_before ++ I 17 0 ∷ []

-- the same image, up to where node 0 has a hold on the line and the INV for it is the head of its link
unfoldable pub hold_before : List Entry
hold_before = I 1 0 ∷ I 2 0 ∷ D 3 0 0 ∷ I 1 1 ∷ I 2 1 ∷ D 4 1 0 ∷ D 5 0 0 ∷ []

unfoldable pub hold_journal : List Entry
hold_journal = hold_before ++ I 6 0 ∷ D 7 0 0 ∷ []

-- line 0 is Trap-Always: node 1 is sethi %hi(0x40000000),%g1; ld [%g1],%o0; ta 0, and node 0 sethi %hi(0x40000000),%g1; st %o1,[%g1]; ta 0
unfoldable pub always_image : Parts
always_image = record (row_of 2 1 1 (0x03100000 ∷ 0xD0004000 ∷ 0x91D02000 ∷ 0x03100000 ∷ 0xD2204000 ∷ 0x91D02000 ∷ []) (at 0 0 0x0C ∷ at 1 0 0 ∷ [])) { always = 0 ∷ [] }

unfoldable pub always_journal : List Entry
always_journal =
    I 1 1 ∷ I 2 1 ∷ D 3 1 0 ∷ H 4 0 ∷ D 5 0 1 ∷ I 6 1 ∷ I 5 0 ∷ I 6 0 ∷ D 7 0 0 ∷ H 8 0 ∷ D 9 0 1 ∷ D 10 1 0 ∷ H 11 0 ∷ D 12 0 0 ∷
    I 13 0 ∷ E 14 0 0 ∷ D 15 0 0 ∷ H 16 0 ∷ I 17 0 ∷ I 10 1 ∷ []

-- the same image, up to where node 0's request waits behind node 1's packet
unfoldable pub progress_before : List Entry
progress_before = I 1 1 ∷ I 2 1 ∷ D 3 1 0 ∷ I 4 0 ∷ I 5 0 ∷ []

-- To unfold this is to unfold each word of this file.
unfoldable pub two_node_runs : Unit {0}
unfolding writers_image writers_before writers_journal hold_before hold_journal always_image always_journal progress_before
two_node_runs = tt
