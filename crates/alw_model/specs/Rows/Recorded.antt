-- A run of three nodes that another simulator of the same rules recorded: one hardware pointer, eight sets, two contexts a node, a Trap-Always line, evictions.
use Rattle.std.specs.Prelude.{List, [], ◌∷◌}
use Rattle.alw_msg.specs.declared.events.Entry.{Entry}
use Rattle.alw_image.specs.declared.parts.Parts.{Parts}
use Rattle.alw_image.specs.Parameters.{Parameters}
use Rattle.alw_model.specs.Rows.{I, H, D, E, at}

unfoldable pub recorded_image : Parts
recorded_image = record {
  width = 1;
  height = 3;
  contexts = 2;
  per_node = 2;
  code =
      0x03100000 ∷ 0xD8786014 ∷ 0xD8206058 ∷ 0x91D02001 ∷ 0xD4106032 ∷ 0xD8306014 ∷ 0xD2286010 ∷ 0x02800003 ∷ 0x22800003 ∷ 0xD0486012 ∷ 0x10800002 ∷
      0x91D02001 ∷ 0xD6206048 ∷ 0x9A2230BF ∷ 0x91D02001 ∷ 0xD6086041 ∷ 0xD4506020 ∷ 0x9ABAACE9 ∷ 0xD4206010 ∷ 0x91D02001 ∷ 0x926326D7 ∷ 0xD8006048 ∷
      0xD4306024 ∷ 0xDA106050 ∷ 0xD4206040 ∷ 0x30800003 ∷ 0x91D02000 ∷ 0x91D02000 ∷ 0x91D02000 ∷ [];
  bodies = [];
  starts = at 0 0 0x00 ∷ at 1 1 0x00 ∷ at 2 1 0x00 ∷ [];
  always = 0 ∷ [];
}

-- the parameters of the run
unfoldable pub recorded_parameters : Parameters
recorded_parameters = record { pointers = 1; sets = 8; limit = 2000; evict = 0 }

unfoldable pub recorded_journal : List Entry
recorded_journal =
    I 1 0 ∷ I 1 1 ∷ I 2 1 ∷ I 1 2 ∷ I 2 0 ∷ D 3 0 0 ∷ I 2 2 ∷ D 4 1 0 ∷ D 5 2 0 ∷ D 6 0 0 ∷ D 6 0 2 ∷ I 7 0 ∷ D 8 0 0 ∷ D 9 0 0 ∷ I 10 0 ∷ I 7 2 ∷
    D 11 2 0 ∷ D 11 0 2 ∷ D 10 0 1 ∷ I 11 1 ∷ D 12 0 1 ∷ I 13 1 ∷ D 14 1 2 ∷ D 12 2 0 ∷ D 13 1 0 ∷ I 14 0 ∷ D 15 2 0 ∷ I 16 0 ∷ D 15 0 2 ∷ D 16 0 2 ∷
    D 17 2 1 ∷ I 17 2 ∷ I 17 0 ∷ I 18 2 ∷ I 18 1 ∷ D 19 0 1 ∷ D 20 1 0 ∷ I 21 0 ∷ D 19 2 2 ∷ D 20 2 1 ∷ I 21 1 ∷ I 22 1 ∷ I 22 0 ∷ D 21 1 2 ∷
    D 23 0 0 ∷ D 22 2 2 ∷ D 24 0 2 ∷ I 25 2 ∷ I 26 2 ∷ I 27 2 ∷ D 28 2 1 ∷ H 29 1 ∷ D 25 2 0 ∷ D 30 1 1 ∷ D 26 0 0 ∷ D 30 1 2 ∷ I 27 0 ∷ I 31 2 ∷
    I 28 0 ∷ I 29 0 ∷ I 32 2 ∷ D 33 2 0 ∷ D 34 0 0 ∷ D 35 0 0 ∷ I 36 0 ∷ I 37 0 ∷ D 36 0 2 ∷ I 38 0 ∷ D 31 1 1 ∷ I 39 0 ∷ I 37 2 ∷ I 38 2 ∷ I 32 1 ∷
    I 39 2 ∷ E 40 2 3 ∷ I 41 2 ∷ D 42 0 2 ∷ D 43 2 0 ∷ I 33 1 ∷ I 44 0 ∷ I 45 0 ∷ I 43 2 ∷ D 46 1 0 ∷ D 47 0 2 ∷ D 48 2 0 ∷ I 49 0 ∷ D 49 0 1 ∷
    I 50 0 ∷ I 50 1 ∷ I 48 2 ∷ I 51 0 ∷ E 52 0 3 ∷ E 51 1 3 ∷ D 52 0 1 ∷ I 53 1 ∷ D 53 1 0 ∷ E 54 1 1 ∷ I 54 0 ∷ I 55 1 ∷ I 49 2 ∷ I 56 1 ∷
    D 50 2 2 ∷ I 55 0 ∷ D 56 1 0 ∷ I 57 0 ∷ D 58 0 0 ∷ D 59 0 0 ∷ I 60 0 ∷ I 57 1 ∷ I 61 0 ∷ D 62 2 0 ∷ I 63 0 ∷ I 58 1 ∷ I 64 0 ∷ I 59 1 ∷
    D 60 1 2 ∷ D 61 2 1 ∷ E 65 0 1 ∷ I 62 1 ∷ D 66 0 0 ∷ D 63 0 2 ∷ D 65 0 2 ∷ D 66 1 2 ∷ D 67 2 1 ∷ D 67 2 2 ∷ I 68 1 ∷ D 69 1 2 ∷ I 70 2 ∷
    D 70 2 1 ∷ E 67 0 2 ∷ I 71 2 ∷ I 72 2 ∷ D 73 2 2 ∷ D 74 2 2 ∷ I 75 2 ∷ D 76 2 2 ∷ H 77 2 ∷ I 71 1 ∷ D 78 2 2 ∷ D 75 2 0 ∷ I 76 0 ∷ I 79 2 ∷
    I 80 2 ∷ D 81 1 2 ∷ D 81 2 1 ∷ H 82 2 ∷ D 83 2 2 ∷ I 77 0 ∷ D 84 2 2 ∷ H 82 1 ∷ D 83 2 0 ∷ D 85 1 2 ∷ D 86 0 2 ∷ D 87 2 1 ∷ D 88 0 1 ∷ I 89 1 ∷
    I 87 2 ∷ H 90 1 ∷ I 91 1 ∷ E 92 1 4 ∷ I 93 1 ∷ I 88 2 ∷ I 89 2 ∷ D 90 2 0 ∷ D 91 1 2 ∷ I 94 1 ∷ E 92 2 5 ∷ D 93 0 2 ∷ D 95 2 1 ∷ D 94 2 2 ∷
    I 95 2 ∷ D 96 1 2 ∷ D 97 1 2 ∷ I 98 2 ∷ I 99 2 ∷ D 96 1 0 ∷ I 97 0 ∷ D 98 2 1 ∷ I 98 0 ∷ I 99 1 ∷ I 100 1 ∷ D 100 0 2 ∷ D 101 1 1 ∷ D 101 2 0 ∷
    I 102 0 ∷ I 103 0 ∷ D 104 1 0 ∷ I 101 2 ∷ D 102 2 2 ∷ D 105 0 1 ∷ H 103 2 ∷ D 106 1 1 ∷ I 107 1 ∷ D 104 0 2 ∷ H 105 2 ∷ I 108 1 ∷ D 106 2 2 ∷
    I 109 1 ∷ I 107 2 ∷ D 110 1 0 ∷ D 111 0 2 ∷ D 112 2 0 ∷ D 110 2 1 ∷ E 112 2 4 ∷ I 113 2 ∷ E 113 0 5 ∷ D 114 1 2 ∷ D 115 2 2 ∷ D 114 2 1 ∷
    D 116 2 2 ∷ D 115 0 1 ∷ I 116 1 ∷ I 117 1 ∷ I 118 1 ∷ D 117 2 0 ∷ I 119 1 ∷ I 118 0 ∷ D 120 1 1 ∷ I 119 0 ∷ D 121 1 1 ∷ D 120 1 2 ∷ D 122 1 2 ∷
    D 121 2 0 ∷ D 123 0 2 ∷ D 124 2 1 ∷ I 124 2 ∷ I 122 0 ∷ I 125 2 ∷ D 126 2 2 ∷ I 125 1 ∷ I 126 1 ∷ H 127 2 ∷ D 127 1 1 ∷ D 128 2 2 ∷ I 129 2 ∷
    I 130 2 ∷ D 131 1 2 ∷ D 132 2 1 ∷ D 132 2 2 ∷ D 133 2 1 ∷ D 134 1 2 ∷ D 135 2 2 ∷ D 134 1 1 ∷ I 136 2 ∷ I 137 2 ∷ I 138 2 ∷ I 135 1 ∷ I 136 1 ∷
    D 139 1 2 ∷ D 140 2 1 ∷ I 141 1 ∷ I 142 1 ∷ E 143 1 5 ∷ D 143 1 2 ∷ D 144 2 2 ∷ D 145 2 2 ∷ D 146 2 1 ∷ I 147 1 ∷ I 148 1 ∷ I 149 1 ∷ []

-- To unfold this is to unfold each word of this file.
unfoldable pub recorded_run_words : Unit {0}
unfolding recorded_image recorded_parameters recorded_journal
recorded_run_words = tt
