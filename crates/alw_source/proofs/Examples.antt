-- A worked source.
use Rattle.std.proofs.Common.{◌≡◌, [], ◌∷◌, codes, refl}
use Rattle.std.specs.Fmt.{digits}
use Rattle.alw_text.specs.Numbers.{hex_digits}
use Rattle.alw_image.specs.declared.parts.Parts.{Parts}
use Rattle.sparc_text.specs.Statements.{statement_text}
use Rattle.alw_source.specs.Sources.{sizes_text, code_line, start_line, always_line, place_line, body_line, source_of}

-- two nodes, of which node 1 runs, a Trap-Always line and a data line
abbrev two_nodes : Parts
two_nodes = record {
  width = 2;
  height = 1;
  contexts = 1;
  per_node = 8;
  code = 0x01000000 ∷ 0x91d02001 ∷ [];
  bodies = (record { 0 = 12 }, record { a = 7; b = 0; c = 0; d = 0xffffffff }) ∷ [];
  starts = (record { 0 = 1 }, 0, 4) ∷ [];
  always = 3 ∷ [];
}

-- its source, given the statements of its two words
source : statement_text 0 0x01000000 ≡ codes "nop"
    → statement_text 4 0x91d02001 ≡ codes "ta 1"
    → source_of two_nodes
    ≡ codes ".mesh 2,1\n.contexts 1\n.lines 8\nnop ! 00000000 01000000\nta 1 ! 00000004 91d02001\n.start 1,0,0x00000004\n.always 3\n.shared 192\n.word 0x00000007,0x00000000,0x00000000,0xffffffff\n"
unfolding source_of sizes_text code_line start_line always_line place_line body_line hex_digits digits
source nop print = rw (nop, print) refl
