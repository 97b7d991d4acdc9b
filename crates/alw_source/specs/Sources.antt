-- The source of an image, in the assembler's language: its sizes, its code, its starts, its Trap-Always lines and its data lines.
use Rattle.std.specs.Prelude.{ℕ, ◌+◌, ◌*◌, List, [], ◌∷◌, ◌++◌, codes}
use Rattle.std.specs.Fmt.{decimal}
use Rattle.std.specs.List.{flat_map}
use Rattle.alw_num.specs.declared.addresses.Line.{Line}
use Rattle.alw_num.specs.declared.addresses.LineNo.{LineNo}
use Rattle.alw_num.specs.declared.addresses.NodeNo.{NodeNo}
use Rattle.alw_text.specs.Numbers.{hex_digits, hex_word}
use Rattle.alw_image.specs.declared.parts.Parts.{Parts}
use Rattle.alw_image.specs.declared.parts.Sizes.{Sizes}
use Rattle.alw_image.specs.Images.{sizes_of}
use Rattle.sparc_text.specs.Statements.{statement_text}

-- columns and rows of the mesh, and how many contexts and lines each node has
unfoldable pub sizes_text : Sizes → List ℕ
sizes_text sizes =
    codes ".mesh " ++ (decimal sizes.width ++ (codes "," ++ (decimal sizes.height
    ++ (codes "\n.contexts " ++ (decimal sizes.contexts ++ (codes "\n.lines " ++ (decimal sizes.per_node ++ codes "\n")))))))

-- a code word: its statement, and as a comment its address and the word in eight digits each
unfoldable pub code_line : ℕ → ℕ → List ℕ
code_line address word = statement_text address word ++ (codes " ! " ++ (hex_digits address ++ (codes " " ++ (hex_digits word ++ codes "\n"))))

-- code words, the first of which stands at an address
abbrev pub code_from : ℕ → List ℕ → List ℕ
code_from address [] = []
code_from address (word ∷ rest) = code_line address word ++ code_from (address + 4) rest

-- where a context starts: node, slot and address
unfoldable pub start_line : NodeNo × ℕ × ℕ → List ℕ
start_line start = codes ".start " ++ (decimal start.0.0 ++ (codes "," ++ (decimal start.1 ++ (codes "," ++ (hex_word start.2 ++ codes "\n")))))

-- a line that is Trap-Always
unfoldable pub always_line : ℕ → List ℕ
always_line line = codes ".always " ++ (decimal line ++ codes "\n")

-- the place of a data line among the bytes of shared data, and its four words
unfoldable pub place_line : ℕ → List ℕ
place_line line = codes ".shared " ++ (decimal (16 * line) ++ codes "\n")

unfoldable pub body_line : Line → List ℕ
body_line body =
    codes ".word " ++ (hex_word body.a ++ (codes "," ++ (hex_word body.b ++ (codes "," ++ (hex_word body.c ++ (codes "," ++ (hex_word body.d ++ codes "\n")))))))

abbrev pub data_lines : LineNo × Line → List ℕ
data_lines entry = place_line entry.0.0 ++ body_line entry.1

-- the source of an image
unfoldable pub source_of : Parts → List ℕ
source_of p =
    sizes_text (sizes_of p)
    ++ (code_from 0 p.code ++ (flat_map start_line p.starts ++ (flat_map always_line p.always ++ flat_map data_lines p.bodies)))
