-- The source of an image is read, line by line, as its lines.
use Rattle.std.proofs.Common.{◌≡◌, true, ℕ, ◌+◌, ◌*◌, ◌^◌, ◌<◌, ◌≤◌, List, [], ◌∷◌, ◌++◌, map, length, Ok, refl, sym, ap, subst, ◌∙◌, arith, append_assoc, length-append}
use Rattle.std.specs.Prelude.{codes}
use Rattle.std.specs.Fmt.{decimal}
use Rattle.std.specs.List.{list_all, flat_map, AllByRecursion}
use Rattle.std.proofs.lemmas.List.{append-nil}
use Rattle.std.proofs.lemmas.List.Folds.{list_all-append}
use Rattle.std.proofs.lemmas.Nat.{mul-le}
use Rattle.alw_num.specs.declared.addresses.Line.{Line as Body}
use Rattle.alw_num.specs.declared.addresses.LineNo.{LineNo}
use Rattle.alw_num.specs.declared.addresses.NodeNo.{NodeNo}
use Rattle.alw_num.specs.declared.addresses.Width.TheVariants as width
use Rattle.alw_text.specs.Numbers.{hex_digits, hex_word}
use Rattle.alw_text.proofs.Numerals.{length-hex_digits}
use Rattle.alw_image.specs.declared.parts.Parts.{Parts}
use Rattle.alw_image.specs.Images.{IsImage, IsStart, IsDataLine, node_count, line_count}
use Rattle.alw_image.specs.Numbers.{IsWord, HasFourWords, HasWords}
use Rattle.alw_source.specs.Sources.{sizes_text, code_line, code_from, start_line, always_line, place_line, body_line, data_lines, source_of}
use Rattle.sparc_lex.specs.Characters.{is_allowed}
use Rattle.sparc_asm.specs.declared.statements.Line.{Line}
use Rattle.sparc_asm.specs.declared.statements.Statement.TheVariants as statement
use Rattle.sparc_asm.specs.Sources.{read_source}
use Rattle.sparc_text.specs.Statements.{statement_text}
use Rattle.law_sources.specs.Parsed.{number, line_of, statement_read, code_read, start_read, always_read, data_read, lines_read}
use Rattle.law_sources.proofs.Figures.{hex_plain}
use Rattle.law_sources.proofs.Spelled.{statement_said}
use Rattle.law_sources.proofs.Directives.{mesh_said, contexts_said, lines_said, always_said, shared_said, start_said, body_said}
use Rattle.law_sources.proofs.Lines.{all_allowed, IsLine, bare, commented, LinesAreTold, end_told, line_told}

told_as : {text other : List ℕ} {lines : List Line} → text ≡ other → LinesAreTold other lines → LinesAreTold text lines
told_as {text} {other} {lines} e told = subst (λ (t : List ℕ). LinesAreTold t lines) (sym e) told

-- ---- sizes

sizes_split : (w h c l : ℕ) (rest : List ℕ) → sizes_text (record { width = w; height = h; contexts = c; per_node = l }) ++ rest
    ≡ (codes ".mesh " ++ (decimal w ++ (codes "," ++ decimal h))) ++ (10 ∷ ((codes ".contexts " ++ decimal c) ++ (10 ∷ ((codes ".lines " ++ decimal l) ++ (10 ∷ rest)))))
unfolding sizes_text
sizes_split w h c l rest = simp append_assoc

sizes_told : {rest : List ℕ} {lines : List Line} (w h c l : ℕ) → w < 2 ^ 32 → h < 2 ^ 32 → c < 2 ^ 32 → l < 2 ^ 32 → LinesAreTold rest lines
    → LinesAreTold (sizes_text (record { width = w; height = h; contexts = c; per_node = l }) ++ rest) (line_of (statement.Mesh (number w) (number h)) ∷ line_of (statement.Contexts (number c)) ∷ line_of (statement.Lines (number l)) ∷ lines)
sizes_told {rest} {lines} w h c l first second third fourth told =
    told_as (sizes_split w h c l rest) (line_told (bare _ _ (mesh_said w h first second)) (line_told (bare _ _ (contexts_said c third)) (line_told (bare _ _ (lines_said l fourth)) told)))

-- ---- code

-- what stands behind a statement's `!`
comment : ℕ → ℕ → List ℕ
comment address word = 32 ∷ (hex_digits address ++ (32 ∷ hex_digits word))

comment_allowed : (address word : ℕ) → list_all is_allowed (comment address word) ≡ true
unfolding comment
comment_allowed address word =
    let first = all_allowed (hex_digits address) (hex_plain address) in
    let last = all_allowed (hex_digits word) (hex_plain word) in
    list_all-append is_allowed (hex_digits address) (32 ∷ hex_digits word) ∙ rw (first, last)

code_split : (address word : ℕ) (more rest : List ℕ) → (code_line address word ++ more) ++ rest ≡ (statement_text address word ++ (32 ∷ 33 ∷ comment address word)) ++ (10 ∷ (more ++ rest))
unfolding comment code_line
code_split address word more rest = simp append_assoc

code_is_line : (address word : ℕ) → word < 2 ^ 32 → IsLine (statement_text address word ++ (32 ∷ 33 ∷ comment address word)) (line_of (statement_read address word))
unfolding comment
code_is_line address word small =
    commented (statement_text address word) (comment address word) (statement_read address word) (statement_said address word small) (comment_allowed address word)
    (omega (arith, length-append (hex_digits address) (32 ∷ hex_digits word), length-hex_digits address, length-hex_digits word))

code_told : {rest : List ℕ} {lines : List Line} (address : ℕ) (code : List ℕ) → AllByRecursion IsWord code → LinesAreTold rest lines
    → LinesAreTold (code_from address code ++ rest) (code_read address code ++ lines)
code_told address [] all told = told
code_told {rest} address (word ∷ code) all told =
    told_as (code_split address word (code_from (address + 4) code) rest) (line_told (code_is_line address word all.0) (code_told (address + 4) code all.1 told))

-- ---- bounds

-- how large the parts of an image are
pub record IsSmall (p : Parts) : Type 0 where
  pub nodes : node_count p ≤ 256
  pub contexts : p.contexts ≤ 4
  pub lines : line_count p ≤ 1048576
  pub code : length p.code ≤ 65536

pub small : (p : Parts) → IsImage p → IsSmall p
small p image = record {
  nodes = nodes;
  contexts = image.contexts.1;
  lines = mul-le (node_count p) p.per_node 256 4096 nodes image.per_node.1;
  code = image.code.1;
}
  where
    nodes : node_count p ≤ 256
    nodes = mul-le p.width p.height 16 16 image.width.1 image.height.1

-- ---- starts

-- a start's line, without its LF
start_bare : NodeNo × ℕ × ℕ → List ℕ
start_bare start = codes ".start " ++ (decimal start.0.0 ++ (codes "," ++ (decimal start.1 ++ (codes "," ++ hex_word start.2))))

start_split : (start : NodeNo × ℕ × ℕ) (more rest : List ℕ) → (start_line start ++ more) ++ rest ≡ start_bare start ++ (10 ∷ (more ++ rest))
unfolding start_bare start_line
start_split start more rest = simp append_assoc

start_is_line : (p : Parts) (start : NodeNo × ℕ × ℕ) → IsSmall p → IsStart p start → IsLine (start_bare start) (start_read start)
unfolding start_bare
start_is_line p start bounds is =
    bare _ _ (start_said start.0.0 start.1 start.2 (omega (arith, is.0, bounds.nodes)) (omega (arith, is.1, bounds.contexts)) (omega (arith, is.3, bounds.code)))

starts_told : {rest : List ℕ} {lines : List Line} (p : Parts) (starts : List (NodeNo × ℕ × ℕ)) → IsSmall p → AllByRecursion (IsStart p) starts → LinesAreTold rest lines → LinesAreTold (flat_map start_line starts ++ rest) (map start_read starts ++ lines)
starts_told p [] bounds all told = told
starts_told {rest} p (start ∷ starts) bounds all told =
    told_as (start_split start (flat_map start_line starts) rest) (line_told (start_is_line p start bounds all.0) (starts_told p starts bounds all.1 told))

-- ---- lines that are Trap-Always

always_split : (line : ℕ) (more rest : List ℕ) → (always_line line ++ more) ++ rest ≡ (codes ".always " ++ decimal line) ++ (10 ∷ (more ++ rest))
unfolding always_line
always_split line more rest = simp append_assoc

always_told : {rest : List ℕ} {lines : List Line} (p : Parts) (always : List ℕ) → IsSmall p → AllByRecursion (λ line. line < line_count p) always → LinesAreTold rest lines → LinesAreTold (flat_map always_line always ++ rest) (map always_read always ++ lines)
always_told p [] bounds all told = told
always_told {rest} p (line ∷ always) bounds all told =
    told_as (always_split line (flat_map always_line always) rest) (line_told (bare _ _ (always_said line (omega (arith, all.0, bounds.lines)))) (always_told p always bounds all.1 told))

-- ---- data lines

-- a data line's two lines, each without its LF
place_bare : ℕ → List ℕ
place_bare line = codes ".shared " ++ decimal (16 * line)

body_bare : Body → List ℕ
body_bare body = codes ".word " ++ (hex_word body.a ++ (codes "," ++ (hex_word body.b ++ (codes "," ++ (hex_word body.c ++ (codes "," ++ hex_word body.d))))))

place_split : (line : ℕ) (rest : List ℕ) → place_line line ++ rest ≡ place_bare line ++ (10 ∷ rest)
unfolding place_line place_bare
place_split line rest = simp append_assoc

-- a text is another with an LF behind it
record Ends (text bare : List ℕ) : Type 0 where
  split : (rest : List ℕ) → text ++ rest ≡ bare ++ (10 ∷ rest)

ended : (bare : List ℕ) → Ends (bare ++ codes "\n") bare
ended bare = record { split = append_assoc bare (codes "\n") }

in_front : {text bare : List ℕ} (front : List ℕ) → Ends text bare → Ends (front ++ text) (front ++ bare)
in_front {text} {bare} front is = record {
  split = λ rest. append_assoc front text rest ∙ ap (λ (t : List ℕ). front ++ t) (is.split rest) ∙ sym (append_assoc front bare (10 ∷ rest));
}

body_ends : (body : Body) → Ends (body_line body) (body_bare body)
unfolding body_line body_bare
body_ends body =
    in_front (codes ".word ") (in_front (hex_word body.a) (in_front (codes ",") (in_front (hex_word body.b) (in_front (codes ",") (in_front (hex_word body.c) (in_front (codes ",") (ended (hex_word body.d))))))))

data_split : (entry : LineNo × Body) (more rest : List ℕ) → (data_lines entry ++ more) ++ rest ≡ place_bare entry.0.0 ++ (10 ∷ (body_bare entry.1 ++ (10 ∷ (more ++ rest))))
data_split entry more rest = simp append_assoc (place_split entry.0.0 (body_line entry.1 ++ (more ++ rest)) ∙ ap (λ (t : List ℕ). place_bare entry.0.0 ++ (10 ∷ t)) ((body_ends entry.1).split (more ++ rest)))

place_is_line : (line : ℕ) → line < 1048576 → IsLine (place_bare line) (line_of (statement.Shared (number (16 * line))))
unfolding place_bare
place_is_line line low = bare _ _ (shared_said (16 * line) (omega arith))

body_is_line : (entry : LineNo × Body) → HasFourWords entry → IsLine (body_bare entry.1) (line_of (statement.Data width.Word (number entry.1.a ∷ number entry.1.b ∷ number entry.1.c ∷ number entry.1.d ∷ [])))
unfolding body_bare
body_is_line entry has = bare _ _ (body_said entry.1.a entry.1.b entry.1.c entry.1.d has.0 has.1.0 has.1.1.0 has.1.1.1)

data_told : {rest : List ℕ} {lines : List Line} (p : Parts) (bodies : List (LineNo × Body)) → IsSmall p → AllByRecursion (IsDataLine p) bodies → AllByRecursion HasFourWords bodies
    → LinesAreTold rest lines
    → LinesAreTold (flat_map data_lines bodies ++ rest) (flat_map data_read bodies ++ lines)
data_told p [] bounds all words told = told
data_told {rest} p (entry ∷ bodies) bounds all words told =
    told_as (data_split entry (flat_map data_lines bodies) rest)
    (line_told (place_is_line entry.0.0 (omega (arith, all.0.0, bounds.lines))) (line_told (body_is_line entry words.0) (data_told p bodies bounds all.1 words.1 told)))

-- ---- the source

data_at_end : (p : Parts) → IsImage p → HasWords p → LinesAreTold (flat_map data_lines p.bodies) (flat_map data_read p.bodies)
data_at_end p image words =
    let told = data_told p p.bodies (small p image) image.bodies words.bodies end_told in
    rw (append-nil (flat_map data_lines p.bodies), append-nil (flat_map data_read p.bodies)) at told

pub source_told : (p : Parts) → IsImage p → HasWords p → LinesAreTold (source_of p) (lines_read p)
unfolding source_of lines_read
source_told p image words =
    let bounds = small p image in
    sizes_told p.width p.height p.contexts p.per_node (omega (arith, image.width.1)) (omega (arith, image.height.1)) (omega (arith, image.contexts.1)) (omega (arith, image.per_node.1))
    (code_told 0 p.code words.code (starts_told p p.starts bounds image.starts (always_told p p.always bounds image.always (data_at_end p image words))))

-- the source of an image is read as its lines
pub source_read : (p : Parts) → IsImage p → HasWords p → read_source (source_of p) ≡ Ok (lines_read p)
unfolding read_source
source_read p image words = (source_told p image words).reads (source_of p) 1 0 refl
