-- Lines of two numbers, and lists of them behind a heading.
use Rattle.std.proofs.Common.{◌≡◌, ◌≢◌, ℕ, ◌+◌, ◌^◌, ◌<◌, ◌≤◌, List, [], ◌∷◌, ◌++◌, length, take, drop, codes, sym, ap, subst, ◌∙◌, arith, append_assoc, length-append}
use Rattle.std.specs.List.{flat_map}
use Rattle.std.specs.Fmt.{decimal}
use Rattle.std.proofs.lemmas.List.{take_at, drop_at}
use Rattle.alw_text.specs.Numbers.{hex_word}
use Rattle.alw_text.proofs.Numerals.{length-hex_digits}
use Rattle.alw_image.specs.Numbers.{IsWord}
use Rattle.alw_report.specs.Reports.{heading, run_line, print_line, word_line}
use Rattle.alw_trace.specs.declared.faults.TextErr.{TextErr}
use Rattle.alw_trace.specs.declared.faults.TextErr.TheVariants.{Syntax, Image, Range, NoMemory}
use Rattle.alw_trace.specs.declared.pairs.ListKind.{ListKind}
use Rattle.alw_trace.specs.declared.pairs.ListKind.TheVariants.{Runs, Prints, Memory}
use Rattle.alw_trace.specs.Lines.{IsNumber, IsStretch, IsPrint, IsMemoryWord, Lacks, IsFaultInLines, IsFaultInList, list_line}
use Rattle.alw_trace.specs.Lists.{name_of, line_of, IsLineOf, list_text, IsListRead, ArePairsRead}
use Rattle.alw_trace.specs.Raw.{IsSyntaxFault}
use Rattle.alw_trace.proofs.Numbers.{rest_is}
use Rattle.alw_trace.proofs.LineTexts.{heading-is, pair-is}

-- ---- words

pub length-word : (n : ℕ) → length (hex_word n) ≡ 10
length-word n = omega (arith, length-hex_digits n)

pub no_short_word : (text : List ℕ) (stop : ℕ) → length text < 10 → (n : ℕ) → (rest : List ℕ) → IsWord n → text ≢ hex_word n ++ stop ∷ rest
no_short_word text stop short n rest is e = absurd (omega (arith, ap length e, length-append (hex_word n) (stop ∷ rest), length-word n))

pub no_word : (text front : List ℕ) (stop : ℕ) → front ≡ take 10 text → ((n : ℕ) → n < 2 ^ 32 → front ≢ hex_word n) → (n : ℕ) → (rest : List ℕ) → IsWord n
    → text ≢ hex_word n ++ stop ∷ rest
no_word text front stop cut none n rest is e = none n is (cut ∙ ap (take 10) e ∙ take_at (hex_word n) (stop ∷ rest) 10 (length-word n))

pub no_stop : (text back : List ℕ) (stop : ℕ) → back ≡ drop 10 text → ((rest : List ℕ) → back ≢ stop ∷ rest) → (n : ℕ) → (rest : List ℕ) → IsWord n
    → text ≢ hex_word n ++ stop ∷ rest
no_stop text back stop cut none n rest is e = none rest (cut ∙ ap (drop 10) e ∙ drop_at (hex_word n) (stop ∷ rest) 10 (length-word n))

word_rest : (n m stop : ℕ) (one other : List ℕ) → hex_word n ++ stop ∷ one ≡ hex_word m ++ stop ∷ other → one ≡ other
word_rest n m stop one other e =
    ap (drop 1) (sym (drop_at (hex_word n) (stop ∷ one) 10 (length-word n)) ∙ ap (drop 10) e ∙ drop_at (hex_word m) (stop ∷ other) 10 (length-word m))

-- ---- lines

last_word : (n : ℕ) (rest : List ℕ) → (hex_word n ++ 10 ∷ []) ++ rest ≡ hex_word n ++ 10 ∷ rest
last_word n rest = append_assoc (hex_word n) (10 ∷ []) rest

pub print-is : (a b : ℕ) (rest : List ℕ) → print_line (a, b) ++ rest ≡ decimal a ++ 32 ∷ (hex_word b ++ 10 ∷ rest)
print-is a b rest = append_assoc (decimal a) (32 ∷ (hex_word b ++ 10 ∷ [])) rest ∙ ap (λ (t : List ℕ). decimal a ++ 32 ∷ t) (last_word b rest)

pub word-is : (a b : ℕ) (rest : List ℕ) → word_line (a, b) ++ rest ≡ hex_word a ++ 32 ∷ (hex_word b ++ 10 ∷ rest)
word-is a b rest = append_assoc (hex_word a) (32 ∷ (hex_word b ++ 10 ∷ [])) rest ∙ ap (λ (t : List ℕ). hex_word a ++ 32 ∷ t) (last_word b rest)

pub no_count : (text one : List ℕ) (n : ℕ) → n < 2 ^ 64 → text ≡ decimal n ++ 32 ∷ one
    → ((m : ℕ) → (rest : List ℕ) → m < 2 ^ 64 → one ≢ decimal m ++ 10 ∷ rest) → Lacks IsStretch run_line text
no_count text one n l e none run behind fits is =
    none run.1 behind fits.1 (rest_is n run.0 32 one (decimal run.1 ++ 10 ∷ behind) l fits.0 (omega arith) (sym e ∙ is ∙ pair-is run.0 run.1 behind))

pub no_printed : (text one : List ℕ) (n : ℕ) → n < 2 ^ 64 → text ≡ decimal n ++ 32 ∷ one
    → ((m : ℕ) → (rest : List ℕ) → IsWord m → one ≢ hex_word m ++ 10 ∷ rest) → Lacks IsPrint print_line text
no_printed text one n l e none print behind fits is =
    none print.1 behind fits.1 (rest_is n print.0 32 one (hex_word print.1 ++ 10 ∷ behind) l fits.0 (omega arith)
    (sym e ∙ is ∙ print-is print.0 print.1 behind))

pub no_stored : (text one : List ℕ) (n : ℕ) → text ≡ hex_word n ++ 32 ∷ one → ((m : ℕ) → (rest : List ℕ) → IsWord m → one ≢ hex_word m ++ 10 ∷ rest)
    → Lacks IsMemoryWord word_line text
no_stored text one n e none word behind fits is =
    none word.1 behind fits.1 (word_rest n word.0 32 one (hex_word word.1 ++ 10 ∷ behind) (sym e ∙ is ∙ word-is word.0 word.1 behind))

-- ---- lists

behind_heading : (name front text behind : List ℕ) (count : ℕ) → front ≡ name ++ codes " " → text ≡ front ++ (decimal count ++ 10 ∷ behind)
    → text ≡ heading name count ++ behind
behind_heading name front text behind count same e = e ∙ ap (λ (t : List ℕ). t ++ (decimal count ++ 10 ∷ behind)) same ∙ sym (heading-is name count behind)

pub list_found : (kind : ListKind) (count : ℕ) (front text behind : List ℕ) (pairs : List (ℕ × ℕ)) (rest : List ℕ) → front ≡ name_of kind ++ codes " "
    → IsNumber count
    → text ≡ front ++ (decimal count ++ 10 ∷ behind) → ArePairsRead kind count behind pairs rest → IsListRead kind text pairs rest
list_found kind count front text behind pairs rest name small e read =
    let same : length pairs ≡ count = read.long in
    record {
      each = read.each;
      count = subst IsNumber (sym same) small;
      parts = behind_heading (name_of kind) front text behind count name e ∙ ap (λ (t : List ℕ). heading (name_of kind) count ++ t) read.parts
          ∙ sym (append_assoc (heading (name_of kind) count) (flat_map (line_of kind) pairs) rest)
          ∙ ap (λ (n : ℕ). (heading (name_of kind) n ++ flat_map (line_of kind) pairs) ++ rest) (sym same);
    }

pub list_fault : (kind : ListKind) (count first : ℕ) (front text behind : List ℕ) (fault : TextErr) → front ≡ name_of kind ++ codes " " → IsNumber count
    → text ≡ front ++ (decimal count ++ 10 ∷ behind)
    → IsSyntaxFault (IsFaultInLines (IsLineOf kind) (line_of kind) count (first + 1) behind) fault
    → IsSyntaxFault (IsFaultInList (IsLineOf kind) (line_of kind) (name_of kind) first text) fault
list_fault kind count first front text behind (Syntax at) name small e is =
    list_line count behind small (behind_heading (name_of kind) front text behind count name e) is
list_fault kind count first front text behind (Image f) name small e is = is
list_fault kind count first front text behind (Range at) name small e is = is
list_fault kind count first front text behind NoMemory name small e is = tt

-- ---- there are as many bytes as lines, at least

line_some : (kind : ListKind) (pair : ℕ × ℕ) → 1 ≤ length (line_of kind pair)
line_some Runs pair = omega (arith, length-append (decimal pair.0) (32 ∷ (decimal pair.1 ++ 10 ∷ [])))
line_some Prints pair = omega (arith, length-append (decimal pair.0) (32 ∷ (hex_word pair.1 ++ 10 ∷ [])))
line_some Memory pair = omega (arith, length-append (hex_word pair.0) (32 ∷ (hex_word pair.1 ++ 10 ∷ [])))

lines_long : (kind : ListKind) (pairs : List (ℕ × ℕ)) → length pairs ≤ length (flat_map (line_of kind) pairs)
lines_long kind [] = omega arith
lines_long kind (pair ∷ pairs) = omega (arith, line_some kind pair, lines_long kind pairs, length-append (line_of kind pair) (flat_map (line_of kind) pairs))

pub pairs_room : (kind : ListKind) (text rest : List ℕ) (pairs : List (ℕ × ℕ)) → text ≡ flat_map (line_of kind) pairs ++ rest
    → length pairs + length rest ≤ length text
pairs_room kind text rest pairs e = omega (arith, ap length e, length-append (flat_map (line_of kind) pairs) rest, lines_long kind pairs)

pub list_room : (kind : ListKind) (text : List ℕ) (pairs : List (ℕ × ℕ)) (rest : List ℕ) → IsListRead kind text pairs rest
    → length pairs + 1 + length rest ≤ length text
list_room kind text pairs rest read =
    let name = name_of kind in
    let number = decimal (length pairs) in
    let parts : length text ≡ length (list_text kind pairs) + length rest = ap length read.parts ∙ length-append (list_text kind pairs) rest in
    let list : length (list_text kind pairs) ≡ length (heading name (length pairs)) + length (flat_map (line_of kind) pairs) =
    length-append (heading name (length pairs)) (flat_map (line_of kind) pairs) in
    let head : length (heading name (length pairs)) ≡ length name + length (32 ∷ (number ++ 10 ∷ [])) = length-append name (32 ∷ (number ++ 10 ∷ [])) in
    omega (arith, lines_long kind pairs)

pub shorter : (text front rest : List ℕ) (n : ℕ) → text ≡ front ++ (decimal n ++ 10 ∷ rest) → length rest < length text
shorter text front rest n e = omega (arith, ap length e, length-append front (decimal n ++ 10 ∷ rest), length-append (decimal n) (10 ∷ rest))
