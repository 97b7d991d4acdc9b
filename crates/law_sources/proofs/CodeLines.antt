-- The lines of code words.
use Rattle.std.proofs.Common.{◌≡◌, ◌⊎◌, inl, inr, ℕ, ◌+◌, ◌*◌, ◌^◌, ◌<◌, ◌≤◌, Bool, true, false, not, ◌&&◌, nat_le, List, [], ◌∷◌, ◌++◌, map, length, Some, None, refl, sym, ap, ◌∙◌, append_assoc, arith}
use Rattle.std.proofs.lemmas.Bool.{le-leb, false≢true}
use Rattle.std.proofs.lemmas.List.{append-nil, map-append}
use Rattle.std.specs.List.{AllByRecursion}
use Rattle.alw_num.specs.declared.addresses.Width.TheVariants.{Word}
use Rattle.alw_image.specs.declared.parts.Parts.{Parts}
use Rattle.alw_image.specs.Numbers.{IsWord}
use Rattle.sparc_asm.specs.declared.values.Sum.{Sum}
use Rattle.sparc_asm.specs.declared.statements.Signed.{Signed}
use Rattle.sparc_asm.specs.declared.statements.Statement.{Statement}
use Rattle.sparc_asm.specs.declared.statements.Statement.TheVariants as statement
use Rattle.sparc_asm.specs.declared.statements.Line.{Line}
use Rattle.sparc_asm.specs.Values.{above, below, modulo}
use Rattle.sparc_asm.specs.Encoding.{coded}
use Rattle.sparc_asm.specs.Words.{coded_words}
use Rattle.sparc_place.specs.declared.cursors.Position.{Position}
use Rattle.sparc_place.specs.Places.{Layout, here_of, is_unknown, statement_again, fits, is_aligned, overlaps, laid, code_behind, place_of, labelled}
use Rattle.sparc_assemble.specs.Assembly.{Names, Filled, is_datum, value_fault, coded_fault, with_code, filled}
use Rattle.law_sources.specs.Parsed.{number, line_of, word_read, statement_read, code_read}
use Rattle.law_sources.proofs.Encoded.{is_plain, IsEncoded, statement_encoded}
use Rattle.law_sources.proofs.Steps.{no_names, HasNumber, is_number, no_fault, Step, LinesGo, goes}

-- the layout of a machine with these sizes, where no line defines a name
abbrev pub laid_so : Parts → Bool → Bool → ℕ → ℕ → (ℕ → Bool) → (ℕ → ℕ → Bool) → (ℕ → Bool) → Layout
laid_so p begun in_data code shared written started always = record {
  width = Some p.width;
  height = Some p.height;
  contexts = Some p.contexts;
  per_node = Some p.per_node;
  begun = begun;
  names = no_names;
  in_data = in_data;
  code = code;
  shared = shared;
  written = written;
  started = started;
  always = always;
}

-- ---- a statement of one instruction

-- what such a statement is in the second and the third pass
record IsCode (s : Statement) : Type 0 where
  known : (l : Layout) → is_unknown l s ≡ false
  once : (l : Layout) → statement_again l None s ≡ false
  fits : (l : Layout) → fits l s ≡ (not l.in_data && nat_le (l.code + 1) 65536)
  aligned : (l : Layout) → is_aligned l s ≡ true
  apart : (l : Layout) → overlaps l s ≡ false
  laid : (l m : Layout) → laid l s m ≡ code_behind 1 m
  place : (l : Layout) → place_of l (Some s) ≡ (let p : Position = record { here = here_of l; in_data = l.in_data; node = 0; slot = 0 } in p)
  valued : (names : Names) (count : ℕ) (p : Position) → value_fault names count p s ≡ coded_fault (coded names p.here s)
  filled : (names : Names) (n : ℕ) (p : Position) (f : Filled) → filled names n p s f ≡ with_code n (coded_words (coded names p.here s)) f

is_code : (s : Statement) → is_plain s ≡ true → IsCode s
is_code (statement.Arith op3 rs1 o rd) h = record { known = λ l. refl; once = λ l. refl; fits = λ l. refl; aligned = λ l. refl; apart = λ l. refl; laid = λ l m. refl; place = λ l. refl; valued = λ names count p. refl; filled = λ names n p f. refl }
is_code (statement.Shift op3 rs1 o rd) h = record { known = λ l. refl; once = λ l. refl; fits = λ l. refl; aligned = λ l. refl; apart = λ l. refl; laid = λ l m. refl; place = λ l. refl; valued = λ names count p. refl; filled = λ names n p f. refl }
is_code (statement.ReadY rd) h = record { known = λ l. refl; once = λ l. refl; fits = λ l. refl; aligned = λ l. refl; apart = λ l. refl; laid = λ l m. refl; place = λ l. refl; valued = λ names count p. refl; filled = λ names n p f. refl }
is_code (statement.WriteY rs1 o) h = record { known = λ l. refl; once = λ l. refl; fits = λ l. refl; aligned = λ l. refl; apart = λ l. refl; laid = λ l m. refl; place = λ l. refl; valued = λ names count p. refl; filled = λ names n p f. refl }
is_code (statement.Jmpl address rd) h = record { known = λ l. refl; once = λ l. refl; fits = λ l. refl; aligned = λ l. refl; apart = λ l. refl; laid = λ l m. refl; place = λ l. refl; valued = λ names count p. refl; filled = λ names n p f. refl }
is_code (statement.Call target) h = record { known = λ l. refl; once = λ l. refl; fits = λ l. refl; aligned = λ l. refl; apart = λ l. refl; laid = λ l m. refl; place = λ l. refl; valued = λ names count p. refl; filled = λ names n p f. refl }
is_code (statement.Branch annul condition target) h = record { known = λ l. refl; once = λ l. refl; fits = λ l. refl; aligned = λ l. refl; apart = λ l. refl; laid = λ l m. refl; place = λ l. refl; valued = λ names count p. refl; filled = λ names n p f. refl }
is_code (statement.Trap condition address) h = record { known = λ l. refl; once = λ l. refl; fits = λ l. refl; aligned = λ l. refl; apart = λ l. refl; laid = λ l m. refl; place = λ l. refl; valued = λ names count p. refl; filled = λ names n p f. refl }
is_code (statement.Sethi value rd) h = record { known = λ l. refl; once = λ l. refl; fits = λ l. refl; aligned = λ l. refl; apart = λ l. refl; laid = λ l m. refl; place = λ l. refl; valued = λ names count p. refl; filled = λ names n p f. refl }
is_code (statement.SethiHigh value rd) h = record { known = λ l. refl; once = λ l. refl; fits = λ l. refl; aligned = λ l. refl; apart = λ l. refl; laid = λ l m. refl; place = λ l. refl; valued = λ names count p. refl; filled = λ names n p f. refl }
is_code (statement.Memory op3 address rd) h = record { known = λ l. refl; once = λ l. refl; fits = λ l. refl; aligned = λ l. refl; apart = λ l. refl; laid = λ l m. refl; place = λ l. refl; valued = λ names count p. refl; filled = λ names n p f. refl }
is_code _ h = absurd (false≢true h)

pub within_word : (word : ℕ) (v : Sum) → above v ≡ word → below v ≡ 0 → word < 2 ^ 32 → is_datum Word v ≡ true
within_word word v high low small = rw (high, low) (le-leb word 4294967295 (omega arith))

words_behind : (old : List (ℕ × ℕ)) (n word : ℕ) (rest : List ℕ) → map (λ w. w.0) (old ++ (word, n) ∷ []) ++ rest ≡ map (λ w. w.0) old ++ word ∷ rest
words_behind old n word rest = ap (λ xs. xs ++ rest) (map-append (λ w. w.0) old ((word, n) ∷ [])) ∙ append_assoc (map (λ w. w.0) old) (word ∷ []) rest

module _ (p : Parts) (written : ℕ → Bool) (started : ℕ → ℕ → Bool) (always : ℕ → Bool) where
  abbrev in_code : Bool → ℕ → Layout
  in_code begun c = laid_so p begun false c 0 written started always

  instr_step : (count n c word : ℕ) (begun : Bool) (f : Filled) (s : Statement) → c + 1 ≤ 65536 → IsEncoded no_names (4 * c) word s → Step count n (line_of s) (in_code begun c) (in_code true (c + 1)) f (with_code n (word ∷ []) f)
  instr_step count n c word begun f s room e =
      let is = is_code s e.plain in
      let l : Layout = in_code begun c in
      let at : Position = record { here = 4 * c; in_data = false; node = 0; slot = 0 } in
      let inside : fits l s ≡ true = is.fits l ∙ le-leb _ _ room in
      record {
        placed = no_fault l s (is.known l) (is.once l) inside (is.aligned l) (is.apart l);
        valued = ap (λ (q : Position). value_fault no_names count q s) (is.place l) ∙ (is.valued no_names count at ∙ ap coded_fault e.coded);
        laid = is.laid l (labelled None l);
        filled = ap (λ (q : Position). filled no_names n q s f) (is.place l) ∙ (is.filled no_names n at f ∙ (ap (λ r. with_code n (coded_words r) f) e.coded ∙ ap (λ w. with_code n (w ∷ []) f) e.word_is));
      }

  -- the word as data
  data_step : (count n c word : ℕ) (begun : Bool) (f : Filled) → c + 1 ≤ 65536 → word < 2 ^ 32 → Step count n (line_of (word_read word)) (in_code begun c) (in_code true (c + 1)) f (with_code n (word ∷ []) f)
  data_step count n c word begun f room small = by_value (number word) (is_number word)
    where
      by_value : (e : List Signed) → HasNumber e word → Step count n (line_of (statement.Data Word (e ∷ []))) (in_code begun c) (in_code true (c + 1)) f (with_code n (word ∷ []) f)
      by_value e is =
          let inside : nat_le (c + 1) 65536 ≡ true = le-leb _ _ room in
          let within : is_datum Word is.value ≡ true = within_word word is.value is.above is.below small in
          let same : modulo (2 ^ 32) is.value ≡ word = omega (arith, is.above, is.below) in
          record {
            placed = rw inside refl;
            valued = rw (is.is (4 * c), within) refl;
            laid = refl;
            filled = rw (is.is (4 * c), same) refl;
          }

  word_step : (count n c address word : ℕ) (begun : Bool) (f : Filled) → address ≡ 4 * c → c + 1 ≤ 65536 → word < 2 ^ 32 → Step count n (line_of (statement_read address word)) (in_code begun c) (in_code true (c + 1)) f (with_code n (word ∷ []) f)
  word_step count n c address word begun f stands room small = rw stands (go (statement_read (4 * c) word) (statement_encoded no_names (4 * c) word small (omega arith) (omega arith)))
    where
      go : (s : Statement) → IsEncoded no_names (4 * c) word s ⊎ (s ≡ word_read word) → Step count n (line_of s) (in_code begun c) (in_code true (c + 1)) f (with_code n (word ∷ []) f)
      go s (inl e) = instr_step count n c word begun f s room e
      go s (inr same) = rw same (data_step count n c word begun f room small)

  -- behind lines of code words, where so many stand: what they fill in has these words, and all else is as before
  pub code_goes : (count number c total address : ℕ) (words : List ℕ) (rest : List Line) (begun : Bool) (f : Filled) (Good : Layout → Filled → Type 0)
      → address ≡ 4 * c → c + length words ≡ total → total ≤ 65536 → AllByRecursion IsWord words
      → ((b : Bool) (n : ℕ) (g : Filled) → map (λ w. w.0) g.words ≡ map (λ w. w.0) f.words ++ words → g.memory ≡ f.memory → g.starts ≡ f.starts → LinesGo count n rest (in_code b total) g Good)
      → LinesGo count number (code_read address words ++ rest) (in_code begun c) f Good
  code_goes count number c total address [] rest begun f Good stands sum room small more =
      let all : c ≡ total = omega arith in
      rw all (more begun number f (sym (append-nil (map (λ w. w.0) f.words))) refl refl)
  code_goes count number c total address (word ∷ words) rest begun f Good stands sum room small more =
      goes count number (line_of (statement_read address word)) (code_read (address + 4) words ++ rest) (in_code begun c) (in_code true (c + 1)) f (with_code number (word ∷ []) f) Good
      (word_step count number c address word begun f stands (omega arith) small.0)
      (code_goes count (number + 1) (c + 1) total (address + 4) words rest true (with_code number (word ∷ []) f) Good (omega arith) (omega arith) room small.1
      (λ b n g same memory starts. more b n g (same ∙ words_behind f.words number word words) memory starts))
