-- Bytes read from lines of digits: a line, and lines of 32.
use Rattle.std.proofs.Common.{◌≡◌, ◌≢◌, ℕ, zero, suc, ◌+◌, ◌-◌, ◌*◌, ◌/◌, ◌%◌, ◌<◌, ◌≤◌, List, [], ◌∷◌, ◌++◌, length, take, drop, min, codes, refl, sym, ap, subst, ◌∙◌, arith, append_assoc, length-append, length-drop}
use Rattle.std.specs.Fmt.{decimal}
use Rattle.std.specs.List.{flat_map, AllByRecursion}
use Rattle.std.proofs.lemmas.List.{append-nil, take_all, take-append-le, drop-append-le}
use Rattle.alw_trace.specs.declared.faults.TextErr.{TextErr}
use Rattle.alw_trace.specs.declared.faults.TextErr.TheVariants.{Syntax, Image, Range, NoMemory}
use Rattle.alw_report.specs.Reports.{heading}
use Rattle.alw_trace.specs.Texts.{byte_digits, hex_line, hex_lines, line_number, image_text}
use Rattle.alw_trace.specs.Lines.{IsNumber, IsByte, IsRow, Lacks, IsFaultInRows, IsFaultInImage, image_row}
use Rattle.alw_trace.specs.Raw.{IsSyntaxFault, IsRowRead, AreRowsRead, IsImageRead}
use Rattle.alw_trace.proofs.LineTexts.{heading-is}
use Rattle.alw_num.proofs.Alls.{all_append}

-- ---- a line

-- so many bytes of a line are read, which were put at the end of others
pub record RowSoFar (n : ℕ) (before after text rest : List ℕ) : Type 0 where
  pub read : List ℕ
  pub is_row : IsRow n read
  pub grown : after ≡ before ++ read
  pub parts : text ≡ flat_map byte_digits read ++ rest

line-is : (row behind : List ℕ) → hex_line row ++ behind ≡ flat_map byte_digits row ++ 10 ∷ behind
line-is row behind = append_assoc (flat_map byte_digits row) (10 ∷ []) behind

-- no line of so many bytes goes on where no byte stands
no_more : (read rest row behind : List ℕ) (count : ℕ) → length read < count → Lacks IsByte byte_digits rest → IsRow count row
    → flat_map byte_digits read ++ rest ≢ flat_map byte_digits row ++ 10 ∷ behind
no_more read rest [] behind count few lacks is e = absurd (omega (arith, is.0))
no_more [] rest (byte ∷ row) behind count few lacks is e = lacks byte (flat_map byte_digits row ++ 10 ∷ behind) is.1.0 e
no_more (one ∷ read) rest (byte ∷ row) behind count few lacks is e =
    no_more read rest row behind (count - 1) (omega arith) lacks ((let n = is.0 in omega arith), is.1.1) (ap (drop 2) e)

-- nor where no line ends behind its bytes
no_end : (read rest row behind : List ℕ) → length read ≡ length row → ((tail : List ℕ) → rest ≢ 10 ∷ tail)
    → flat_map byte_digits read ++ rest ≢ flat_map byte_digits row ++ 10 ∷ behind
no_end [] rest [] behind long lacks e = lacks behind e
no_end [] rest (byte ∷ row) behind long lacks e = absurd (omega (arith, long))
no_end (one ∷ read) rest [] behind long lacks e = absurd (omega (arith, long))
no_end (one ∷ read) rest (byte ∷ row) behind long lacks e = no_end read rest row behind (omega (arith, long)) lacks (ap (drop 2) e)

pub no_byte : (n count : ℕ) (before after text rest : List ℕ) → RowSoFar n before after text rest → n < count → Lacks IsByte byte_digits rest
    → Lacks (IsRow count) hex_line text
no_byte n count before after text rest so_far few lacks row behind is e =
    no_more so_far.read rest row behind count (omega (arith, so_far.is_row.0)) lacks is (sym so_far.parts ∙ e ∙ line-is row behind)

pub no_feed : (n count : ℕ) (before after text rest : List ℕ) → n ≡ count → RowSoFar n before after text rest → ((tail : List ℕ) → rest ≢ 10 ∷ tail)
    → Lacks (IsRow count) hex_line text
no_feed n count before after text rest all so_far lacks row behind is e =
    no_end so_far.read rest row behind (so_far.is_row.0 ∙ all ∙ sym is.0) lacks (sym so_far.parts ∙ e ∙ line-is row behind)

-- ---- lines

-- lines are read, all of 32 bytes where some are left
pub record RowsSoFar (count : ℕ) (text image rest : List ℕ) : Type 0 where
  pub each : AllByRecursion IsByte image
  pub most : length image ≤ count
  pub full : length image < count → length image % 32 ≡ 0
  pub parts : text ≡ hex_lines (line_number (length image)) image ++ rest

pub rows_begin : (count : ℕ) (text : List ℕ) → RowsSoFar count text [] text
unfolding hex_lines
rows_begin count text = record { each = tt; most = omega arith; full = λ _. refl; parts = refl }

-- a line behind full ones
row_more : (k : ℕ) (image row : List ℕ) → length image ≡ 32 * k → length row ≤ 32 → hex_lines (suc k) (image ++ row) ≡ hex_lines k image ++ hex_line row
unfolding hex_lines
row_more zero [] row long short = append-nil (hex_line (take 32 row)) ∙ ap hex_line (take_all 32 row short)
row_more zero (b ∷ image) row long short = absurd (omega (arith, long))
row_more (suc k) image row long short =
    let some : 32 ≤ length image = omega (arith, long) in
    let less : length (drop 32 image) ≡ 32 * k = omega (arith, length-drop 32 image, long) in
    ap (λ (t : List ℕ). hex_line t ++ hex_lines (suc k) (drop 32 (image ++ row))) (take-append-le 32 image row some)
    ∙ ap (λ (t : List ℕ). hex_line (take 32 image) ++ hex_lines (suc k) t) (drop-append-le 32 image row some)
    ∙ ap (λ (t : List ℕ). hex_line (take 32 image) ++ t) (row_more k (drop 32 image) row less short)
    ∙ sym (append_assoc (hex_line (take 32 image)) (hex_lines k (drop 32 image)) (hex_line row))

pub rows_go_on : (count size : ℕ) (text image grown rest behind : List ℕ) → RowsSoFar count text image rest → length image < count
    → size ≡ min (count - length image) 32 → IsRowRead size image grown rest behind
    → RowsSoFar count text grown behind
rows_go_on count size text image grown rest behind so_far left few read =
    let n = length image in let k = n / 32 in
    let full = so_far.full left in
    let long : length image ≡ 32 * k = omega (arith, full) in
    let row = read.row in
    let some : length row ≡ min (count - n) 32 = read.is_row.0 ∙ few in
    let sum : length grown ≡ n + length row = ap length read.grown ∙ length-append image row in
    let lines : line_number n ≡ k = omega (arith, full) in
    let more : line_number (length grown) ≡ suc k = omega (arith, full, some, sum, left) in
    record {
      each = subst (AllByRecursion IsByte) (sym read.grown) (all_append IsByte image row so_far.each read.is_row.1);
      most = omega (arith, some, sum, left);
      full = λ short. omega (arith, some, sum, short, full);
      parts = so_far.parts ∙ ap (λ (m : ℕ). hex_lines m image ++ rest) lines ∙ ap (λ (t : List ℕ). hex_lines k image ++ t) read.parts
          ∙ sym (append_assoc (hex_lines k image) (hex_line row) behind)
          ∙ ap (λ (t : List ℕ). t ++ behind) (sym (row_more k image row long (omega (arith, some))))
          ∙ ap (λ (t : List ℕ). hex_lines (suc k) t ++ behind) (sym read.grown) ∙ ap (λ (m : ℕ). hex_lines m grown ++ behind) (sym more);
    }

-- ---- behind the heading

pub image_found : (count : ℕ) (text behind image rest : List ℕ) → IsNumber count → text ≡ codes "image " ++ (decimal count ++ 10 ∷ behind)
    → AreRowsRead count behind image rest → IsImageRead text image rest
unfolding image_text
image_found count text behind image rest small e read =
    let same : length image ≡ count = read.is_row.0 in
    record {
      bytes = (read.is_row.1, subst IsNumber (sym same) small);
      parts = e ∙ sym (heading-is (codes "image") count behind) ∙ ap (λ (t : List ℕ). heading (codes "image") count ++ t) read.parts
          ∙ sym (append_assoc (heading (codes "image") count) (hex_lines (line_number count) image) rest)
          ∙ ap (λ (n : ℕ). (heading (codes "image") n ++ hex_lines (line_number n) image) ++ rest) (sym same);
    }

pub image_fault_in : (count : ℕ) (text behind : List ℕ) (fault : TextErr) → IsNumber count → text ≡ codes "image " ++ (decimal count ++ 10 ∷ behind)
    → IsSyntaxFault (IsFaultInRows count 3 behind) fault
    → IsSyntaxFault (IsFaultInImage text) fault
image_fault_in count text behind (Syntax at) small e is = image_row count behind small (e ∙ sym (heading-is (codes "image") count behind)) is
image_fault_in count text behind (Image f) small e is = is
image_fault_in count text behind (Range at) small e is = is
image_fault_in count text behind NoMemory small e is = tt

pub rows_begin_with : (count : ℕ) (text image : List ℕ) → image ≡ [] → RowsSoFar count text image text
rows_begin_with count text image e = subst (λ (t : List ℕ). RowsSoFar count text t text) (sym e) (rows_begin count text)
