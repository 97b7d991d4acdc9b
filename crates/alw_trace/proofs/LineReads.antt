-- Lines of one kind, read one by one behind a heading with their number; and the end of a text.
use Rattle.std.proofs.Common.{◌≡◌, ◌≢◌, ℕ, ◌+◌, ◌<◌, ◌==◌, false, List, ◌∷◌, ◌++◌, length, codes, refl, sym, ap, subst, ◌∙◌, append_assoc}
use Rattle.std.specs.List.{flat_map, AllByRecursion}
use Rattle.std.specs.Fmt.{decimal}
use Rattle.std.proofs.lemmas.Bool.{true≢false}
use Rattle.alw_msg.specs.declared.events.Entry.{Entry}
use Rattle.alw_image.specs.Parameters.{Parameters}
use Rattle.alw_report.specs.Reports.{heading, params_line}
use Rattle.alw_trace.specs.declared.faults.TextErr.{TextErr}
use Rattle.alw_trace.specs.declared.faults.TextErr.TheVariants.{Syntax, Image, Range, NoMemory}
use Rattle.alw_trace.specs.Texts.{entry_line, entries_text, image_text, trace_title}
use Rattle.alw_trace.specs.Lines.{IsNumber, IsEntry, HasThree, AreBytes, Lacks, IsFaultInLines, IsFaultInList, IsFaultInImage, IsFaultAtEnd, IsFrontFault, SaysFront, IsTraceFault, TraceLines, trace_lines, behind_image, behind_entries, list_line, image_of_front, params_of_front, entries_of_front, front_of_trace, end_of_trace, goes_on}
use Rattle.alw_trace.specs.Raw.{IsSyntaxFault, AreEntriesRead, AreLinesRead, IsImageRead, IsOfTrace}
use Rattle.alw_trace.proofs.LineTexts.{heading-is}

-- lines are read, and the rest is to come
pub record LinesSoFar {X : Type 0} (IsX : X → Type 0) (line : X → List ℕ) (text : List ℕ) (read : List X) (rest : List ℕ) : Type 0 where
  pub each : AllByRecursion IsX read
  pub parts : text ≡ flat_map line read ++ rest

pub no_line : {X : Type 0} (IsX : X → Type 0) (line : X → List ℕ) (count first : ℕ) (text : List ℕ) (read : List X) (rest : List ℕ)
    → LinesSoFar IsX line text read rest → length read < count → Lacks IsX line rest
    → IsFaultInLines IsX line count first text (first + length read)
no_line IsX line count first text read rest so_far few lacks =
    record { read = read; rest = rest; each = so_far.each; fewer = few; parts = so_far.parts; lacks = lacks; place = refl }

-- ---- entries

pub entries_found : (count : ℕ) (text behind : List ℕ) (journal : List Entry) (rest : List ℕ) → IsNumber count
    → text ≡ codes "entries " ++ (decimal count ++ 10 ∷ behind) → AreLinesRead count behind journal rest
    → AreEntriesRead text journal rest
unfolding entries_text
entries_found count text behind journal rest small e read =
    let same : length journal ≡ count = read.long in
    record {
      each = read.each;
      count = subst IsNumber (sym same) small;
      parts = e ∙ sym (heading-is (codes "entries") count behind) ∙ ap (λ (t : List ℕ). heading (codes "entries") count ++ t) read.parts
          ∙ sym (append_assoc (heading (codes "entries") count) (flat_map entry_line journal) rest)
          ∙ ap (λ (n : ℕ). (heading (codes "entries") n ++ flat_map entry_line journal) ++ rest) (sym same);
    }

pub entries_fault : (count first : ℕ) (text behind : List ℕ) (fault : TextErr) → IsNumber count → text ≡ codes "entries " ++ (decimal count ++ 10 ∷ behind)
    → IsSyntaxFault (IsFaultInLines IsEntry entry_line count (first + 1) behind) fault
    → IsSyntaxFault (IsFaultInList IsEntry entry_line (codes "entries") first text) fault
entries_fault count first text behind (Syntax at) small e is = list_line count behind small (e ∙ sym (heading-is (codes "entries") count behind)) is
entries_fault count first text behind (Image f) small e is = is
entries_fault count first text behind (Range at) small e is = is
entries_fault count first text behind NoMemory small e is = tt

-- ---- a trace

-- what of a trace is read before its entries
pub record IsHead (title text image : List ℕ) (params : Parameters) (rest : List ℕ) : Type 0 where
  pub bytes : AreBytes image
  pub three : HasThree params
  pub parts : text ≡ title ++ (image_text image ++ (params_line params ++ rest))

module _ (title text one : List ℕ) (e : text ≡ title ++ one) where
  pub image_lacks : (fault : TextErr) → IsSyntaxFault (IsFaultInImage one) fault → IsSyntaxFault (IsFrontFault title text) fault
  image_lacks (Syntax at) is = image_of_front one e is
  image_lacks (Image f) is = is
  image_lacks (Range at) is = is
  image_lacks NoMemory is = tt

  module _ (image two : List ℕ) (read : IsImageRead one image two) where
    pub params_lacks : (line : ℕ) → line ≡ behind_image image → Lacks HasThree params_line two → IsFrontFault title text line
    params_lacks line here lacks = params_of_front image two read.bytes (e ∙ ap (λ (t : List ℕ). title ++ t) read.parts) lacks here

    pub head : (params : Parameters) (rest : List ℕ) → HasThree params → two ≡ params_line params ++ rest → IsHead title text image params rest
    head params rest fits line = record {
      bytes = read.bytes;
      three = fits;
      parts = e ∙ ap (λ (t : List ℕ). title ++ t) (read.parts ∙ ap (λ (t : List ℕ). image_text image ++ t) line);
    }

module _ (title text image : List ℕ) (params : Parameters) (behind : List ℕ) (h : IsHead title text image params behind) where
  pub entries_lack : (line : ℕ) (fault : TextErr) → line ≡ behind_image image
      → IsSyntaxFault (IsFaultInList IsEntry entry_line (codes "entries") (line + 1) behind) fault → IsSyntaxFault (IsFrontFault title text) fault
  entries_lack line (Syntax at) here is =
      entries_of_front image params behind h.bytes h.three h.parts (subst (λ (n : ℕ). IsFaultInList IsEntry entry_line (codes "entries") (n + 1) behind at) here is)
  entries_lack line (Image f) here is = is
  entries_lack line (Range at) here is = is
  entries_lack line NoMemory here is = tt

  pub front : (journal : List Entry) (rest : List ℕ) → AreEntriesRead behind journal rest
      → SaysFront title text (record { image = image; params = params; journal = journal }) rest
  front journal rest read = record {
    form = record { bytes = h.bytes.0; size = h.bytes.1; params = h.three; entries = read.each; count = read.count };
    text_is = h.parts ∙ ap (λ (t : List ℕ). title ++ (image_text image ++ (params_line params ++ t))) read.parts;
  }

-- no front of a trace
pub front_lacks : (text : List ℕ) (fault : TextErr) → IsSyntaxFault (IsFrontFault (codes "ALEWIFE TRACE 1\n") text) fault → IsSyntaxFault (IsTraceFault text) fault
unfolding trace_title
front_lacks text (Syntax at) is = front_of_trace is
front_lacks text (Image f) is = is
front_lacks text (Range at) is = is
front_lacks text NoMemory is = tt

pub end_lacks : (text : List ℕ) (lines : TraceLines) (rest : List ℕ) (last : ℕ) (fault : TextErr) → SaysFront (codes "ALEWIFE TRACE 1\n") text lines rest
    → last ≡ behind_entries lines → IsSyntaxFault (IsFaultAtEnd last rest) fault → IsSyntaxFault (IsTraceFault text) fault
unfolding trace_title
end_lacks text lines rest last (Syntax at) says place is = end_of_trace lines rest says (subst (λ (n : ℕ). IsFaultAtEnd n rest at) place is)
end_lacks text lines rest last (Image f) says place is = is
end_lacks text lines rest last (Range at) says place is = is
end_lacks text lines rest last NoMemory says place is = tt

pub whole : (text : List ℕ) (lines : TraceLines) (rest : List ℕ) → SaysFront (codes "ALEWIFE TRACE 1\n") text lines rest → rest ≡ codes "end\n"
    → IsOfTrace text lines
unfolding trace_lines trace_title
whole text lines rest says e = record {
  form = says.form;
  text_is = says.text_is
      ∙ ap (λ (t : List ℕ). trace_title ++ (image_text lines.image ++ (params_line lines.params ++ (entries_text lines.journal ++ t)))) e;
}

pub more_behind : (text rest : List ℕ) (last : ℕ) → text ≡ codes "end\n" ++ rest → (length rest == 0) ≡ false → IsFaultAtEnd last text (last + 1)
more_behind text rest last e some = goes_on rest e (λ empty. true≢false (sym (ap (λ (t : List ℕ). length t == 0) empty) ∙ some)) refl
