-- The front of a trace behind a title, whatever stands behind it, has no line at fault and says one thing.
use Rattle.std.proofs.Common.{◌≡◌, ℕ, ◌+◌, List, ◌++◌, length, codes, refl, sym, subst, ◌∙◌, append_assoc}
use Rattle.std.specs.List.{flat_map, AllByRecursion}
use Rattle.std.proofs.lemmas.List.{append_cancel_left}
use Rattle.alw_msg.specs.declared.events.Entry.{Entry}
use Rattle.alw_image.specs.Parameters.{Parameters}
use Rattle.alw_report.specs.Reports.{heading, params_line}
use Rattle.alw_trace.specs.Texts.{image_text, entry_line, entries_text}
use Rattle.alw_trace.specs.Lines.{IsNumber, AreBytes, HasThree, IsEntry, TraceLines, AreTraceLines, behind_image, IsFaultInList, IsFaultInImage, IsFrontFault, title_of_front, image_of_front, params_of_front, entries_of_front}
use Rattle.alw_trace.proofs.OneLine.{one_list, one_heading, no_fault_in_list, one_image, no_fault_in_image, one_params, one_entry}

-- ---- entries behind their heading

pub entries-is : (journal : List Entry) (u : List ℕ)
    → entries_text journal ++ u ≡ heading (codes "entries") (length journal) ++ (flat_map entry_line journal ++ u)
unfolding entries_text
entries-is journal u = append_assoc (heading (codes "entries") (length journal)) (flat_map entry_line journal) u

pub one_journal : (one other : List Entry) (u v : List ℕ) → AllByRecursion IsEntry one → AllByRecursion IsEntry other → IsNumber (length one)
    → IsNumber (length other) → entries_text one ++ u ≡ entries_text other ++ v → (one ≡ other) × (u ≡ v)
one_journal one other u v are all small few e =
    let head = one_heading (codes "entries") (length one) (length other) (flat_map entry_line one ++ u) (flat_map entry_line other ++ v) small few
    (sym (entries-is one u) ∙ e ∙ entries-is other v) in
    one_list IsEntry entry_line one_entry one other u v are all head.0 head.1

-- ---- the parts of a text

module _ (title : List ℕ) (t : TraceLines) (last : List ℕ) (are : AreTraceLines t) where
  -- what stands behind the image, and behind the title
  abbrev behind_bytes : List ℕ
  behind_bytes = params_line t.params ++ (entries_text t.journal ++ last)

  abbrev pub behind_title : List ℕ
  behind_title = image_text t.image ++ behind_bytes

  pub image_cut : (image rest : List ℕ) → AreBytes image → title ++ behind_title ≡ title ++ (image_text image ++ rest) → (t.image ≡ image) × (behind_bytes ≡ rest)
  image_cut image rest bytes e =
      one_image t.image image behind_bytes rest (are.bytes, are.size) bytes (append_cancel_left title behind_title (image_text image ++ rest) e)

  pub params_cut : (image : List ℕ) (params : Parameters) (rest : List ℕ) → AreBytes image → HasThree params
      → title ++ behind_title ≡ title ++ (image_text image ++ (params_line params ++ rest)) → (t.params ≡ params) × (entries_text t.journal ++ last ≡ rest)
  params_cut image params rest bytes three e =
      one_params t.params params (entries_text t.journal ++ last) rest are.params three (image_cut image (params_line params ++ rest) bytes e).1

  pub journal_cut : (image : List ℕ) (params : Parameters) (journal : List Entry) (rest : List ℕ) → AreBytes image
      → HasThree params → AllByRecursion IsEntry journal → IsNumber (length journal)
      → title ++ behind_title ≡ title ++ (image_text image ++ (params_line params ++ (entries_text journal ++ rest)))
      → (t.journal ≡ journal) × (last ≡ rest)
  journal_cut image params journal rest bytes three each few e =
      one_journal t.journal journal last rest are.entries each are.count few (params_cut image params (entries_text journal ++ rest) bytes three e).1

  -- ---- no line is at fault

  pub no_front_fault : (fault : ℕ) → ¬ IsFrontFault title (title ++ behind_title) fault
  no_front_fault fault (title_of_front lacks place) = lacks behind_title refl
  no_front_fault fault (image_of_front rest e is) =
      no_fault_in_image t.image behind_bytes fault (are.bytes, are.size)
      (subst (λ (r : List ℕ). IsFaultInImage r fault) (sym (append_cancel_left title behind_title rest e)) is)
  no_front_fault fault (params_of_front image rest bytes e lacks place) =
      lacks t.params (entries_text t.journal ++ last) are.params (sym (image_cut image rest bytes e).1)
  no_front_fault fault (entries_of_front image params rest bytes three e is) =
      let cut = params_cut image params rest bytes three e in
      no_fault_in_list IsEntry entry_line (codes "entries") (behind_image image + 1) fault t.journal last one_entry are.entries are.count
      (subst (λ (r : List ℕ). IsFaultInList IsEntry entry_line (codes "entries") (behind_image image + 1) r fault)
      (sym cut.1 ∙ entries-is t.journal last) is)
