-- Spans that are walked one behind the other: each goes on where the one before it ends.
use Rattle.std.proofs.Common.{◌≡◌, ℕ, ◌+◌, ◌*◌, ◌≤◌, ◌<◌, nat_lt, Bool, true, false, cond, Option, Some, None, Result, Ok, List, [], ◌∷◌, ◌++◌, length, refl, sym, ap, subst, ◌∙◌, append_assoc, arith}
use Rattle.std.proofs.Math.Seq.{get_or-append_seam}
use Rattle.std.proofs.lemmas.Bool.{lt-ltb, le-ltb}
use Rattle.std.proofs.lemmas.Nat.{mul-le}
use Rattle.std.proofs.lemmas.List.{length-append, length_push, take_all}
use Rattle.std.proofs.lemmas.Option.{slice_get_read}
use Rattle.alw_num.specs.declared.memory.NoMemory.{NoMemory}
use Rattle.alw_msg.specs.declared.events.Entry.{Entry}
use Rattle.alw_image.specs.declared.parts.Parts.{Parts}
use Rattle.alw_image.specs.Images.{node_count}
use Rattle.alw_image.specs.Parameters.{Parameters}
use Rattle.alw_model.specs.Machine.{IsLegal}
use Rattle.alw_merge.specs.declared.spans.Span.{Span}
use Rattle.alw_merge.specs.declared.walks.Walked.{Walked}
use Rattle.alw_merge.specs.Joins.{JournalIsWalked}
use Rattle.alw_merge.specs.Spans.{place_of, end_of, bound, IsAtMost, MovesAreWithin, IsSpan, AreSpans, WalkIsBegun, IsWalkedOn, IsWalkedTo, told_in}
use Rattle.alw_merge.proofs.Spanning.{place_fits, place_before, place_start}
use Rattle.alw_merge.proofs.Moving.{moves_within, walked_on, walked_begins}

module _ {image : Parts} {parameters : Parameters} {journal : List Entry} (legal : IsLegal image parameters journal) {low : ℕ} {high : Option ℕ} (bounds : IsAtMost low high) {span : Span}
    (is : IsSpan image parameters journal low high span) where
  -- a span moves between nodes that exist
  pub span_within : {nodes : ℕ} → nodes ≡ node_count image → MovesAreWithin nodes span.moves.items
  span_within {nodes} count = subst (λ (n : ℕ). MovesAreWithin n span.moves.items) (sym count) (subst (MovesAreWithin (node_count image)) (sym is.moves_are)
      (moves_within image parameters journal legal (place_of low journal) (end_of high journal) (place_before low high journal bounds)))

  -- it has been walked besides
  pub span_walked : {walked more : Walked} → IsWalkedTo image parameters journal (place_of low journal) walked → IsWalkedOn walked span more → IsWalkedTo image parameters journal (end_of high journal) more
  span_walked {walked} {more} so_far on =
      walked_on image parameters journal (place_of low journal) (end_of high journal) walked span more legal (place_before low high journal bounds) (ends high) so_far is.entries_are is.moves_are is.told_is on
    where
      ends : (high : Option ℕ) → end_of high journal ≤ length journal
      ends None = omega arith
      ends (Some stamp) = place_fits stamp journal

-- ---- spans of one width

-- the k-th of so many spans begins no later than the next
pub bound_next : (count width k : ℕ) → IsAtMost (k * width) (bound count width (k + 1))
bound_next count width k = by_test (nat_lt (k + 1) count)
  where
    by_test : (b : Bool) → IsAtMost (k * width) (cond b (Some ((k + 1) * width)) None)
    by_test true = mul-le k width (k + 1) width (omega arith) (omega arith)
    by_test false = tt

-- it begins at its stamp
bound_is : (count width k : ℕ) → k < count → bound count width k ≡ Some (k * width)
bound_is count width k here = ap (λ (b : Bool). cond b (Some (k * width)) None) (lt-ltb k count here)

-- the last goes on to the end
bound_last : (count width k : ℕ) → count ≤ k → bound count width k ≡ None
bound_last count width k past = ap (λ (b : Bool). cond b (Some (k * width)) None) (le-ltb k count past)

-- all is one span
module _ {image : Parts} {parameters : Parameters} {journal : List Entry} (legal : IsLegal image parameters journal) {begun : Walked} {nodes : ℕ} (nodes_are : nodes ≡ node_count image) (is_begun : WalkIsBegun nodes begun)
    {span : Span} (is : IsSpan image parameters journal 0 None span) where
  pub whole_within : MovesAreWithin begun.links.nodes span.moves.items
  whole_within = span_within legal {low = 0} {high = None} tt is (is_begun.nodes_are ∙ nodes_are)

  pub whole_walked : {more : Walked} → IsWalkedOn begun span more → IsWalkedTo image parameters journal (length journal) more
  whole_walked {more} on = span_walked legal {low = 0} {high = None} tt is (subst (λ (i : ℕ). IsWalkedTo image parameters journal i begun) (sym (place_start journal))
      (walked_begins image parameters journal begun (subst (λ (n : ℕ). WalkIsBegun n begun) nodes_are is_begun))) on

-- all has been walked
pub all_walked : {image : Parts} {parameters : Parameters} {journal : List Entry} {walked : Walked} → IsWalkedTo image parameters journal (length journal) walked
    → (walked.journal ≡ journal) × JournalIsWalked image parameters journal walked.links (told_in walked)
all_walked {image} {parameters} {journal} {walked} is =
    let all = take_all (length journal) journal (omega arith) in
    (is.entries_are ∙ all, subst (λ (entries : List Entry). JournalIsWalked image parameters entries walked.links (told_in walked)) all is.walked_is)

-- ---- spans of one width, one by one

-- spans of one width, of which some have been walked and others are left
pub record AreUnderWay (image : Parts) (parameters : Parameters) (journal : List Entry) (count width : ℕ) (before left : List (Result Span NoMemory)) (walked : Walked) : Type 0 where
  pub are : AreSpans image parameters journal count width (before ++ left)
  pub walked_is : IsWalkedTo image parameters journal (end_of (bound count width (length before)) journal) walked

module _ {image : Parts} {parameters : Parameters} {journal : List Entry} {count width : ℕ} where
  -- none has been walked yet
  pub begins : 1 ≤ count → {spans left : List (Result Span NoMemory)} → AreSpans image parameters journal count width spans → left ≡ spans → {nodes : ℕ} → nodes ≡ node_count image
      → {walked : Walked} → WalkIsBegun nodes walked → AreUnderWay image parameters journal count width [] left walked
  begins some are all nodes_are {walked} begun =
      let start : end_of (bound count width 0) journal ≡ 0 = ap (λ (begin : Option ℕ). end_of begin journal) (bound_is count width 0 some) ∙ (ap (λ (stamp : ℕ). place_of stamp journal) (omega arith) ∙ place_start journal) in
      record {
        are = subst (AreSpans image parameters journal count width) (sym all) are;
        walked_is = subst (λ (i : ℕ). IsWalkedTo image parameters journal i walked) (sym start)
            (walked_begins image parameters journal walked (subst (λ (n : ℕ). WalkIsBegun n walked) nodes_are begun));
      }

  module _ {before left : List (Result Span NoMemory)} {walked : Walked} (so_far : AreUnderWay image parameters journal count width before left walked) where
    -- all have been walked
    pub ends : length left ≡ 0 → (walked.journal ≡ journal) × JournalIsWalked image parameters journal walked.links (told_in walked)
    ends none =
        let past : count ≤ length before = omega (arith, none, length-append before left, so_far.are.count_is) in
        all_walked (subst (λ (begin : Option ℕ). IsWalkedTo image parameters journal (end_of begin journal) walked) (bound_last count width (length before) past) so_far.walked_is)

    module _ (legal : IsLegal image parameters journal) {one : Result Span NoMemory} {rest : List (Result Span NoMemory)} (next : left ≡ one ∷ rest) {span : Span} (ok : one ≡ Ok span) where
      are : AreSpans image parameters journal count width (before ++ one ∷ rest)
      are = subst (λ (spans : List (Result Span NoMemory)). AreSpans image parameters journal count width (before ++ spans)) next so_far.are

      within : length before < length (before ++ one ∷ rest)
      within = omega (arith, length-append before (one ∷ rest))

      is : IsSpan image parameters journal (length before * width) (bound count width (length before + 1)) span
      is = are.each (length before) span (slice_get_read (before ++ one ∷ rest) _ (length before) (Ok span) refl within (sym (get_or-append_seam before one rest (Ok span) ∙ ok)))

      -- the next span moves between nodes that exist
      pub next_within : MovesAreWithin walked.links.nodes span.moves.items
      next_within = span_within legal (bound_next count width (length before)) is so_far.walked_is.walked_is.nodes_are

      -- it has been walked besides
      pub goes_on : {more : Walked} → IsWalkedOn walked span more → AreUnderWay image parameters journal count width (before ++ one ∷ []) rest more
      goes_on {more} on = record {
        are = subst (AreSpans image parameters journal count width) (sym (append_assoc before (one ∷ []) rest)) are;
        walked_is = subst (λ (k : ℕ). IsWalkedTo image parameters journal (end_of (bound count width k) journal) more) (sym (length_push before one))
            (span_walked legal (bound_next count width (length before)) is (subst (λ (begin : Option ℕ). IsWalkedTo image parameters journal (end_of begin journal) walked)
            (bound_is count width (length before) (omega (arith, within, are.count_is))) so_far.walked_is) on);
      }
