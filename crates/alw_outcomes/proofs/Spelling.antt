-- The words of a list, read from its end.
use Rattle.std.proofs.Common.{◌≡◌, ℕ, suc, ◌+◌, ◌<◌, ◌++◌, Some, List, [], ◌∷◌, length, reverse, slice_index_or, sym, ap, ◌∙◌, arith, append_assoc, append-nil}
use Rattle.std.specs.List.{slice_get}
use Rattle.std.proofs.lemmas.List.{reverse-append}
use Rattle.alw_outcomes.specs.declared.pools.Link.{Link}
use Rattle.alw_outcomes.specs.Pools.{with_links, lists_of}
use Rattle.alw_outcomes.proofs.Pooling.{link_words, with_links-front, front_or}

-- what is left of a list, and the words that were read, last one first
pub record IsReadTo (links : List Link) (whole rest : ℕ) (words : List ℕ) : Type 0 where
  pub within : rest < suc (length links)
  pub is : slice_index_or (lists_of links) rest [] ++ reverse words ≡ slice_index_or (lists_of links) whole []

pub read_none : (links : List Link) (whole : ℕ) (words : List ℕ) → whole < suc (length links) → words ≡ [] → IsReadTo links whole whole words
read_none links whole words within empty =
    record { within = within; is = ap (λ (l : List ℕ). slice_index_or (lists_of links) whole [] ++ reverse l) empty ∙ append-nil (slice_index_or (lists_of links) whole []) }

pub read_more : (links : List Link) (whole rest at : ℕ) (link : Link) (words after : List ℕ) → ((k : ℕ) (l : Link) → slice_get links k ≡ Some l → l.before < suc k) → slice_get links at ≡ Some link
    → rest ≡ at + 1 → at < length links → after ≡ words ++ link.word ∷ [] → IsReadTo links whole rest words → IsReadTo links whole link.before after
read_more links whole rest at link words after back there next less pushed is = record {
  within = let b = back at link there in omega arith;
  is =
      let none : List ℕ = [] in
      let before = slice_index_or (lists_of links) link.before none in
      let turned : reverse after ≡ link.word ∷ reverse words = ap reverse pushed ∙ reverse-append words (link.word ∷ []) in
      ap (λ (l : List ℕ). before ++ l) turned
      ∙ sym (append_assoc before (link.word ∷ []) (reverse words))
      ∙ ap (λ (l : List ℕ). l ++ reverse words) (sym (link_words links at link back there) ∙ ap (λ (n : ℕ). slice_index_or (lists_of links) n none) (sym next))
      ∙ is.is;
}

pub no_words : (links : List Link) → (let none : List ℕ = [] in slice_index_or (lists_of links) 0 none ≡ none)
unfolding lists_of
no_words links = let none : List ℕ = [] in front_or (none ∷ []) (with_links (none ∷ []) links) 0 none (with_links-front (none ∷ []) links) (omega arith)

pub read_all : (links : List Link) (whole rest : ℕ) (words after : List ℕ) → rest ≡ 0 → after ≡ reverse words → IsReadTo links whole rest words → after ≡ slice_index_or (lists_of links) whole []
read_all links whole rest words after end turned is =
    let none : List ℕ = [] in
    turned ∙ ap (λ (l : List ℕ). l ++ reverse words) (sym (no_words links) ∙ ap (λ (n : ℕ). slice_index_or (lists_of links) n none) (sym end)) ∙ is.is
