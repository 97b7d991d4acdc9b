-- A legal journal at an end is a coherent run.
use Rattle.std.proofs.Common.{◌≡◌, ℕ, zero, suc, ◌+◌, ◌<◌, ◌≤◌, List, ◌++◌, take, refl, sym, ap, ◌∙◌, arith}
use Rattle.std.specs.List.{flat_map, range_with_len}
use Rattle.std.proofs.lemmas.List.FromFn.{get_or-map-range_with_len}
use Rattle.law_machine.proofs.Vocabulary.{Line, Entry, Parts, Parameters, Ended, line_count, zero_line, IsLegal, state, Flat, line_at, flat_after, current_value, words_of, listed_words}
use Rattle.law_machine.proofs.Vocabulary.{memory_words, turns_of, flat_view, IsEnd, IsCoherentRun}
use Rattle.alw_model.proofs.Journals.{legal_take}
use Rattle.law_machine.proofs.FlatStarts.{flat_view_is, turns_are_ready, prints_are}
use Rattle.law_machine.proofs.FullMaps.{always_full_maps}

-- lines with the same values list the same words
same_listed : (one other : ℕ → Line) (a n : ℕ) → ((i : ℕ) → i < n → one (a + i) ≡ other (a + i)) →
    flat_map (λ line. words_of line (one line)) (range_with_len a n) ≡ flat_map (λ line. words_of line (other line)) (range_with_len a n)
same_listed one other a zero each = refl
same_listed one other a (suc n) each =
    let here : a + 0 ≡ a = omega arith in
    let first : one a ≡ other a = ap one (sym here) ∙ (each 0 (omega arith) ∙ ap other here) in
    ap (λ (body : Line). words_of a body ++ flat_map (λ line. words_of line (one line)) (range_with_len (a + 1) n)) first
    ∙ ap (λ (words : List (ℕ × ℕ)). words_of a (other a) ++ words) (same_listed one other (a + 1) n (λ i l.
    let place : a + 1 + i ≡ a + suc i = omega arith in
    ap one place ∙ (each (suc i) (omega (arith, l)) ∙ ap other (sym place))))

-- the words that are listed are the flat machine's
listed_is_flat : (parts : Parts) (parameters : Parameters) → 1 ≤ parameters.pointers → (journal : List Entry) → IsLegal parts parameters journal →
    memory_words parts parameters (state parts parameters journal) ≡ listed_words (line_at (flat_after parts (turns_of parts parameters journal))) (line_count parts)
listed_is_flat parts parameters some journal legal = same_listed values (line_at flat) 0 (line_count parts) (λ i l. sym (read i l) ∙ ap (λ (f : Flat). line_at f (0 + i)) (flat_view_is parts parameters some journal legal))
  where
    values : ℕ → Line
    values line = current_value parts parameters (state parts parameters journal) line

    flat : Flat
    flat = flat_after parts (turns_of parts parameters journal)

    read : (i : ℕ) → i < line_count parts → line_at (flat_view parts parameters (state parts parameters journal)) (0 + i) ≡ values (0 + i)
    read i l = get_or-map-range_with_len values 0 (line_count parts) (0 + i) (0 + i) zero_line (omega (arith, l)) (omega arith)

pub coherent_run : (parts : Parts) (parameters : Parameters) → 1 ≤ parameters.pointers → (journal : List Entry) → IsLegal parts parameters journal →
    (ended : Ended) → IsEnd parts parameters journal ended → IsCoherentRun parts parameters journal ended
coherent_run parts parameters some journal legal ended end = record {
  legal = legal;
  end = end;
  flat = λ n. flat_view_is parts parameters some (take n journal) (legal_take parts parameters n journal legal);
  ready = turns_are_ready parts parameters some journal legal;
  prints = prints_are parts parameters some journal legal;
  memory = listed_is_flat parts parameters some journal legal;
  homes = λ n. always_full_maps parts parameters some (take n journal) (legal_take parts parameters n journal legal);
}
