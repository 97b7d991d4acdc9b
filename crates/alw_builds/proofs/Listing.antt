-- A listing, line by line, and that each code word has a line.
use Rattle.std.proofs.Common.{◌≡◌, ℕ, ◌+◌, ◌*◌, ◌<◌, Ok, List, ◌∷◌, ◌++◌, length, map, drop, sym, ap, ◌∙◌, append_assoc, arith}
use Rattle.std.proofs.lemmas.List.{append-nil, length-map, drop_more, drop_all}
use Rattle.std.proofs.Math.ListN.{get_or}
use Rattle.sparc_assemble.specs.declared.assembling.Assembled.{Assembled}
use Rattle.sparc_assemble.specs.Assembly.{Filled, nothing_filled, all_filled, assembled}
use Rattle.sparc_assemble.proofs.Passes.{holds_of_all}
use Rattle.alw_builds.specs.Listing.{listing_line, listing_from}

-- one line more
pub goes_on : (text text' whole words lines : List ℕ) (i : ℕ) → i < length words → i < length lines →
    text ++ listing_from (4 * i) (drop i words) (drop i lines) ≡ whole →
    text' ≡ text ++ listing_line (4 * i) (get_or words i 0) (get_or lines i 0) →
    text' ++ listing_from (4 * (i + 1)) (drop (i + 1) words) (drop (i + 1) lines) ≡ whole
goes_on text text' whole words lines i in_words in_lines so_far grown =
    ap (λ (t : List ℕ). t ++ listing_from (4 * (i + 1)) (drop (i + 1) words) (drop (i + 1) lines)) grown
    ∙ ap (λ (n : ℕ). (text ++ listing_line (4 * i) (get_or words i 0) (get_or lines i 0)) ++ listing_from n (drop (i + 1) words) (drop (i + 1) lines))
    (let e : 4 * (i + 1) ≡ 4 * i + 4 = omega arith in e)
    ∙ append_assoc text (listing_line (4 * i) (get_or words i 0) (get_or lines i 0)) (listing_from (4 * i + 4) (drop (i + 1) words) (drop (i + 1) lines))
    ∙ sym (ap (λ (ws : List ℕ). text ++ listing_from (4 * i) ws (drop i lines)) (drop_more words i 0 in_words)
    ∙ ap (λ (ls : List ℕ). text ++ listing_from (4 * i) (get_or words i 0 ∷ drop (i + 1) words) ls) (drop_more lines i 0 in_lines))
    ∙ so_far

-- the last line is written
pub ends : (text whole words lines : List ℕ) (i : ℕ) → text ++ listing_from (4 * i) (drop i words) (drop i lines) ≡ whole → length words ≡ i → text ≡ whole
ends text whole words lines i so_far all =
    sym (append-nil text) ∙ sym (ap (λ (ws : List ℕ). text ++ listing_from (4 * i) ws (drop i lines)) (drop_all i words (let e = all in omega arith))) ∙ so_far

-- ---- a source line for each code word

pub one_line_each : (source : List ℕ) (a : Assembled) → assembled source ≡ Ok a → length a.lines ≡ length a.image.code
one_line_each source a is = holds_of_all (λ (b : Assembled). length b.lines ≡ length b.image.code) source a
    (λ l ps lines fits. each (all_filled l.names 1 ps lines nothing_filled)) is
  where
    each : (f : Filled) → length (map (λ (w : ℕ × ℕ). w.1) f.words) ≡ length (map (λ (w : ℕ × ℕ). w.0) f.words)
    each f = length-map f.words (λ (w : ℕ × ℕ). w.1) ∙ sym (length-map f.words (λ (w : ℕ × ℕ). w.0))
