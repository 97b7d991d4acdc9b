-- Two texts that agree up to a place: the line there is the first that differs.
use Rattle.std.proofs.Common.{◌≡◌, ◌≢◌, ℕ, zero, suc, ◌+◌, ◌≤◌, ◌==◌, Bool, true, false, Option, None, Some, List, [], ◌∷◌, ◌++◌, length, take, drop, filter, slice_get, refl, sym, ap, ◌∙◌, append_assoc, length-append, arith}
use Rattle.std.proofs.lemmas.List.Elements.{filter-append}
use Rattle.std.proofs.lemmas.Bool.{true≢false}
use Rattle.std.proofs.lemmas.Option.{none-some, same_Some, slice_get_past}
use Rattle.alw_text.specs.Lines.{is_line_feed, longer_line}
use Rattle.alw_save.specs.States.{line_count}
use Rattle.alw_save.specs.Differences.{ended_lines, DiffersAt}

-- texts begin with different bytes, or one of them is empty
abbrev pub BeginApart : List ℕ → List ℕ → Type 0
BeginApart one other = slice_get one 0 ≢ slice_get other 0

-- ---- how lines begin

abbrev first_byte : Option (List ℕ) → Option ℕ
first_byte None = None
first_byte (Some line) = slice_get line 0

longer_first : (byte : ℕ) (lines : List (List ℕ)) → first_byte (slice_get (longer_line byte lines) 0) ≡ Some byte
longer_first byte [] = refl
longer_first byte (line ∷ rest) = refl

-- the first byte of the first line is that of the text
first_is : (text : List ℕ) → first_byte (slice_get (ended_lines text) 0) ≡ slice_get text 0
unfolding ended_lines
first_is [] = refl
first_is (byte ∷ rest) = go (is_line_feed byte) refl
  where
    go : (b : Bool) → is_line_feed byte ≡ b → first_byte (slice_get (ended_lines (byte ∷ rest)) 0) ≡ Some byte
    go true feed = rw feed refl
    go false other = rw other (longer_first byte (ended_lines rest))

-- no line is empty
begins : (text : List ℕ) → slice_get (ended_lines text) 0 ≢ Some []
unfolding ended_lines
begins [] e = cc
begins (byte ∷ rest) e = none-some byte (sym (ap first_byte e) ∙ first_is (byte ∷ rest))

apart : (one other : List ℕ) → BeginApart one other → slice_get (ended_lines one) 0 ≢ slice_get (ended_lines other) 0
apart one other differ e = differ (sym (first_is one) ∙ ap first_byte e ∙ first_is other)

-- ---- a byte more at the front of both

-- what two lists say of their fronts
abbrev head_is : List (List ℕ) → Option (List ℕ)
head_is lines = slice_get lines 0

tail_same : (a b : ℕ) (x y : List ℕ) → a ∷ x ≡ b ∷ y → x ≡ y
tail_same a b x y e = ap (drop 1) e

front_same : (x y : List ℕ) (xs ys : List (List ℕ)) → x ∷ xs ≡ y ∷ ys → x ≡ y
front_same x y xs ys e = same_Some _ _ (ap head_is e)

no_front : (x : List ℕ) (xs : List (List ℕ)) → [] ≡ x ∷ xs → ⊥
no_front x xs e = none-some x (ap head_is e)

both_longer : (byte : ℕ) (x y : List ℕ) (xs ys : List (List ℕ)) → x ≡ y → xs ≡ ys → (byte ∷ x) ∷ xs ≡ (byte ∷ y) ∷ ys
both_longer byte x y xs ys e f = λ i. (byte ∷ e i) ∷ f i

longer : (byte : ℕ) (xs ys : List (List ℕ)) (k : ℕ) → slice_get xs 0 ≢ Some [] → slice_get ys 0 ≢ Some [] → DiffersAt xs ys k
    → DiffersAt (longer_line byte xs) (longer_line byte ys) k
longer byte [] [] k full filled is = absurd (is.here (slice_get_past [] k (omega arith) ∙ sym (slice_get_past [] k (omega arith))))
longer byte [] (y ∷ ys) zero full filled is = record { same = refl; here = λ e. filled (ap Some (sym (tail_same byte byte [] y (same_Some _ _ e)))) }
longer byte [] (y ∷ ys) (suc k) full filled is = absurd (no_front y (take k ys) is.same)
longer byte (x ∷ xs) [] zero full filled is = record { same = refl; here = λ e. full (ap Some (tail_same byte byte x [] (same_Some _ _ e))) }
longer byte (x ∷ xs) [] (suc k) full filled is = absurd (no_front x (take k xs) (sym is.same))
longer byte (x ∷ xs) (y ∷ ys) zero full filled is = record { same = refl; here = λ e. is.here (ap Some (tail_same byte byte x y (same_Some _ _ e))) }
longer byte (x ∷ xs) (y ∷ ys) (suc k) full filled is = record {
  same = both_longer byte x y (take k xs) (take k ys) (front_same x y (take k xs) (take k ys) is.same) (ap (drop 1) is.same);
  here = is.here;
}

line_more : (line : List ℕ) (xs ys : List (List ℕ)) (k : ℕ) → DiffersAt xs ys k → DiffersAt (line ∷ xs) (line ∷ ys) (suc k)
line_more line xs ys k is = record { same = ap (λ (ls : List (List ℕ)). line ∷ ls) is.same; here = is.here }

-- ---- texts that agree on a front

pub differs_behind : (common one other : List ℕ) → BeginApart one other
    → DiffersAt (ended_lines (common ++ one)) (ended_lines (common ++ other)) (line_count common)
unfolding ended_lines
differs_behind [] one other differ = record { same = refl; here = apart one other differ }
differs_behind (byte ∷ common) one other differ = go (differs_behind common one other differ) (is_line_feed byte) refl
  where
    go : DiffersAt (ended_lines (common ++ one)) (ended_lines (common ++ other)) (line_count common) → (b : Bool) → is_line_feed byte ≡ b
        → DiffersAt (ended_lines (byte ∷ (common ++ one))) (ended_lines (byte ∷ (common ++ other))) (line_count (byte ∷ common))
    go more true feed = rw feed (line_more (byte ∷ []) _ _ _ more)
    go more false none = rw none (longer byte _ _ _ (begins (common ++ one)) (begins (common ++ other)) more)

-- ---- how far two texts are read

-- of two texts a front was read that they share, which has so many lines
pub record Agreed (wanted text left rest : List ℕ) (line : ℕ) : Type 0 where
  pub common : List ℕ
  pub wanted_is : wanted ≡ common ++ left
  pub text_is : text ≡ common ++ rest
  pub counted : line ≡ line_count common
  pub few : line ≤ length common

module _ {wanted text left rest : List ℕ} {line : ℕ} (is : Agreed wanted text left rest line) where
  -- they differ here
  pub differ_here : BeginApart left rest → DiffersAt (ended_lines wanted) (ended_lines text) line
  differ_here differ = rw (is.wanted_is, is.text_is, is.counted) (differs_behind is.common left rest differ)

  pub no_more_lines : line ≤ length wanted
  no_more_lines = omega (arith, is.few, ap length is.wanted_is, length-append is.common left)

  -- a byte more
  pub agree_on : (byte : ℕ) (behind after : List ℕ) (more : ℕ) → left ≡ byte ∷ behind → rest ≡ byte ∷ after → more ≡ line_count (byte ∷ []) → more ≤ 1
      → Agreed wanted text behind after (line + more)
  agree_on byte behind after more one other count most = record {
    common = is.common ++ byte ∷ [];
    wanted_is = is.wanted_is ∙ ap (λ (t : List ℕ). is.common ++ t) one ∙ sym (append_assoc is.common (byte ∷ []) behind);
    text_is = is.text_is ∙ ap (λ (t : List ℕ). is.common ++ t) other ∙ sym (append_assoc is.common (byte ∷ []) after);
    counted = (λ i. is.counted i + count i) ∙ sym (length-append (filter is_line_feed is.common) (filter is_line_feed (byte ∷ [])))
        ∙ ap length (sym (filter-append is_line_feed is.common (byte ∷ [])));
    few = omega (arith, is.few, most, length-append is.common (byte ∷ []));
  }

-- different bytes, or none in one of the two
pub bytes_apart : (left rest : List ℕ) (a b : ℕ) (behind after : List ℕ) → left ≡ a ∷ behind → rest ≡ b ∷ after → a ≢ b → BeginApart left rest
bytes_apart left rest a b behind after e f other same =
    other (same_Some _ _ (sym (ap (λ (t : List ℕ). slice_get t 0) e) ∙ same ∙ ap (λ (t : List ℕ). slice_get t 0) f))

pub none_apart : (left rest : List ℕ) (a : ℕ) (behind : List ℕ) → left ≡ a ∷ behind → length rest ≡ 0 → BeginApart left rest
none_apart left [] a behind e none same = none-some a (sym same ∙ ap (λ (t : List ℕ). slice_get t 0) e)
none_apart left (b ∷ rest) a behind e none same = absurd (omega (arith, none))

pub ended_apart : (left rest : List ℕ) → length left ≡ 0 → (length rest == 0) ≡ false → BeginApart left rest
ended_apart left [] none some same = absurd (true≢false some)
ended_apart [] (b ∷ rest) none some same = none-some b same
ended_apart (a ∷ left) (b ∷ rest) none some same = absurd (omega (arith, none))
