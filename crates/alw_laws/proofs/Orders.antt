-- How tests of a list of messages change with one more message behind the others.
use Rattle.std.proofs.Common.{◌≡◌, ℕ, ◌+◌, nat_lt, Bool, true, false, not, ◌&&◌, ◌||◌, List, [], ◌∷◌, ◌++◌, refl, ap, ◌∙◌, arith}
use Rattle.std.proofs.Math.Bool.{or-false}
use Rattle.std.proofs.lemmas.Bool.Decides.{nat_tests}
use Rattle.std.proofs.lemmas.List.Folds.{list_any-append}
use Rattle.std.specs.List.{list_any}
use Rattle.alw_num.specs.Weights.{digit}
use Rattle.alw_msg.specs.Lists.{count_of, is_followed, is_clear_behind}

module _ {M : Type 0} where
  any_push : (test : M → Bool) (messages : List M) (m : M) → list_any test (messages ++ m ∷ []) ≡ (list_any test messages || test m)
  any_push test messages m = list_any-append test messages (m ∷ []) ∙ ap (λ (met : Bool). list_any test messages || met) (or-false (test m))

  pub followed_push : (first second : M → Bool) (messages : List M) (m : M)
      → is_followed first second (messages ++ m ∷ []) ≡ ((is_followed first second messages || second m) && not (first m))
  followed_push first second [] m = bare (first m)
    where
      bare : (b : Bool) → ((not b || false) && true) ≡ not b
      bare true = refl
      bare false = refl
  followed_push first second (front ∷ rest) m =
      rw (any_push second rest m, followed_push first second rest m)
      (go (first front) (list_any second rest) (is_followed first second rest) (second m) (first m))
    where
      go : (a b c d e : Bool) → ((not a || (b || d)) && ((c || d) && not e)) ≡ ((((not a || b) && c) || d) && not e)
      go true true c d e = refl
      go true false true true e = refl
      go true false false true e = refl
      go true false c false e = refl
      go false b c d e = refl

  pub clear_push : (first second : M → Bool) (messages : List M) (m : M)
      → is_clear_behind first second (messages ++ m ∷ []) ≡ (is_clear_behind first second messages && (not (list_any first messages) || not (second m)))
  clear_push first second [] m = bare (first m)
    where
      bare : (b : Bool) → ((not b || true) && true) ≡ true
      bare true = refl
      bare false = refl
  clear_push first second (front ∷ rest) m =
      rw (any_push second rest m, clear_push first second rest m)
      (go (first front) (list_any second rest) (is_clear_behind first second rest) (list_any first rest) (second m))
    where
      go : (f s c a d : Bool) → ((not f || not (s || d)) && (c && (not a || not d))) ≡ (((not f || not s) && c) && (not (f || a) || not d))
      go true true c a d = refl
      go true false true a true = refl
      go true false false a true = refl
      go true false true true false = refl
      go true false true false false = refl
      go true false false a false = refl
      go false s c a d = refl

  -- a message that passes a test is there exactly where its kind is counted
  pub any_counted : (test : M → Bool) (messages : List M) (count : ℕ) → count ≡ count_of test messages → nat_lt 0 count ≡ list_any test messages
  any_counted test [] count is = rw is refl
  any_counted test (first ∷ rest) count is = rw is (go (test first) (any_counted test rest (count_of test rest) refl))
    where
      go : (b : Bool) → nat_lt 0 (count_of test rest) ≡ list_any test rest → nat_lt 0 (digit b + count_of test rest) ≡ (b || list_any test rest)
      go true later = grind (arith, nat_tests)
      go false later = grind (arith, nat_tests)
