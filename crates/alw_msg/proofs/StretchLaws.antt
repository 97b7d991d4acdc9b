-- Stretches are the turns, and as long as they can be.
use Rattle.std.proofs.Common.{◌≡◌, ℕ, zero, suc, ◌+◌, ◌≤◌, ◌==◌, Bool, true, false, if◌then◌else◌, List, [], ◌∷◌, ◌++◌, replicate, refl, sym, ap, ◌∙◌, subst, arith}
use Rattle.std.proofs.lemmas.Bool.{eqb-true, eqb-false}
use Rattle.alw_msg.specs.Stretches.{in_front, stretches, turns_in, AreLongest}

replicate_more : (count more context : ℕ) (rest : List ℕ) →
    replicate (count + more) context ++ rest ≡ replicate count context ++ (replicate more context ++ rest)
replicate_more zero more context rest = ap (λ (n : ℕ). replicate n context ++ rest) (let e : 0 + more ≡ more = omega arith in e)
replicate_more (suc count) more context rest =
    ap (λ (n : ℕ). replicate n context ++ rest) (let e : suc count + more ≡ suc (count + more) = omega arith in e)
    ∙ ap (λ (turns : List ℕ). context ∷ turns) (replicate_more count more context rest)

-- the turns of a stretch in front of others
front_turns : (context count : ℕ) (rest : List (ℕ × ℕ)) → turns_in (in_front context count rest) ≡ replicate count context ++ turns_in rest
front_turns context count [] = refl
front_turns context count (first ∷ rest) = by_test (context == first.0) refl
  where
    by_test : (same : Bool) → (context == first.0) ≡ same →
        turns_in (if same then (context, count + first.1) ∷ rest else (context, count) ∷ first ∷ rest) ≡ replicate count context ++ turns_in (first ∷ rest)
    by_test true is =
        replicate_more count first.1 context (turns_in rest)
        ∙ ap (λ (c : ℕ). replicate count context ++ (replicate first.1 c ++ turns_in rest)) (eqb-true context first.0 is)
    by_test false is = refl

-- stretches are the turns
pub same_turns : (turns : List ℕ) → turns_in (stretches turns) ≡ turns
same_turns [] = refl
same_turns (context ∷ rest) = front_turns context 1 (stretches rest) ∙ ap (λ (more : List ℕ). context ∷ more) (same_turns rest)

-- a longer stretch in the place of one of its context
longer : (context count more : ℕ) (rest : List (ℕ × ℕ)) → AreLongest ((context, more) ∷ rest) → AreLongest ((context, count + more) ∷ rest)
longer context count more [] some = omega arith
longer context count more (next ∷ rest) (some, apart, are) = (omega arith, apart, are)

front_longest : (context count : ℕ) (rest : List (ℕ × ℕ)) → 1 ≤ count → AreLongest rest → AreLongest (in_front context count rest)
front_longest context count [] some are = some
front_longest context count (first ∷ rest) some are = by_test (context == first.0) refl
  where
    by_test : (same : Bool) → (context == first.0) ≡ same →
        AreLongest (if same then (context, count + first.1) ∷ rest else (context, count) ∷ first ∷ rest)
    by_test true is =
        longer context count first.1 rest (subst (λ (c : ℕ). AreLongest ((c, first.1) ∷ rest)) (sym (eqb-true context first.0 is)) are)
    by_test false is = (some, eqb-false context first.0 is, are)

-- each is as long as it can be
pub are_longest : (turns : List ℕ) → AreLongest (stretches turns)
are_longest [] = tt
are_longest (context ∷ rest) = front_longest context 1 (stretches rest) (omega arith) (are_longest rest)
