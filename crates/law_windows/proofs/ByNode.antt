-- Two lists that have the same of each key, in the same order, have the same members.
use Rattle.std.proofs.Common.{◌≡◌, ◌≢◌, ℕ, ◌==◌, cond, Some, List, [], ◌∷◌, ◌++◌, filter, refl, sym, ap, subst, ◌∙◌}
use Rattle.std.specs.List.Sorted.{IsPermutation}
use Rattle.std.proofs.lemmas.Bool.{eq-eqb, ne_eqb}
use Rattle.std.proofs.lemmas.List.Sorted.{IsPermutation-refl, IsPermutation-sym, IsPermutation-trans, IsPermutation-cons, IsPermutation-middle}
use Rattle.alw_num.proofs.Weigh.{is_node}
use Rattle.alw_msg.specs.Lists.{front, behind}

module _ {X : Type 0} (key : X → ℕ) where
  -- the members of a key, in order
  abbrev of : ℕ → List X → List X
  of n xs = filter (λ (x : X). key x == n) xs

  of_here : (n : ℕ) (x : X) (xs : List X) → key x ≡ n → of n (x ∷ xs) ≡ x ∷ of n xs
  of_here n x xs same = ap (λ b. cond b (x ∷ of n xs) (of n xs)) (eq-eqb (key x) n same)

  of_there : (n : ℕ) (x : X) (xs : List X) → key x ≢ n → of n (x ∷ xs) ≡ of n xs
  of_there n x xs other = ap (λ b. cond b (x ∷ of n xs) (of n xs)) (ne_eqb (key x) n other)

  of_both : (n : ℕ) (xs ys : List X) → of n (xs ++ ys) ≡ of n xs ++ of n ys
  of_both n [] ys = refl
  of_both n (x ∷ xs) ys = is_node (of n (x ∷ (xs ++ ys)) ≡ of n (x ∷ xs) ++ of n ys) (key x) n
      (λ same. of_here n x (xs ++ ys) same ∙ (ap (λ (zs : List X). x ∷ zs) (of_both n xs ys) ∙ ap (λ (zs : List X). zs ++ of n ys) (sym (of_here n x xs same))))
      (λ other. of_there n x (xs ++ ys) other ∙ (of_both n xs ys ∙ ap (λ (zs : List X). zs ++ of n ys) (sym (of_there n x xs other))))

  -- where the first of a key stands
  record StandsIn (n : ℕ) (x : X) (more ys : List X) : Type 0 where
    before : List X
    after : List X
    whole : ys ≡ before ++ x ∷ after
    none : of n before ≡ []
    rest : of n after ≡ more

  some_is : (a b : X) → Some a ≡ Some b → a ≡ b
  some_is a b same = cc

  stands : (n : ℕ) (x : X) (more ys : List X) → of n ys ≡ x ∷ more → StandsIn n x more ys
  stands n x more [] is = absurd (cc)
  stands n x more (y ∷ ys) is = is_node (StandsIn n x more (y ∷ ys)) (key y) n
      (λ same. let both = sym (of_here n y ys same) ∙ is in
      record { before = []; after = ys; whole = ap (λ (z : X). z ∷ ys) (some_is y x (ap front both)); none = refl; rest = ap behind both })
      (λ other. let deep = stands n x more ys (sym (of_there n y ys other) ∙ is) in
      record { before = y ∷ deep.before; after = deep.after; whole = ap (λ (zs : List X). y ∷ zs) deep.whole; none = of_there n y deep.before other ∙ deep.none; rest = deep.rest })

  module _ (x : X) (xs ys : List X) (same : (n : ℕ) → of n (x ∷ xs) ≡ of n ys) where
    at : StandsIn (key x) x (of (key x) xs) ys
    at = stands (key x) x (of (key x) xs) ys (sym (same (key x)) ∙ of_here (key x) x xs refl)

    rest_here : of (key x) xs ≡ of (key x) (at.before ++ at.after)
    rest_here = sym at.rest ∙ sym (of_both (key x) at.before at.after ∙ ap (λ (zs : List X). zs ++ of (key x) at.after) at.none)

    rest_there : (n : ℕ) → key x ≢ n → of n xs ≡ of n (at.before ++ at.after)
    rest_there n other =
        sym (of_there n x xs other)
        ∙ (same n
        ∙ (ap (of n) at.whole
        ∙ (of_both n at.before (x ∷ at.after)
        ∙ (ap (λ (zs : List X). of n at.before ++ zs) (of_there n x at.after other)
        ∙ sym (of_both n at.before at.after)))))

    rests : (n : ℕ) → of n xs ≡ of n (at.before ++ at.after)
    rests n = is_node (of n xs ≡ of n (at.before ++ at.after)) (key x) n
        (λ is. subst (λ (k : ℕ). of k xs ≡ of k (at.before ++ at.after)) is rest_here)
        (λ other. rest_there n other)

    moved : IsPermutation xs (at.before ++ at.after) → IsPermutation (x ∷ xs) ys
    moved more = subst (λ (zs : List X). IsPermutation (x ∷ xs) zs) (sym at.whole)
        (IsPermutation-trans (x ∷ xs) (x ∷ (at.before ++ at.after)) (at.before ++ x ∷ at.after) (IsPermutation-cons x xs (at.before ++ at.after) more)
        (IsPermutation-sym (at.before ++ x ∷ at.after) (x ∷ (at.before ++ at.after)) (IsPermutation-middle at.before x at.after)))

  pub same_members : (xs ys : List X) → ((n : ℕ) → of n xs ≡ of n ys) → IsPermutation xs ys
  same_members [] [] same = IsPermutation-refl []
  same_members [] (y ∷ ys) same = absurd (let is : [] ≡ y ∷ of (key y) ys = same (key y) ∙ of_here (key y) y ys refl in cc)
  same_members (x ∷ xs) ys same = moved x xs ys same (same_members xs ((at x xs ys same).before ++ (at x xs ys same).after) (rests x xs ys same))
