-- Lists that change at two places: the changes may come in either order.
use Rattle.std.proofs.Common.{◌≡◌, ◌≢◌, ℕ, ◌<◌, Some, None, List, [], ◌∷◌, ◌++◌, length, get_or, set, refl, sym, ap, ◌∙◌}
use Rattle.std.proofs.lemmas.List.{get_or-set_same, get_or-set_other, set-set, set_comm, get_or_past}
use Rattle.alw_num.proofs.Weigh.{cases_lt_then}
use Rattle.alw_msg.specs.Lists.{front, behind}

module _ {X : Type 0} (d : X) where
  -- a list with its element at one place changed
  abbrev pub changed : List X → ℕ → (X → X) → List X
  changed xs p f = set xs p (f (get_or xs p d))

  -- at two places
  pub changes_apart : (xs : List X) (p q : ℕ) (f g : X → X) → p ≢ q → changed (changed xs p f) q g ≡ changed (changed xs q g) p f
  changes_apart xs p q f g apart =
      ap (λ (x : X). set (changed xs p f) q (g x)) (get_or-set_other xs p q (f (get_or xs p d)) d (λ e. apart (sym e)))
      ∙ (set_comm xs p q (f (get_or xs p d)) (g (get_or xs q d)) apart
      ∙ sym (ap (λ (x : X). set (changed xs q g) p (f x)) (get_or-set_other xs q p (g (get_or xs q d)) d apart)))

  -- at one place
  pub changed_twice : (xs : List X) (p : ℕ) (f g : X → X) → p < length xs → changed (changed xs p f) p g ≡ set xs p (g (f (get_or xs p d)))
  changed_twice xs p f g l =
      ap (λ (x : X). set (changed xs p f) p (g x)) (get_or-set_same xs p (f (get_or xs p d)) d l) ∙ set-set xs p (f (get_or xs p d)) (g (f (get_or xs p d)))

  pub changes_here : (xs : List X) (p : ℕ) (f g : X → X) → p < length xs → g (f (get_or xs p d)) ≡ f (g (get_or xs p d)) → changed (changed xs p f) p g ≡ changed (changed xs p g) p f
  changes_here xs p f g l same = changed_twice xs p f g l ∙ (ap (λ (x : X). set xs p x) same ∙ sym (changed_twice xs p g f l))

  pub changed_here : (xs : List X) (p : ℕ) (f : X → X) → p < length xs → get_or (changed xs p f) p d ≡ f (get_or xs p d)
  changed_here xs p f l = get_or-set_same xs p (f (get_or xs p d)) d l

  pub changed_there : (xs : List X) (p q : ℕ) (f : X → X) → q ≢ p → get_or (changed xs p f) q d ≡ get_or xs q d
  changed_there xs p q f other = get_or-set_other xs p q (f (get_or xs p d)) d other

-- a list that isn't empty at a place has the place
pub fits_where_front : {X : Type 0} (ls : List (List X)) (p : ℕ) (x : X) → front (get_or ls p []) ≡ Some x → p < length ls
fits_where_front ls p x e = cases_lt_then (length ls) p (λ l. l) (λ l. absurd (none (get_or_past ls p [] l)))
  where
    none : get_or ls p [] ≡ [] → ⊥
    none is = let nothing : None ≡ Some x = sym (ap front is) ∙ e in cc

pub front_push : {X : Type 0} (xs : List X) (x y : X) → front xs ≡ Some x → front (xs ++ y ∷ []) ≡ Some x
front_push [] x y e = absurd (cc)
front_push (z ∷ rest) x y e = e

pub behind_push : {X : Type 0} (xs : List X) (x y : X) → front xs ≡ Some x → behind (xs ++ y ∷ []) ≡ behind xs ++ y ∷ []
behind_push [] x y e = absurd (cc)
behind_push (z ∷ rest) x y e = refl
