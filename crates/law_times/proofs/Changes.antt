-- Lists that change at places, one change after the other: changes at other places may come before or after.
use Rattle.std.proofs.Common.{◌≡◌, ◌≢◌, ℕ, Some, List, [], ◌∷◌, ◌++◌, get_or, refl, sym, subst, ap, ◌∙◌}
use Rattle.std.specs.List.{AllByRecursion}
use Rattle.alw_num.proofs.Weigh.{is_node}
use Rattle.alw_msg.specs.Lists.{front, behind}
use Rattle.law_order.proofs.Places.{changed, changes_apart, changes_here, changed_here, changed_there, fits_where_front, front_push, behind_push}

module _ {X : Type 0} (d : X) where
  -- changes by their places, in order
  abbrev pub changed_all : List (ℕ × (X → X)) → List X → List X
  changed_all [] xs = xs
  changed_all (change ∷ rest) xs = changed_all rest (changed d xs change.0 change.1)

  -- a change more at the end
  pub changed_more : (changes : List (ℕ × (X → X))) (xs : List X) (p : ℕ) (f : X → X) → changed_all (changes ++ (p, f) ∷ []) xs ≡ changed d (changed_all changes xs) p f
  changed_more [] xs p f = refl
  changed_more (change ∷ rest) xs p f = changed_more rest (changed d xs change.0 change.1) p f

  -- every change is at a place of a kind
  abbrev pub AllAt : (ℕ → Type 0) → List (ℕ × (X → X)) → Type 0
  AllAt P changes = AllByRecursion (λ (change : ℕ × (X → X)). P change.0) changes

  -- one more of the kind
  pub all_more : (P : ℕ → Type 0) (changes : List (ℕ × (X → X))) (p : ℕ) (f : X → X) → AllAt P changes → P p → AllAt P (changes ++ (p, f) ∷ [])
  all_more P [] p f all is = (is, tt)
  all_more P (change ∷ rest) p f all is = (all.0, all_more P rest p f all.1 is)

  one_and_all : (P : ℕ → Type 0) (changes : List (ℕ × (X → X))) (xs : List X) (p : ℕ) (f : X → X) → ((q : ℕ) → P q → q ≢ p) → AllAt P changes →
      changed_all changes (changed d xs p f) ≡ changed d (changed_all changes xs) p f
  one_and_all P [] xs p f apart all = refl
  one_and_all P (change ∷ rest) xs p f apart all =
      ap (changed_all rest) (changes_apart d xs p change.0 f change.1 (λ same. apart change.0 all.0 (sym same)))
      ∙ one_and_all P rest (changed d xs change.0 change.1) p f apart all.1

  -- changes at places of two kinds
  pub all_and_all : (P Q : ℕ → Type 0) (one other : List (ℕ × (X → X))) (xs : List X) → ((p q : ℕ) → P p → Q q → p ≢ q) → AllAt P one → AllAt Q other →
      changed_all other (changed_all one xs) ≡ changed_all one (changed_all other xs)
  all_and_all P Q one [] xs apart first second = refl
  all_and_all P Q one (change ∷ rest) xs apart first second =
      ap (changed_all rest) (sym (one_and_all P one xs change.0 change.1 (λ p is. apart p change.0 is second.0) first))
      ∙ all_and_all P Q one rest (changed d xs change.0 change.1) apart first second.1

  -- what stands at a place that isn't changed
  pub read_apart : (P : ℕ → Type 0) (changes : List (ℕ × (X → X))) (xs : List X) (p : ℕ) → ((q : ℕ) → P q → p ≢ q) → AllAt P changes →
      get_or (changed_all changes xs) p d ≡ get_or xs p d
  read_apart P [] xs p apart all = refl
  read_apart P (change ∷ rest) xs p apart all =
      read_apart P rest (changed d xs change.0 change.1) p apart all.1 ∙ changed_there d xs change.0 p change.1 (apart change.0 all.0)

-- ---- queues by place

module _ {X : Type 0} where
  -- an element at the end of a queue
  abbrev pub with_last : X → List X → List X
  with_last x queue = queue ++ x ∷ []

  -- elements that are pushed, each by its place
  abbrev pub pushes : List (ℕ × X) → List (ℕ × (List X → List X))
  pushes [] = []
  pushes (push ∷ rest) = (push.0, with_last push.1) ∷ pushes rest

  front_pushed : (queues : List (List X)) (p q : ℕ) (x y : X) → front (get_or queues p []) ≡ Some x → front (get_or (changed [] queues q (with_last y)) p []) ≡ Some x
  front_pushed queues p q x y e = is_node _ p q
      (λ same. subst (λ (a : ℕ). front (get_or queues a []) ≡ Some x → front (get_or (changed [] queues q (with_last y)) a []) ≡ Some x) (sym same)
      (λ here. ap front (changed_here [] queues q (with_last y) (fits_where_front queues q x here)) ∙ front_push (get_or queues q []) x y here) e)
      (λ other. ap front (changed_there [] queues q p (with_last y) other) ∙ e)

  pop_pushed : (queues : List (List X)) (p q : ℕ) (x y : X) → front (get_or queues p []) ≡ Some x →
      changed [] (changed [] queues q (with_last y)) p behind ≡ changed [] (changed [] queues p behind) q (with_last y)
  pop_pushed queues p q x y e = is_node _ p q
      (λ same. subst (λ (a : ℕ). front (get_or queues a []) ≡ Some x →
      changed [] (changed [] queues q (with_last y)) a behind ≡ changed [] (changed [] queues a behind) q (with_last y)) (sym same)
      (λ here. changes_here [] queues q (with_last y) behind (fits_where_front queues q x here) (behind_push (get_or queues q []) x y here)) e)
      (λ other. changes_apart [] queues q p (with_last y) behind (λ same. other (sym same)))

  -- a front stays where elements are pushed
  pub front_stays : (all : List (ℕ × X)) (queues : List (List X)) (p : ℕ) (x : X) → front (get_or queues p []) ≡ Some x → front (get_or (changed_all [] (pushes all) queues) p []) ≡ Some x
  front_stays [] queues p x e = e
  front_stays (push ∷ rest) queues p x e = front_stays rest (changed [] queues push.0 (with_last push.1)) p x (front_pushed queues p push.0 x push.1 e)

  -- and it may be taken before or after
  pub pop_and_push : (all : List (ℕ × X)) (queues : List (List X)) (p : ℕ) (x : X) → front (get_or queues p []) ≡ Some x →
      changed [] (changed_all [] (pushes all) queues) p behind ≡ changed_all [] (pushes all) (changed [] queues p behind)
  pop_and_push [] queues p x e = refl
  pop_and_push (push ∷ rest) queues p x e =
      pop_and_push rest (changed [] queues push.0 (with_last push.1)) p x (front_pushed queues p push.0 x push.1 e)
      ∙ ap (changed_all [] (pushes rest)) (pop_pushed queues p push.0 x push.1 e)

  -- where each goes
  pub pushes_at : (P : ℕ → Type 0) (all : List (ℕ × X)) → AllByRecursion (λ (push : ℕ × X). P push.0) all → AllAt [] P (pushes all)
  pushes_at P [] are = tt
  pushes_at P (push ∷ rest) are = (are.0, pushes_at P rest are.1)
