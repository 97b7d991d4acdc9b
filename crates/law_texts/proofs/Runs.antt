-- Runs of lines of one kind, whose number isn't told: what follows them begins otherwise. And texts of many places, one behind the other.
use Rattle.std.proofs.Common.{◌≡◌, ℕ, zero, suc, ◌+◌, ◌<◌, ◌≤◌, ◌==◌, Bool, true, false, cond, List, [], ◌∷◌, ◌++◌, map, refl, sym, ap, subst, ◌∙◌, arith, append_assoc}
use Rattle.std.specs.Prelude.{slice_index_or}
use Rattle.std.specs.List.{flat_map, range_with_len, AllByRecursion}
use Rattle.std.proofs.lemmas.Bool.Decides.{nat_tests}
use Rattle.std.proofs.lemmas.Bool.{eq-eqb}
use Rattle.std.proofs.lemmas.List.{append-nil}
use Rattle.law_texts.proofs.Readings.{Tells}

-- ---- kinds

-- the place of a line's kind in a state's text, by its first two bytes: transactions, copies, home lines, packets; then any other line, and last the end
abbrev rank_by : ℕ → ℕ → ℕ
rank_by first second = cond (first == 112) (cond (second == 101) 1 4) (cond (first == 99) 2 (cond (first == 104) 3 5))

abbrev pub rank : List ℕ → ℕ
rank [] = 6
rank (byte ∷ rest) = rank_by byte (slice_index_or rest 0 0)

module _ {X : Type 0} (IsX : X → Type 0) (line : X → List ℕ) (kind : ℕ) (begins : (x : X) (u : List ℕ) → rank (line x ++ u) ≡ kind) where
  -- the rank of a run, and of what follows it
  pub run_rank : (xs : List X) (u : List ℕ) → kind ≤ rank u → kind ≤ rank (flat_map line xs ++ u)
  run_rank [] u l = l
  run_rank (x ∷ xs) u l =
      let first : rank ((line x ++ flat_map line xs) ++ u) ≡ kind = ap rank (append_assoc (line x) (flat_map line xs) u) ∙ begins x (flat_map line xs ++ u) in
      omega (arith, first)

  -- where a run has ended, none of its lines stands
  none_more : {P : Type 0} (y : X) (ys : List X) (u v : List ℕ) → kind < rank u → u ≡ (line y ++ flat_map line ys) ++ v → P
  none_more y ys u v l e =
      let first : rank u ≡ kind = ap rank e ∙ ap rank (append_assoc (line y) (flat_map line ys) v) ∙ begins y (flat_map line ys ++ v) in
      absurd (omega (arith, first))

  pub one_run : ((x y : X) → IsX x → IsX y → Tells (x ≡ y) (line x) (line y)) → (xs ys : List X) (u v : List ℕ) → AllByRecursion IsX xs → AllByRecursion IsX ys
      → kind < rank u → kind < rank v → flat_map line xs ++ u ≡ flat_map line ys ++ v → (xs ≡ ys) × (u ≡ v)
  one_run one [] [] u v are all l m e = (refl, e)
  one_run one [] (y ∷ ys) u v are all l m e = none_more y ys u v l e
  one_run one (x ∷ xs) [] u v are all l m e = none_more x xs v u m (sym e)
  one_run one (x ∷ xs) (y ∷ ys) u v are all l m e =
      let first = (one x y are.0 all.0).read (flat_map line xs ++ u) (flat_map line ys ++ v)
      (sym (append_assoc (line x) (flat_map line xs) u) ∙ e ∙ append_assoc (line y) (flat_map line ys) v) in
      let rest = one_run one xs ys u v are.1 all.1 l m first.1 in
      let same : x ∷ xs ≡ y ∷ ys = cc (first.0, rest.0) in
      (same, rest.1)

-- ---- places

-- texts of some places in a row, each read in one way where what follows it is as it may be
module _ (May : List ℕ → Type 0) (Said : ℕ → Type 0) (f g : ℕ → List ℕ) where
  pub record IsRead (k : ℕ) : Type 0 where
    pub one : (u : List ℕ) → May u → May (f k ++ u)
    pub other : (u : List ℕ) → May u → May (g k ++ u)
    pub read : (u v : List ℕ) → May u → May v → f k ++ u ≡ g k ++ v → Said k × (u ≡ v)

  pub each_may : (h : ℕ → List ℕ) (low count : ℕ) (u : List ℕ) → ((k : ℕ) → low ≤ k → k < low + count → (u : List ℕ) → May u → May (h k ++ u)) → May u
      → May (flat_map h (range_with_len low count) ++ u)
  each_may h low zero u each may = may
  each_may h low (suc count) u each may =
      let rest = each_may h (low + 1) count u (λ k l m. each k (omega (arith, l)) (omega (arith, m))) may in
      subst May (sym (append_assoc (h low) (flat_map h (range_with_len (low + 1) count)) u))
      (each low (omega arith) (omega arith) (flat_map h (range_with_len (low + 1) count) ++ u) rest)

  pub one_range : (low count : ℕ) (u v : List ℕ) → ((k : ℕ) → low ≤ k → k < low + count → IsRead k) → May u → May v
      → flat_map f (range_with_len low count) ++ u ≡ flat_map g (range_with_len low count) ++ v
      → ((k : ℕ) → low ≤ k → k < low + count → Said k) × (u ≡ v)
  one_range low zero u v each may also e = (λ k l m. absurd (omega (arith, l, m)), e)
  one_range low (suc count) u v each may also e =
      let more = λ (k : ℕ) (l : low + 1 ≤ k) (m : k < low + 1 + count). each k (omega (arith, l)) (omega (arith, m)) in
      let here = each low (omega arith) (omega arith) in
      let left = flat_map f (range_with_len (low + 1) count) ++ u in
      let right = flat_map g (range_with_len (low + 1) count) ++ v in
      let first = here.read left right (each_may f (low + 1) count u (λ k l m. (more k l m).one) may)
      (each_may g (low + 1) count v (λ k l m. (more k l m).other) also)
      (sym (append_assoc (f low) (flat_map f (range_with_len (low + 1) count)) u) ∙ e
      ∙ append_assoc (g low) (flat_map g (range_with_len (low + 1) count)) v) in
      let rest = one_range (low + 1) count u v more may also first.1 in
      (λ k l m. go first.0 rest.0 (k == low) refl l m, rest.1)
    where
      go : Said low → ((k : ℕ) → low + 1 ≤ k → k < low + 1 + count → Said k) → {k : ℕ} (b : Bool) → (k == low) ≡ b → low ≤ k → k < low + suc count → Said k
      go here rest {k} true same l m = let is : low ≡ k = grind (arith, nat_tests) in subst Said is here
      go here rest {k} false other l m = rest k (grind (arith, nat_tests)) (omega (arith, m))

-- texts that are the same place by place
pub same_texts : (f g : ℕ → List ℕ) → ((k : ℕ) → f k ≡ g k) → (ks : List ℕ) → flat_map f ks ≡ flat_map g ks
same_texts f g e ks = ap (λ (h : ℕ → List ℕ). flat_map h ks) (λ i k. e k i)

-- ---- rows, which name their place

-- what stands at so many places, each with its place
abbrev pub rows : {X : Type 0} → (ℕ → List X) → ℕ → ℕ → List (ℕ × X)
rows at low count = flat_map (λ k. map (λ x. (k, x)) (at k)) (range_with_len low count)

-- what rows say of a place
abbrev pub said_of : {X : Type 0} → ℕ → List (ℕ × X) → List X
said_of k [] = []
said_of k (row ∷ rest) = cond (row.0 == k) (row.1 ∷ said_of k rest) (said_of k rest)

module _ {X : Type 0} where
  said-append : (k : ℕ) (xs ys : List (ℕ × X)) → said_of k (xs ++ ys) ≡ said_of k xs ++ said_of k ys
  said-append k [] ys = refl
  said-append k (row ∷ rest) ys = go (row.0 == k) (said-append k rest ys)
    where
      go : (b : Bool) → said_of k (rest ++ ys) ≡ said_of k rest ++ said_of k ys
          → cond b (row.1 ∷ said_of k (rest ++ ys)) (said_of k (rest ++ ys)) ≡ cond b (row.1 ∷ said_of k rest) (said_of k rest) ++ said_of k ys
      go true e = ap (λ (xs : List X). row.1 ∷ xs) e
      go false e = e

  said_here : (k : ℕ) (xs : List X) → said_of k (map (λ x. (k, x)) xs) ≡ xs
  said_here k [] = refl
  said_here k (x ∷ xs) = let is : (k == k) ≡ true = eq-eqb k k refl in rw is (ap (λ (rest : List X). x ∷ rest) (said_here k xs))

  said_elsewhere : (k j : ℕ) (xs : List X) → (j == k) ≡ false → said_of k (map (λ x. (j, x)) xs) ≡ []
  said_elsewhere k j [] other = refl
  said_elsewhere k j (x ∷ xs) other = rw other (said_elsewhere k j xs other)

  module _ (at : ℕ → List X) where
    said_before : (k low count : ℕ) → k < low → said_of k (rows at low count) ≡ []
    said_before k low zero l = refl
    said_before k low (suc count) l =
        let other : (low == k) ≡ false = grind (arith, nat_tests) in
        said-append k (map (λ x. (low, x)) (at low)) (rows at (low + 1) count)
        ∙ (λ i. said_elsewhere k low (at low) other i ++ said_before k (low + 1) count (omega (arith, l)) i)

    -- rows tell what stands at each place
    pub said-rows : (low count k : ℕ) → low ≤ k → k < low + count → said_of k (rows at low count) ≡ at k
    said-rows low zero k l m = absurd (omega (arith, l, m))
    said-rows low (suc count) k l m =
        said-append k (map (λ x. (low, x)) (at low)) (rows at (low + 1) count) ∙ go (low == k) refl (said-rows (low + 1) count k)
      where
        go : (b : Bool) → (low == k) ≡ b → (low + 1 ≤ k → k < low + 1 + count → said_of k (rows at (low + 1) count) ≡ at k)
            → said_of k (map (λ x. (low, x)) (at low)) ++ said_of k (rows at (low + 1) count) ≡ at k
        go true same more =
            let is : low ≡ k = grind (arith, nat_tests) in
            subst (λ (j : ℕ). said_of k (map (λ x. (j, x)) (at j)) ++ said_of k (rows at (low + 1) count) ≡ at k) (sym is)
            (ap (λ (xs : List X). xs ++ said_of k (rows at (low + 1) count)) (said_here k (at k))
            ∙ ap (λ (xs : List X). at k ++ xs) (said_before k (low + 1) count (omega (arith, is))) ∙ append-nil (at k))
        go false other more =
            ap (λ (xs : List X). xs ++ said_of k (rows at (low + 1) count)) (said_elsewhere k low (at low) other)
            ∙ more (grind (arith, nat_tests)) (omega (arith, m))

    abbrev text : (ℕ → X → List ℕ) → List (ℕ × X) → List ℕ
    text line = flat_map (λ (row : ℕ × X). line row.0 row.1)

    -- a text of each place is that of its rows
    pub rows_text : (line : ℕ → X → List ℕ) (low count : ℕ)
        → flat_map (λ k. flat_map (line k) (at k)) (range_with_len low count) ≡ text line (rows at low count)
    rows_text line low zero = refl
    rows_text line low (suc count) =
        ap (λ (t : List ℕ). flat_map (line low) (at low) ++ t) (rows_text line (low + 1) count) ∙ sym (go (at low))
      where
        go : (xs : List X) → text line (map (λ x. (low, x)) xs ++ rows at (low + 1) count) ≡ flat_map (line low) xs ++ text line (rows at (low + 1) count)
        go [] = refl
        go (x ∷ xs) = ap (λ (t : List ℕ). line low x ++ t) (go xs)
            ∙ sym (append_assoc (line low x) (flat_map (line low) xs) (text line (rows at (low + 1) count)))

    pub each_row : (IsX : ℕ × X → Type 0) (low count : ℕ) → ((k : ℕ) → low ≤ k → k < low + count → AllByRecursion (λ x. IsX (k, x)) (at k))
        → AllByRecursion IsX (rows at low count)
    each_row IsX low zero each = tt
    each_row IsX low (suc count) each =
        go (at low) (each low (omega arith) (omega arith)) (each_row IsX (low + 1) count (λ k l m. each k (omega (arith, l)) (omega (arith, m))))
      where
        go : (xs : List X) → AllByRecursion (λ x. IsX (low, x)) xs → AllByRecursion IsX (rows at (low + 1) count)
            → AllByRecursion IsX (map (λ x. (low, x)) xs ++ rows at (low + 1) count)
        go [] all more = more
        go (x ∷ xs) all more = (all.0, go xs all.1 more)
