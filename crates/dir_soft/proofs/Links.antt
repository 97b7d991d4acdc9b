-- What linking and unlinking a place does to the chains.
use Rattle.std.proofs.Common.{◌≡◌, ◌≢◌, ◌≤◌, ◌<◌, ℕ, zero, suc, ◌+◌, Bool, true, false, cond, ◌==◌, Option, Some, None, List, [], ◌∷◌, ◌++◌, length, slice_set, refl, sym, ap, ◌∙◌, subst, append_assoc, arith}
use Rattle.std.proofs.lemmas.Bool.Decides.{nat_tests}
use Rattle.std.proofs.lemmas.List.{length-set}
use Rattle.std.proofs.lemmas.Bool.{eq-eqb, ne_eqb, eqb-true}
use Rattle.alw_num.specs.Weights.{digit, times}
use Rattle.alw_num.proofs.Weigh.{weigh-append, digit_other, digit_same, digit_le, true_of_digit}
use Rattle.dir_soft.specs.declared.places.PoolPlace.{PoolPlace}
use Rattle.dir_soft.specs.declared.places.Spot.{Spot}
use Rattle.dir_soft.specs.Chains.{next_at, head_at, with_next, unlinked, IsPath, IsPlaceBefore, PlacesAreLinked, IsSpot}

-- ---- reads after a change

pub head-set : (heads : List ℕ) (t v u : ℕ) → t < length heads → head_at (slice_set heads t v) u ≡ cond (u == t) v (head_at heads u)
head-set [] t v u l = absurd (omega arith)
head-set (head ∷ rest) zero v zero l = refl
head-set (head ∷ rest) zero v (suc u) l = grind (arith, nat_tests)
head-set (head ∷ rest) (suc t) v zero l = grind (arith, nat_tests)
head-set (head ∷ rest) (suc t) v (suc u) l = grind (arith, nat_tests, head-set rest t v u)

-- what a chain's head was is put back
pub set-back : (heads : List ℕ) (t v : ℕ) → slice_set (slice_set heads t v) t (head_at heads t) ≡ heads
set-back [] t v = refl
set-back (head ∷ rest) zero v = refl
set-back (head ∷ rest) (suc t) v = ap (λ (hs : List ℕ). head ∷ hs) (set-back rest t v)

pub next-set : (places : List PoolPlace) (k : ℕ) (p : PoolPlace) (j : ℕ) → k < length places → next_at (slice_set places k p) j ≡ cond (j == k) p.next (next_at places j)
next-set [] k p j l = absurd (omega arith)
next-set (place ∷ rest) zero p zero l = refl
next-set (place ∷ rest) zero p (suc j) l = grind (arith, nat_tests)
next-set (place ∷ rest) (suc k) p zero l = grind (arith, nat_tests)
next-set (place ∷ rest) (suc k) p (suc j) l = grind (arith, nat_tests, next-set rest k p j)

pub next-with : (places : List PoolPlace) (k next j : ℕ) → k < length places → next_at (with_next places k next) j ≡ cond (j == k) next (next_at places j)
next-with [] k next j l = absurd (omega arith)
next-with (place ∷ rest) zero next zero l = refl
next-with (place ∷ rest) zero next (suc j) l = grind (arith, nat_tests)
next-with (place ∷ rest) (suc k) next zero l = grind (arith, nat_tests)
next-with (place ∷ rest) (suc k) next (suc j) l = grind (arith, nat_tests, next-with rest k next j)

pub length-with_next : (places : List PoolPlace) (k next : ℕ) → length (with_next places k next) ≡ length places
length-with_next [] k next = refl
length-with_next (place ∷ rest) zero next = refl
length-with_next (place ∷ rest) (suc k) next = omega (arith, length-with_next rest k next)

-- ---- a path stays where its places do

pub kept : (places after : List PoolPlace) (k : ℕ) (chain : List ℕ) → length after ≡ length places → ((j : ℕ) → 1 ≤ times j chain → next_at after j ≡ next_at places j) → IsPath places k chain → IsPath after k chain
kept places after k [] long same path = path
kept places after k (j ∷ js) long same path = (
  path.0,
  omega (arith, long, path.1),
  rw (same j (omega (arith, digit_same j j refl))) (kept places after (next_at places j) js long (λ i l. same i (omega arith)) path.2),
)

-- a place that isn't on a path changes
pub kept_beside : (places after : List PoolPlace) (i next k : ℕ) (chain : List ℕ) → length after ≡ length places → ((j : ℕ) → next_at after j ≡ cond (j == i) next (next_at places j)) → times i chain ≡ 0
    → IsPath places k chain → IsPath after k chain
kept_beside places after i next k chain long is beside path = kept places after k chain long (λ j l. is j ∙ go j l (j == i) refl) path
  where
    go : (j : ℕ) → 1 ≤ times j chain → (b : Bool) → (j == i) ≡ b → cond b next (next_at places j) ≡ next_at places j
    go j l true e = absurd (let same : times j chain ≡ times i chain = ap (λ (m : ℕ). times m chain) (eqb-true j i e) in omega arith)
    go j l false e = refl

-- place `at` is cut out of a path, behind place i
pub cut : (places after : List PoolPlace) (i at first : ℕ) (front rest : List ℕ) → length after ≡ length places → ((j : ℕ) → next_at after j ≡ cond (j == i) (next_at places at) (next_at places j))
    → times i front ≡ 0 → times i rest ≡ 0 → IsPath places first (front ++ i ∷ at ∷ rest) → IsPath after first (front ++ i ∷ rest)
cut places after i at first [] rest long is out later path =
    let now : next_at after i ≡ next_at places at = is i ∙ rw (eq-eqb i i refl) refl in
    (path.0, omega (arith, long, path.1), rw now (kept_beside places after i (next_at places at) (next_at places at) rest long is later path.2.2))
cut places after i at first (j ∷ js) rest long is out later path =
    let apart : j ≢ i = λ e. absurd (omega (arith, digit_same i j (sym e))) in
    let now : next_at after j ≡ next_at places j = is j ∙ rw (ne_eqb j i apart) refl in
    (path.0, omega (arith, long, path.1), rw now (cut places after i at (next_at places j) js rest long is (omega arith) later path.2))

-- what stands on a path stands in the pool
pub on_path : (places : List PoolPlace) (k : ℕ) (front : List ℕ) (i : ℕ) (rest : List ℕ) → IsPath places k (front ++ i ∷ rest) → i < length places
on_path places k [] i rest path = path.1
on_path places k (j ∷ js) i rest path = on_path places (next_at places j) js i rest path.2

-- ---- a function changed at one number

abbrev pub put : {A : Type 0} → ℕ → A → (ℕ → A) → ℕ → A
put k v f j = cond (j == k) v (f j)

-- ... to what it is there
pub put_same : (f : ℕ → ℕ) (k j v : ℕ) → f k ≡ v → cond (j == k) v (f j) ≡ f j
put_same f k j v e = go (j == k) refl
  where
    go : (b : Bool) → (j == k) ≡ b → cond b v (f j) ≡ f j
    go true d = sym e ∙ ap f (sym (eqb-true j k d))
    go false d = refl

-- ---- the chains

-- a place that is on no chain is put at the front of one
pub linked : (tag : ℕ → ℕ) (heads heads' : List ℕ) (places after : List PoolPlace) (t k : ℕ) → PlacesAreLinked tag heads places
    → length heads' ≡ length heads → ((u : ℕ) → head_at heads' u ≡ cond (u == t) k (head_at heads u))
    → length after ≡ length places → ((j : ℕ) → next_at after j ≡ cond (j == k) (head_at heads t) (next_at places j))
    → t < length heads → k < length places → length heads ≤ tag k → PlacesAreLinked (put k t tag) heads' after
linked tag heads heads' places after t k before h heads_are p next_is here within loose = record {
  chains = λ u. cond (u == t) (k ∷ before.chains t) (before.chains u);
  paths = paths;
  each = each;
}
  where
    -- the place was on no chain
    off : (u : ℕ) → u < length heads → times k (before.chains u) ≡ 0
    off u l = before.each u k l ∙ digit_other (tag k) u (λ e. omega (arith, loose, e, l))

    other : (u : ℕ) → u < length heads → IsPath after (head_at heads u) (before.chains u)
    other u l = kept_beside places after k (head_at heads t) (head_at heads u) (before.chains u) p next_is (off u l) (before.paths u l)

    now : next_at after k ≡ head_at heads t
    now = next_is k ∙ rw (eq-eqb k k refl) refl

    go : (u : ℕ) → u < length heads → (b : Bool) → (u == t) ≡ b → IsPath after (cond b k (head_at heads u)) (cond b (k ∷ before.chains t) (before.chains u))
    go u l true e = (refl, omega (arith, p, within), rw now (other t here))
    go u l false e = other u l

    paths : (u : ℕ) → u < length heads' → IsPath after (head_at heads' u) (cond (u == t) (k ∷ before.chains t) (before.chains u))
    paths u l = rw (heads_are u) (go u (omega (arith, h, l)) (u == t) refl)

    counts : (u j : ℕ) → u < length heads → (b : Bool) → (u == t) ≡ b → (d : Bool) → (j == k) ≡ d
        → times j (cond b (k ∷ before.chains t) (before.chains u)) ≡ digit (cond d t (tag j) == u)
    counts u j l true e true f = let same = eqb-true j k f in
        omega (arith, digit_same j k same, digit_same t u (sym (eqb-true u t e)), ap (λ (m : ℕ). times m (before.chains t)) same, off t here)
    counts u j l true e false f = let same = eqb-true u t e in
        omega (arith, ap digit f, before.each t j here, ap (λ (m : ℕ). digit (tag j == m)) same)
    counts u j l false e true f = let same = eqb-true j k f in
        omega (arith, ap (λ (m : ℕ). times m (before.chains u)) same, off u l, digit_other t u (λ s. absurd (apart u t e s)))
      where
        apart : (u t : ℕ) → (u == t) ≡ false → t ≡ u → ⊥
        apart u t e s = grind (arith, nat_tests)
    counts u j l false e false f = before.each u j l

    each : (u j : ℕ) → u < length heads' → times j (cond (u == t) (k ∷ before.chains t) (before.chains u)) ≡ digit (cond (j == k) t (tag j) == u)
    each u j l = counts u j (omega (arith, h, l)) (u == t) refl (j == k) refl

-- the first place of a chain is taken off
pub unlinked_front : (tag : ℕ → ℕ) (heads heads' : List ℕ) (places : List PoolPlace) (t k : ℕ) (rest : List ℕ) (before : PlacesAreLinked tag heads places)
    → length heads' ≡ length heads → ((u : ℕ) → head_at heads' u ≡ cond (u == t) (next_at places k) (head_at heads u))
    → t < length heads → before.chains t ≡ k ∷ rest → PlacesAreLinked (put k (length heads) tag) heads' places
unlinked_front tag heads heads' places t k rest before h heads_are here whole = record {
  chains = λ u. cond (u == t) rest (before.chains u);
  paths = λ u l. rw (heads_are u) (go u (omega (arith, h, l)) (u == t) refl);
  each = λ u j l. counts u j (omega (arith, h, l)) (u == t) refl (j == k) refl;
}
  where
    path : IsPath places (head_at heads t) (k ∷ rest)
    path = subst (λ (js : List ℕ). IsPath places (head_at heads t) js) whole (before.paths t here)

    all : (j : ℕ) → digit (j == k) + times j rest ≡ digit (tag j == t)
    all j = sym (ap (times j) whole) ∙ before.each t j here

    go : (u : ℕ) → u < length heads → (b : Bool) → (u == t) ≡ b → IsPath places (cond b (next_at places k) (head_at heads u)) (cond b rest (before.chains u))
    go u l true e = path.2
    go u l false e = before.paths u l

    -- the place was on this chain
    on : tag k ≡ t
    on = eqb-true (tag k) t (true_of_digit (tag k == t) (omega (arith, all k, digit_same k k refl)))

    counts : (u j : ℕ) → u < length heads → (b : Bool) → (u == t) ≡ b → (d : Bool) → (j == k) ≡ d
        → times j (cond b rest (before.chains u)) ≡ digit (cond d (length heads) (tag j) == u)
    counts u j l true e true f = let same = eqb-true j k f in
        omega (arith, digit_same j k same, all j, digit_le (tag j == t), digit_other (length heads) u (λ s. omega (arith, s, l)))
    counts u j l true e false f = omega (arith, ap digit f, all j, ap (λ (m : ℕ). digit (tag j == m)) (eqb-true u t e))
    counts u j l false e true f = let same = eqb-true j k f in
        omega (arith, before.each u j l, digit_other (tag j) u (λ s. apart (ap tag same ∙ on) s e), digit_other (length heads) u (λ s. omega (arith, s, l)))
      where
        apart : tag j ≡ t → tag j ≡ u → (u == t) ≡ false → ⊥
        apart a b c = grind (arith, nat_tests)
    counts u j l false e false f = before.each u j l

-- a place is taken out from behind place i
pub unlinked_behind : (tag : ℕ → ℕ) (heads : List ℕ) (places after : List PoolPlace) (t i k : ℕ) (front rest : List ℕ) (before : PlacesAreLinked tag heads places)
    → length after ≡ length places → ((j : ℕ) → next_at after j ≡ cond (j == i) (next_at places k) (next_at places j))
    → t < length heads → before.chains t ≡ front ++ i ∷ k ∷ rest → PlacesAreLinked (put k (length heads) tag) heads after
unlinked_behind tag heads places after t i k front rest before long next_is here whole = record {
  chains = λ u. cond (u == t) (front ++ i ∷ rest) (before.chains u);
  paths = λ u l. go u l (u == t) refl;
  each = λ u j l. counts u j l (u == t) refl (j == k) refl;
}
  where
    path : IsPath places (head_at heads t) (front ++ i ∷ k ∷ rest)
    path = subst (λ (js : List ℕ). IsPath places (head_at heads t) js) whole (before.paths t here)

    all : (j : ℕ) → times j front + (digit (j == i) + (digit (j == k) + times j rest)) ≡ digit (tag j == t)
    all j = sym (weigh-append (λ (m : ℕ). digit (j == m)) front (i ∷ k ∷ rest)) ∙ (sym (ap (times j) whole) ∙ before.each t j here)

    less : (j : ℕ) → times j (front ++ i ∷ rest) ≡ times j front + (digit (j == i) + times j rest)
    less j = weigh-append (λ (m : ℕ). digit (j == m)) front (i ∷ rest)

    on : (j : ℕ) → 1 ≤ digit (tag j == t) → tag j ≡ t
    on j l = eqb-true (tag j) t (true_of_digit (tag j == t) l)

    beside : (u : ℕ) → u < length heads → (u == t) ≡ false → times i (before.chains u) ≡ 0
    beside u l e = before.each u i l ∙ digit_other (tag i) u (λ s. apart (on i (omega (arith, all i, digit_same i i refl))) s)
      where
        apart : tag i ≡ t → tag i ≡ u → ⊥
        apart a b = grind (arith, nat_tests)

    go : (u : ℕ) → u < length heads → (b : Bool) → (u == t) ≡ b → IsPath after (head_at heads u) (cond b (front ++ i ∷ rest) (before.chains u))
    go u l true e = rw (eqb-true u t e)
        (cut places after i k (head_at heads t) front rest long next_is (omega (arith, all i, digit_same i i refl, digit_le (tag i == t))) (omega (arith, all i, digit_same i i refl, digit_le (tag i == t))) path)
    go u l false e = kept_beside places after i (next_at places k) (head_at heads u) (before.chains u) long next_is (beside u l e) (before.paths u l)

    counts : (u j : ℕ) → u < length heads → (b : Bool) → (u == t) ≡ b → (d : Bool) → (j == k) ≡ d
        → times j (cond b (front ++ i ∷ rest) (before.chains u)) ≡ digit (cond d (length heads) (tag j) == u)
    counts u j l true e true f = let same = eqb-true j k f in
        omega (arith, less j, digit_same j k same, all j, digit_le (tag j == t), digit_other (length heads) u (λ s. omega (arith, s, l)))
    counts u j l true e false f = omega (arith, less j, ap digit f, all j, ap (λ (m : ℕ). digit (tag j == m)) (eqb-true u t e))
    counts u j l false e true f = let same = eqb-true j k f in
        omega (arith, before.each u j l, digit_other (tag j) u (λ s. apart (on j (omega (arith, all j, digit_same j k same))) s), digit_other (length heads) u (λ s. omega (arith, s, l)))
      where
        apart : tag j ≡ t → tag j ≡ u → ⊥
        apart a b = grind (arith, nat_tests)
    counts u j l false e false f = before.each u j l

-- a place is taken out of its chain
pub unlinked_at : (tag : ℕ → ℕ) (heads : List ℕ) (places : List PoolPlace) (t : ℕ) (spot : Spot) (before : PlacesAreLinked tag heads places) → t < length heads → IsSpot places (before.chains t) spot
    → let after = unlinked t heads places spot.at spot.before in PlacesAreLinked (put spot.at (length heads) tag) after.0 after.1
unlinked_at tag heads places t spot before here is = go spot.before is.before
  where
    go : (b : Option ℕ) → IsPlaceBefore b is.seen → let after = unlinked t heads places spot.at b in PlacesAreLinked (put spot.at (length heads) tag) after.0 after.1
    go None e = unlinked_front tag heads (slice_set heads t (next_at places spot.at)) places t spot.at is.rest before (length-set heads t (next_at places spot.at)) (λ u. head-set heads t (next_at places spot.at) u here) here
        (is.whole ∙ ap (λ (js : List ℕ). js ++ spot.at ∷ is.rest) e)
    go (Some i) (front, e) =
        let whole : before.chains t ≡ front ++ i ∷ spot.at ∷ is.rest = is.whole ∙ (ap (λ (js : List ℕ). js ++ spot.at ∷ is.rest) e ∙ append_assoc front (i ∷ []) (spot.at ∷ is.rest)) in
        unlinked_behind tag heads places (with_next places i (next_at places spot.at)) t i spot.at front is.rest before (length-with_next places i (next_at places spot.at))
        (λ j. next-with places i (next_at places spot.at) j (on_path places (head_at heads t) front i (spot.at ∷ is.rest) (subst (λ (js : List ℕ). IsPath places (head_at heads t) js) whole (before.paths t here)))) here whole
