-- Chains of numbers with one remainder: a walk along one meets each number with a digest.
use Rattle.std.proofs.Common.{◌≡◌, ◌≢◌, ℕ, zero, suc, ◌+◌, ◌-◌, ◌%◌, ◌^◌, ◌<◌, ◌≤◌, ◌==◌, ◌⊎◌, inl, inr, Bool, true, false, List, [], ◌∷◌, ◌++◌, length, replicate, slice_index_or, slice_set, mod-lt, refl, sym, ap, ◌∙◌, subst, arith, length-append, length-set}
use Rattle.std.proofs.lemmas.Bool.{cases_lt, eqb-true, eqb-false}
use Rattle.std.proofs.lemmas.List.{get_or-map, length-map, get_or-set_same, get_or-set_other, map-append, map-set}
use Rattle.alw_outcomes.specs.declared.tables.Mark.{Mark}
use Rattle.alw_outcomes.specs.Tables.{IsLast, HasDigest, IsOnChain, AreChained, IsMarkTable, digests_of, befores_of}
use Rattle.alw_outcomes.proofs.Pooling.{or-append}

-- ---- the last number below another

pub last_trans : (P Q : ℕ → Type 0) (below from last : ℕ) → ((k : ℕ) → Q k → P k) → IsLast P below from → IsLast Q from last → IsLast Q below last
last_trans P Q below from last so one two = record {
  within = let a = one.within in let b = two.within in omega (arith, a, b);
  holds = two.holds;
  none = λ k past less here. go k past less here (cases_lt k from);
}
  where
    go : (k : ℕ) → last ≤ k → k < below → Q k → (k < from) ⊎ (from ≤ k) → ⊥
    go k past less here (inl low) = two.none k past low here
    go k past less here (inr high) = one.none k high less (so k here)

last_same : (P Q : ℕ → Type 0) (below last : ℕ) → ((k : ℕ) → k < below → P k → Q k) → ((k : ℕ) → k < below → Q k → P k) → IsLast P below last → IsLast Q below last
last_same P Q below last to from is = record {
  within = is.within;
  holds = λ some. let w = is.within in to (last - 1) (omega (arith, some, w)) (is.holds some);
  none = λ k past less here. is.none k past less (from k less here);
}

-- ---- what a mark tells

pub digest_read : (marks : List Mark) (k : ℕ) (mark : Mark) → k < length marks → mark ≡ slice_index_or marks k mark → slice_index_or (digests_of marks) k 0 ≡ mark.digest
digest_read marks k mark less read = get_or-map (λ (m : Mark). m.digest) marks k mark 0 less ∙ ap (λ (m : Mark). m.digest) (sym read)

pub before_read : (marks : List Mark) (k : ℕ) (mark : Mark) → k < length marks → mark ≡ slice_index_or marks k mark → slice_index_or (befores_of marks) k 0 ≡ mark.before
before_read marks k mark less read = get_or-map (λ (m : Mark). m.before) marks k mark 0 less ∙ ap (λ (m : Mark). m.before) (sym read)

pub mark_digest : (marks : List Mark) (k : ℕ) (none : Mark) → k < length marks → slice_index_or (digests_of marks) k 0 ≡ (slice_index_or marks k none).digest
mark_digest marks k none less = get_or-map (λ (m : Mark). m.digest) marks k none 0 less

pub mark_before : (marks : List Mark) (k : ℕ) (none : Mark) → k < length marks → slice_index_or (befores_of marks) k 0 ≡ (slice_index_or marks k none).before
mark_before marks k none less = get_or-map (λ (m : Mark). m.before) marks k none 0 less

pub digests_long : (marks : List Mark) → length (digests_of marks) ≡ length marks
digests_long marks = length-map marks (λ (m : Mark). m.digest)

befores_long : (marks : List Mark) → length (befores_of marks) ≡ length marks
befores_long marks = length-map marks (λ (m : Mark). m.before)

-- ---- a walk along a chain

pub record IsAlong (digests : List ℕ) (count digest from rest : ℕ) : Type 0 where
  pub within : rest ≤ from
  pub chain : 0 < rest → IsOnChain digests count (digest % count) (rest - 1)
  pub none : (k : ℕ) → rest ≤ k → k < from → HasDigest digests digest k → ⊥

pub along_begins : (digests : List ℕ) (count digest from : ℕ) → (0 < from → IsOnChain digests count (digest % count) (from - 1)) → IsAlong digests count digest from from
along_begins digests count digest from chain = record { within = omega arith; chain = chain; none = λ k past less here. omega (arith, past, less) }

pub along_more : (digests befores heads : List ℕ) (count digest from rest below before : ℕ) → AreChained digests befores heads count below → from ≤ below → 0 < rest
    → slice_index_or digests (rest - 1) 0 ≢ digest
    → slice_index_or befores (rest - 1) 0 ≡ before
    → IsAlong digests count digest from rest → IsAlong digests count digest from before
along_more digests befores heads count digest from rest below before chained less some other is along =
    let w = along.within in
    let last : IsLast (IsOnChain digests count (slice_index_or digests (rest - 1) 0 % count)) (rest - 1) before =
    subst (λ (n : ℕ). IsLast (IsOnChain digests count (slice_index_or digests (rest - 1) 0 % count)) (rest - 1) n) is (chained.before (rest - 1) (omega (arith, w, less, some))) in
    let same : slice_index_or digests (rest - 1) 0 % count ≡ digest % count = along.chain some in
    record {
      within = let l = last.within in omega (arith, l, w);
      chain = λ more. last.holds more ∙ same;
      none = λ k past low here. go last same k past low here (cases_lt k (rest - 1)) (cases_lt k rest);
    }
  where
    go : IsLast (IsOnChain digests count (slice_index_or digests (rest - 1) 0 % count)) (rest - 1) before → slice_index_or digests (rest - 1) 0 % count ≡ digest % count
        → (k : ℕ) → before ≤ k → k < from → HasDigest digests digest k → (k < rest - 1) ⊎ (rest - 1 ≤ k) → (k < rest) ⊎ (rest ≤ k) → ⊥
    go last same k past low here (inl under) _ = last.none k past under (ap (λ (d : ℕ). d % count) here ∙ sym same)
    go last same k past low here (inr over) (inl under) = let e : k ≡ rest - 1 = omega (arith, over, under, some) in other (ap (λ (n : ℕ). slice_index_or digests n 0) (sym e) ∙ here)
    go last same k past low here (inr over) (inr above) = along.none k above low here

pub along_found : (digests : List ℕ) (count digest from rest : ℕ) → slice_index_or digests (rest - 1) 0 ≡ digest → IsAlong digests count digest from rest → IsLast (HasDigest digests digest) from rest
along_found digests count digest from rest is along = record { within = along.within; holds = λ some. is; none = along.none }

pub along_ends : (digests : List ℕ) (count digest from : ℕ) → IsAlong digests count digest from 0 → IsLast (HasDigest digests digest) from 0
along_ends digests count digest from along = record { within = along.within; holds = λ some. absurd (omega (arith, some)); none = along.none }

-- what is found along the chain of a digest is the last one with it
pub last_along : (digests : List ℕ) (count remainder digest below from last : ℕ) → remainder ≡ digest % count → IsLast (IsOnChain digests count remainder) below from
    → IsLast (HasDigest digests digest) from last
    → IsLast (HasDigest digests digest) below last
last_along digests count remainder digest below from last is one two =
    last_trans (IsOnChain digests count remainder) (HasDigest digests digest) below from last (λ k here. ap (λ (d : ℕ). d % count) here ∙ sym is) one two

-- ---- chains that grow

pub none_chained : (digests befores heads : List ℕ) (count : ℕ) → ((k : ℕ) → slice_index_or heads k 0 ≡ 0) → AreChained digests befores heads count 0
none_chained digests befores heads count zeros = record {
  before = λ k less. absurd (omega (arith, less));
  head =
      λ chain less. subst (λ (n : ℕ). IsLast (IsOnChain digests count chain) 0 n) (sym (zeros chain))
      (record { within = omega arith; holds = λ some. absurd (omega (arith, some)); none = λ k past low here. omega (arith, low) });
}

-- only what is below counts
pub chained_agree : (digests digests' befores befores' heads : List ℕ) (count below : ℕ) → ((k : ℕ) → k < below → slice_index_or digests' k 0 ≡ slice_index_or digests k 0)
    → ((k : ℕ) → k < below → slice_index_or befores' k 0 ≡ slice_index_or befores k 0)
    → AreChained digests befores heads count below → AreChained digests' befores' heads count below
chained_agree digests digests' befores befores' heads count below same same' chained = record {
  before = λ k less.
      let e : slice_index_or digests k 0 % count ≡ slice_index_or digests' k 0 % count = ap (λ (d : ℕ). d % count) (sym (same k less)) in
      let half : IsLast (IsOnChain digests count (slice_index_or digests' k 0 % count)) k (slice_index_or befores k 0) =
      subst (λ (r : ℕ). IsLast (IsOnChain digests count r) k (slice_index_or befores k 0)) e (chained.before k less) in
      let one : IsLast (IsOnChain digests count (slice_index_or digests' k 0 % count)) k (slice_index_or befores' k 0) =
      subst (λ (n : ℕ). IsLast (IsOnChain digests count (slice_index_or digests' k 0 % count)) k n) (sym (same' k less)) half in
      moved (slice_index_or digests' k 0 % count) k (slice_index_or befores' k 0) (omega (arith, less)) one;
  head = λ chain less. moved chain below (slice_index_or heads chain 0) (omega arith) (chained.head chain less);
}
  where
    moved : (remainder low last : ℕ) → low ≤ below → IsLast (IsOnChain digests count remainder) low last → IsLast (IsOnChain digests' count remainder) low last
    moved remainder low last under is =
        last_same (IsOnChain digests count remainder) (IsOnChain digests' count remainder) low last
        (λ k less here. ap (λ (d : ℕ). d % count) (same k (omega (arith, less, under))) ∙ here)
        (λ k less here. ap (λ (d : ℕ). d % count) (sym (same k (omega (arith, less, under)))) ∙ here) is

-- one number more, which its chain begins with
pub chained_more : (digests befores heads : List ℕ) (count below chain digest before : ℕ) → chain < count → count ≡ length heads → slice_index_or digests below 0 ≡ digest → digest % count ≡ chain
    → slice_index_or befores below 0 ≡ before → before ≡ slice_index_or heads chain 0
    → AreChained digests befores heads count below → AreChained digests befores (slice_set heads chain (below + 1)) count (below + 1)
chained_more digests befores heads count below chain digest before less long here on before_is head_is chained = record {
  before = λ k low. old k low (cases_lt k below);
  head = λ c low. heads_at c low (c == chain) refl;
}
  where
    is_on : slice_index_or digests below 0 % count ≡ chain
    is_on = ap (λ (d : ℕ). d % count) here ∙ on

    read : slice_index_or heads chain 0 ≡ slice_index_or befores below 0
    read = sym head_is ∙ sym before_is

    last_one : IsLast (IsOnChain digests count (slice_index_or digests below 0 % count)) below (slice_index_or befores below 0)
    last_one =
        let one : IsLast (IsOnChain digests count chain) below (slice_index_or befores below 0) = subst (λ (n : ℕ). IsLast (IsOnChain digests count chain) below n) read (chained.head chain less) in
        subst (λ (r : ℕ). IsLast (IsOnChain digests count r) below (slice_index_or befores below 0)) (sym is_on) one

    old : (k : ℕ) → k < below + 1 → (k < below) ⊎ (below ≤ k) → IsLast (IsOnChain digests count (slice_index_or digests k 0 % count)) k (slice_index_or befores k 0)
    old k low (inl under) = chained.before k under
    old k low (inr over) =
        let e : below ≡ k = omega (arith, low, over) in
        subst (λ (n : ℕ). IsLast (IsOnChain digests count (slice_index_or digests n 0 % count)) n (slice_index_or befores n 0)) e last_one

    heads_at : (c : ℕ) → c < count → (b : Bool) → (c == chain) ≡ b → IsLast (IsOnChain digests count c) (below + 1) (slice_index_or (slice_set heads chain (below + 1)) c 0)
    heads_at c low true e =
        let same : chain ≡ c = sym (eqb-true c chain e) in
        let set : slice_index_or (slice_set heads chain (below + 1)) chain 0 ≡ below + 1 = get_or-set_same heads chain (below + 1) 0 (omega (arith, less, long)) in
        subst (λ (n : ℕ). IsLast (IsOnChain digests count n) (below + 1) (slice_index_or (slice_set heads chain (below + 1)) n 0)) same
        (subst (λ (n : ℕ). IsLast (IsOnChain digests count chain) (below + 1) n) (sym set) (record {
          within = omega arith;
          holds = λ some. let back : below + 1 - 1 ≡ below = omega arith in subst (IsOnChain digests count chain) (sym back) is_on;
          none = λ k past under there. omega (arith, past, under);
        }))
    heads_at c low false e =
        let apart = eqb-false c chain e in
        let same : slice_index_or (slice_set heads chain (below + 1)) c 0 ≡ slice_index_or heads c 0 = get_or-set_other heads chain c (below + 1) 0 apart in
        let was = chained.head c low in
        subst (λ (n : ℕ). IsLast (IsOnChain digests count c) (below + 1) n) (sym same) (record {
          within = let w = was.within in omega (arith, w);
          holds = was.holds;
          none = λ k past under there. further was apart k past under there (cases_lt k below);
        })
      where
        further : IsLast (IsOnChain digests count c) below (slice_index_or heads c 0) → c ≢ chain → (k : ℕ) → slice_index_or heads c 0 ≤ k → k < below + 1 → IsOnChain digests count c k
            → (k < below) ⊎ (below ≤ k) → ⊥
        further was apart k past under there (inl low') = was.none k past low' there
        further was apart k past under there (inr high) = let e' : below ≡ k = omega (arith, under, high) in apart (sym there ∙ ap (λ (n : ℕ). slice_index_or digests n 0 % count) (sym e') ∙ is_on)

-- ---- tables

-- a mark behind the others
pub pushed : (heads : List ℕ) (marks marks' : List Mark) (chain below : ℕ) (mark : Mark) → IsMarkTable heads marks → chain ≡ mark.digest % length heads → mark.before ≡ slice_index_or heads chain 0
    → 0 < length heads → chain < length heads
    → marks' ≡ marks ++ mark ∷ [] → below ≡ length marks' → length marks < 2 ^ 32 - 1 → IsMarkTable (slice_set heads chain below) marks'
pushed heads marks marks' chain below mark table chain_is head_is some less is below_is few =
    let long : length marks' ≡ length marks + 1 = ap length is ∙ length-append marks (mark ∷ []) in
    let last : mark ≡ slice_index_or marks' (length marks) mark = sym (ap (λ (l : List Mark). slice_index_or l (length marks) mark) is ∙ or-last marks mark mark) in
    let within : length marks < length marks' = omega (arith, long) in
    let agree : AreChained (digests_of marks') (befores_of marks') heads (length heads) (length marks) =
    chained_agree (digests_of marks) (digests_of marks') (befores_of marks) (befores_of marks') heads (length heads) (length marks)
    (λ k low. ap (λ (l : List Mark). slice_index_or (digests_of l) k 0) is ∙ ap (λ (l : List ℕ). slice_index_or l k 0) (map-append (λ (m : Mark). m.digest) marks (mark ∷ []))
    ∙ or-append (digests_of marks) (mark.digest ∷ []) k 0 (omega (arith, low, digests_long marks)))
    (λ k low. ap (λ (l : List Mark). slice_index_or (befores_of l) k 0) is ∙ ap (λ (l : List ℕ). slice_index_or l k 0) (map-append (λ (m : Mark). m.before) marks (mark ∷ []))
    ∙ or-append (befores_of marks) (mark.before ∷ []) k 0 (omega (arith, low, befores_long marks)))
    table.chained in
    let more = chained_more (digests_of marks') (befores_of marks') heads (length heads) (length marks) chain mark.digest mark.before less refl (digest_read marks' (length marks) mark within last)
    (sym chain_is)
    (before_read marks' (length marks) mark within last) head_is agree in
    let kept : length (slice_set heads chain below) ≡ length heads = length-set heads chain below in
    let upto : length marks + 1 ≡ below = omega (arith, long, below_is) in
    record {
      chained =
          subst (λ (n : ℕ). AreChained (digests_of marks') (befores_of marks') (slice_set heads chain below) n (length marks')) (sym kept)
          (subst (λ (n : ℕ). AreChained (digests_of marks') (befores_of marks') (slice_set heads chain below) (length heads) n) below_is
          (subst (λ (n : ℕ). AreChained (digests_of marks') (befores_of marks') (slice_set heads chain n) (length heads) n) upto more));
      some = λ nought. absurd (omega (arith, nought, kept, some));
      few = omega (arith, long, few);
    }
  where
    or-last : {A : Type 0} (xs : List A) (x d : A) → slice_index_or (xs ++ x ∷ []) (length xs) d ≡ x
    or-last [] x d = refl
    or-last (y ∷ xs) x d = or-last xs x d

-- so many marks are on their chains
pub record ChainingIsUnderWay (heads : List ℕ) (marks before : List Mark) (at : ℕ) : Type 0 where
  pub chained : AreChained (digests_of marks) (befores_of marks) heads (length heads) at
  pub digests : digests_of marks ≡ digests_of before
  pub some : 0 < length heads

pub chaining_begins : (heads : List ℕ) (marks : List Mark) → ((k : ℕ) → slice_index_or heads k 0 ≡ 0) → 0 < length heads → ChainingIsUnderWay heads marks marks 0
chaining_begins heads marks zeros some = record { chained = none_chained (digests_of marks) (befores_of marks) heads (length heads) zeros; digests = refl; some = some }

pub chaining_long : (heads : List ℕ) (marks before : List Mark) (at : ℕ) → ChainingIsUnderWay heads marks before at → length marks ≡ length before
chaining_long heads marks before at so = sym (digests_long marks) ∙ ap length so.digests ∙ digests_long before

pub chaining_more : (heads : List ℕ) (marks before : List Mark) (at chain : ℕ) (mark old : Mark) → ChainingIsUnderWay heads marks before at → at < length marks → old ≡ slice_index_or marks at old
    → mark.digest ≡ old.digest
    → chain ≡ mark.digest % length heads
    → mark.before ≡ slice_index_or heads chain 0 → chain < length heads → ChainingIsUnderWay (slice_set heads chain (at + 1)) (slice_set marks at mark) before (at + 1)
chaining_more heads marks before at chain mark old so within read same chain_is head_is less =
    let kept : digests_of (slice_set marks at mark) ≡ digests_of marks =
    map-set (λ (m : Mark). m.digest) marks at mark ∙ ap (slice_set (digests_of marks) at) (same ∙ sym (digest_read marks at old within read)) ∙ set-same (digests_of marks) at in
    let long : length (slice_set marks at mark) ≡ length marks = length-set marks at mark in
    let there : mark ≡ slice_index_or (slice_set marks at mark) at mark = sym (get_or-set_same marks at mark mark within) in
    let here : at < length (slice_set marks at mark) = omega (arith, within, long) in
    let agree : AreChained (digests_of (slice_set marks at mark)) (befores_of (slice_set marks at mark)) heads (length heads) at =
    chained_agree (digests_of marks) (digests_of (slice_set marks at mark)) (befores_of marks) (befores_of (slice_set marks at mark)) heads (length heads) at
    (λ k low. ap (λ (l : List ℕ). slice_index_or l k 0) kept)
    (λ k low. ap (λ (l : List ℕ). slice_index_or l k 0) (map-set (λ (m : Mark). m.before) marks at mark) ∙ get_or-set_other (befores_of marks) at k mark.before 0 (λ e. omega (arith, low, e)))
    so.chained in
    let more = chained_more (digests_of (slice_set marks at mark)) (befores_of (slice_set marks at mark)) heads (length heads) at chain mark.digest mark.before less refl
    (digest_read (slice_set marks at mark) at mark here there)
    (sym chain_is) (before_read (slice_set marks at mark) at mark here there) head_is agree in
    let size : length (slice_set heads chain (at + 1)) ≡ length heads = length-set heads chain (at + 1) in
    record {
      chained = subst (λ (n : ℕ). AreChained (digests_of (slice_set marks at mark)) (befores_of (slice_set marks at mark)) (slice_set heads chain (at + 1)) n (at + 1)) (sym size) more;
      digests = kept ∙ so.digests;
      some = let s = so.some in omega (arith, s, size);
    }
  where
    set-same : (xs : List ℕ) (k : ℕ) → slice_set xs k (slice_index_or xs k 0) ≡ xs
    set-same [] k = refl
    set-same (x ∷ xs) zero = refl
    set-same (x ∷ xs) (suc k) = ap (λ (l : List ℕ). x ∷ l) (set-same xs k)

pub chaining_ends : (heads : List ℕ) (marks before : List Mark) (at : ℕ) → at ≡ length before → length before < 2 ^ 32 → ChainingIsUnderWay heads marks before at → IsMarkTable heads marks
chaining_ends heads marks before at end few so =
    let long = chaining_long heads marks before at so in
    let e : at ≡ length marks = omega (arith, end, long) in
    record {
      chained = subst (λ (n : ℕ). AreChained (digests_of marks) (befores_of marks) heads (length heads) n) e so.chained;
      some = λ nought. let s = so.some in absurd (omega (arith, nought, s));
      few = omega (arith, long, few);
    }

pub zeros : (n k : ℕ) → (let none : ℕ = 0 in slice_index_or (replicate n none) k none ≡ none)
zeros zero k = refl
zeros (suc n) zero = refl
zeros (suc n) (suc k) = zeros n k

pub none_table : (heads : List ℕ) (marks : List Mark) → heads ≡ [] → marks ≡ [] → IsMarkTable heads marks
none_table heads marks no_heads no_marks = record {
  chained = record {
    before = λ k less. absurd (let l = ap length no_marks in omega (arith, less, l));
    head = λ chain less. absurd (let l = ap length no_heads in omega (arith, less, l));
  };
  some = λ _. ap length no_marks;
  few = let l = ap length no_marks in omega (arith, l);
}

pub remainder_less : (digest count : ℕ) → 0 < count → digest % count < count
remainder_less digest count some = mod-lt digest some
