-- Members that are apart, found by their digests.
use Rattle.std.proofs.Common.{◌≡◌, ℕ, ◌-◌, ◌<◌, ◌≤◌, ◌⊎◌, inl, inr, Bool, false, IsTrue, Some, List, [], ◌∷◌, ◌++◌, length, map, drop, slice_index_or, sym, ap, ◌∙◌, arith}
use Rattle.std.specs.List.{slice_get}
use Rattle.std.proofs.lemmas.Bool.{cases_lt, false≢true}
use Rattle.std.proofs.lemmas.Option.{slice_get_within, get_or_from_slice_get}
use Rattle.std.proofs.lemmas.List.{get_or-map, length-map, map-append, drop_all}
use Rattle.alw_num.specs.declared.addresses.Line.{Line}
use Rattle.alw_outcomes.specs.Digests.{weighed, line_digest}
use Rattle.alw_outcomes.specs.Pools.{IsIndexed}
use Rattle.alw_outcomes.specs.Tables.{IsLast, HasDigest}
use Rattle.alw_outcomes.proofs.Pooling.{get-cases, get_read, some_is}

-- the digest of a member, by its number
pub digest_is : {A : Type 0} (digest : A → ℕ) (members : List A) (digests : List ℕ) (k : ℕ) (x : A) → IsIndexed digest members digests → slice_get members k ≡ Some x → HasDigest digests (digest x) k
digest_is digest members digests k x indexed there =
    ap (λ (l : List ℕ). slice_index_or l k 0) indexed.told ∙ get_or-map digest members k x 0 (slice_get_within members k x there) ∙ ap digest (get_or_from_slice_get members k x x there)

pub index_long : {A : Type 0} (digest : A → ℕ) (members : List A) (digests : List ℕ) → IsIndexed digest members digests → length digests ≡ length members
index_long digest members digests indexed = ap length indexed.told ∙ length-map members digest

-- no member from this number on is the one that is looked for
pub record IsSought {A : Type 0} (members : List A) (digests : List ℕ) (digest : ℕ) (x : A) (rest : ℕ) : Type 0 where
  pub within : rest ≤ length members
  pub holds : 0 < rest → HasDigest digests digest (rest - 1)
  pub none : (k : ℕ) → rest ≤ k → slice_get members k ≡ Some x → ⊥

pub sought_begins : {A : Type 0} (digest : A → ℕ) (members : List A) (digests : List ℕ) (d : ℕ) (x : A) (rest : ℕ) → IsIndexed digest members digests → d ≡ digest x
    → IsLast (HasDigest digests d) (length digests) rest
    → IsSought members digests d x rest
sought_begins digest members digests d x rest indexed is last =
    let long = index_long digest members digests indexed in
    record {
      within = let w = last.within in omega (arith, w, long);
      holds = last.holds;
      none = λ k past there. last.none k past (let w = slice_get_within members k x there in omega (arith, w, long)) (digest_is digest members digests k x indexed there ∙ sym is);
    }

pub sought_more : {A : Type 0} (digest : A → ℕ) (members : List A) (digests : List ℕ) (d : ℕ) (x : A) (rest next : ℕ) → IsIndexed digest members digests → d ≡ digest x → 0 < rest
    → (slice_get members (rest - 1) ≡ Some x → ⊥)
    → IsLast (HasDigest digests d) (rest - 1) next → IsSought members digests d x rest → IsSought members digests d x next
sought_more digest members digests d x rest next indexed is some other last sought = record {
  within = let w = last.within in let v = sought.within in omega (arith, w, v, some);
  holds = last.holds;
  none = λ k past there. go k past there (cases_lt k (rest - 1)) (cases_lt k rest);
}
  where
    go : (k : ℕ) → next ≤ k → slice_get members k ≡ Some x → (k < rest - 1) ⊎ (rest - 1 ≤ k) → (k < rest) ⊎ (rest ≤ k) → ⊥
    go k past there (inl under) _ = last.none k past under (digest_is digest members digests k x indexed there ∙ sym is)
    go k past there (inr over) (inl under) = let e : k ≡ rest - 1 = omega (arith, over, under, some) in other (ap (slice_get members) (sym e) ∙ there)
    go k past there (inr over) (inr above) = sought.none k above there

pub sought_ends : {A : Type 0} (members : List A) (digests : List ℕ) (d : ℕ) (x : A) → IsSought members digests d x 0 → (k : ℕ) → slice_get members k ≡ Some x → ⊥
sought_ends members digests d x sought k there = sought.none k (omega arith) there

-- one member more, which is none of those
pub index_more : {A : Type 0} (digest : A → ℕ) (members members' : List A) (digests digests' : List ℕ) (x : A) → IsIndexed digest members digests → ((k : ℕ) → slice_get members k ≡ Some x → ⊥)
    → members' ≡ members ++ x ∷ [] → digests' ≡ digests ++ digest x ∷ [] → IsIndexed digest members' digests'
index_more digest members members' digests digests' x indexed new is is' = record {
  apart = λ j k y one two. go j k y (get-cases members x j y (ap (λ l. slice_get l j) (sym is) ∙ one)) (get-cases members x k y (ap (λ l. slice_get l k) (sym is) ∙ two));
  told = is' ∙ ap (λ (l : List ℕ). l ++ digest x ∷ []) indexed.told ∙ sym (map-append digest members (x ∷ [])) ∙ ap (map digest) (sym is);
}
  where
    go : (j k : ℕ) (y : _) → (slice_get members j ≡ Some y) ⊎ ((j ≡ length members) × (x ≡ y)) → (slice_get members k ≡ Some y) ⊎ ((k ≡ length members) × (x ≡ y)) → j ≡ k
    go j k y (inl one) (inl two) = indexed.apart j k y one two
    go j k y (inl one) (inr two) = absurd (new j (one ∙ ap (λ z. Some z) (sym two.1)))
    go j k y (inr one) (inl two) = absurd (new k (two ∙ ap (λ z. Some z) (sym one.1)))
    go j k y (inr one) (inr two) = one.0 ∙ sym two.0

no_member : {A : Type 0} (j : ℕ) (x : A) → slice_get [] j ≡ Some x → ⊥
no_member j x e = cc

pub index_none : {A : Type 0} (digest : A → ℕ) (members : List A) (digests : List ℕ) → members ≡ [] → digests ≡ [] → IsIndexed digest members digests
index_none digest members digests none none' = record {
  apart = λ j k x one two. absurd (no_member j x (ap (λ l. slice_get l j) (sym none) ∙ one));
  told = none' ∙ ap (map digest) (sym none);
}

-- ---- a member that is compared

pub same_there : {A : Type 0} (members : List A) (k : ℕ) (here x : A) → k < length members → here ≡ slice_index_or members k here → here ≡ x → slice_get members k ≡ Some x
same_there members k here x less read same = get_read members k here less read ∙ ap (λ y. Some y) same

pub other_there : {A : Type 0} (members : List A) (k : ℕ) (here x : A) (told : Bool) → k < length members → here ≡ slice_index_or members k here → (here ≡ x → IsTrue told) → told ≡ false
    → slice_get members k ≡ Some x → ⊥
other_there members k here x told less read exact no' there = false≢true (sym no' ∙ exact (some_is here x (sym (get_read members k here less read) ∙ there)))

-- ---- digests of lists

pub lines_end : (lines : List Line) (i digest factor whole : ℕ) → length lines ≤ i → weighed digest factor (map line_digest (drop i lines)) ≡ whole → digest ≡ whole
lines_end lines i digest factor whole past is = ap (λ (l : List Line). weighed digest factor (map line_digest l)) (sym (drop_all i lines past)) ∙ is
