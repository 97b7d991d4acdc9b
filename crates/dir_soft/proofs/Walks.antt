-- A walk along a chain: what is behind it, what is left, and that it ends.
use Rattle.std.proofs.Common.{◌≡◌, ◌≢◌, ◌≤◌, ◌<◌, ℕ, zero, suc, ◌+◌, cond, ◌==◌, nat_lt, Option, Some, None, List, [], ◌∷◌, ◌++◌, length, length-append, get_or, slice_set, refl, sym, ap, ◌∙◌, subst, append_assoc, arith}
use Rattle.std.proofs.lemmas.Bool.Decides.{nat_tests}
use Rattle.std.proofs.lemmas.List.{append-nil}
use Rattle.alw_num.specs.Weights.{digit}
use Rattle.alw_num.proofs.Weigh.{is_node, weigh_push, digit_other}
use Rattle.std.proofs.lemmas.Bool.{ne_eqb}
use Rattle.dir_soft.specs.declared.places.PoolPlace.{PoolPlace}
use Rattle.dir_soft.specs.declared.places.TheConstants.{END}
use Rattle.dir_soft.specs.Chains.{next_at, line_at, head_at, with_next, IsPath, IsChain, IsPlaceBefore, LineIsMissing, IsSpot}

-- ---- what is read at a place

pub next-read : (places : List PoolPlace) (k : ℕ) (d : PoolPlace) → k < length places → (get_or places k d).next ≡ next_at places k
next-read [] k d l = absurd (omega arith)
next-read (place ∷ rest) zero d l = refl
next-read (place ∷ rest) (suc k) d l = next-read rest k d (omega arith)

pub line-read : (places : List PoolPlace) (k : ℕ) (d : PoolPlace) → k < length places → (get_or places k d).line ≡ line_at places k
line-read [] k d l = absurd (omega arith)
line-read (place ∷ rest) zero d l = refl
line-read (place ∷ rest) (suc k) d l = line-read rest k d (omega arith)

pub head-read : (heads : List ℕ) (t d : ℕ) → t < length heads → get_or heads t d ≡ head_at heads t
head-read [] t d l = absurd (omega arith)
head-read (head ∷ rest) zero d l = refl
head-read (head ∷ rest) (suc t) d l = head-read rest t d (omega arith)

pub next-seen : (places : List PoolPlace) (k : ℕ) (seen : PoolPlace) → k < length places → seen ≡ get_or places k seen → seen.next ≡ next_at places k
next-seen places k seen l e = ap (λ (p : PoolPlace). p.next) e ∙ next-read places k seen l

-- a place that names another next one
pub with_next-seen : (places : List PoolPlace) (k next : ℕ) (seen : PoolPlace) → seen ≡ get_or places k seen → slice_set places k (record { line = seen.line; nodes = seen.nodes; next = next }) ≡ with_next places k next
with_next-seen [] k next seen e = refl
with_next-seen (place ∷ rest) zero next seen e = ap (λ (p : PoolPlace). record p { next = next } ∷ rest) e
with_next-seen (place ∷ rest) (suc k) next seen e = ap (λ (ps : List PoolPlace). place ∷ ps) (with_next-seen rest k next seen e)

-- ---- the measure

-- the places from k on, no more than so many
path_from : ℕ → List PoolPlace → ℕ → List ℕ
path_from zero places k = []
path_from (suc most) places k = cond (nat_lt k (length places)) (k ∷ path_from most places (next_at places k)) []

path_is : (most : ℕ) (places : List PoolPlace) (k : ℕ) (chain : List ℕ) → length places ≤ END → length chain ≤ most → IsPath places k chain → path_from most places k ≡ chain
unfolding path_from
path_is zero places k [] ends few path = refl
path_is zero places k (j ∷ js) ends few path = absurd (omega arith)
path_is (suc most) places k [] ends few path = grind (arith, nat_tests)
path_is (suc most) places k (j ∷ js) ends few path =
    let later = path_is most places (next_at places j) js ends (omega arith) path.2 in
    rw (path.0) (grind (arith, nat_tests))

-- how many places are left from k on
pub left_from : List PoolPlace → ℕ → ℕ
left_from places k = length (path_from (length places) places k)

left_is : (places : List PoolPlace) (k : ℕ) (chain : List ℕ) → length places ≤ END → length chain ≤ length places → IsPath places k chain → left_from places k ≡ length chain
unfolding left_from
left_is places k chain ends few path = ap length (path_is (length places) places k chain ends few path)

-- ---- the walk

-- a walk stands at place `at`, behind `before`, and no place behind it is the line's
pub record IsWalk (places : List PoolPlace) (line : ℕ) (before : Option ℕ) (at : ℕ) (chain : List ℕ) : Type 0 where
  pub seen : List ℕ
  pub rest : List ℕ
  pub whole : chain ≡ seen ++ rest
  pub path : IsPath places at rest
  pub behind : IsPlaceBefore before seen
  pub missing : LineIsMissing places seen line

pub starts : (places : List PoolPlace) (line first : ℕ) (chain : List ℕ) → IsPath places first chain → IsWalk places line None first chain
starts places line first chain path = record { seen = []; rest = chain; whole = refl; path = path; behind = refl; missing = λ j l. absurd (omega arith) }

-- a chain that hasn't ended
pub record ChainGoesOn (places : List PoolPlace) (at : ℕ) (rest : List ℕ) : Type 0 where
  pub later : List ℕ
  pub is : rest ≡ at ∷ later
  pub within : at < length places
  pub path : IsPath places (next_at places at) later

pub front : (places : List PoolPlace) (at : ℕ) (rest : List ℕ) → at ≢ END → IsPath places at rest → ChainGoesOn places at rest
front places at [] open_end path = absurd (open_end path)
front places at (j ∷ js) open_end path = let e : j ≡ at = sym path.0 in record {
  later = js;
  is = ap (λ (k : ℕ). k ∷ js) e;
  within = omega (arith, path.1, e);
  path = subst (λ (k : ℕ). IsPath places (next_at places k) js) e path.2;
}

-- the walk stands at a place of the pool
pub stands : (places : List PoolPlace) (line first : ℕ) (before : Option ℕ) (at : ℕ) → IsChain places first → ((chain : List ℕ) → IsPath places first chain → IsWalk places line before at chain)
    → at ≢ END → at < length places
stands places line first before at is walk open_end = let w = walk is.chain is.path in (front places at w.rest open_end w.path).within

-- one place less is left
pub shorter : (places : List PoolPlace) (line first : ℕ) (before : Option ℕ) (at next : ℕ) → IsChain places first → ((chain : List ℕ) → IsPath places first chain → IsWalk places line before at chain)
    → at ≢ END → next ≡ next_at places at → left_from places next < left_from places at
shorter places line first before at next is walk open_end e =
    let w = walk is.chain is.path in
    let f = front places at w.rest open_end w.path in
    let all : length w.seen + length w.rest ≤ length places = omega (arith, is.few, ap length w.whole, length-append w.seen w.rest) in
    let tail : length w.rest ≡ 1 + length f.later = omega (arith, ap length f.is) in
    let here = left_is places at w.rest is.ends (omega arith) w.path in
    let there = left_is places (next_at places at) f.later is.ends (omega arith) f.path in
    rw e (omega (arith, here, there, tail))

-- the place at hand isn't the line's
pub goes_on : (places : List PoolPlace) (line : ℕ) (before : Option ℕ) (at next : ℕ) (chain : List ℕ) → IsWalk places line before at chain → at ≢ END → next ≡ next_at places at → line_at places at ≢ line
    → IsWalk places line (Some at) next chain
goes_on places line before at next chain w open_end e other =
    let f = front places at w.rest open_end w.path in
    record {
      seen = w.seen ++ at ∷ [];
      rest = f.later;
      whole = w.whole ∙ (ap (λ (r : List ℕ). w.seen ++ r) f.is ∙ sym (append_assoc w.seen (at ∷ []) f.later));
      path = subst (λ (k : ℕ). IsPath places k f.later) (sym e) f.path;
      behind = (w.seen, refl);
      missing = λ j l. is_node _ j at
          (λ same. ne_eqb (line_at places j) line (λ bad. other (ap (line_at places) (sym same) ∙ bad)))
          (λ apart. w.missing j (omega (arith, weigh_push (λ (i : ℕ). digit (j == i)) w.seen at, digit_other j at apart)));
    }

-- the place at hand is the line's
pub ends_at : (places : List PoolPlace) (line : ℕ) (before : Option ℕ) (at : ℕ) (chain : List ℕ) → IsWalk places line before at chain → at ≢ END
    → IsSpot places chain (record { before = before; at = at })
ends_at places line before at chain w open_end =
    let f = front places at w.rest open_end w.path in
    record { seen = w.seen; rest = f.later; whole = w.whole ∙ ap (λ (r : List ℕ). w.seen ++ r) f.is; before = w.behind; within = f.within }

-- the chain has ended
pub nothing_left : (places : List PoolPlace) (rest : List ℕ) → length places ≤ END → IsPath places END rest → rest ≡ []
nothing_left places [] ends path = refl
nothing_left places (j ∷ js) ends path = absurd (omega (arith, path.0, path.1))

pub ends : (places : List PoolPlace) (line first : ℕ) (before : Option ℕ) (at : ℕ) (chain : List ℕ) → IsChain places first → IsWalk places line before at chain → at ≡ END → LineIsMissing places chain line
ends places line first before at chain is w e =
    let none = nothing_left places w.rest is.ends (subst (λ (k : ℕ). IsPath places k w.rest) e w.path) in
    let whole : chain ≡ w.seen = w.whole ∙ (ap (λ (r : List ℕ). w.seen ++ r) none ∙ append-nil w.seen) in
    subst (λ (js : List ℕ). LineIsMissing places js line) (sym whole) w.missing
