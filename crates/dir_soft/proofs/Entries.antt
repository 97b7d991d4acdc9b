-- Entries of a pool as a map: what is at a place, and what a change of one place does.
use Rattle.std.proofs.Common.{◌≡◌, ℕ, zero, suc, ◌+◌, ◌<◌, ◌≤◌, Bool, true, false, cond, ◌==◌, Option, Some, None, List, [], ◌∷◌, length, get_or, slice_get, slice_set, refl, sym, ap, ◌∙◌, arith}
use Rattle.std.proofs.lemmas.Bool.Decides.{nat_tests}
use Rattle.std.proofs.lemmas.Bool.{eqb-true}
use Rattle.std.proofs.lemmas.Option.{same_Some}
use Rattle.alw_num.specs.NodeSets.{Nodes}
use Rattle.alw_num.specs.Maps.{value_at, with_value, without_value}
use Rattle.alw_num.proofs.MapLaws.{value-empty, value-with, value-without, same_maps}
use Rattle.dir_soft.specs.declared.places.PoolPlace.{PoolPlace}
use Rattle.dir_soft.specs.Chains.{line_at, with_next}
use Rattle.dir_soft.specs.Pools.{Entry, entry_of, contents, is_free, map_of, first_of, PlacesAreSingle, chain_of, chain_at}
use Rattle.alw_num.proofs.MapLengths.{length-empty, length-with_new}

-- the map has what the first place of a line has
pub value-map_of : (pool : List Entry) (line : ℕ) → value_at (map_of pool) line ≡ first_of pool line
value-map_of [] line = value-empty line
value-map_of (place ∷ rest) line = go (is_free place) (value-map_of rest line)
  where
    go : (free : Bool) → value_at (map_of rest) line ≡ first_of rest line
        → value_at (cond free (map_of rest) (with_value (map_of rest) place.line place.nodes)) line ≡ cond free (first_of rest line) (cond (line == place.line) (Some place.nodes) (first_of rest line))
    go true later = later
    go false later = value-with (map_of rest) place.line place.nodes line ∙ ap (λ (o : Option Nodes). cond (line == place.line) (Some place.nodes) o) later

-- a place that isn't free has its line's set
pub first-at : (pool : List Entry) (k : ℕ) (place : Entry) → PlacesAreSingle pool → slice_get pool k ≡ Some place → is_free place ≡ false → first_of pool place.line ≡ Some place.nodes
first-at [] k place single at used = absurd (cc)
first-at (first ∷ rest) zero place single at used = grind (arith, nat_tests)
first-at (first ∷ rest) (suc k) place single at used = grind (arith, nat_tests, first-at rest k place)

-- ---- a free place is taken for a line that has none

pub first-filled : (pool : List Entry) (k : ℕ) (p q : Entry) (line : ℕ) → slice_get pool k ≡ Some p → is_free p ≡ true → is_free q ≡ false → first_of pool q.line ≡ None
    → first_of (slice_set pool k q) line ≡ cond (line == q.line) (Some q.nodes) (first_of pool line)
first-filled [] k p q line at free used new = absurd (cc)
first-filled (first ∷ rest) zero p q line at free used new = grind (arith, nat_tests)
first-filled (first ∷ rest) (suc k) p q line at free used new = grind (arith, nat_tests, first-filled rest k p q line)

pub single-filled : (pool : List Entry) (k : ℕ) (p q : Entry) → PlacesAreSingle pool → slice_get pool k ≡ Some p → is_free p ≡ true → is_free q ≡ false → first_of pool q.line ≡ None → PlacesAreSingle (slice_set pool k q)
single-filled [] k p q single at free used new = absurd (cc)
single-filled (first ∷ rest) zero p q single at free used new = grind (arith, nat_tests)
single-filled (first ∷ rest) (suc k) p q single at free used new = grind (arith, nat_tests, single-filled rest k p q, first-filled rest k p q first.line)

-- ---- a line's set changes

pub first-changed : (pool : List Entry) (k : ℕ) (p q : Entry) (line : ℕ) → PlacesAreSingle pool → slice_get pool k ≡ Some p → is_free p ≡ false → is_free q ≡ false → q.line ≡ p.line
    → first_of (slice_set pool k q) line ≡ cond (line == q.line) (Some q.nodes) (first_of pool line)
first-changed [] k p q line single at used still same = absurd (cc)
first-changed (first ∷ rest) zero p q line single at used still same = grind (arith, nat_tests)
first-changed (first ∷ rest) (suc k) p q line single at used still same = grind (arith, nat_tests, first-changed rest k p q line, first-at rest k p)

pub single-changed : (pool : List Entry) (k : ℕ) (p q : Entry) → PlacesAreSingle pool → slice_get pool k ≡ Some p → is_free p ≡ false → is_free q ≡ false → q.line ≡ p.line → PlacesAreSingle (slice_set pool k q)
single-changed [] k p q single at used still same = absurd (cc)
single-changed (first ∷ rest) zero p q single at used still same = grind (arith, nat_tests)
single-changed (first ∷ rest) (suc k) p q single at used still same = grind (arith, nat_tests, single-changed rest k p q, first-changed rest k p q first.line, first-at rest k p)

-- ---- a line's place becomes free

pub first-freed : (pool : List Entry) (k : ℕ) (p q : Entry) (line : ℕ) → PlacesAreSingle pool → slice_get pool k ≡ Some p → is_free p ≡ false → is_free q ≡ true
    → first_of (slice_set pool k q) line ≡ cond (line == p.line) None (first_of pool line)
first-freed [] k p q line single at used gone = absurd (cc)
first-freed (first ∷ rest) zero p q line single at used gone = grind (arith, nat_tests)
first-freed (first ∷ rest) (suc k) p q line single at used gone = grind (arith, nat_tests, first-freed rest k p q line, first-at rest k p)

pub single-freed : (pool : List Entry) (k : ℕ) (p q : Entry) → PlacesAreSingle pool → slice_get pool k ≡ Some p → is_free p ≡ false → is_free q ≡ true → PlacesAreSingle (slice_set pool k q)
single-freed [] k p q single at used gone = absurd (cc)
single-freed (first ∷ rest) zero p q single at used gone = grind (arith, nat_tests)
single-freed (first ∷ rest) (suc k) p q single at used gone = grind (arith, nat_tests, single-freed rest k p q, first-freed rest k p q first.line)

-- ---- the same of the maps

pub map-filled : (pool : List Entry) (k : ℕ) (p q : Entry) → slice_get pool k ≡ Some p → is_free p ≡ true → is_free q ≡ false → first_of pool q.line ≡ None → map_of (slice_set pool k q) ≡ with_value (map_of pool) q.line q.nodes
map-filled pool k p q at free used new = same_maps _ _ (λ l. value-map_of (slice_set pool k q) l ∙ first-filled pool k p q l at free used new ∙ sym (value-with (map_of pool) q.line q.nodes l ∙ ap (λ (o : Option Nodes). cond (l == q.line) (Some q.nodes) o) (value-map_of pool l)))

pub map-changed : (pool : List Entry) (k : ℕ) (p q : Entry) → PlacesAreSingle pool → slice_get pool k ≡ Some p → is_free p ≡ false → is_free q ≡ false → q.line ≡ p.line → map_of (slice_set pool k q) ≡ with_value (map_of pool) q.line q.nodes
map-changed pool k p q single at used still same = same_maps _ _ (λ l. value-map_of (slice_set pool k q) l ∙ first-changed pool k p q l single at used still same ∙ sym (value-with (map_of pool) q.line q.nodes l ∙ ap (λ (o : Option Nodes). cond (l == q.line) (Some q.nodes) o) (value-map_of pool l)))

pub map-freed : (pool : List Entry) (k : ℕ) (p q : Entry) → PlacesAreSingle pool → slice_get pool k ≡ Some p → is_free p ≡ false → is_free q ≡ true → map_of (slice_set pool k q) ≡ without_value (map_of pool) p.line
map-freed pool k p q single at used gone = same_maps _ _ (λ l. value-map_of (slice_set pool k q) l ∙ first-freed pool k p q l single at used gone ∙ sym (value-without (map_of pool) p.line l ∙ ap (λ (o : Option Nodes). cond (l == p.line) None o) (value-map_of pool l)))

pub none_at : (pool : List Entry) (line : ℕ) → first_of pool line ≡ None → value_at (map_of pool) line ≡ None
none_at pool line none = value-map_of pool line ∙ none

pub set_at : (pool : List Entry) (k : ℕ) (p : Entry) → PlacesAreSingle pool → slice_get pool k ≡ Some p → is_free p ≡ false → value_at (map_of pool) p.line ≡ Some p.nodes
set_at pool k p single here used = value-map_of pool p.line ∙ first-at pool k p single here used

-- a line without a set: all stays as it is
pub without_none : (pool : List Entry) (line : ℕ) → first_of pool line ≡ None → without_value (map_of pool) line ≡ map_of pool
without_none pool line none = same_maps _ _ (λ l. value-without (map_of pool) line l ∙ go l (l == line) refl)
  where
    go : (l : ℕ) (b : Bool) → (l == line) ≡ b → cond b None (value_at (map_of pool) l) ≡ value_at (map_of pool) l
    go l true e = sym (ap (value_at (map_of pool)) (eqb-true l line e) ∙ (value-map_of pool line ∙ none))
    go l false e = refl

-- ---- how many are in use

pub used_le : (pool : List Entry) → PlacesAreSingle pool → length (map_of pool).entries ≤ length pool
used_le [] single = omega (arith, length-empty Nodes)
used_le (entry ∷ rest) single = go (used_le rest single.1) (is_free entry) refl
  where
    go : length (map_of rest).entries ≤ length rest → (b : Bool) → is_free entry ≡ b
        → length (cond b (map_of rest) (with_value (map_of rest) entry.line entry.nodes)).entries ≤ suc (length rest)
    go fits true e = omega (arith, fits)
    go fits false e = omega (arith, fits, length-with_new (map_of rest) entry.line entry.nodes (none_at rest entry.line (single.0 e)))

-- where not all places are in use, one is free
pub record HasFree (pool : List Entry) : Type 0 where
  pub place : ℕ
  pub entry : Entry
  pub here : slice_get pool place ≡ Some entry
  pub free : is_free entry ≡ true

pub some_free : (pool : List Entry) → PlacesAreSingle pool → length (map_of pool).entries < length pool → HasFree pool
some_free [] single less = absurd (omega arith)
some_free (entry ∷ rest) single less = go (λ l. some_free rest single.1 l) (is_free entry) refl less
  where
    later : HasFree rest → HasFree (entry ∷ rest)
    later h = record { place = suc h.place; entry = h.entry; here = h.here; free = h.free }

    go : (length (map_of rest).entries < length rest → HasFree rest) → (b : Bool) → is_free entry ≡ b
        → length (cond b (map_of rest) (with_value (map_of rest) entry.line entry.nodes)).entries < suc (length rest) → HasFree (entry ∷ rest)
    go more true e l = record { place = 0; entry = entry; here = refl; free = e }
    go more false e l = later (more (omega (arith, l, length-with_new (map_of rest) entry.line entry.nodes (none_at rest entry.line (single.0 e)))))

-- a line that no place in use has
pub first_none : (pool : List Entry) (line : ℕ) → ((j : ℕ) (e : Entry) → slice_get pool j ≡ Some e → e.line ≡ line → is_free e ≡ false → ⊥) → first_of pool line ≡ None
first_none [] line never = refl
first_none (entry ∷ rest) line never = go (first_none rest line (λ j e at same used. never (suc j) e at same used)) (is_free entry) refl (line == entry.line) refl
  where
    go : first_of rest line ≡ None → (b : Bool) → is_free entry ≡ b → (d : Bool) → (line == entry.line) ≡ d → cond b (first_of rest line) (cond d (Some entry.nodes) (first_of rest line)) ≡ None
    go none true e d f = none
    go none false e true f = absurd (never 0 entry refl (sym (eqb-true line entry.line f)) e)
    go none false e false f = none

-- ---- the chains that the places belong on

pub chain-set : (buckets : ℕ) (pool : List Entry) (k : ℕ) (p : Entry) (j : ℕ) → k < length pool → chain_at buckets (slice_set pool k p) j ≡ cond (j == k) (chain_of buckets p) (chain_at buckets pool j)
chain-set buckets [] k p j l = absurd (omega arith)
chain-set buckets (entry ∷ rest) zero p zero l = refl
chain-set buckets (entry ∷ rest) zero p (suc j) l = grind (arith, nat_tests)
chain-set buckets (entry ∷ rest) (suc k) p zero l = grind (arith, nat_tests)
chain-set buckets (entry ∷ rest) (suc k) p (suc j) l = grind (arith, nat_tests, chain-set buckets rest k p j)

pub chain-get : (buckets : ℕ) (pool : List Entry) (k : ℕ) (e : Entry) → slice_get pool k ≡ Some e → chain_at buckets pool k ≡ chain_of buckets e
chain-get buckets [] k e at = absurd (cc)
chain-get buckets (entry ∷ rest) zero e at = ap (chain_of buckets) (same_Some entry e at)
chain-get buckets (entry ∷ rest) (suc k) e at = chain-get buckets rest k e at

pub chain-beyond : (buckets : ℕ) (pool : List Entry) (k : ℕ) → length pool ≤ k → chain_at buckets pool k ≡ buckets + 1
chain-beyond buckets [] k l = refl
chain-beyond buckets (entry ∷ rest) zero l = absurd (omega arith)
chain-beyond buckets (entry ∷ rest) (suc k) l = chain-beyond buckets rest k (omega arith)

-- ---- what stands at the places

pub length-contents : (places : List PoolPlace) → length (contents places) ≡ length places
length-contents [] = refl
length-contents (place ∷ rest) = omega (arith, length-contents rest)

pub contents-set : (places : List PoolPlace) (k : ℕ) (p : PoolPlace) → contents (slice_set places k p) ≡ slice_set (contents places) k (entry_of p)
contents-set [] k p = refl
contents-set (place ∷ rest) zero p = refl
contents-set (place ∷ rest) (suc k) p = ap (λ (es : List Entry). entry_of place ∷ es) (contents-set rest k p)

pub contents-with_next : (places : List PoolPlace) (k next : ℕ) → contents (with_next places k next) ≡ contents places
contents-with_next [] k next = refl
contents-with_next (place ∷ rest) zero next = refl
contents-with_next (place ∷ rest) (suc k) next = ap (λ (es : List Entry). entry_of place ∷ es) (contents-with_next rest k next)

pub contents-get : (places : List PoolPlace) (k : ℕ) (seen : PoolPlace) → k < length places → seen ≡ get_or places k seen → slice_get (contents places) k ≡ Some (entry_of seen)
contents-get [] k seen l e = absurd (omega arith)
contents-get (place ∷ rest) zero seen l e = ap (λ (p : PoolPlace). Some (entry_of p)) (sym e)
contents-get (place ∷ rest) (suc k) seen l e = contents-get rest k seen (omega arith) e

pub line-contents : (places : List PoolPlace) (k : ℕ) (e : Entry) → slice_get (contents places) k ≡ Some e → line_at places k ≡ e.line
line-contents [] k e at = absurd (cc)
line-contents (place ∷ rest) zero e at = ap (λ (x : Entry). x.line) (same_Some (entry_of place) e at)
line-contents (place ∷ rest) (suc k) e at = line-contents rest k e at
