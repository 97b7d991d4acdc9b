-- A new table, whose pool has no place yet, and a place more at a pool's end.
use Rattle.std.proofs.Common.{◌≡◌, ℕ, zero, suc, ◌+◌, ◌%◌, ◌<◌, ◌≤◌, Bool, true, cond, ◌==◌, List, [], ◌∷◌, ◌++◌, length, length-append, replicate, slice_set, refl, sym, ap, ◌∙◌, subst, arith}
use Rattle.std.proofs.lemmas.Bool.Decides.{nat_tests}
use Rattle.std.proofs.lemmas.Bool.{eq-eqb}
use Rattle.std.proofs.lemmas.List.{length-set, length-replicate}
use Rattle.alw_num.specs.NodeSets.{Nodes, no_nodes, count_nodes}
use Rattle.alw_num.specs.Maps.{Map, with_value}
use Rattle.alw_num.proofs.MapLengths.{length-empty}
use Rattle.alw_num.proofs.Sets.{count-none}
use Rattle.alw_num.proofs.Weigh.{digit_other}
use Rattle.dir_soft.specs.declared.places.PoolPlace.{PoolPlace}
use Rattle.dir_soft.specs.declared.places.TheConstants.{END}
use Rattle.dir_soft.specs.Chains.{next_at, head_at, IsPath, PlacesAreLinked, IsLonger}
use Rattle.dir_soft.specs.Pools.{Entry, entry_of, contents, is_free, map_of, first_of, PlacesAreSingle, IsTable, chain_of, chain_at}
use Rattle.dir_soft.proofs.Entries.{length-contents, chain-beyond}
use Rattle.dir_soft.proofs.Links.{head-set, put, put_same, linked}
use Rattle.dir_soft.proofs.Pools.{relinked}

-- ---- a new table

head-replicate : (n t : ℕ) → head_at (replicate n END) t ≡ END
head-replicate zero t = refl
head-replicate (suc n) zero = refl
head-replicate (suc n) (suc t) = head-replicate n t

pub new_table : (lines buckets : ℕ) (heads : List ℕ) (places : List PoolPlace) → places ≡ [] → heads ≡ replicate (buckets + 1) END → lines ≤ END → 1 ≤ buckets → IsTable lines buckets 0 heads places
new_table lines buckets heads places none heads_are few some = rw (none, heads_are) (record {
  pool = record { single = tt; counted = length-empty Nodes };
  linked = record {
    chains = λ t. [];
    paths = λ t l. head-replicate (buckets + 1) t;
    each = λ t j l. sym (digit_other (buckets + 1) t (λ e. omega (arith, e, l, length-replicate (buckets + 1) END)));
  };
  heads_are = length-replicate (buckets + 1) END;
  fits = omega arith;
  few = few;
  some = some;
})

-- ---- what a free place more at the end doesn't change

first-push : (pool : List Entry) (e : Entry) (line : ℕ) → is_free e ≡ true → first_of (pool ++ e ∷ []) line ≡ first_of pool line
first-push [] e line free = rw free refl
first-push (entry ∷ rest) e line free = rw (first-push rest e line free) refl

single-push : (pool : List Entry) (e : Entry) → is_free e ≡ true → PlacesAreSingle pool → PlacesAreSingle (pool ++ e ∷ [])
single-push [] e free single = (λ used. refl, tt)
single-push (entry ∷ rest) e free single = (λ used. first-push rest e entry.line free ∙ single.0 used, single-push rest e free single.1)

map-push : (pool : List Entry) (e : Entry) → is_free e ≡ true → map_of (pool ++ e ∷ []) ≡ map_of pool
map-push [] e free = rw free refl
map-push (entry ∷ rest) e free = ap (λ (m : Map Nodes). cond (is_free entry) m (with_value m entry.line entry.nodes)) (map-push rest e free)

chain-push : (buckets : ℕ) (pool : List Entry) (e : Entry) (j : ℕ) → chain_at buckets (pool ++ e ∷ []) j ≡ cond (j == length pool) (chain_of buckets e) (chain_at buckets pool j)
chain-push buckets [] e zero = refl
chain-push buckets [] e (suc j) = grind (arith, nat_tests)
chain-push buckets (entry ∷ rest) e zero = grind (arith, nat_tests)
chain-push buckets (entry ∷ rest) e (suc j) = grind (arith, nat_tests, chain-push buckets rest e j)

contents-push : (places : List PoolPlace) (p : PoolPlace) → contents (places ++ p ∷ []) ≡ contents places ++ entry_of p ∷ []
contents-push [] p = refl
contents-push (place ∷ rest) p = ap (λ (es : List Entry). entry_of place ∷ es) (contents-push rest p)

next-push : (places : List PoolPlace) (p : PoolPlace) (j : ℕ) → j < length places → next_at (places ++ p ∷ []) j ≡ next_at places j
next-push [] p j l = absurd (omega arith)
next-push (place ∷ rest) p zero l = refl
next-push (place ∷ rest) p (suc j) l = next-push rest p j (omega arith)

next-pushed : (places : List PoolPlace) (p : PoolPlace) → next_at (places ++ p ∷ []) (length places) ≡ p.next
next-pushed [] p = refl
next-pushed (place ∷ rest) p = next-pushed rest p

path-push : (places : List PoolPlace) (p : PoolPlace) (k : ℕ) (chain : List ℕ) → IsPath places k chain → IsPath (places ++ p ∷ []) k chain
path-push places p k [] path = path
path-push places p k (j ∷ js) path = (path.0, omega (arith, path.1, length-append places (p ∷ [])), rw (next-push places p j path.1) (path-push places p (next_at places j) js path.2))

-- ---- a table where no place is free

-- a table with one place more, which is the free one
pub record IsWider (lines buckets used : ℕ) (heads : List ℕ) (places after : List PoolPlace) : Type 0 where
  pub table_is : IsTable lines buckets used (slice_set heads buckets (length places)) after
  pub map_is : map_of (contents after) ≡ map_of (contents places)
  pub first_is : (line : ℕ) → first_of (contents after) line ≡ first_of (contents places) line
  pub head_is : head_at (slice_set heads buckets (length places)) buckets ≡ length places
  pub next_is : next_at after (length places) ≡ head_at heads buckets

pub widens : (lines buckets used : ℕ) (heads : List ℕ) (places after : List PoolPlace) → IsTable lines buckets used heads places → head_at heads buckets ≡ END → length places < lines → IsLonger places after → IsWider lines buckets used heads places after
widens lines buckets used heads places after is none room more =
    let p = more.place in
    let e : Entry = entry_of p in
    let tag : ℕ → ℕ = chain_at buckets (contents places) in
    let at = length places in
    let heads' = slice_set heads buckets at in
    let free : is_free e ≡ true = ap (λ (P : Nodes). count_nodes P == 0) more.empty ∙ eq-eqb (count_nodes no_nodes) 0 count-none in
    let long : length after ≡ at + 1 = ap length more.whole ∙ length-append places (p ∷ []) in
    let contents_are : contents after ≡ contents places ++ e ∷ [] = ap contents more.whole ∙ contents-push places p in
    let same : map_of (contents after) ≡ map_of (contents places) = ap map_of contents_are ∙ map-push (contents places) e free in
    let last : next_at after at ≡ head_at heads buckets = ap (λ (ps : List PoolPlace). next_at ps at) more.whole ∙ (next-pushed places p ∙ (more.ends ∙ sym none)) in
    let here : buckets < length heads = omega (arith, is.heads_are) in
    let head : (t : ℕ) → head_at heads' t ≡ cond (t == buckets) at (head_at heads t) = λ t. head-set heads buckets at t here in
    let wide : PlacesAreLinked tag heads after = record {
      chains = is.linked.chains;
      paths = λ t l. subst (λ (ps : List PoolPlace). IsPath ps (head_at heads t) (is.linked.chains t)) (sym more.whole) (path-push places p (head_at heads t) (is.linked.chains t) (is.linked.paths t l));
      each = is.linked.each;
    } in
    let back = linked tag heads heads' after after buckets at wide (length-set heads buckets at) head refl (λ j. sym (put_same (next_at after) at j (head_at heads buckets) last))
    here (omega (arith, long)) (omega (arith, is.heads_are, chain-beyond buckets (contents places) at (omega (arith, length-contents places)))) in
    let tags : (j : ℕ) → chain_at buckets (contents after) j ≡ cond (j == at) buckets (tag j) = λ j. ap (λ (es : List Entry). chain_at buckets es j) contents_are ∙ (chain-push buckets (contents places) e j
    ∙ (ap (λ (n : ℕ). cond (j == n) (chain_of buckets e) (tag j)) (length-contents places) ∙ ap (λ (n : ℕ). cond (j == at) n (tag j)) (ap (λ (b : Bool). cond b buckets (e.line % buckets)) free))) in
    record {
      table_is = record {
        pool = record {
          single = subst PlacesAreSingle (sym contents_are) (single-push (contents places) e free is.pool.single);
          counted = ap (λ (m : Map Nodes). length m.entries) same ∙ is.pool.counted;
        };
        linked = relinked (put at buckets tag) (chain_at buckets (contents after)) heads' after after back refl (λ j. refl) tags;
        heads_are = length-set heads buckets at ∙ is.heads_are;
        fits = omega (arith, long, room);
        few = is.few;
        some = is.some;
      };
      map_is = same;
      first_is = λ line. ap (λ (es : List Entry). first_of es line) contents_are ∙ first-push (contents places) e line free;
      head_is = head buckets ∙ ap (λ (b : Bool). cond b at (head_at heads buckets)) (eq-eqb buckets buckets refl);
      next_is = last;
    }
