-- A table's pool and chains: what a look-up finds, and what a change makes of them.
use Rattle.std.proofs.Common.{◌≡◌, ℕ, ◌+◌, ◌%◌, ◌<◌, ◌≤◌, Bool, true, false, cond, ◌==◌, Option, Some, None, List, ◌∷◌, length, get_or, slice_get, slice_set, refl, sym, ap, ◌∙◌, subst, arith}
use Rattle.std.proofs.Math.Nat.{mod-lt}
use Rattle.std.proofs.lemmas.Bool.{true≢false, ne_eqb, eq-eqb, eqb-true, eqb-false}
use Rattle.std.proofs.lemmas.List.{length-set}
use Rattle.alw_num.specs.NodeSets.{Nodes, no_nodes, nodes_of, count_nodes, add_node, has_node}
use Rattle.alw_num.specs.declared.node_sets.NodeSet.{NodeSet}
use Rattle.alw_num.specs.Maps.{Map, value_at, with_value}
use Rattle.alw_num.specs.Weights.{digit, times}
use Rattle.alw_num.proofs.Sets.{has-add, has-none, none_of_count}
use Rattle.alw_num.proofs.Weigh.{sum_times, sum_le, sum_ones, digit_same, digit_other, digit_le, true_of_digit, weigh-append}
use Rattle.dir_soft.specs.declared.places.PoolPlace.{PoolPlace}
use Rattle.dir_soft.specs.declared.places.Spot.{Spot}
use Rattle.dir_soft.specs.Tables.{set_or_none, table_of}
use Rattle.dir_soft.specs.Chains.{next_at, line_at, head_at, IsPath, IsChain, PlacesAreLinked, LineIsMissing, IsSpot}
use Rattle.dir_soft.specs.Pools.{Entry, entry_of, contents, is_free, map_of, first_of, PlacesAreSingle, IsTable, chain_of, chain_at}
use Rattle.alw_num.proofs.MapLengths.{length-with_same, length-without}
use Rattle.dir_soft.proofs.Walks.{head-read}
use Rattle.dir_soft.proofs.Links.{next-set, kept, put_same}
use Rattle.dir_soft.proofs.Entries
use Rattle.dir_soft.proofs.Walks

-- ---- look-ups

-- a chain has no more places than the pool
short : (tag : ℕ → ℕ) (heads : List ℕ) (places : List PoolPlace) (t : ℕ) (before : PlacesAreLinked tag heads places) → t < length heads → ((k : ℕ) → length places ≤ k → length heads ≤ tag k) → length (before.chains t) ≤ length places
short tag heads places t before here beyond =
    let all = sum_times (length places) (before.chains t) (λ k l. before.each t k here ∙ digit_other (tag k) t (λ e. omega (arith, e, here, beyond k l))) in
    let most = sum_le (length places) (λ k. times k (before.chains t)) (λ k. 1) (λ k l. omega (arith, before.each t k here, digit_le (tag k == t))) in
    omega (arith, all, most, sum_ones (length places))

-- there is a chain from each head on
pub chain_is : (lines buckets used : ℕ) (heads : List ℕ) (places : List PoolPlace) (t seen : ℕ) → IsTable lines buckets used heads places → t ≤ buckets → seen ≡ get_or heads t seen → IsChain places seen
chain_is lines buckets used heads places t seen is l e =
    let here : t < length heads = omega (arith, is.heads_are, l) in
    rw (e ∙ head-read heads t seen here) (record {
      chain = is.linked.chains t;
      path = is.linked.paths t here;
      few = short (chain_at buckets (contents places)) heads places t is.linked here (λ k l. omega (arith, Entries.chain-beyond buckets (contents places) k (omega (arith, Entries.length-contents places, l)), is.heads_are));
      ends = omega (arith, is.fits, is.few);
    })

pub bucket-lt : (line buckets : ℕ) → 1 ≤ buckets → line % buckets < buckets
bucket-lt line buckets some = mod-lt line (omega (arith, some))

-- what a look-up of a line tells
pub record IsLookUp (places : List PoolPlace) (head line : ℕ) (spot : Spot) : Type 0 where
  pub found : (chain : List ℕ) → IsPath places head chain → IsSpot places chain spot
  pub line_is : line_at places spot.at ≡ line
  pub within : spot.at < length places

-- ... and of the pool: the place has the line, is in use, and stands on the line's chain
pub record IsLines (lines buckets used : ℕ) (heads : List ℕ) (places : List PoolPlace) (is : IsTable lines buckets used heads places) (line : ℕ) (spot : Spot) (seen : PoolPlace) : Type 0 where
  pub here : slice_get (contents places) spot.at ≡ Some (entry_of seen)
  pub same : seen.line ≡ line
  pub used_place : is_free (entry_of seen) ≡ false
  pub on : IsSpot places (is.linked.chains (line % buckets)) spot
  pub bucket : line % buckets < length heads
  pub within : spot.at < length places

pub finds : (lines buckets used : ℕ) (heads : List ℕ) (places : List PoolPlace) (is : IsTable lines buckets used heads places) (line head : ℕ) (spot : Spot) (seen : PoolPlace)
    → head ≡ get_or heads (line % buckets) head → IsLookUp places head line spot → seen ≡ get_or places spot.at seen → IsLines lines buckets used heads places is line spot seen
finds lines buckets used heads places is line head spot seen h look read =
    let below = bucket-lt line buckets is.some in
    let bucket : line % buckets < length heads = omega (arith, is.heads_are, below) in
    let here = Entries.contents-get places spot.at seen look.within read in
    let on = look.found (is.linked.chains (line % buckets)) (rw (h ∙ head-read heads (line % buckets) head bucket) (is.linked.paths (line % buckets) bucket)) in
    let count = is.linked.each (line % buckets) spot.at bucket in
    let many : times spot.at (is.linked.chains (line % buckets)) ≡ times spot.at on.seen + (digit (spot.at == spot.at) + times spot.at on.rest) = ap (times spot.at) on.whole ∙ weigh-append (λ (m : ℕ). digit (spot.at == m)) on.seen (spot.at ∷ on.rest) in
    let chain : chain_of buckets (entry_of seen) ≡ line % buckets = sym (Entries.chain-get buckets (contents places) spot.at (entry_of seen) here)
    ∙ eqb-true (chain_at buckets (contents places) spot.at) (line % buckets) (true_of_digit (chain_at buckets (contents places) spot.at == line % buckets) (omega (arith, count, many, digit_same spot.at spot.at refl))) in
    record {
      here = here;
      same = sym (Entries.line-contents places spot.at (entry_of seen) here) ∙ look.line_is;
      used_place = go (is_free (entry_of seen)) refl chain below;
      on = on;
      bucket = bucket;
      within = look.within;
    }
  where
    go : (b : Bool) → is_free (entry_of seen) ≡ b → cond b buckets (seen.line % buckets) ≡ line % buckets → line % buckets < buckets → is_free (entry_of seen) ≡ false
    go true e c l = absurd (omega (arith, c, l))
    go false e c l = e

-- a line that isn't on its chain has no place
pub misses : (lines buckets used : ℕ) (heads : List ℕ) (places : List PoolPlace) (is : IsTable lines buckets used heads places) (line head : ℕ) → head ≡ get_or heads (line % buckets) head
    → ((chain : List ℕ) → IsPath places head chain → LineIsMissing places chain line) → first_of (contents places) line ≡ None
misses lines buckets used heads places is line head h missing =
    let below = bucket-lt line buckets is.some in
    let bucket : line % buckets < length heads = omega (arith, is.heads_are, below) in
    let none = missing (is.linked.chains (line % buckets)) (rw (h ∙ head-read heads (line % buckets) head bucket) (is.linked.paths (line % buckets) bucket)) in
    Entries.first_none (contents places) line (λ j e at same used_place.
    let chain : chain_at buckets (contents places) j ≡ line % buckets = Entries.chain-get buckets (contents places) j e at ∙ (ap (λ (b : Bool). cond b buckets (e.line % buckets)) used_place ∙ ap (λ (l : ℕ). l % buckets) same) in
    let count : times j (is.linked.chains (line % buckets)) ≡ 1 = is.linked.each (line % buckets) j bucket ∙ digit_same (chain_at buckets (contents places) j) (line % buckets) chain in
    true≢false (sym (eq-eqb (line_at places j) line (Entries.line-contents places j e at ∙ same)) ∙ none j (omega (arith, count))))

-- ---- changes

-- the chains where the pool's places name the same next ones and belong on the same chains
pub relinked : (tag other : ℕ → ℕ) (heads : List ℕ) (places after : List PoolPlace) → PlacesAreLinked tag heads places → length after ≡ length places → ((j : ℕ) → next_at after j ≡ next_at places j) → ((j : ℕ) → other j ≡ tag j) → PlacesAreLinked other heads after
relinked tag other heads places after before long same tags = record {
  chains = before.chains;
  paths = λ t l. kept places after (head_at heads t) (before.chains t) long (λ j k. same j) (before.paths t l);
  each = λ t j l. before.each t j l ∙ ap (λ (m : ℕ). digit (m == t)) (sym (tags j));
}

pub some_free : (P : Nodes) (n : ℕ) → (count_nodes (add_node P n) == 0) ≡ false
some_free P n = ne_eqb (count_nodes (add_node P n)) 0 (λ e.
    let here : has_node (add_node P n) n ≡ true = has-add P n n ∙ rw (eq-eqb n n refl) in
    true≢false (sym here ∙ ap (λ (Q : Nodes). has_node Q n) (none_of_count (add_node P n) e) ∙ has-none n))

-- a table where a line's set has changed
pub record IsChanged (lines buckets used : ℕ) (heads : List ℕ) (places after : List PoolPlace) (line : ℕ) (nodes : Nodes) : Type 0 where
  pub table_is : IsTable lines buckets used heads after
  pub map_is : map_of (contents after) ≡ with_value (map_of (contents places)) line nodes

-- a node joins a line's set, at the line's place
pub joins : (lines buckets used : ℕ) (heads : List ℕ) (places : List PoolPlace) (is : IsTable lines buckets used heads places) (line node : ℕ) (spot : Spot) (seen : PoolPlace) (nodes : NodeSet)
    → IsLines lines buckets used heads places is line spot seen → nodes_of nodes ≡ add_node (nodes_of seen.nodes) node → seen ≡ get_or places spot.at seen
    → IsChanged lines buckets used heads places (slice_set places spot.at (record { line = seen.line; nodes = nodes; next = seen.next })) line (add_node (set_or_none (value_at (map_of (contents places)) line)) node)
joins lines buckets used heads places is line node spot seen nodes at grown read =
    let p : PoolPlace = record { line = seen.line; nodes = nodes; next = seen.next } in
    let q : Entry = entry_of p in
    let still : is_free q ≡ false = ap (λ (P : Nodes). count_nodes P == 0) grown ∙ some_free (nodes_of seen.nodes) node in
    let before = Entries.set_at (contents places) spot.at (entry_of seen) is.pool.single at.here at.used_place in
    let value : nodes_of nodes ≡ add_node (set_or_none (value_at (map_of (contents places)) seen.line)) node = grown ∙ ap (λ (o : Option Nodes). add_node (set_or_none o) node) (sym before) in
    let put_is = Entries.contents-set places spot.at p in
    let same : map_of (contents (slice_set places spot.at p)) ≡ with_value (map_of (contents places)) seen.line (nodes_of nodes) = ap map_of put_is ∙ Entries.map-changed (contents places) spot.at (entry_of seen) q is.pool.single at.here at.used_place still refl in
    let long : spot.at < length (contents places) = omega (arith, Entries.length-contents places, at.within) in
    let tags : (j : ℕ) → chain_at buckets (contents (slice_set places spot.at p)) j ≡ chain_at buckets (contents places) j = λ j. ap (λ (es : List Entry). chain_at buckets es j) put_is ∙ (Entries.chain-set buckets (contents places) spot.at q j long
    ∙ put_same (chain_at buckets (contents places)) spot.at j (chain_of buckets q) (Entries.chain-get buckets (contents places) spot.at (entry_of seen) at.here ∙ ap (λ (b : Bool). cond b buckets (seen.line % buckets)) (at.used_place ∙ sym still))) in
    record {
      table_is = record {
        pool = record {
          single = subst PlacesAreSingle (sym put_is) (Entries.single-changed (contents places) spot.at (entry_of seen) q is.pool.single at.here at.used_place still refl);
          counted = ap (λ (m : Map Nodes). length m.entries) same ∙ (length-with_same (map_of (contents places)) seen.line (nodes_of nodes) (nodes_of seen.nodes) before ∙ is.pool.counted);
        };
        linked = relinked (chain_at buckets (contents places)) (chain_at buckets (contents (slice_set places spot.at p))) heads places (slice_set places spot.at p) is.linked (length-set places spot.at p)
            (λ j. next-set places spot.at p j at.within ∙ put_same (next_at places) spot.at j seen.next (sym (Walks.next-seen places spot.at seen at.within read))) tags;
        heads_are = is.heads_are;
        fits = omega (arith, length-set places spot.at p, is.fits);
        few = is.few;
        some = is.some;
      };
      map_is = rw (← at.same) (same ∙ ap (with_value (map_of (contents places)) seen.line) value);
    }

-- ---- what the readers answer

-- a place in use has a member
pub has_member : (place : PoolPlace) → is_free (entry_of place) ≡ false → 1 ≤ count_nodes (nodes_of place.nodes)
has_member place used_place = let some = eqb-false (count_nodes (nodes_of place.nodes)) 0 used_place in omega arith

-- ... and its set is the line's
pub value_seen : (lines buckets used : ℕ) (heads : List ℕ) (places : List PoolPlace) (is : IsTable lines buckets used heads places) (line : ℕ) (spot : Spot) (seen : PoolPlace)
    → IsLines lines buckets used heads places is line spot seen → Some (nodes_of seen.nodes) ≡ value_at (map_of (contents places)) line
value_seen lines buckets used heads places is line spot seen at =
    sym (ap (value_at (map_of (contents places))) (sym at.same) ∙ Entries.set_at (contents places) spot.at (entry_of seen) is.pool.single at.here at.used_place)

pub value_missing : (places : List PoolPlace) (line : ℕ) → first_of (contents places) line ≡ None → None ≡ value_at (map_of (contents places)) line
value_missing places line none = sym (Entries.none_at (contents places) line none)

pub set_seen : (lines buckets used : ℕ) (heads : List ℕ) (places : List PoolPlace) (is : IsTable lines buckets used heads places) (line : ℕ) (spot : Spot) (seen : PoolPlace) → IsLines lines buckets used heads places is line spot seen
    → nodes_of seen.nodes ≡ set_or_none (value_at (map_of (contents places)) line)
set_seen lines buckets used heads places is line spot seen at = ap set_or_none (value_seen lines buckets used heads places is line spot seen at)

-- in a table without a set, each line's is empty
pub none_used : (lines buckets used : ℕ) (heads : List ℕ) (places : List PoolPlace) (is : IsTable lines buckets used heads places) (line : ℕ) (empty : Nodes) → used ≡ 0 → empty ≡ no_nodes → empty ≡ set_or_none (value_at (map_of (contents places)) line)
none_used lines buckets used heads places is line empty none nobody = go (value_at (map_of (contents places)) line) refl
  where
    go : (o : Option Nodes) → value_at (map_of (contents places)) line ≡ o → empty ≡ set_or_none o
    go None e = nobody
    go (Some old) e = absurd (omega (arith, length-without (map_of (contents places)) line old e, is.pool.counted, none))

pub set_missing : (places : List PoolPlace) (line : ℕ) (empty : Nodes) → first_of (contents places) line ≡ None → empty ≡ no_nodes → empty ≡ set_or_none (value_at (map_of (contents places)) line)
set_missing places line empty none nobody = nobody ∙ ap set_or_none (value_missing places line none)

-- two tables with the same map
pub same_table : (lines buckets : ℕ) (one other : Map Nodes) → one ≡ other → table_of lines buckets one ≡ table_of lines buckets other
same_table lines buckets one other e = ap (table_of lines buckets) e

-- no more lines have a set than there are places
pub used_fits : (lines buckets used : ℕ) (heads : List ℕ) (places : List PoolPlace) → IsTable lines buckets used heads places → used ≤ lines
used_fits lines buckets used heads places is = omega (arith, is.pool.counted, Entries.used_le (contents places) is.pool.single, Entries.length-contents places, is.fits)
