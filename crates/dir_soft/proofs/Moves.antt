-- A place that goes onto another chain of a table: a line gets a free place or a new one, or its place becomes free.
use Rattle.std.proofs.Common.{◌≡◌, ◌≢◌, ℕ, ◌+◌, ◌-◌, ◌%◌, ◌<◌, ◌≤◌, Bool, true, false, cond, ◌==◌, Option, Some, None, List, [], ◌∷◌, ◌++◌, append_assoc, length, length-append, get_or, slice_get, slice_set, refl, sym, ap, ◌∙◌, subst, arith}
use Rattle.std.proofs.lemmas.Bool.{eq-eqb, eqb-true}
use Rattle.std.proofs.lemmas.List.{length-set}
use Rattle.std.proofs.lemmas.Option.{slice_get-get_or}
use Rattle.alw_num.specs.NodeSets.{Nodes, no_nodes, nodes_of, count_nodes, add_node}
use Rattle.alw_num.specs.declared.node_sets.NodeSet.{NodeSet}
use Rattle.alw_num.specs.Maps.{Map, value_at, with_value, without_value}
use Rattle.alw_num.specs.Weights.{digit, times}
use Rattle.alw_num.proofs.Sets.{count-none}
use Rattle.alw_num.proofs.Weigh.{is_node, cases_lt_then, digit_same, true_of_digit}
use Rattle.dir_soft.specs.declared.places.PoolPlace.{PoolPlace}
use Rattle.dir_soft.specs.declared.places.Spot.{Spot}
use Rattle.dir_soft.specs.declared.places.TheConstants.{END}
use Rattle.dir_soft.specs.Tables.{set_or_none}
use Rattle.dir_soft.specs.Chains.{next_at, head_at, unlinked, IsPath, PlacesAreLinked, IsSpot, IsLoose, IsPlaceBefore, IsBeforeWithin}
use Rattle.dir_soft.specs.Pools.{Entry, entry_of, contents, is_free, map_of, first_of, PlacesAreSingle, IsTable, chain_of, chain_at}
use Rattle.alw_num.proofs.MapLengths.{length-with_new, length-without}
use Rattle.dir_soft.proofs.Links.{next-set, head-set, length-with_next, set-back, put, linked, unlinked_at, on_path}
use Rattle.dir_soft.proofs.Rooms.{widens}
use Rattle.dir_soft.proofs.Pools.{IsLines, relinked, some_free, bucket-lt}
use Rattle.dir_soft.proofs.Walks.{front, nothing_left}
use Rattle.dir_soft.proofs.Entries

-- what unlinking leaves: as many heads and places, with the same contents
pub record IsUnlinked (heads : List ℕ) (places : List PoolPlace) (after : List ℕ × List PoolPlace) : Type 0 where
  pub heads_long : length after.0 ≡ length heads
  pub long : length after.1 ≡ length places
  pub same : contents after.1 ≡ contents places

pub unlinked_is : (t : ℕ) (heads : List ℕ) (places : List PoolPlace) (at : ℕ) (before : Option ℕ) → IsUnlinked heads places (unlinked t heads places at before)
unlinked_is t heads places at None = record { heads_long = length-set heads t (next_at places at); long = refl; same = refl }
unlinked_is t heads places at (Some i) = record { heads_long = refl; long = length-with_next places i (next_at places at); same = Entries.contents-with_next places i (next_at places at) }

-- the place before a spot is in the pool
pub before_within : (places : List PoolPlace) (k : ℕ) (chain : List ℕ) (spot : Spot) → IsPath places k chain → IsSpot places chain spot → IsBeforeWithin spot.before (length places)
before_within places k chain spot path is = go spot.before is.before
  where
    go : (b : Option ℕ) → IsPlaceBefore b is.seen → IsBeforeWithin b (length places)
    go None e = tt
    go (Some i) (front, e) = on_path places k front i (spot.at ∷ is.rest) (subst (λ (js : List ℕ). IsPath places k js) (is.whole ∙ (ap (λ (js : List ℕ). js ++ spot.at ∷ is.rest) e ∙ append_assoc front (i ∷ []) (spot.at ∷ is.rest))) path)

-- a place goes to the front of another chain, with other contents that belong there
pub moved : (buckets : ℕ) (heads : List ℕ) (places : List PoolPlace) (t to : ℕ) (spot : Spot) (p : PoolPlace) (before : PlacesAreLinked (chain_at buckets (contents places)) heads places)
    → t < length heads → to < length heads → spot.at < length places → IsSpot places (before.chains t) spot → (r : List ℕ × List PoolPlace) → r ≡ unlinked t heads places spot.at spot.before
    → p.next ≡ head_at r.0 to → chain_of buckets (entry_of p) ≡ to
    → PlacesAreLinked (chain_at buckets (contents (slice_set r.1 spot.at p))) (slice_set r.0 to spot.at) (slice_set r.1 spot.at p)
moved buckets heads places t to spot p before from there within is r r_is next_is chain_is =
    let loose_tag : ℕ → ℕ = put spot.at (length heads) (chain_at buckets (contents places)) in
    let u : IsUnlinked heads places r = subst (IsUnlinked heads places) (sym r_is) (unlinked_is t heads places spot.at spot.before) in
    let out : PlacesAreLinked loose_tag r.0 r.1 = subst (λ (q : List ℕ × List PoolPlace). PlacesAreLinked loose_tag q.0 q.1) (sym r_is) (unlinked_at (chain_at buckets (contents places)) heads places t spot before from is) in
    let there' : to < length r.0 = omega (arith, there, u.heads_long) in
    let within' : spot.at < length r.1 = omega (arith, within, u.long) in
    let back = linked loose_tag r.0 (slice_set r.0 to spot.at) r.1 (slice_set r.1 spot.at p) to spot.at out
    (length-set r.0 to spot.at) (λ v. head-set r.0 to spot.at v there') (length-set r.1 spot.at p)
    (λ j. next-set r.1 spot.at p j within' ∙ ap (λ (n : ℕ). cond (j == spot.at) n (next_at r.1 j)) next_is)
    there' within' (rw (eq-eqb spot.at spot.at refl) (omega (arith, u.heads_long))) in
    let contents_are : contents (slice_set r.1 spot.at p) ≡ slice_set (contents places) spot.at (entry_of p) = Entries.contents-set r.1 spot.at p ∙ ap (λ (es : List Entry). slice_set es spot.at (entry_of p)) u.same in
    let long : spot.at < length (contents places) = omega (arith, within, Entries.length-contents places) in
    relinked (put spot.at to loose_tag) (chain_at buckets (contents (slice_set r.1 spot.at p))) (slice_set r.0 to spot.at) (slice_set r.1 spot.at p) (slice_set r.1 spot.at p) back refl (λ j. refl)
    (λ j. ap (λ (es : List Entry). chain_at buckets es j) contents_are ∙ (Entries.chain-set buckets (contents places) spot.at (entry_of p) j long ∙ twice j (j == spot.at) (length heads) (chain_at buckets (contents places) j) chain_is))
  where
    twice : (j : ℕ) (b : Bool) (n v : ℕ) → chain_of buckets (entry_of p) ≡ to → cond b (chain_of buckets (entry_of p)) v ≡ cond b to (cond b n v)
    twice j true n v e = e
    twice j false n v e = refl

-- ---- a line gets a place

-- the first free place
pub record IsFree (heads : List ℕ) (places : List PoolPlace) (buckets : ℕ) (linked_is : PlacesAreLinked (chain_at buckets (contents places)) heads places) (at : ℕ) : Type 0 where
  pub within : at < length places
  pub on : IsSpot places (linked_is.chains buckets) (record { before = None; at = at })
  pub entry : Entry
  pub here : slice_get (contents places) at ≡ Some entry
  pub free : is_free entry ≡ true
  pub chain : buckets < length heads

pub free_is : (lines buckets used : ℕ) (heads : List ℕ) (places : List PoolPlace) (is : IsTable lines buckets used heads places) → head_at heads buckets ≢ END → IsFree heads places buckets is.linked (head_at heads buckets)
free_is lines buckets used heads places is open_end =
    let here : buckets < length heads = omega (arith, is.heads_are) in
    let at = head_at heads buckets in
    let first = front places at (is.linked.chains buckets) open_end (is.linked.paths buckets here) in
    let nobody : Entry = record { line = 0; nodes = no_nodes } in
    let got = slice_get-get_or (contents places) at nobody (omega (arith, first.within, Entries.length-contents places)) in
    let count : times at (is.linked.chains buckets) ≡ digit (at == at) + times at first.later = ap (times at) first.is in
    let chain : chain_of buckets (get_or (contents places) at nobody) ≡ buckets = sym (Entries.chain-get buckets (contents places) at (get_or (contents places) at nobody) got)
    ∙ eqb-true (chain_at buckets (contents places) at) buckets (true_of_digit (chain_at buckets (contents places) at == buckets) (omega (arith, is.linked.each buckets at here, count, digit_same at at refl))) in
    record {
      within = first.within;
      on = record { seen = []; rest = first.later; whole = first.is; before = refl; within = first.within };
      entry = get_or (contents places) at nobody;
      here = got;
      free = go (get_or (contents places) at nobody) (is_free (get_or (contents places) at nobody)) refl chain;
      chain = here;
    }
  where
    go : (e : Entry) (b : Bool) → is_free e ≡ b → cond b buckets (e.line % buckets) ≡ buckets → is_free e ≡ true
    go e true f c = f
    go e false f c = absurd (omega (arith, c, bucket-lt e.line buckets is.some))

-- where no place is free, each has a line's set
pub all_used : (lines buckets used : ℕ) (heads : List ℕ) (places : List PoolPlace) (is : IsTable lines buckets used heads places) → head_at heads buckets ≡ END → length places ≤ used
all_used lines buckets used heads places is none = cases_lt_then (length places) used (λ less.
    let here : buckets < length heads = omega (arith, is.heads_are) in
    let f = Entries.some_free (contents places) is.pool.single (omega (arith, is.pool.counted, less, Entries.length-contents places)) in
    let belongs : chain_at buckets (contents places) f.place ≡ buckets = Entries.chain-get buckets (contents places) f.place f.entry f.here ∙ ap (λ (b : Bool). cond b buckets (f.entry.line % buckets)) f.free in
    let empty = nothing_left places (is.linked.chains buckets) (omega (arith, is.fits, is.few)) (subst (λ (k : ℕ). IsPath places k (is.linked.chains buckets)) none (is.linked.paths buckets here)) in
    absurd (omega (arith, ap (times f.place) empty, is.linked.each buckets f.place here, digit_same (chain_at buckets (contents places) f.place) buckets belongs))) (λ l. l)

-- a table where the sets by line are these
pub record IsMade (lines buckets used : ℕ) (heads : List ℕ) (places : List PoolPlace) (sets : Map Nodes) : Type 0 where
  pub table_is : IsTable lines buckets used heads places
  pub map_is : map_of (contents places) ≡ sets

pub opens : (lines buckets used : ℕ) (heads : List ℕ) (places : List PoolPlace) (is : IsTable lines buckets used heads places) (line node : ℕ) (nodes : NodeSet) (empty : Nodes) (r : List ℕ × List PoolPlace)
    → head_at heads buckets ≢ END → first_of (contents places) line ≡ None → empty ≡ no_nodes → nodes_of nodes ≡ add_node empty node → r ≡ unlinked buckets heads places (head_at heads buckets) None
    → IsMade lines buckets (used + 1) (slice_set r.0 (line % buckets) (head_at heads buckets))
    (slice_set r.1 (head_at heads buckets) (record { line = line; nodes = nodes; next = head_at r.0 (line % buckets) }))
    (with_value (map_of (contents places)) line (add_node (set_or_none (value_at (map_of (contents places)) line)) node))
opens lines buckets used heads places is line node nodes empty r open_end none nobody grown r_is =
    let at = head_at heads buckets in
    let f = free_is lines buckets used heads places is open_end in
    let t = line % buckets in
    let bucket : t < length heads = omega (arith, is.heads_are, bucket-lt line buckets is.some) in
    let p : PoolPlace = record { line = line; nodes = nodes; next = head_at r.0 t } in
    let q : Entry = entry_of p in
    let used_now : is_free q ≡ false = ap (λ (P : Nodes). count_nodes P == 0) grown ∙ some_free empty node in
    let before : value_at (map_of (contents places)) line ≡ None = Entries.none_at (contents places) line none in
    let value : nodes_of nodes ≡ add_node (set_or_none (value_at (map_of (contents places)) line)) node = grown ∙ (ap (λ (P : Nodes). add_node P node) nobody ∙ ap (λ (o : Option Nodes). add_node (set_or_none o) node) (sym before)) in
    let u : IsUnlinked heads places r = subst (IsUnlinked heads places) (sym r_is) (unlinked_is buckets heads places at None) in
    let contents_are : contents (slice_set r.1 at p) ≡ slice_set (contents places) at q = Entries.contents-set r.1 at p ∙ ap (λ (es : List Entry). slice_set es at q) u.same in
    let same : map_of (contents (slice_set r.1 at p)) ≡ with_value (map_of (contents places)) line (nodes_of nodes) = ap map_of contents_are ∙ Entries.map-filled (contents places) at f.entry q f.here f.free used_now none in
    record {
      table_is = record {
        pool = record {
          single = subst PlacesAreSingle (sym contents_are) (Entries.single-filled (contents places) at f.entry q is.pool.single f.here f.free used_now none);
          counted = ap (λ (m : Map Nodes). length m.entries) same ∙ omega (arith, length-with_new (map_of (contents places)) line (nodes_of nodes) before, is.pool.counted);
        };
        linked = moved buckets heads places buckets t (record { before = None; at = at }) p is.linked f.chain bucket f.within f.on r r_is refl (ap (λ (b : Bool). cond b buckets t) used_now);
        heads_are = length-set r.0 t at ∙ (u.heads_long ∙ is.heads_are);
        fits = omega (arith, length-set r.1 at p, u.long, is.fits);
        few = is.few;
        some = is.some;
      };
      map_is = same ∙ ap (with_value (map_of (contents places)) line) value;
    }

-- ---- a line's place becomes free

pub leaves : (lines buckets used : ℕ) (heads : List ℕ) (places : List PoolPlace) (is : IsTable lines buckets used heads places) (line : ℕ) (spot : Spot) (seen : PoolPlace) (empty : NodeSet) (r : List ℕ × List PoolPlace)
    → IsLines lines buckets used heads places is line spot seen → nodes_of empty ≡ no_nodes → r ≡ unlinked (line % buckets) heads places spot.at spot.before
    → IsMade lines buckets (used - 1) (slice_set r.0 buckets spot.at) (slice_set r.1 spot.at (record { line = 0; nodes = empty; next = head_at r.0 buckets })) (without_value (map_of (contents places)) line)
leaves lines buckets used heads places is line spot seen empty r at nobody r_is =
    let p : PoolPlace = record { line = 0; nodes = empty; next = head_at r.0 buckets } in
    let q : Entry = entry_of p in
    let gone : is_free q ≡ true = ap (λ (P : Nodes). count_nodes P == 0) nobody ∙ eq-eqb (count_nodes no_nodes) 0 count-none in
    let u : IsUnlinked heads places r = subst (IsUnlinked heads places) (sym r_is) (unlinked_is (line % buckets) heads places spot.at spot.before) in
    let contents_are : contents (slice_set r.1 spot.at p) ≡ slice_set (contents places) spot.at q = Entries.contents-set r.1 spot.at p ∙ ap (λ (es : List Entry). slice_set es spot.at q) u.same in
    let before = Entries.set_at (contents places) spot.at (entry_of seen) is.pool.single at.here at.used_place in
    let same : map_of (contents (slice_set r.1 spot.at p)) ≡ without_value (map_of (contents places)) seen.line = ap map_of contents_are ∙ Entries.map-freed (contents places) spot.at (entry_of seen) q is.pool.single at.here at.used_place gone in
    let here : buckets < length heads = omega (arith, is.heads_are) in
    record {
      table_is = record {
        pool = record {
          single = subst PlacesAreSingle (sym contents_are) (Entries.single-freed (contents places) spot.at (entry_of seen) q is.pool.single at.here at.used_place gone);
          counted = ap (λ (m : Map Nodes). length m.entries) same ∙ omega (arith, length-without (map_of (contents places)) seen.line (nodes_of seen.nodes) before, is.pool.counted);
        };
        linked = moved buckets heads places (line % buckets) buckets spot p is.linked at.bucket here at.within at.on r r_is refl (ap (λ (b : Bool). cond b buckets (0 % buckets)) gone);
        heads_are = length-set r.0 buckets spot.at ∙ (u.heads_long ∙ is.heads_are);
        fits = omega (arith, length-set r.1 spot.at p, u.long, is.fits);
        few = is.few;
        some = is.some;
      };
      map_is = same ∙ ap (without_value (map_of (contents places))) at.same;
    }

-- a line that has a set is counted
pub some_used : (lines buckets used : ℕ) (heads : List ℕ) (places : List PoolPlace) (is : IsTable lines buckets used heads places) (line : ℕ) (spot : Spot) (seen : PoolPlace) → IsLines lines buckets used heads places is line spot seen → 1 ≤ used
some_used lines buckets used heads places is line spot seen at =
    omega (arith, length-without (map_of (contents places)) seen.line (nodes_of seen.nodes) (Entries.set_at (contents places) spot.at (entry_of seen) is.pool.single at.here at.used_place), is.pool.counted)

-- ---- as the functions of a table meet them

-- a line gets a place that was given back, or one that was never used
pub opens_at : (lines buckets used : ℕ) (heads : List ℕ) (places : List PoolPlace) (is : IsTable lines buckets used heads places) (line node at : ℕ) (nodes : NodeSet) (empty : Nodes) (heads' : List ℕ) (after : List PoolPlace)
    → used < lines → first_of (contents places) line ≡ None → empty ≡ no_nodes → nodes_of nodes ≡ add_node empty node → IsLoose buckets heads places at heads' after
    → IsMade lines buckets (used + 1) (slice_set heads' (line % buckets) at) (slice_set after at (record { line = line; nodes = nodes; next = head_at heads' (line % buckets) }))
    (with_value (map_of (contents places)) line (add_node (set_or_none (value_at (map_of (contents places)) line)) node))
opens_at lines buckets used heads places is line node at nodes empty heads' after room none nobody grown loose = is_node _ (head_at heads buckets) END
    (λ ended.
    let new = loose.new ended in
    let less : length places < lines = omega (arith, all_used lines buckets used heads places is ended, room) in
    let w = widens lines buckets used heads places after is ended less new.2 in
    let long : List ℕ = slice_set heads buckets (length places) in
    let at_is : at ≡ head_at long buckets = new.0 ∙ sym w.head_is in
    let off : (heads', after) ≡ unlinked buckets long after (head_at long buckets) None = ap (λ (hs : List ℕ). let both : List ℕ × List PoolPlace = (hs, after) in both)
    (new.1 ∙ (sym (set-back heads buckets (length places)) ∙ ap (slice_set long buckets) (sym (ap (next_at after) w.head_is ∙ w.next_is)))) in
    rw (at_is, ← w.map_is) (opens lines buckets used long after w.table_is line node nodes empty (heads', after) (λ e. omega (arith, e, w.head_is, less, is.few)) (w.first_is line ∙ none) nobody grown off))
    (λ open_end.
    let first = loose.first open_end in
    rw (first.0) (opens lines buckets used heads places is line node nodes empty (heads', after) open_end none nobody grown (first.1 ∙ ap (λ (k : ℕ). unlinked buckets heads places k None) first.0)))

-- a line without a set needs a place, and there is room for it
pub has_room : (lines buckets used : ℕ) (heads : List ℕ) (places : List PoolPlace) (is : IsTable lines buckets used heads places) (line : ℕ) → first_of (contents places) line ≡ None
    → (value_at (map_of (contents places)) line ≡ None → length (map_of (contents places)).entries < lines) → used < lines
has_room lines buckets used heads places is line none room = omega (arith, room (Entries.none_at (contents places) line none), is.pool.counted)

pub long_unlinked : (t : ℕ) (heads : List ℕ) (places : List PoolPlace) (at : ℕ) (before : Option ℕ) (r : List ℕ × List PoolPlace) → r ≡ unlinked t heads places at before → (length r.0 ≡ length heads) × (length r.1 ≡ length places)
long_unlinked t heads places at before r e = let u : IsUnlinked heads places r = subst (IsUnlinked heads places) (sym e) (unlinked_is t heads places at before) in (u.heads_long, u.long)

-- a place that is on no chain is in the pool
pub loose_within : (lines buckets used : ℕ) (heads : List ℕ) (places : List PoolPlace) (is : IsTable lines buckets used heads places) (at : ℕ) (heads' : List ℕ) (after : List PoolPlace) → IsLoose buckets heads places at heads' after → at < length after
loose_within lines buckets used heads places is at heads' after loose = is_node _ (head_at heads buckets) END
    (λ ended. let new = loose.new ended in omega (arith, new.0, ap length new.2.whole, length-append places (new.2.place ∷ [])))
    (λ open_end.
    let first = loose.first open_end in
    omega (arith, (long_unlinked buckets heads places at None (heads', after) first.1).1, first.0, (free_is lines buckets used heads places is open_end).within))
