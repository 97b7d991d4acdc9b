-- Journals whose stamps don't fall, and the places of stamps in them: the merge of logs from a stamp on is what stands from its place on.
use Rattle.std.proofs.Common.{◌≡◌, ℕ, zero, suc, ◌≤◌, ◌<◌, nat_lt, nat_le, Bool, true, false, cond, Option, Some, None, List, [], ◌∷◌, ◌++◌}
use Rattle.std.proofs.Common.{map, flat_map, filter, length, drop, slice_get, refl, sym, ap, ap₂, subst, ◌∙◌, arith}
use Rattle.std.specs.Prelude.{⊤}
use Rattle.std.specs.List.{AllByRecursion}
use Rattle.std.proofs.lemmas.Bool.{true≢false, ltb-true, ltb-false, le-ltb, lt-ltb, leb-true, le-leb, lt-leb}
use Rattle.std.proofs.lemmas.Bool.Decides.{nat_tests}
use Rattle.std.proofs.lemmas.List.{map-id}
use Rattle.std.proofs.lemmas.List.Elements.{filter-append}
use Rattle.std.proofs.lemmas.Option.{same_Some}
use Rattle.alw_msg.specs.declared.events.Entry.{Entry}
use Rattle.alw_msg.specs.Lists.{front}
use Rattle.alw_model.specs.Threads.{Logged, Logs, is_before, placed, in_order, merged}
use Rattle.alw_node.proofs.KeptMembers.{few_kept}
use Rattle.alw_merge.specs.Spans.{place_of, end_of, IsAtMost, is_behind, log_from, logs_from}
use Rattle.law_order.proofs.Keys.{stamps_ge}

-- ---- stamps that don't fall

-- stamps don't fall
abbrev pub Rises : List Entry → Type 0
Rises [] = ⊤
Rises (entry ∷ rest) = AllByRecursion (λ (later : Entry). entry.stamp ≤ later.stamp) rest × Rises rest

-- no entry has a stamp below one
abbrev AreFrom : ℕ → List Entry → Type 0
AreFrom stamp entries = AllByRecursion (λ (entry : Entry). stamp ≤ entry.stamp) entries

before_stamp : (one other : Entry) → is_before one other ≡ true → one.stamp ≤ other.stamp
before_stamp one other is = grind (arith, nat_tests)

lower : (low high : ℕ) (entries : List Entry) → low ≤ high → AreFrom high entries → AreFrom low entries
lower low high [] under all = tt
lower low high (first ∷ rest) under all = (omega (arith, under, all.0), lower low high rest under all.1)

from_placed : (stamp : ℕ) (one : Entry) (entries : List Entry) → stamp ≤ one.stamp → AreFrom stamp entries → AreFrom stamp (placed one entries)
from_placed stamp one [] here all = (here, tt)
from_placed stamp one (first ∷ rest) here all = go (is_before first one) (from_placed stamp one rest here all.1)
  where
    go : (b : Bool) → AreFrom stamp (placed one rest) → AreFrom stamp (cond b (first ∷ placed one rest) (one ∷ first ∷ rest))
    go true deep = (all.0, deep)
    go false deep = (here, all)

placed_rises : (one : Entry) (entries : List Entry) → Rises entries → Rises (placed one entries)
placed_rises one [] rises = (tt, tt)
placed_rises one (first ∷ rest) rises = go (is_before first one) refl (placed_rises one rest rises.1)
  where
    go : (b : Bool) → is_before first one ≡ b → Rises (placed one rest) → Rises (cond b (first ∷ placed one rest) (one ∷ first ∷ rest))
    go true is deep = (from_placed first.stamp one rest (before_stamp first one is) rises.0, deep)
    go false is deep =
        let under = stamps_ge first one is in
        ((under, lower one.stamp first.stamp rest under rises.0), rises)

ordered_rises : (entries : List Entry) → Rises (in_order entries)
ordered_rises [] = tt
ordered_rises (entry ∷ rest) = placed_rises entry (in_order rest) (ordered_rises rest)

-- the stamps of a merge don't fall
pub merged_rises : (logs : Logs) → Rises (merged logs)
unfolding merged
merged_rises logs = ordered_rises (flat_map (map (λ (logged : Logged). logged.entry)) logs)

-- ---- the entries from a stamp on, in order

abbrev is_from : ℕ → Entry → Bool
is_from stamp entry = nat_le stamp entry.stamp

abbrev is_below : ℕ → Entry → Bool
is_below stamp entry = nat_lt entry.stamp stamp

-- an entry from a stamp on has all below the stamp in front of it
below_before : (stamp : ℕ) (first one : Entry) → is_from stamp one ≡ true → is_from stamp first ≡ false → is_before first one ≡ true
below_before stamp first one here there = grind (arith, nat_tests)

placed_from : (stamp : ℕ) (one : Entry) (entries : List Entry) → is_from stamp one ≡ true
    → filter (is_from stamp) (placed one entries) ≡ placed one (filter (is_from stamp) entries)
placed_from stamp one [] here = ap (λ b. cond b (one ∷ []) []) here
placed_from stamp one (first ∷ rest) here = go (is_from stamp first) refl (is_before first one) refl (placed_from stamp one rest here)
  where
    go : (f : Bool) → is_from stamp first ≡ f → (b : Bool) → is_before first one ≡ b
        → filter (is_from stamp) (placed one rest) ≡ placed one (filter (is_from stamp) rest)
        → filter (is_from stamp) (cond b (first ∷ placed one rest) (one ∷ first ∷ rest)) ≡ placed one (cond f (first ∷ filter (is_from stamp) rest) (filter (is_from stamp) rest))
    go true from true is deep = rw (from, is) (ap (λ l. first ∷ l) deep)
    go true from false is deep = rw (here, from, is) refl
    go false from true is deep = rw from deep
    go false from false is deep = absurd (true≢false (sym (below_before stamp first one here from) ∙ is))

placed_below : (stamp : ℕ) (one : Entry) (entries : List Entry) → is_from stamp one ≡ false → filter (is_from stamp) (placed one entries) ≡ filter (is_from stamp) entries
placed_below stamp one [] here = ap (λ b. cond b (one ∷ []) []) here
placed_below stamp one (first ∷ rest) here = go (is_before first one) (placed_below stamp one rest here)
  where
    go : (b : Bool) → filter (is_from stamp) (placed one rest) ≡ filter (is_from stamp) rest
        → filter (is_from stamp) (cond b (first ∷ placed one rest) (one ∷ first ∷ rest)) ≡ filter (is_from stamp) (first ∷ rest)
    go true deep = ap (λ l. cond (is_from stamp first) (first ∷ l) l) deep
    go false deep = ap (λ b. cond b (one ∷ filter (is_from stamp) (first ∷ rest)) (filter (is_from stamp) (first ∷ rest))) here

ordered_from : (stamp : ℕ) (entries : List Entry) → in_order (filter (is_from stamp) entries) ≡ filter (is_from stamp) (in_order entries)
ordered_from stamp [] = refl
ordered_from stamp (entry ∷ rest) = go (is_from stamp entry) refl (ordered_from stamp rest)
  where
    go : (b : Bool) → is_from stamp entry ≡ b → in_order (filter (is_from stamp) rest) ≡ filter (is_from stamp) (in_order rest)
        → in_order (cond b (entry ∷ filter (is_from stamp) rest) (filter (is_from stamp) rest)) ≡ filter (is_from stamp) (placed entry (in_order rest))
    go true is deep = ap (placed entry) deep ∙ sym (placed_from stamp entry (in_order rest) is)
    go false is deep = deep ∙ sym (placed_below stamp entry (in_order rest) is)

-- ---- and of logs

log_entries : (stamp : ℕ) (log : List Logged) → map (λ (logged : Logged). logged.entry) (log_from stamp log) ≡ filter (is_from stamp) (map (λ (logged : Logged). logged.entry) log)
log_entries stamp [] = refl
log_entries stamp (logged ∷ rest) = go (is_from stamp logged.entry) (log_entries stamp rest)
  where
    go : (b : Bool) → map (λ (logged : Logged). logged.entry) (log_from stamp rest) ≡ filter (is_from stamp) (map (λ (logged : Logged). logged.entry) rest)
        → map (λ (logged : Logged). logged.entry) (cond b (logged ∷ log_from stamp rest) (log_from stamp rest))
        ≡ cond b (logged.entry ∷ filter (is_from stamp) (map (λ (logged : Logged). logged.entry) rest)) (filter (is_from stamp) (map (λ (logged : Logged). logged.entry) rest))
    go true deep = ap (λ l. logged.entry ∷ l) deep
    go false deep = deep

abbrev entries_of : Logs → List Entry
entries_of logs = flat_map (map (λ (logged : Logged). logged.entry)) logs

logs_entries : (stamp : ℕ) (logs : Logs) → entries_of (logs_from stamp logs) ≡ filter (is_from stamp) (entries_of logs)
logs_entries stamp [] = refl
logs_entries stamp (log ∷ logs) = ap₂ (λ (one other : List Entry). one ++ other) (log_entries stamp log) (logs_entries stamp logs)
    ∙ sym (filter-append (is_from stamp) (map (λ (logged : Logged). logged.entry) log) (entries_of logs))

-- ---- where stamps don't fall

none_below : (stamp : ℕ) (entries : List Entry) → AreFrom stamp entries → filter (is_below stamp) entries ≡ []
none_below stamp [] all = refl
none_below stamp (first ∷ rest) all = ap₂ (λ b l. cond b (first ∷ l) l) (le-ltb first.stamp stamp all.0) (none_below stamp rest all.1)

-- of what has entries whose stamps don't fall, that from a stamp on is what stands from the stamp's place on
pub from_rising : {X : Type 0} (entry_of : X → Entry) (stamp : ℕ) (xs : List X) → Rises (map entry_of xs)
    → drop (place_of stamp (map entry_of xs)) xs ≡ filter (λ (x : X). nat_le stamp (entry_of x).stamp) xs
from_rising entry_of stamp [] rises = refl
from_rising {X} entry_of stamp (first ∷ rest) rises = go (is_below stamp (entry_of first)) refl (from_rising entry_of stamp rest rises.1)
  where
    from : List X → List X
    from xs = filter (λ (x : X). is_from stamp (entry_of x)) xs

    below : List Entry
    below = filter (is_below stamp) (map entry_of rest)

    go : (b : Bool) → is_below stamp (entry_of first) ≡ b → drop (length below) rest ≡ from rest
        → drop (length (cond b (entry_of first ∷ below) below)) (first ∷ rest) ≡ cond (is_from stamp (entry_of first)) (first ∷ from rest) (from rest)
    go true under deep = rw (lt-leb stamp (entry_of first).stamp (ltb-true (entry_of first).stamp stamp under)) deep
    go false above deep =
        let here = ltb-false (entry_of first).stamp stamp above in
        let none = none_below stamp (map entry_of rest) (lower stamp (entry_of first).stamp (map entry_of rest) here rises.0) in
        rw (le-leb stamp (entry_of first).stamp here, none) (ap (λ (l : List X). first ∷ l) (ap (λ (es : List Entry). drop (length es) rest) (sym none) ∙ deep))

-- the merge of logs from a stamp on is what stands from its place on
pub from_merged : (stamp : ℕ) (logs : Logs) → merged (logs_from stamp logs) ≡ drop (place_of stamp (merged logs)) (merged logs)
unfolding merged
from_merged stamp logs = ap in_order (logs_entries stamp logs) ∙ (ordered_from stamp (entries_of logs)
    ∙ sym (subst (λ (es : List Entry). Rises es → drop (place_of stamp es) whole ≡ filter (is_from stamp) whole) (map-id whole) (from_rising (λ (entry : Entry). entry) stamp whole) (ordered_rises (entries_of logs))))
  where
    whole : List Entry
    whole = in_order (entries_of logs)

log_start : (log : List Logged) → log_from 0 log ≡ log
log_start [] = refl
log_start (logged ∷ rest) = ap₂ (λ b l. cond b (logged ∷ l) l) (le-leb 0 logged.entry.stamp (omega arith)) (log_start rest)

-- logs from 0 on are all of them
pub from_start : (logs : Logs) → logs_from 0 logs ≡ logs
from_start [] = refl
from_start (log ∷ logs) = ap₂ (λ (one : List Logged) (other : Logs). one ∷ other) (log_start log) (from_start logs)

-- ---- places

-- 0 stands in front of all
pub place_start : (journal : List Entry) → place_of 0 journal ≡ 0
place_start [] = refl
place_start (entry ∷ rest) = ap (λ b. length (cond b (entry ∷ filter (is_below 0) rest) (filter (is_below 0) rest))) (le-ltb entry.stamp 0 (omega arith)) ∙ place_start rest

above_first : (stamp : ℕ) (entries : List Entry) (i : ℕ) (entry : Entry) → AreFrom stamp entries → slice_get entries i ≡ Some entry → stamp ≤ entry.stamp
above_first stamp [] i entry all is = absurd (cc)
above_first stamp (first ∷ rest) zero entry all is = omega (arith, all.0, ap (λ (e : Entry). e.stamp) (same_Some first entry is))
above_first stamp (first ∷ rest) (suc i) entry all is = above_first stamp rest i entry all.1 is

place_more : (stamp : ℕ) (first : Entry) (rest : List Entry) → first.stamp < stamp → place_of stamp (first ∷ rest) ≡ suc (place_of stamp rest)
place_more stamp first rest below = ap (λ b. length (cond b (first ∷ filter (is_below stamp) rest) (filter (is_below stamp) rest))) (lt-ltb first.stamp stamp below)

-- an entry below a stamp stands in front of its place
pub place_past : (journal : List Entry) (i stamp : ℕ) (entry : Entry) → Rises journal → slice_get journal i ≡ Some entry → entry.stamp < stamp → suc i ≤ place_of stamp journal
place_past [] i stamp entry rises is below = absurd (cc)
place_past (first ∷ rest) zero stamp entry rises is below =
    let same : first.stamp ≡ entry.stamp = ap (λ (e : Entry). e.stamp) (same_Some first entry is) in
    omega (arith, place_more stamp first rest (omega (arith, same, below)))
place_past (first ∷ rest) (suc i) stamp entry rises is below =
    let under = above_first first.stamp rest i entry rises.0 is in
    omega (arith, place_more stamp first rest (omega (arith, under, below)), place_past rest i stamp entry rises.1 is below)

few_below : (b : Bool) (first : Entry) (entries : List Entry) → length (cond b (first ∷ entries) entries) ≤ suc (length entries)
few_below true first entries = omega arith
few_below false first entries = omega arith

-- where the next entry isn't below a stamp, its place has been reached
pub place_reached : (journal : List Entry) (i stamp : ℕ) → Rises journal → is_behind (Some stamp) (front (drop i journal)) ≡ true → place_of stamp journal ≤ i
place_reached [] i stamp rises is = omega arith
place_reached (first ∷ rest) zero stamp rises is =
    let above = leb-true stamp first.stamp is in
    omega (arith, ap length (none_below stamp (first ∷ rest) (above, lower stamp first.stamp rest above rises.0)))
place_reached (first ∷ rest) (suc i) stamp rises is =
    omega (arith, few_below (is_below stamp first) first (filter (is_below stamp) rest), place_reached rest i stamp rises.1 is)

-- a place is within its journal
pub place_fits : (stamp : ℕ) (journal : List Entry) → place_of stamp journal ≤ length journal
place_fits stamp journal = few_kept (is_below stamp) journal

below_both : (n low high : ℕ) → low ≤ high → nat_lt n low ≡ true → nat_lt n high ≡ true
below_both n low high most below = grind (arith, nat_tests)

place_rises : (low high : ℕ) (journal : List Entry) → low ≤ high → place_of low journal ≤ place_of high journal
place_rises low high [] most = omega arith
place_rises low high (first ∷ rest) most = go (is_below low first) refl (is_below high first) refl (place_rises low high rest most)
  where
    go : (b : Bool) → is_below low first ≡ b → (c : Bool) → is_below high first ≡ c → place_of low rest ≤ place_of high rest
        → length (cond b (first ∷ filter (is_below low) rest) (filter (is_below low) rest)) ≤ length (cond c (first ∷ filter (is_below high) rest) (filter (is_below high) rest))
    go true below true is deep = omega (arith, deep)
    go true below false is deep = absurd (true≢false (sym (below_both first.stamp low high most below) ∙ is))
    go false below true is deep = omega (arith, deep)
    go false below false is deep = deep

-- a span begins no later than it ends
pub place_before : (low : ℕ) (high : Option ℕ) (journal : List Entry) → IsAtMost low high → place_of low journal ≤ end_of high journal
place_before low None journal most = place_fits low journal
place_before low (Some high) journal most = place_rises low high journal most
