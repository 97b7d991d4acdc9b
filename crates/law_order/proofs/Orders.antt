-- Sorted entries: the same ones, each before all later ones; two such lists of the same entries are one.
use Rattle.std.proofs.Common.{◌≡◌, ◌<◌, Bool, true, false, cond, List, [], ◌∷◌, IsTrue, refl, arith}
use Rattle.std.specs.List.{AllByRecursion}
use Rattle.std.specs.List.Sorted.{IsPermutation}
use Rattle.std.proofs.lemmas.List.Sorted.{IsPermutation-refl, IsPermutation-trans, IsPermutation-cons, IsPermutation-middle}
use Rattle.alw_msg.specs.declared.events.Entry.{Entry}
use Rattle.alw_msg.specs.Events.{node_of}
use Rattle.alw_model.specs.Threads.{is_before, placed, in_order}
use Rattle.law_order.specs.Orders.{NodesRise, Ascends}
use Rattle.law_order.proofs.Keys.{never_trans, never_both, either_before}

-- ---- the same entries

pub placed_same : (e : Entry) (rest : List Entry) → IsPermutation (e ∷ rest) (placed e rest)
placed_same e [] = IsPermutation-refl (e ∷ [])
placed_same e (first ∷ rest) = go (is_before first e) (placed_same e rest)
  where
    go : (b : Bool) → IsPermutation (e ∷ rest) (placed e rest) → IsPermutation (e ∷ first ∷ rest) (cond b (first ∷ placed e rest) (e ∷ first ∷ rest))
    go false deep = IsPermutation-refl (e ∷ first ∷ rest)
    go true deep = IsPermutation-trans (e ∷ first ∷ rest) (first ∷ e ∷ rest) (first ∷ placed e rest)
        (IsPermutation-middle (e ∷ []) first rest) (IsPermutation-cons first (e ∷ rest) (placed e rest) deep)

pub sorted_same : (journal : List Entry) → IsPermutation journal (in_order journal)
sorted_same [] = IsPermutation-refl []
sorted_same (entry ∷ rest) = IsPermutation-trans (entry ∷ rest) (entry ∷ in_order rest) (placed entry (in_order rest))
    (IsPermutation-cons entry rest (in_order rest) (sorted_same rest)) (placed_same entry (in_order rest))

-- ---- each before all later ones

all_placed : (P : Entry → Type 0) (e : Entry) (rest : List Entry) → P e → AllByRecursion P rest → AllByRecursion P (placed e rest)
all_placed P e [] is all = (is, tt)
all_placed P e (first ∷ rest) is all = go (is_before first e) (all_placed P e rest is all.1)
  where
    go : (b : Bool) → AllByRecursion P (placed e rest) → AllByRecursion P (cond b (first ∷ placed e rest) (e ∷ first ∷ rest))
    go false deep = (is, all)
    go true deep = (all.0, deep)

-- no later entry comes before an earlier one
abbrev NeverBefore : List Entry → Type 0
NeverBefore [] = Unit {0}
NeverBefore (entry ∷ rest) = AllByRecursion (λ later. is_before later entry ≡ false) rest × NeverBefore rest

never_before : (e first : Entry) (rest : List Entry) → is_before first e ≡ false → AllByRecursion (λ later. is_before later first ≡ false) rest → AllByRecursion (λ later. is_before later e ≡ false) rest
never_before e first [] is all = tt
never_before e first (later ∷ rest) is all = (never_trans later first e all.0 is, never_before e first rest is all.1)

placed_never : (e : Entry) (rest : List Entry) → NeverBefore rest → NeverBefore (placed e rest)
placed_never e [] order = (tt, tt)
placed_never e (first ∷ rest) order = go (is_before first e) refl (placed_never e rest order.1)
  where
    go : (b : Bool) → is_before first e ≡ b → NeverBefore (placed e rest) → NeverBefore (cond b (first ∷ placed e rest) (e ∷ first ∷ rest))
    go true is deep = (all_placed (λ later. is_before later first ≡ false) e rest (never_both first e is) order.0, deep)
    go false is deep = ((is, never_before e first rest is order.0), order)

sorted_never : (journal : List Entry) → NeverBefore (in_order journal)
sorted_never [] = tt
sorted_never (entry ∷ rest) = placed_never entry (in_order rest) (sorted_never rest)

-- where each node's stamps rise, no two have one place in the order
ascends_all : (e : Entry) (rest : List Entry) → AllByRecursion (λ later. is_before later e ≡ false) rest → AllByRecursion (λ later. node_of later.event ≡ node_of e.event → e.stamp < later.stamp) rest → AllByRecursion (λ later. IsTrue (is_before e later)) rest
ascends_all e [] never rise = tt
ascends_all e (later ∷ rest) never rise = (either_before later e never.0 (λ same stamps. absurd (let above = rise.0 same in omega arith)), ascends_all e rest never.1 rise.1)

ascends_where : (journal : List Entry) → NeverBefore journal → NodesRise journal → Ascends journal
ascends_where [] never rise = tt
ascends_where (entry ∷ rest) never rise = (ascends_all entry rest never.0 rise.0, ascends_where rest never.1 rise.1)

pub sorted_ascends : (journal : List Entry) → NodesRise (in_order journal) → Ascends (in_order journal)
sorted_ascends journal rise = ascends_where (in_order journal) (sorted_never journal) rise
