-- Of the deliveries to a node the one whose message arrived first comes first, and of several the one of the lowest sender.
use Rattle.std.proofs.Common.{◌≡◌, ◌≢◌, ℕ, ◌+◌, ◌<◌, ◌≤◌, ◌==◌, Bool, true, false, cond, Some, None, List, [], ◌∷◌, inl, inr, refl, sym, ap, ◌∙◌, arith}
use Rattle.std.proofs.lemmas.Bool.{eq-eqb, ne_eqb}
use Rattle.std.proofs.lemmas.Bool.Decides.{nat_tests}
use Rattle.alw_num.specs.NodeSets.{Nodes, no_nodes, has_node, drop_node, members}
use Rattle.alw_num.specs.Weights.{digit, times}
use Rattle.alw_num.proofs.Sets.{AscendsFrom, members-ascend, member, times_before, has-none, has-drop, has_front}
use Rattle.alw_num.proofs.Weigh.{is_node, cases_lt_then, digit_other}
use Rattle.alw_image.specs.declared.parts.Parts.{Parts}
use Rattle.alw_ready.specs.Rows.{delivery}
use Rattle.alw_mesh.specs.Histories.{History, may_be_next}
use Rattle.alw_times.specs.declared.costs.Costs.{Costs}
use Rattle.alw_times.specs.Times.{Times}
use Rattle.alw_due.specs.declared.keys.Due.{Due}
use Rattle.alw_due.specs.Due.{start_for, key_for, is_before}
use Rattle.alw_due.specs.Picks.{IsKeyOf, IsFirstOf, IsBestOf, arrived_from, IsFirstOfSenders}
use Rattle.alw_due.specs.Bests.{IsDeliveryTo}
use Rattle.alw_due.proofs.Best.{of_none, has_key}

-- ---- a set without its lowest member

in_rest : (P : Nodes) (m k : ℕ) → has_node (drop_node P m) k ≡ true → (has_node P k ≡ true) × (k ≢ m)
in_rest P m k has = is_node ((has_node P k ≡ true) × (k ≢ m)) k m
    (λ same. let none : has_node (drop_node P m) k ≡ false = has-drop P m k ∙ ap (λ b. cond b false (has_node P k)) (eq-eqb k m same) in absurd (cc))
    (λ other. (sym (has-drop P m k ∙ ap (λ b. cond b false (has_node P k)) (ne_eqb k m other)) ∙ has, other))

not_in_rest : (P : Nodes) (m k : ℕ) → has_node P k ≡ true → has_node (drop_node P m) k ≡ false → k ≡ m
not_in_rest P m k has none = is_node (k ≡ m) k m
    (λ same. same)
    (λ other. let there : has_node (drop_node P m) k ≡ true = has-drop P m k ∙ (ap (λ b. cond b false (has_node P k)) (ne_eqb k m other) ∙ has) in absurd (cc))

-- a first member that is followed by the others is the lowest
lowest_is : (P : Nodes) (m : ℕ) (rest : List ℕ) → members P ≡ m ∷ rest → (k : ℕ) → has_node P k ≡ true → m ≤ k
lowest_is P m rest is k has = cases_lt_then m k
    (λ lt.
    let order : AscendsFrom 0 (m ∷ rest) = rw is at (members-ascend P) in
    let whole : digit (k == m) + times k rest ≡ digit (has_node P k) = sym (ap (times k) is) ∙ member P k in
    absurd (omega (arith, whole, times_before (m + 1) rest k order.1 (omega (arith, lt)), digit_other k m (λ same. omega (arith, lt, same)), ap digit has)))
    (λ le. le)

-- ---- the senders so far

module _ (parts : Parts) (times : Times) (to : ℕ) (senders : Nodes) where
  abbrev at : ℕ → ℕ
  at from = arrived_from parts times to from

  -- of the senders that are no longer left this is the first; those that are left are higher
  pub record IsFirstSoFar (left : Nodes) (first arrival : ℕ) : Type 0 where
    pub has : has_node senders first ≡ true
    pub arrival_is : arrival ≡ at first
    pub above : (from : ℕ) → has_node left from ≡ true → (has_node senders from ≡ true) × (first < from)
    pub least : (from : ℕ) → has_node senders from ≡ true → has_node left from ≡ false → arrival ≤ at from
    pub lowest : (from : ℕ) → has_node senders from ≡ true → has_node left from ≡ false → from < first → arrival < at from

  pub begins : (left : Nodes) (first arrival : ℕ) → members senders ≡ first ∷ members (drop_node senders first) → left ≡ drop_node senders first → arrival ≡ at first → IsFirstSoFar left first arrival
  begins left first arrival lowest dropped arrived = record {
    has = has_front senders first (members (drop_node senders first)) lowest;
    arrival_is = arrived;
    above = λ from has.
        let there = in_rest senders first from (rw dropped at has) in
        (there.0, let low = lowest_is senders first (members (drop_node senders first)) lowest from there.0 in let apart = there.1 in omega (arith, low, apart));
    least = λ from has none. let same = not_in_rest senders first from has (rw dropped at none) in let alike : at from ≡ at first = ap at same in omega (arith, alike);
    lowest = λ from has none lt. absurd (let same = not_in_rest senders first from has (rw dropped at none) in omega (arith, same, lt));
  }

  module _ (left after : Nodes) (first arrival from other : ℕ) (so_far : IsFirstSoFar left first arrival) (lowest : members left ≡ from ∷ members (drop_node left from)) (dropped : after ≡ drop_node left from) (arrived : other ≡ at from) where
    next : (has_node senders from ≡ true) × (first < from)
    next = so_far.above from (has_front left from (members (drop_node left from)) lowest)

    left_above : (k : ℕ) → has_node after k ≡ true → (has_node senders k ≡ true) × (from < k)
    left_above k has =
        let there = in_rest left from k (rw dropped at has) in
        ((so_far.above k there.0).0, let low = lowest_is left from (members (drop_node left from)) lowest k there.0 in let apart = there.1 in omega (arith, low, apart))

    -- one that isn't left any more was not left before, or is this one
    by_left : {P : Type 0} (k : ℕ) → has_node after k ≡ false → (has_node left k ≡ false → P) → (k ≡ from → P) → P
    by_left {P = P} k none before same = go (has_node left k) refl
      where
        go : (b : Bool) → has_node left k ≡ b → P
        go true has = same (not_in_rest left from k has (rw dropped at none))
        go false was = before was

    pub earlier_one : other < arrival → IsFirstSoFar after from other
    earlier_one lt = record {
      has = next.0;
      arrival_is = arrived;
      above = left_above;
      least = λ k has none. by_left k none (λ was. omega (arith, lt, so_far.least k has was)) (λ same. let alike : at k ≡ at from = ap at same in omega (arith, alike, arrived));
      lowest = λ k has none low. by_left k none (λ was. omega (arith, lt, so_far.least k has was)) (λ same. absurd (omega (arith, same, low)));
    }

    pub later_one : arrival ≤ other → IsFirstSoFar after first arrival
    later_one le = record {
      has = so_far.has;
      arrival_is = so_far.arrival_is;
      above = λ k has. let there = left_above k has in let up = next.1 in (there.0, let more = there.1 in omega (arith, up, more));
      least = λ k has none. by_left k none (λ was. so_far.least k has was) (λ same. let alike : at k ≡ at from = ap at same in omega (arith, alike, arrived, le));
      lowest = λ k has none low. by_left k none (λ was. so_far.lowest k has was low) (λ same. absurd (let up = next.1 in omega (arith, same, low, up)));
    }

  pub ends : (left : Nodes) (first arrival : ℕ) → left ≡ no_nodes → IsFirstSoFar left first arrival → IsFirstOfSenders parts times to senders first
  ends left first arrival none so_far = record {
    has = so_far.has;
    least = λ from has. let is = so_far.arrival_is in omega (arith, is, so_far.least from has (gone from));
    lowest = λ from has lt. let is = so_far.arrival_is in omega (arith, is, so_far.lowest from has (gone from) lt);
  }
    where
      gone : (from : ℕ) → has_node left from ≡ false
      gone from = rw none (has-none from)

-- ---- the first delivery

in_order : (n s t a b i j : ℕ) → s ≤ t → a ≤ b → (j < i → a < b) → j ≢ i → is_before (s ∷ n ∷ 1 ∷ a ∷ i ∷ []) (t ∷ n ∷ 1 ∷ b ∷ j ∷ []) ≡ true
in_order n s t a b i j start arrival low apart = grind (arith, nat_tests, start, arrival, low, apart)

module _ (h : History) (costs : Costs) (times : Times) (to : ℕ) (senders : Nodes) (are : (from : ℕ) → has_node senders from ≡ may_be_next h (delivery from to)) where
  starts_first : (one other : ℕ) → arrived_from h.image times to one ≤ arrived_from h.image times to other → start_for h costs times (delivery one to) ≤ start_for h costs times (delivery other to)
  starts_first one other le = omega (arith, le)

  pub first_delivery : (first : ℕ) (due : Due) → IsFirstOfSenders h.image times to senders first → IsKeyOf h costs times (delivery first to) due → IsBestOf h costs times (IsDeliveryTo h to) (Some due)
  first_delivery first due is key = record {
    one = (has_key h costs times (delivery first to) due key refl, record { from = first; event_is = key.event_is; may = ap (may_be_next h) key.event_is ∙ (sym (are first) ∙ is.has) });
    first = λ other of due_is. is_node (IsFirstOf h costs times (Some due) other) of.from first
        (λ same. inl (of.event_is ∙ (ap (λ from. delivery from to) same ∙ sym key.event_is)))
        (λ apart.
        let has = are of.from ∙ (ap (may_be_next h) (sym of.event_is) ∙ of.may) in
        let before = in_order to (start_for h costs times (delivery first to)) (start_for h costs times (delivery of.from to)) (arrived_from h.image times to first) (arrived_from h.image times to of.from) first of.from
        (starts_first first of.from (is.least of.from has)) (is.least of.from has) (is.lowest of.from has) apart in
        inr ((λ i. is_before (key_for h costs times (key.event_is i)) (key_for h costs times (of.event_is i))) ∙ before));
  }

  pub no_delivery : ((from : ℕ) → has_node senders from ≡ false) → IsBestOf h costs times (IsDeliveryTo h to) None
  no_delivery none = of_none h costs times (IsDeliveryTo h to) (λ other of.
      let may : may_be_next h (delivery of.from to) ≡ true = ap (may_be_next h) (sym of.event_is) ∙ of.may in
      let isnt = sym (are of.from) ∙ none of.from in absurd (cc))
