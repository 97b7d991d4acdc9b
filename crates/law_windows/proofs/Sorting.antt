-- What is told of nodes that go in turn has a sort: of each node the starts ascend.
use Rattle.std.proofs.Common.{◌≡◌, ◌≢◌, ℕ, ◌+◌, ◌<◌, ◌≤◌, ◌==◌, ◌||◌, ◌&&◌, nat_lt, Bool, true, false, cond, List, [], ◌∷◌, ◌⊎◌, inl, inr, refl, sym, ap, subst, ◌∙◌, arith}
use Rattle.std.specs.List.{AllByRecursion}
use Rattle.std.proofs.lemmas.Bool.Decides.{nat_tests}
use Rattle.alw_num.proofs.Weigh.{is_node}
use Rattle.alw_msg.specs.declared.events.Event.{Event}
use Rattle.alw_msg.specs.Events.{node_of}
use Rattle.alw_mesh.specs.Histories.{History, IsRun, grown, entry_of}
use Rattle.alw_times.specs.declared.costs.Costs.{Costs}
use Rattle.alw_times.proofs.Rising.{starts_rise}
use Rattle.alw_due.proofs.Mains.{here}
use Rattle.law_windows.specs.Turns.{in_turn, GoInTurn, IsSortOf, starts_before, put_by_start, sort_by_start}
use Rattle.law_windows.specs.Windows.{lookahead, start_next, IsDueAt, timeline, told_of, NoLater, AreMerged}
use Rattle.law_windows.proofs.Alone.{late_at}
use Rattle.law_windows.proofs.Choices.{run_grows}
use Rattle.law_windows.proofs.InTurn as turn
use Rattle.law_windows.proofs.Merges.{all_later, told_here, told_there}
use Rattle.law_windows.proofs.Passing.{AllPass}

-- ---- what the test says

says_true : (x y a b : ℕ) → (nat_lt x y || (x == y && nat_lt a b)) ≡ true → (x < y) ⊎ ((x ≡ y) × (a < b))
says_true x y a b is = by_test (nat_lt x y) refl
  where
    by_test : (t : Bool) → nat_lt x y ≡ t → (x < y) ⊎ ((x ≡ y) × (a < b))
    by_test true lt = inl (grind (arith, nat_tests, lt))
    by_test false lt = inr (grind (arith, nat_tests, lt, is), grind (arith, nat_tests, lt, is))

says_false : (x y a b : ℕ) → (nat_lt x y || (x == y && nat_lt a b)) ≡ false → (y < x) ⊎ ((y ≡ x) × (b ≤ a))
says_false x y a b is = by_test (nat_lt y x) refl
  where
    by_test : (t : Bool) → nat_lt y x ≡ t → (y < x) ⊎ ((y ≡ x) × (b ≤ a))
    by_test true lt = inl (grind (arith, nat_tests, lt))
    by_test false lt = inr (grind (arith, nat_tests, lt, is), grind (arith, nat_tests, lt, is))

before_no_later : (one other : ℕ × Event) → starts_before one other ≡ true → NoLater one other
before_no_later one other is = go (says_true one.0 other.0 (node_of one.1) (node_of other.1) is)
  where
    go : (one.0 < other.0) ⊎ ((one.0 ≡ other.0) × (node_of one.1 < node_of other.1)) → NoLater one other
    go (inl lt) = inl lt
    go (inr rest) = inr (rest.0, omega (arith, rest.1))

-- ---- the sort is in order

put_all : (P : ℕ × Event → Type 0) (one : ℕ × Event) (told : List (ℕ × Event)) → P one → AllByRecursion P told → AllByRecursion P (put_by_start one told)
put_all P one [] is all = (is, tt)
put_all P one (first ∷ rest) is all = go (starts_before first one) (put_all P one rest is all.1)
  where
    go : (b : Bool) → AllByRecursion P (put_by_start one rest) → AllByRecursion P (cond b (first ∷ put_by_start one rest) (one ∷ first ∷ rest))
    go true more = (all.0, more)
    go false more = (is, all)

sort_all : (P : ℕ × Event → Type 0) (told : List (ℕ × Event)) → AllByRecursion P told → AllByRecursion P (sort_by_start told)
sort_all P [] all = tt
sort_all P (one ∷ rest) all = put_all P one (sort_by_start rest) all.0 (sort_all P rest all.1)

put_merged : (one : ℕ × Event) (told : List (ℕ × Event)) → AreMerged told → AreMerged (put_by_start one told)
put_merged one [] merged = (tt, tt)
put_merged one (first ∷ rest) merged = go (starts_before first one) refl (put_merged one rest merged.1)
  where
    go : (b : Bool) → starts_before first one ≡ b → AreMerged (put_by_start one rest) → AreMerged (cond b (first ∷ put_by_start one rest) (one ∷ first ∷ rest))
    go true is more = (put_all (NoLater first) one rest (before_no_later first one is) merged.0, more)
    go false is more =
        let le : NoLater one first = says_false first.0 one.0 (node_of first.1) (node_of one.1) is in
        ((le, all_later one first rest le merged.0), merged)

sort_merged : (told : List (ℕ × Event)) → AreMerged (sort_by_start told)
sort_merged [] = tt
sort_merged (one ∷ rest) = put_merged one (sort_by_start rest) (sort_merged rest)

-- ---- of each node it tells the same

-- no later one of a node starts before a time
abbrev FromOn : ℕ → ℕ → List (ℕ × Event) → Type 0
FromOn n time told = AllByRecursion (λ (one : ℕ × Event). node_of one.1 ≡ n → time ≤ one.0) told

put_there : (n : ℕ) (one : ℕ × Event) (told : List (ℕ × Event)) → node_of one.1 ≢ n → told_of n (put_by_start one told) ≡ told_of n told
put_there n one [] apart = told_there n one [] apart
put_there n one (first ∷ rest) apart = go (starts_before first one) (put_there n one rest apart)
  where
    go : (b : Bool) → told_of n (put_by_start one rest) ≡ told_of n rest → told_of n (cond b (first ∷ put_by_start one rest) (one ∷ first ∷ rest)) ≡ told_of n (first ∷ rest)
    go true more = ap (λ (ones : List (ℕ × Event)). cond (node_of first.1 == n) (first ∷ ones) ones) more
    go false more = told_there n one (first ∷ rest) apart

put_here : (n : ℕ) (one : ℕ × Event) (told : List (ℕ × Event)) → node_of one.1 ≡ n → FromOn n one.0 told → told_of n (put_by_start one told) ≡ one ∷ told_of n told
put_here n one [] same all = told_here n one [] same
put_here n one (first ∷ rest) same all = go (starts_before first one) refl (put_here n one rest same all.1)
  where
    apart : starts_before first one ≡ true → node_of first.1 ≢ n
    apart is at = by_order (says_true first.0 one.0 (node_of first.1) (node_of one.1) is)
      where
        by_order : (first.0 < one.0) ⊎ ((first.0 ≡ one.0) × (node_of first.1 < node_of one.1)) → ⊥
        by_order (inl lt) = let le = all.0 at in omega (arith, lt, le)
        by_order (inr ties) = omega (arith, ties.1, at, same)

    go : (b : Bool) → starts_before first one ≡ b → told_of n (put_by_start one rest) ≡ one ∷ told_of n rest →
        told_of n (cond b (first ∷ put_by_start one rest) (one ∷ first ∷ rest)) ≡ one ∷ told_of n (first ∷ rest)
    go true is more = told_there n first (put_by_start one rest) (apart is) ∙ (more ∙ ap (λ (ones : List (ℕ × Event)). one ∷ ones) (sym (told_there n first rest (apart is))))
    go false is more = told_here n one (first ∷ rest) same

abbrev NodesAscend : List (ℕ × Event) → Type 0
NodesAscend [] = Unit {0}
NodesAscend (one ∷ rest) = FromOn (node_of one.1) one.0 rest × NodesAscend rest

sort_same : (n : ℕ) (told : List (ℕ × Event)) → NodesAscend told → told_of n (sort_by_start told) ≡ told_of n told
sort_same n [] ascends = refl
sort_same n (one ∷ rest) ascends = is_node (told_of n (put_by_start one (sort_by_start rest)) ≡ told_of n (one ∷ rest)) (node_of one.1) n
    (λ same. here_of same (sort_same n rest ascends.1))
    (λ apart. put_there n one (sort_by_start rest) apart ∙ (sort_same n rest ascends.1 ∙ sym (told_there n one rest apart)))
  where
    here_of : node_of one.1 ≡ n → told_of n (sort_by_start rest) ≡ told_of n rest → told_of n (put_by_start one (sort_by_start rest)) ≡ told_of n (one ∷ rest)
    here_of same more =
        put_here n one (sort_by_start rest) same (sort_all _ rest (from_same same))
        ∙ (ap (λ (ones : List (ℕ × Event)). one ∷ ones) more ∙ sym (told_here n one rest same))
      where
        from_same : node_of one.1 ≡ n → FromOn n one.0 rest
        from_same is = subst (λ (k : ℕ). FromOn k one.0 rest) is ascends.0

-- ---- what is told of events that pass

module _ (costs : Costs) (from : ℕ) where
  abbrev bound : ℕ
  bound = from + lookahead costs

  node_late : (g : History) (events : List Event) (n time : ℕ) → IsRun g → AllPass costs from g events → time ≤ bound → ((f : Event) → IsDueAt g costs n f → time ≤ start_next g costs f) → FromOn n time (timeline g costs events)
  node_late g [] n time run all low due = tt
  node_late g (event ∷ rest) n time run all low due =
      let may = all.0.comes.due.may in
      let late = all.0.late in
      (at_node, node_late (grown g event) rest n time (run_grows g event run may) all.1 low (late_at g costs event run may all.0.limit time n (omega (arith, low, late)) at_node due))
    where
      at_node : node_of event ≡ n → time ≤ start_next g costs event
      at_node same = let is = all.0.comes.due in due event (record { node = same; main = is.main; may = is.may; due = is.due })

  ascend : (g : History) (events : List Event) → IsRun g → AllPass costs from g events → NodesAscend (timeline g costs events)
  ascend g [] run all = tt
  ascend g (event ∷ rest) run all =
      let may = all.0.comes.due.may in
      let below = all.0.comes.below in (
        node_late (grown g event) rest (node_of event) (start_next g costs event) (run_grows g event run may) all.1 (omega (arith, below))
            (λ f is. starts_rise g.image g.parameters costs g.journal [] (entry_of g event) (entry_of (grown g event) f) (here g event may) is.node),
        ascend (grown g event) rest (run_grows g event run may) all.1,
      )

pub is_sorted : (h : History) (costs : Costs) (from : ℕ) (nodes : List ℕ) (parts : List (List Event)) → IsRun h → GoInTurn h costs from nodes parts → IsSortOf (sort_by_start (timeline h costs (in_turn parts))) (timeline h costs (in_turn parts))
is_sorted h costs from nodes parts run turns = record {
  merged = sort_merged (timeline h costs (in_turn parts));
  same = λ n. sort_same n (timeline h costs (in_turn parts)) (ascend costs from h (in_turn parts) run (turn.passing costs from h nodes parts run turns));
}
