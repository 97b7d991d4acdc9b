-- The events of a window ascend by start and then by node, and so are the merge of the nodes' runs alone.
use Rattle.std.proofs.Common.{◌≡◌, ◌+◌, ◌<◌, ◌≢◌, ℕ, ◌≤◌, ◌==◌, ◌||◌, ◌&&◌, nat_lt, Bool, true, false, cond, Some, List, [], ◌∷◌, ◌⊎◌, inl, inr, refl, sym, ap, subst, ◌∙◌, arith, ◌++◌, length, length-append, append-nil}
use Rattle.std.specs.List.{AllByRecursion}
use Rattle.std.proofs.lemmas.List.{nil_from_length}
use Rattle.alw_image.specs.Images.{node_count}
use Rattle.std.proofs.lemmas.Bool.{eq-eqb, ne_eqb}
use Rattle.std.proofs.lemmas.Bool.Decides.{nat_tests}
use Rattle.alw_num.proofs.Weigh.{is_node, cases_lt_then}
use Rattle.alw_msg.specs.declared.events.Event.{Event}
use Rattle.alw_msg.specs.Events.{node_of}
use Rattle.alw_msg.specs.Lists.{front, behind}
use Rattle.alw_mesh.specs.Histories.{History, IsRun, grown, may_be_next}
use Rattle.alw_mesh.specs.Ends.{next_events}
use Rattle.alw_times.specs.declared.costs.Costs.{Costs}
use Rattle.alw_due.specs.Due.{times_in, is_due_for, rank_of, arrived_at, sender_of, is_before, EventsAreTimed}
use Rattle.alw_due.proofs.Before.{first_le}
use Rattle.alw_due.proofs.Mains.{here, in_next}
use Rattle.alw_due.proofs.Members.{kept}
use Rattle.alw_due.proofs.Timely.{first_may}
use Rattle.law_windows.specs.Windows.{lookahead, start_next, key_next, IsWindow, timeline, told_of, NoLater, AreMerged, NothingIsLeft, IsRunAlone, IsMergeOf, IsFrontOf, events_of}
use Rattle.law_windows.proofs.Alone.{comes_timed, first_number, starts_ascend, chooses_alike, with_its_key}
use Rattle.law_windows.proofs.Choices.{run_grows}
use Rattle.law_windows.proofs.Windows.{IsWithin, AreWithin, all_within, front_of, starts_alone, is_run_alone}

-- ---- the order

later_then : (one other third : ℕ × Event) → NoLater one other → NoLater other third → NoLater one third
later_then one other third (inl lt) (inl also) = inl (omega (arith, lt, also))
later_then one other third (inl lt) (inr also) = inl (omega (arith, lt, also.0))
later_then one other third (inr le) (inl also) = inl (omega (arith, le.0, also))
later_then one other third (inr le) (inr also) = inr (le.0 ∙ also.0, omega (arith, le.1, also.1))

pub all_later : (one other : ℕ × Event) (told : List (ℕ × Event)) → NoLater one other → AllByRecursion (NoLater other) told → AllByRecursion (NoLater one) told
all_later one other [] le all = tt
all_later one other (third ∷ rest) le all = (later_then one other third le all.0, all_later one other rest le all.1)

-- keys with one start are in order by what is behind it
behind_start : (x y : ℕ) (rest : Bool) → x ≡ y → (nat_lt x y || (x == y && rest)) ≡ true → rest ≡ true
behind_start x y true same is = refl
behind_start x y false same is = absurd (grind (arith, nat_tests, same, is))

-- ---- two events one after the other

module _ (costs : Costs) (from : ℕ) (g : History) (event other : Event) (rest : List Event) (after : History) (run : IsRun g) (are : EventsAreTimed g costs (event ∷ other ∷ rest) after) (within : IsWithin costs from g event) where
  may : may_be_next g event ≡ true
  may = first_may g costs (times_in g costs) event are.0.first

  may_then : may_be_next (grown g event) other ≡ true
  may_then = first_may (grown g event) costs (times_in (grown g event) costs) other are.1.0.first

  -- what a key has behind start and node
  abbrev rest_of : Event → List ℕ
  rest_of e = rank_of e ∷ arrived_at g.image (times_in g costs) e ∷ sender_of e ∷ []

  -- of two nodes that start at one time the lower one comes first
  nodes_ascend : start_next g costs event ≡ start_next (grown g event) costs other → node_of other ≢ node_of event → node_of event ≤ node_of other
  nodes_ascend same apart =
      let early = within.early in
      let late = within.late in
      let comes = comes_timed (grown g event) costs (node_of other) (start_next g costs event + lookahead costs) other refl are.1.0 (omega (arith, same, early, late)) in
      let exists = here (grown g event) other may_then in
      let before = (chooses_alike g costs event run may within.limit (node_of other) exists apart other).0 comes in
      let key = with_its_key g costs event run may within.limit (node_of other) exists apart other before in
      let there = kept (is_due_for g costs (times_in g costs)) (next_events g) other (in_next g other before.due.main before.due.may) before.due.due in
      by_first (ap first_number key) (are.0.first.first there.place other there.stands)
    where
      by_first : start_next (grown g event) costs other ≡ start_next g costs other → (other ≡ event) ⊎ (is_before (key_next g costs event) (key_next g costs other) ≡ true) → node_of event ≤ node_of other
      by_first starts (inl is) = absurd (apart (ap node_of is))
      by_first starts (inr lt) =
          first_le (node_of event) (node_of other) (rest_of event) (rest_of other)
          (behind_start (start_next g costs event) (start_next g costs other) (is_before (node_of event ∷ rest_of event) (node_of other ∷ rest_of other)) (same ∙ starts) lt)

  one_no_later : NoLater (start_next g costs event, event) (start_next (grown g event) costs other, other)
  one_no_later = cases_lt_then (start_next (grown g event) costs other) (start_next g costs event) (λ lt. inl lt)
      (λ le.
      let ascends = starts_ascend g costs event other run are.0 are.1.0 within.limit in
      let same : start_next g costs event ≡ start_next (grown g event) costs other = omega (arith, le, ascends) in
      inr (same, is_node (node_of event ≤ node_of other) (node_of other) (node_of event) (λ is. omega (arith, is)) (λ apart. nodes_ascend same apart)))

module _ (costs : Costs) (from : ℕ) where
  ascend : (g : History) (events : List Event) (after : History) → IsRun g → EventsAreTimed g costs events after → AreWithin costs from g events → AreMerged (timeline g costs events)
  ascend g [] after run are within = tt
  ascend g (event ∷ []) after run are within = (tt, tt)
  ascend g (event ∷ other ∷ rest) after run are within =
      let more = ascend (grown g event) (other ∷ rest) after (run_grows g event run (first_may g costs (times_in g costs) event are.0.first)) are.1 within.1 in
      let le = one_no_later costs from g event other rest after run are within.0 in
      ((le, all_later (start_next g costs event, event) (start_next (grown g event) costs other, other) (timeline (grown (grown g event) other) costs rest) le more.0), more)

pub windows_ascend : (h : History) (costs : Costs) (from : ℕ) (events : List Event) (after : History) → IsRun h → IsWindow h costs from events after → AreMerged (timeline h costs events)
windows_ascend h costs from events after run window = ascend costs from h events after run window.timed (all_within costs from h events after run window)

-- ---- a merge is one

pub told_here : (n : ℕ) (one : ℕ × Event) (rest : List (ℕ × Event)) → node_of one.1 ≡ n → told_of n (one ∷ rest) ≡ one ∷ told_of n rest
told_here n one rest same = ap (λ b. cond b (one ∷ told_of n rest) (told_of n rest)) (eq-eqb (node_of one.1) n same)

pub told_there : (n : ℕ) (one : ℕ × Event) (rest : List (ℕ × Event)) → node_of one.1 ≢ n → told_of n (one ∷ rest) ≡ told_of n rest
told_there n one rest other = ap (λ b. cond b (one ∷ told_of n rest) (told_of n rest)) (ne_eqb (node_of one.1) n other)

pub some_is : {X : Type 0} (a b : X) → Some a ≡ Some b → a ≡ b
some_is a b same = cc

-- the first that is told of a node is one of all
pub first_told : (P : ℕ × Event → Type 0) (n : ℕ) (told : List (ℕ × Event)) (one : ℕ × Event) → AllByRecursion P told → front (told_of n told) ≡ Some one → P one
first_told P n [] one all is = absurd (cc)
first_told P n (first ∷ rest) one all is = is_node (P one) (node_of first.1) n
    (λ same. subst P (some_is first one (sym (ap front (told_here n first rest same)) ∙ is)) all.0)
    (λ other. first_told P n rest one all.1 (sym (ap front (told_there n first rest other)) ∙ is))

-- of two heads of different nodes neither comes no later than the other
two_heads : (x y : ℕ × Event) (xs ys : List (ℕ × Event)) → AreMerged (x ∷ xs) → told_of (node_of y.1) (x ∷ xs) ≡ told_of (node_of y.1) (y ∷ ys) → node_of x.1 ≢ node_of y.1 → NoLater x y
two_heads x y xs ys merged same apart =
    first_told (NoLater x) (node_of y.1) xs y merged.0 (ap front (sym (told_there (node_of y.1) x xs apart) ∙ (same ∙ told_here (node_of y.1) y ys refl)))

one_node : (x y : ℕ × Event) → NoLater x y → NoLater y x → node_of x.1 ≡ node_of y.1
one_node x y (inl lt) (inl also) = absurd (omega (arith, lt, also))
one_node x y (inl lt) (inr also) = absurd (omega (arith, lt, also.0))
one_node x y (inr le) (inl also) = absurd (omega (arith, le.0, also))
one_node x y (inr le) (inr also) = omega (arith, le.1, also.1)

pub one_merge : (one other : List (ℕ × Event)) → AreMerged one → AreMerged other → ((n : ℕ) → told_of n one ≡ told_of n other) → one ≡ other
one_merge [] [] merged also same = refl
one_merge [] (y ∷ ys) merged also same = absurd (let some : [] ≡ y ∷ told_of (node_of y.1) ys = same (node_of y.1) ∙ told_here (node_of y.1) y ys refl in cc)
one_merge (x ∷ xs) [] merged also same = absurd (let some : x ∷ told_of (node_of x.1) xs ≡ [] = sym (told_here (node_of x.1) x xs refl) ∙ same (node_of x.1) in cc)
one_merge (x ∷ xs) (y ∷ ys) merged also same = is_node (x ∷ xs ≡ y ∷ ys) (node_of x.1) (node_of y.1)
    (λ is. by_node is (λ rests. one_merge xs ys merged.1 also.1 rests))
    (λ apart. absurd (apart (one_node x y (two_heads x y xs ys merged (same (node_of y.1)) apart)
    (two_heads y x ys xs also (sym (same (node_of x.1))) (λ back. apart (sym back))))))
  where
    by_node : node_of x.1 ≡ node_of y.1 → (((n : ℕ) → told_of n xs ≡ told_of n ys) → xs ≡ ys) → x ∷ xs ≡ y ∷ ys
    by_node is more = λ i. heads i ∷ more rests i
      where
        whole : x ∷ told_of (node_of y.1) xs ≡ y ∷ told_of (node_of y.1) ys
        whole = sym (told_here (node_of y.1) x xs is) ∙ (same (node_of y.1) ∙ told_here (node_of y.1) y ys refl)

        heads : x ≡ y
        heads = some_is x y (ap front whole)

        rests : (n : ℕ) → told_of n xs ≡ told_of n ys
        rests n = is_node (told_of n xs ≡ told_of n ys) (node_of y.1) n
            (λ at. subst (λ (k : ℕ). told_of k xs ≡ told_of k ys) at (ap behind whole))
            (λ other. sym (told_there n x xs (λ at. other (sym is ∙ at))) ∙ (same n ∙ told_there n y ys other))

-- ---- the merge of whole runs alone

both_fronts : (xs ys : List Event) → IsFrontOf xs ys → IsFrontOf ys xs → ys ≡ xs
both_fronts xs ys one other =
    let first = ap length one.whole_is ∙ length-append xs one.rest in
    let second = ap length other.whole_is ∙ length-append ys other.rest in
    let none : one.rest ≡ [] = nil_from_length one.rest (omega (arith, first, second)) in
    one.whole_is ∙ (ap (λ (rest : List Event). xs ++ rest) none ∙ append-nil xs)

-- no event is of a node that there isn't
none_beyond : (g : History) (costs : Costs) (n : ℕ) (events : List Event) (after : History) → IsRun g → EventsAreTimed g costs events after → node_count g.image ≤ n → told_of n (timeline g costs events) ≡ []
none_beyond g costs n [] after run are le = refl
none_beyond g costs n (event ∷ rest) after run are le =
    let may = first_may g costs (times_in g costs) event are.0.first in
    let exists = here g event may in
    told_there n (start_next g costs event, event) (timeline (grown g event) costs rest) (λ same. absurd (omega (arith, exists, le, same)))
    ∙ none_beyond (grown g event) costs n rest after (run_grows g event run may) are.1 le

pub whole_merge : (h : History) (costs : Costs) (from : ℕ) (events : List Event) (after : History) → IsRun h → IsWindow h costs from events after → NothingIsLeft after costs (from + lookahead costs) →
    (own : ℕ → List Event) → ((n : ℕ) → n < node_count h.image → IsRunAlone h costs n (from + lookahead costs) (own n)) → (told : List (ℕ × Event)) → IsMergeOf h costs own told → told ≡ timeline h costs events
whole_merge h costs from events after run window nothing own alone told merge =
    one_merge told (timeline h costs events) merge.merged (windows_ascend h costs from events after run window) (λ n. cases_lt_then (node_count h.image) n
    (λ exists. merge.parts n exists ∙ (ap (timeline h costs) (same_own n exists) ∙ sym (starts_alone h costs from events after run window n exists)))
    (λ beyond. merge.no_more n beyond ∙ sym (none_beyond h costs n events after run window.timed beyond)))
  where
    same_own : (n : ℕ) → n < node_count h.image → own n ≡ events_of n events
    same_own n exists =
        let bound = from + lookahead costs in
        let is = is_run_alone h costs from events after run window n exists nothing in
        both_fronts (events_of n events) (own n) (front_of h costs n bound (events_of n events) (own n) is.runs (alone n exists)) (front_of h costs n bound (own n) (events_of n events) (alone n exists).runs is)
