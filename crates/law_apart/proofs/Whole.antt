-- Nodes that went apart went in turn, in whatever order: so each last picture shows its node where all come to.
use Rattle.std.proofs.Common.{◌≡◌, ◌≢◌, ℕ, zero, suc, ◌+◌, ◌<◌, ◌≤◌, cond, List, [], ◌∷◌, ◌++◌, length, map, append-nil, length-append, refl, sym, ap, subst, ◌∙◌, arith}
use Rattle.std.specs.List.{AllByRecursion, Contains, range_with_len}
use Rattle.std.proofs.lemmas.Bool.{eq-eqb, ne_eqb}
use Rattle.std.proofs.lemmas.List.{nil_from_length}
use Rattle.std.proofs.lemmas.List.FromFn.{length-range_with_len, get_or-range_with_len}
use Rattle.alw_num.proofs.Weigh.{is_node, cases_lt_then}
use Rattle.alw_msg.specs.declared.messages.Msg.{Msg}
use Rattle.alw_msg.specs.declared.events.Event.{Event}
use Rattle.alw_image.specs.Images.{node_count}
use Rattle.alw_mesh.specs.Histories.{History, IsRun, grown}
use Rattle.alw_times.specs.declared.costs.Costs.{Costs}
use Rattle.alw_due.specs.Due.{times_in}
use Rattle.alw_due.proofs.Mains.{here}
use Rattle.law_windows.specs.Turns.{in_turn, GoInTurn, IsSortOf, events_told, sort_by_start}
use Rattle.law_windows.specs.Windows.{start_next, grown_by, IsRunAlone, events_of, timeline, told_of}
use Rattle.law_windows.proofs.InTurn as turn
use Rattle.law_windows.proofs.Merges.{told_there}
use Rattle.law_windows.proofs.Passing.{AllCome}
use Rattle.law_windows.proofs.Sorted.{both_alike}
use Rattle.law_windows.proofs.Sorting.{is_sorted}
use Rattle.law_windows.proofs.Windows.{front_of}
use Rattle.law_apart.specs.Pictures.{Picture, picture_of, ShowsBut, Shows, and_come, all_come}
use Rattle.law_apart.specs.Alone.{after_all, told_in, sent_in}
use Rattle.law_apart.specs.Apart.{nodes_of, parts_of, last_of, latest_by, GoApart}
use Rattle.law_apart.proofs.Come.{put_all}
use Rattle.law_apart.proofs.Exact.{but_alike}
use Rattle.law_apart.proofs.Going.{bound, in_machine, Ran}
use Rattle.law_apart.proofs.Nodes.{Places, done, parts_by, come_by, Stand, first_stand, node_ran, stand_next, is_alone, InTurn, all_in_turn, go_in_turn}

-- ---- the nodes of a range

range_below : (count i m : ℕ) → i + m ≡ count → AllByRecursion (λ n. n < count) (range_with_len i m)
range_below count i zero all = tt
range_below count i (suc m) all = (omega (arith, all), range_below count (i + 1) m (omega (arith, all)))

range_all : (count n : ℕ) → n < count → Contains (range_with_len 0 count) n
range_all count n lt = (n, subst (λ (size : ℕ). n < size) (sym (length-range_with_len 0 count)) lt, (let is : 0 + n ≡ n = omega arith in get_or-range_with_len 0 count n n lt ∙ is))

module _ (h : History) (costs : Costs) where
  parts_are : (own : ℕ → List Event) (i m : ℕ) (at : Places) → ((k : ℕ) → i ≤ k → (at k).1 ≡ own k) → parts_by h costs (range_with_len i m) at ≡ map own (range_with_len i m)
  parts_are own i zero at each = refl
  parts_are own i (suc m) at each =
      let more = parts_are own (i + 1) m (done h costs i at)
      (λ k le. ap (λ b. (cond b (after_all h.image h.parameters costs (at i).0 (at i).1, []) (at k)).1) (ne_eqb k i (λ same. absurd (omega (arith, le, same)))) ∙ each k (omega (arith, le))) in
      λ x. each i (omega arith) x ∷ more x

  module _ (n : ℕ) where
    abbrev sent_at : Picture × List Event → List (Msg × ℕ)
    sent_at place = sent_in h.image h.parameters costs place.0 n place.1

    come_low : (m i : ℕ) (at : Places) (come : ℕ → List (Msg × ℕ)) (k : ℕ) → k < i → come_by h costs n (range_with_len i m) at come k ≡ come k
    come_low zero i at come k lt = refl
    come_low (suc m) i at come k lt =
        come_low m (i + 1) (done h costs i at) (and_come i (sent_at (at i)) come) k (omega (arith, lt))
        ∙ ap (λ b. cond b (come k ++ sent_at (at i)) (come k)) (ne_eqb k i (λ same. absurd (omega (arith, lt, same))))

    come_high : (m i : ℕ) (at : Places) (come : ℕ → List (Msg × ℕ)) (k : ℕ) → i ≤ k → k < i + m → come_by h costs n (range_with_len i m) at come k ≡ come k ++ sent_at (at k)
    come_high zero i at come k le lt = absurd (omega (arith, le, lt))
    come_high (suc m) i at come k le lt = is_node (come_by h costs n (range_with_len i (suc m)) at come k ≡ come k ++ sent_at (at k)) k i
        (λ same. come_low m (i + 1) (done h costs i at) (and_come i (sent_at (at i)) come) k (omega (arith, same))
        ∙ (ap (λ b. cond b (come k ++ sent_at (at i)) (come k)) (eq-eqb k i same) ∙ ap (λ (j : ℕ). come k ++ sent_at (at j)) (sym same)))
        (λ other. come_high m (i + 1) (done h costs i at) (and_come i (sent_at (at i)) come) k (omega (arith, le, other)) (omega (arith, lt))
        ∙ ap (λ b. cond b (come k ++ sent_at (at i)) (come k) ++ sent_at (cond b (after_all h.image h.parameters costs (at i).0 (at i).1, []) (at k))) (ne_eqb k i other))

-- ---- a whole run alone is one

one_whole : (h : History) (costs : Costs) (n bound : ℕ) (one other : List Event) → IsRunAlone h costs n bound one → IsRunAlone h costs n bound other → one ≡ other
one_whole h costs n bound one other is also =
    let a = front_of h costs n bound one other is.runs also in
    let b = front_of h costs n bound other one also.runs is in
    let more : length other ≡ length one + length a.rest = ap length a.whole_is ∙ length-append one a.rest in
    let most : length one ≡ length other + length b.rest = ap length b.whole_is ∙ length-append other b.rest in
    b.whole_is ∙ (ap (λ (rest : List Event). other ++ rest) (nil_from_length b.rest (omega (arith, more, most))) ∙ append-nil other)

-- nothing is told of a node that there isn't
none_beyond : (costs : Costs) (from : ℕ) (g : History) (events : List Event) (n : ℕ) → AllCome costs from g events → node_count g.image ≤ n → told_of n (timeline g costs events) ≡ []
none_beyond costs from g [] n come le = refl
none_beyond costs from g (event ∷ rest) n come le =
    let exists = here g event come.0.due.may in
    told_there n (start_next g costs event, event) (timeline (grown g event) costs rest) (λ same. absurd (omega (arith, exists, le, same)))
    ∙ none_beyond costs from (grown g event) rest n come.1 le

module _ (h : History) (costs : Costs) (from : ℕ) (pictures : ℕ → Picture) (own : ℕ → List Event) (run : IsRun h) (apart : GoApart h costs from pictures own) where
  abbrev at : Places
  at k = (pictures k, own k)

  stand : Stand h costs from pictures own apart h.journal at
  stand = first_stand h costs from pictures own apart run

  below : AllByRecursion (λ n. n < node_count h.image) (nodes_of h)
  below = range_below (node_count h.image) 0 (node_count h.image) (omega arith)

  parts_is : parts_by h costs (nodes_of h) at ≡ parts_of h own
  parts_is = parts_are h costs own 0 (node_count h.image) at (λ k le. refl)

  pub turns : GoInTurn h costs from (nodes_of h) (parts_of h own)
  turns = subst (λ (parts : List (List Event)). GoInTurn h costs from (nodes_of h) parts) parts_is (go_in_turn h costs from pictures own apart run (nodes_of h) below (range_all (node_count h.image)))

  -- ---- what is told, in whatever order

  module _ (nodes : List ℕ) (parts : List (List Event)) (go : GoInTurn h costs from nodes parts) where
    pub told : (n : ℕ) → n < node_count h.image → told_of n (timeline h costs (in_turn parts)) ≡ told_in h.image h.parameters costs (pictures n) (own n)
    told n exists =
        let limit = bound h costs from pictures own apart in
        let same = one_whole h costs n limit (events_of n (in_turn parts)) (own n) (turn.is_whole costs from h nodes parts run go n exists)
        (is_alone h costs from pictures own apart h.journal at stand n exists) in
        (turn.alone costs from h nodes parts run go n exists).told_is
        ∙ (ap (timeline h costs) same ∙ (node_ran h costs from pictures own apart h.journal at stand n exists).told_is)

    nothing_beyond : (n : ℕ) → node_count h.image ≤ n → told_of n (timeline h costs (in_turn parts)) ≡ []
    nothing_beyond n le = none_beyond costs from h (in_turn parts) n (turn.come costs from h nodes parts run go) le

  -- ---- what they leave, in whatever order

  left_by : (nodes : List ℕ) (parts : List (List Event)) (go : GoInTurn h costs from nodes parts) (sorted : List (ℕ × Event)) → IsSortOf sorted (timeline h costs (in_turn parts)) →
      picture_of (grown_by h (events_told sorted)) costs ≡ picture_of (grown_by h (in_turn parts)) costs
  left_by nodes parts go sorted sort = let same = both_alike h costs from nodes parts run go sorted sort in λ x. record { state = same.states x; times = same.times x }

  left_alike : (nodes nodes' : List ℕ) (parts parts' : List (List Event)) (go : GoInTurn h costs from nodes parts) (go' : GoInTurn h costs from nodes' parts') →
      picture_of (grown_by h (in_turn parts)) costs ≡ picture_of (grown_by h (in_turn parts')) costs
  left_alike nodes nodes' parts parts' go go' = sym (left_by nodes parts go sorted sort) ∙ left_by nodes' parts' go' sorted (record { merged = sort.merged; same = λ n. sort.same n ∙ told_alike n })
    where
      sorted : List (ℕ × Event)
      sorted = sort_by_start (timeline h costs (in_turn parts))

      sort : IsSortOf sorted (timeline h costs (in_turn parts))
      sort = is_sorted h costs from nodes parts run go

      told_alike : (n : ℕ) → told_of n (timeline h costs (in_turn parts)) ≡ told_of n (timeline h costs (in_turn parts'))
      told_alike n = cases_lt_then (node_count h.image) n
          (λ exists. told nodes parts go n exists ∙ sym (told nodes' parts' go' n exists))
          (λ le. nothing_beyond nodes parts go n le ∙ sym (nothing_beyond nodes' parts' go' n le))

  -- ---- the greatest finish

  pub all_latest : ((n : ℕ) → n < node_count h.image → (pictures n).times.latest ≤ (times_in h costs).latest) →
      (times_in (grown_by h (in_turn (parts_of h own))) costs).latest ≡ latest_by (last_of h costs pictures own) (nodes_of h) (times_in h costs).latest
  all_latest low =
      let all = all_in_turn h costs from pictures own apart h.journal (nodes_of h) at below stand in
      ap (λ (parts : List (List Event)). (times_in (grown_by h (in_turn parts)) costs).latest) (sym parts_is)
      ∙ (ap (λ (g : History). (times_in g costs).latest) all.after_is ∙ all.latest low)

  -- ---- what a last picture shows

  module _ (n : ℕ) (exists : n < node_count h.image) where
    -- what the others sent
    abbrev sent : ℕ → List (Msg × ℕ)
    sent k = sent_in h.image h.parameters costs (pictures k) n (own k)

    abbrev one : Ran h costs from pictures own apart n exists at h.journal (pictures n) (own n)
    one = node_ran h costs from pictures own apart h.journal at stand n exists

    rest : InTurn h costs from pictures own apart one.after (nodes_of h) (done h costs n at)
    rest = all_in_turn h costs from pictures own apart one.after (nodes_of h) (done h costs n at) below (stand_next h costs from pictures own apart h.journal at stand n exists)

    -- the node goes first, and then all others
    abbrev first : List ℕ
    first = n ∷ nodes_of h

    go_first : GoInTurn h costs from first (parts_by h costs first at)
    go_first = go_in_turn h costs from pictures own apart run first (exists, below)
        (λ k lt. let there = range_all (node_count h.image) k lt in (suc there.0, (let less = there.1 in omega (arith, less)), there.2))

    comes_to : grown_by h (in_turn (parts_by h costs first at)) ≡ grown_by (grown_by h (own n)) (in_turn (parts_by h costs (nodes_of h) (done h costs n at)))
    comes_to = turn.grown_both h (own n) (in_turn (parts_by h costs (nodes_of h) (done h costs n at)))

    in_order : picture_of (grown_by h (in_turn (parts_of h own))) costs ≡ in_machine h costs from pictures own apart rest.after
    in_order =
        left_alike (nodes_of h) first (parts_of h own) (parts_by h costs first at) turns go_first
        ∙ ap (λ (g : History). picture_of g costs) (comes_to ∙ (ap (λ (g : History). grown_by g (in_turn (parts_by h costs (nodes_of h) (done h costs n at)))) one.after_is ∙ rest.after_is))

    all_sent : (k : ℕ) → k < node_count h.image → k ≢ n → come_by h costs n (nodes_of h) (done h costs n at) (λ k. []) k ≡ sent k
    all_sent k lt other =
        come_high h costs n (node_count h.image) 0 (done h costs n at) (λ k. []) k (omega arith) (omega (arith, lt))
        ∙ ap (λ b. sent_at h costs n (cond b (after_all h.image h.parameters costs (pictures n) (own n), []) (at k))) (ne_eqb k n other)

    lacks_sent : ShowsBut h.image n sent (in_machine h costs from pictures own apart rest.after) (last_of h costs pictures own n)
    lacks_sent =
        let last = last_of h costs pictures own n in
        let exact = subst (λ (g : History). Shows h.image n (picture_of g costs) last) one.after_is (one.exact (apart.show n exists)) in
        let none = ap (λ b. (cond b (after_all h.image h.parameters costs (pictures n) (own n), []) (at n)).1) (eq-eqb n n refl) in
        but_alike h.image n (in_machine h costs from pictures own apart rest.after) last _ sent all_sent (rest.more n exists none (λ k. []) last exact)

    pub shows : Shows h.image n (picture_of (grown_by h (in_turn (parts_of h own))) costs) (all_come h.image n sent (nodes_of h) (last_of h costs pictures own n))
    shows = subst (λ (whole : Picture). Shows h.image n whole (all_come h.image n sent (nodes_of h) (last_of h costs pictures own n))) (sym in_order)
        (put_all h.image n exists (in_machine h costs from pictures own apart rest.after) (last_of h costs pictures own n) sent one.going.here.is lacks_sent)

    pub shows_sorted : (sorted : List (ℕ × Event)) → IsSortOf sorted (timeline h costs (in_turn (parts_of h own))) →
        Shows h.image n (picture_of (grown_by h (events_told sorted)) costs) (all_come h.image n sent (nodes_of h) (last_of h costs pictures own n))
    shows_sorted sorted sort =
        subst (λ (whole : Picture). Shows h.image n whole (all_come h.image n sent (nodes_of h) (last_of h costs pictures own n))) (sym (left_by (nodes_of h) (parts_of h own) turns sorted sort)) shows
