-- Nodes take their runs one after another in a machine, each as it does in its picture.
use Rattle.std.proofs.Common.{◌≡◌, ℕ, zero, suc, ◌<◌, ◌≤◌, ◌==◌, Bool, true, false, cond, max, ◌||◌, List, [], ◌∷◌, length, slice_index_or, refl, sym, ap, subst, ◌∙◌, arith}
use Rattle.std.specs.List.{AllByRecursion, Contains, list_any}
use Rattle.std.proofs.lemmas.Bool.{eq-eqb}
use Rattle.alw_num.proofs.Weigh.{at_nodes}
use Rattle.alw_msg.specs.declared.messages.Msg.{Msg}
use Rattle.alw_msg.specs.declared.events.Event.{Event}
use Rattle.alw_msg.specs.declared.events.Entry.{Entry}
use Rattle.alw_msg.specs.Statuses.{has_trapped}
use Rattle.alw_image.specs.Images.{node_count}
use Rattle.alw_model.specs.NodeStates.{NodeState}
use Rattle.alw_model.specs.Machine.{node_at, no_node, any_trapped}
use Rattle.alw_mesh.specs.Histories.{History, IsRun, state_of}
use Rattle.alw_times.specs.declared.costs.Costs.{Costs}
use Rattle.law_windows.specs.Turns.{in_turn, RunInTurn, GoInTurn}
use Rattle.law_windows.specs.Windows.{ComesBelow, grown_by, IsRunAlone, LiftsNoLimit, NothingIsLeft}
use Rattle.law_windows.proofs.Choices.{with_journal}
use Rattle.law_windows.proofs.Following as follow
use Rattle.law_windows.proofs.InTurn.{grown_both}
use Rattle.law_apart.specs.Pictures.{Picture, picture_of, ShowsBut, and_come}
use Rattle.law_apart.specs.Alone.{after_all, sent_in}
use Rattle.law_apart.specs.Apart.{last_of, node_last, latest_by, GoApart}
use Rattle.law_apart.proofs.Exact.{below_of}
use Rattle.law_apart.proofs.Going.{bound, in_machine, Stands, TillLast, till_last, holds, lifts, Going, Ran, ran}
use Rattle.law_apart.proofs.Shown.{machine_is}
use Rattle.law_apart.proofs.Shows.{comes_alike}

-- where each node is: its picture, and what is left of its run
abbrev pub Places : Type 0
Places = ℕ → Picture × List Event

module _ (h : History) (costs : Costs) where
  -- a node has taken its run
  abbrev pub done : ℕ → Places → Places
  done n at k = cond (k == n) (after_all h.image h.parameters costs (at n).0 (at n).1, []) (at k)

  -- what nodes take in turn, and where they are then
  abbrev pub parts_by : List ℕ → Places → List (List Event)
  parts_by [] at = []
  parts_by (n ∷ nodes) at = (at n).1 ∷ parts_by nodes (done n at)

  abbrev pub at_end : List ℕ → Places → Places
  at_end [] at = at
  at_end (n ∷ nodes) at = at_end nodes (done n at)

  -- what they send to a node
  abbrev pub come_by : ℕ → List ℕ → Places → (ℕ → List (Msg × ℕ)) → ℕ → List (Msg × ℕ)
  come_by m [] at come = come
  come_by m (n ∷ nodes) at come = come_by m nodes (done n at) (and_come n (sent_in h.image h.parameters costs (at n).0 m (at n).1) come)

  -- one that has nothing left has nothing left later
  still_none : (n : ℕ) (at : Places) (k : ℕ) → (at k).1 ≡ [] → (done n at k).1 ≡ []
  still_none n at k none = go (k == n)
    where
      go : (b : Bool) → (cond b (after_all h.image h.parameters costs (at n).0 (at n).1, []) (at k)).1 ≡ []
      go true = refl
      go false = none

  none_at_end : (nodes : List ℕ) (at : Places) (k : ℕ) → (at k).1 ≡ [] → (at_end nodes at k).1 ≡ []
  none_at_end [] at k none = none
  none_at_end (n ∷ nodes) at k none = none_at_end nodes (done n at) k (still_none n at k none)

  -- and one that is one of them has none
  pub none_of_all : (nodes : List ℕ) (at : Places) (k i : ℕ) → i < length nodes → slice_index_or nodes i k ≡ k → (at_end nodes at k).1 ≡ []
  none_of_all [] at k i lt is = absurd (omega (arith, lt))
  none_of_all (n ∷ nodes) at k zero lt is = none_at_end nodes (done n at) k (ap (λ b. (cond b (after_all h.image h.parameters costs (at n).0 (at n).1, []) (at k)).1) (eq-eqb k n (sym is)))
  none_of_all (n ∷ nodes) at k (suc i) lt is = none_of_all nodes (done n at) k i (omega (arith, lt)) is

module _ (h : History) (costs : Costs) (from : ℕ) (pictures : ℕ → Picture) (own : ℕ → List Event) (apart : GoApart h costs from pictures own) where
  abbrev StandsAt : List Entry → ℕ → Picture × List Event → Type 0
  StandsAt journal = Stands h costs from pictures own apart journal

  -- a machine on the way
  pub record Stand (journal : List Entry) (at : Places) : Type 0 where
    pub run : IsRun (with_journal h journal)
    pub nothing : NothingIsLeft (with_journal h journal) costs from
    pub each : (k : ℕ) → k < node_count h.image → StandsAt journal k (at k)

  pub till : (journal : List Entry) (at : Places) → Stand journal at → TillLast h costs from pictures own apart journal
  till journal at stand k exists = till_last h costs from pictures own apart journal k (at k) (stand.each k exists)

  pub first_stand : IsRun h → Stand h.journal (λ k. (pictures k, own k))
  first_stand run = record {
    run = run;
    nothing = apart.nothing_left;
    each = λ k exists. record {
      is = apart.are k exists;
      shows = below_of h.image k (picture_of h costs) (pictures k) (bound h costs from pictures own apart) (apart.show k exists);
      whole = apart.runs k exists;
      ends = refl;
    };
  }

  -- ---- one node

  module _ (journal : List Entry) (at : Places) (stand : Stand journal at) (n : ℕ) (exists : n < node_count h.image) where
    going : Going h costs from pictures own apart n exists at journal (at n).0 (at n).1
    going = record { run = stand.run; nothing = stand.nothing; here = stand.each n exists; others = λ k below other. stand.each k below }

    pub node_ran : Ran h costs from pictures own apart n exists at journal (at n).0 (at n).1
    node_ran = ran h costs from pictures own apart n exists at journal (at n).0 (at n).1 going

    pub stand_next : Stand node_ran.after (done h costs n at)
    stand_next = record {
      run = node_ran.going.run;
      nothing = node_ran.going.nothing;
      each = at_nodes (λ k (place : Picture × List Event). k < node_count h.image → StandsAt node_ran.after k place) at n (after_all h.image h.parameters costs (at n).0 (at n).1, [])
          (λ below. node_ran.going.here) (λ k other below. node_ran.going.others k below other);
    }

    pub is_alone : IsRunAlone (with_journal h journal) costs n (bound h costs from pictures own apart) (at n).1
    is_alone = record {
      runs = node_ran.runs;
      none_left = λ event comes.
          let last = with_journal h node_ran.after in
          let here = node_ran.going.here in
          let part = after_all h.image h.parameters costs (at n).0 (at n).1 in
          let there = subst (λ (g : History). ComesBelow g costs n (bound h costs from pictures own apart) event) node_ran.after_is comes in
          here.whole.none_left event ((comes_alike last costs n (bound h costs from pictures own apart) part node_ran.going.run
          (holds h costs from pictures own apart node_ran.after (till node_ran.after (done h costs n at) stand_next)) here.is here.shows event).0 there);
    }

  -- ---- all of them

  -- the greatest finish in a machine
  abbrev finish_of_all : List Entry → ℕ
  finish_of_all journal = (in_machine h costs from pictures own apart journal).times.latest

  -- where no picture has a greater one, one node's run leaves the greatest of both, and again none has a greater one
  module _ (journal : List Entry) (at : Places) (stand : Stand journal at)
      (low : (k : ℕ) → k < node_count h.image → (at k).0.times.latest ≤ finish_of_all journal) (n : ℕ) (exists : n < node_count h.image) where
    abbrev once : List Entry
    once = (node_ran journal at stand n exists).after

    finish_once : finish_of_all once ≡ max (finish_of_all journal) (last_of h costs pictures own n).times.latest
    finish_once =
        let whole = (node_ran journal at stand n exists).whole_latest in
        let part = (node_ran journal at stand n exists).part_latest in
        let last = ap (λ (picture : Picture). picture.times.latest) (stand.each n exists).ends in
        let le = low n exists in
        omega (arith, whole, part, last, le)

    low_once : (k : ℕ) → k < node_count h.image → (done h costs n at k).0.times.latest ≤ finish_of_all once
    low_once = at_nodes (λ k (place : Picture × List Event). k < node_count h.image → place.0.times.latest ≤ finish_of_all once) at n (after_all h.image h.parameters costs (at n).0 (at n).1, [])
        (λ below. let part = (node_ran journal at stand n exists).part_latest in let whole = (node_ran journal at stand n exists).whole_latest in
        let le = low n exists in omega (arith, part, whole, le))
        (λ k other below. let whole = (node_ran journal at stand n exists).whole_latest in let le = low k below in omega (arith, whole, le))

  pub record InTurn (journal : List Entry) (nodes : List ℕ) (at : Places) : Type 0 where
    pub turns : RunInTurn (with_journal h journal) costs (bound h costs from pictures own apart) nodes (parts_by h costs nodes at)
    pub after : List Entry
    pub after_is : grown_by (with_journal h journal) (in_turn (parts_by h costs nodes at)) ≡ with_journal h after
    pub stand : Stand after (at_end h costs nodes at)
    pub latest : ((k : ℕ) → k < node_count h.image → (at k).0.times.latest ≤ finish_of_all journal) → finish_of_all after ≡ latest_by (last_of h costs pictures own) nodes (finish_of_all journal)
    pub more : (m : ℕ) → m < node_count h.image → (at m).1 ≡ [] → (come : ℕ → List (Msg × ℕ)) (other : Picture) →
        ShowsBut h.image m come (in_machine h costs from pictures own apart journal) other →
        ShowsBut h.image m (come_by h costs m nodes at come) (in_machine h costs from pictures own apart after) other

  pub all_in_turn : (journal : List Entry) (nodes : List ℕ) (at : Places) → AllByRecursion (λ n. n < node_count h.image) nodes → Stand journal at → InTurn journal nodes at
  all_in_turn journal [] at below stand = record { turns = tt; after = journal; after_is = refl; stand = stand; latest = λ low. refl; more = λ m exists none come other shows. shows }
  all_in_turn journal (n ∷ nodes) at below stand =
      let g = with_journal h journal in
      let one = node_ran journal at stand n below.0 in
      let rest = all_in_turn one.after nodes (done h costs n at) below.1 (stand_next journal at stand n below.0) in
      let parts = parts_by h costs nodes (done h costs n at) in
      let limit = bound h costs from pictures own apart in
      record {
        turns = (is_alone journal at stand n below.0, subst (λ (last : History). RunInTurn last costs limit nodes parts) (sym one.after_is) rest.turns);
        after = rest.after;
        after_is = grown_both g (at n).1 (in_turn parts) ∙ (ap (λ (last : History). grown_by last (in_turn parts)) one.after_is ∙ rest.after_is);
        stand = rest.stand;
        latest = λ low. rest.latest (low_once journal at stand low n below.0) ∙ ap (latest_by (last_of h costs pictures own) nodes) (finish_once journal at stand low n below.0);
        more = λ m exists none come other shows.
            let sent = sent_in h.image h.parameters costs (at n).0 m (at n).1 in
            let first = one.more m exists (λ same. subst (λ (k : ℕ). (at k).1 ≡ []) same none) come other shows in
            let moved = subst (λ (last : History). ShowsBut h.image m (and_come n sent come) (picture_of last costs) other) one.after_is first in
            rest.more m exists (still_none h costs n at m none) (and_come n sent come) other moved;
      }

  -- ---- a window in turn

  none_trapped : (nodes : List NodeState) → ((k : ℕ) → k < length nodes → list_any (λ slot. has_trapped slot.status) (slice_index_or nodes k no_node).slots ≡ false) →
      list_any (λ (node : NodeState). list_any (λ slot. has_trapped slot.status) node.slots) nodes ≡ false
  none_trapped [] each = refl
  none_trapped (node ∷ rest) each =
      (λ x. each 0 (omega arith) x || list_any (λ (node : NodeState). list_any (λ slot. has_trapped slot.status) node.slots) rest)
      ∙ none_trapped rest (λ k lt. each (suc k) (omega (arith, lt)))

  module _ (run : IsRun h) (nodes : List ℕ) (below : AllByRecursion (λ n. n < node_count h.image) nodes) (all : (n : ℕ) → n < node_count h.image → Contains nodes n) where
    abbrev pub at_first : Places
    at_first k = (pictures k, own k)

    abbrev pub parts : List (List Event)
    parts = parts_by h costs nodes at_first

    whole : InTurn h.journal nodes at_first
    whole = all_in_turn h.journal nodes at_first below (first_stand run)

    node_is : (k : ℕ) → k < node_count h.image → node_at (state_of (with_journal h whole.after)) k ≡ node_last h costs pictures own k
    node_is k exists =
        let place = at_end h costs nodes at_first k in
        let stands = whole.stand.each k exists in
        let one = all k exists in
        stands.shows.itself.nodes.here
        ∙ (ap (λ (events : List Event). node_at (after_all h.image h.parameters costs place.0 events).state k) (sym (none_of_all h costs nodes at_first k one.0 one.1 one.2))
        ∙ ap (λ (last : Picture). node_at last.state k) stands.ends)

    untrapped : any_trapped (state_of (with_journal h whole.after)) ≡ false
    untrapped = none_trapped (state_of (with_journal h whole.after)).nodes
        (λ k lt. let exists : k < node_count h.image = let sized = (machine_is (with_journal h whole.after) costs whole.stand.run).aimed.nodes in omega (arith, sized, lt) in
        ap (λ (node : NodeState). list_any (λ slot. has_trapped slot.status) node.slots) (node_is k exists) ∙ apart.untrapped k exists)

    pub go_in_turn : GoInTurn h costs from nodes parts
    go_in_turn = record {
      none_before = follow.none_before h costs from apart.nothing_left;
      runs = whole.turns;
      all = all;
      limit = subst (λ (last : History). LiftsNoLimit h last) (sym whole.after_is)
          (lifts h costs from pictures own apart h.journal whole.after (till h.journal at_first (first_stand run)) (till whole.after (at_end h costs nodes at_first) whole.stand));
      untrapped = subst (λ (last : History). any_trapped (state_of last) ≡ false) (sym whole.after_is) untrapped;
    }
