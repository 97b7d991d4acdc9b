-- One node goes on in a machine as it does in its picture, while the pictures of all others still show theirs.
use Rattle.std.proofs.Common.{◌≡◌, ◌≢◌, ℕ, ◌+◌, ◌<◌, ◌≤◌, ◌==◌, Bool, true, false, cond, max, List, [], ◌∷◌, ◌++◌, inl, inr, append-nil, append_assoc, refl, sym, ap, subst, ◌∙◌, arith}
use Rattle.alw_num.proofs.Weigh.{is_node}
use Rattle.alw_msg.specs.declared.messages.Msg.{Msg}
use Rattle.alw_msg.specs.declared.events.Event.{Event}
use Rattle.alw_msg.specs.declared.events.Entry.{Entry}
use Rattle.alw_image.specs.Images.{node_count}
use Rattle.alw_model.specs.Contexts.{all_halted}
use Rattle.alw_model.specs.NodeStates.{NodeState}
use Rattle.alw_model.specs.Machine.{node_at, has_halted}
use Rattle.alw_mesh.specs.Histories.{History, IsRun, state_of}
use Rattle.alw_times.specs.declared.costs.Costs.{Costs}
use Rattle.law_windows.specs.Windows.{lookahead, start_next, ComesBelow, RunsAlone, grown_by, LiftsNoLimit, NoneIsAtLimit, NothingIsLeft, timeline}
use Rattle.law_windows.proofs.Alone.{late_on}
use Rattle.law_windows.proofs.Choices.{with_journal, and_event, run_grows}
use Rattle.law_windows.proofs.Halted.{each_halted}
use Rattle.law_windows.proofs.Limits.{NodeLeads}
use Rattle.law_apart.specs.Pictures.{Picture, picture_of, IsPicture, ShowsBelow, ShowsBut, Shows, and_come}
use Rattle.law_apart.specs.Alone.{LimitHolds, start_in, finish_in, after_in, after_all, IsWholeIn, told_in, sent_by, sent_in}
use Rattle.law_apart.specs.Apart.{last_of, node_last, LimitStays, GoApart}
use Rattle.law_apart.proofs.Exact.{but_alike}
use Rattle.law_apart.proofs.Leads.{run_leads}
use Rattle.law_apart.proofs.Machines.{grown_is}
use Rattle.law_apart.proofs.Runs.{stays_picture}
use Rattle.law_apart.proofs.Shows.{comes_alike, start_alike, own_shows, finish_alike, sends_alike, others_show, exact_next, more_next}

-- more and then more of one node is both
more_both : (t : Bool) (xs a b : List (Msg × ℕ)) → cond t (cond t (xs ++ a) xs ++ b) (cond t (xs ++ a) xs) ≡ cond t (xs ++ (a ++ b)) xs
more_both true xs a b = append_assoc xs a b
more_both false xs a b = refl

more_none : (t : Bool) (xs : List (Msg × ℕ)) → xs ≡ cond t (xs ++ []) xs
more_none true xs = sym (append-nil xs)
more_none false xs = refl

module _ (h : History) (costs : Costs) (from : ℕ) (pictures : ℕ → Picture) (own : ℕ → List Event) (apart : GoApart h costs from pictures own) where
  abbrev pub bound : ℕ
  bound = from + lookahead costs

  abbrev pub in_machine : List Entry → Picture
  in_machine journal = picture_of (with_journal h journal) costs

  -- a node's picture shows it in a machine, and the rest of its run there comes to its last one
  pub record Stands (journal : List Entry) (k : ℕ) (at : Picture × List Event) : Type 0 where
    pub is : IsPicture h.image at.0
    pub shows : ShowsBelow h.image k bound (in_machine journal) at.0
    pub whole : IsWholeIn h.image h.parameters costs at.0 k bound at.1
    pub ends : after_all h.image h.parameters costs at.0 at.1 ≡ last_of h costs pictures own k

  -- ---- the limit

  abbrev pub TillLast : List Entry → Type 0
  TillLast journal = (k : ℕ) → k < node_count h.image → NodeLeads (node_at (state_of (with_journal h journal)) k) (node_last h costs pictures own k)

  pub till_last : (journal : List Entry) (k : ℕ) (at : Picture × List Event) → Stands journal k at → NodeLeads (node_at (state_of (with_journal h journal)) k) (node_last h costs pictures own k)
  till_last journal k at stands =
      let part = at.0 in
      subst (λ (node : NodeState). NodeLeads node (node_last h costs pictures own k)) (sym stands.shows.itself.nodes.here)
      (subst (λ (last : Picture). NodeLeads (node_at part.state k) (node_at last.state k)) stands.ends (run_leads h.image h.parameters costs k bound at.0 at.1 stands.is stands.whole.runs))

  none_at : (journal : List Entry) → TillLast journal → ((n : ℕ) → n < node_count h.image → (node_last h costs pictures own n).clock < h.parameters.limit) → NoneIsAtLimit (with_journal h journal)
  none_at journal till below n exists = let le = (till n exists).clock in let lt = below n exists in omega (arith, le, lt)

  unhalted : (journal : List Entry) → TillLast journal → (n : ℕ) × ((n < node_count h.image) × (all_halted (node_last h costs pictures own n).slots ≡ false)) →
      has_halted (state_of (with_journal h journal)) ≡ false
  unhalted journal till one = go (has_halted (state_of (with_journal h journal))) refl
    where
      go : (b : Bool) → has_halted (state_of (with_journal h journal)) ≡ b → has_halted (state_of (with_journal h journal)) ≡ false
      go false is = is
      go true is = absurd (let all = (till one.0 one.1.0).halted (each_halted (state_of (with_journal h journal)) is one.0) in let isnt = one.1.1 in cc)

  pub holds : (journal : List Entry) → TillLast journal → LimitHolds (with_journal h journal)
  holds journal till = go apart.limit
    where
      go : LimitStays h (node_last h costs pictures own) → LimitHolds (with_journal h journal)
      go (inl below) = inr (none_at journal till below)
      go (inr one) = inl (unhalted journal till one)

  pub lifts : (journal later : List Entry) → TillLast journal → TillLast later → LiftsNoLimit (with_journal h journal) (with_journal h later)
  lifts journal later till then = go apart.limit
    where
      go : LimitStays h (node_last h costs pictures own) → LiftsNoLimit (with_journal h journal) (with_journal h later)
      go (inl below) = inr (none_at later then below)
      go (inr one) = inl (unhalted later then one ∙ sym (unhalted journal till one))

  -- ---- one node goes on

  module _ (n : ℕ) (exists : n < node_count h.image) (at : ℕ → Picture × List Event) where
    pub record Going (journal : List Entry) (part : Picture) (events : List Event) : Type 0 where
      pub run : IsRun (with_journal h journal)
      pub nothing : NothingIsLeft (with_journal h journal) costs from
      pub here : Stands journal n (part, events)
      pub others : (k : ℕ) → k < node_count h.image → k ≢ n → Stands journal k (at k)

    pub tills : (journal : List Entry) (part : Picture) (events : List Event) → Stands journal n (part, events) → ((k : ℕ) → k < node_count h.image → k ≢ n → Stands journal k (at k)) →
        TillLast journal
    tills journal part events here others k below = is_node (NodeLeads (node_at (state_of (with_journal h journal)) k) (node_last h costs pictures own k)) k n
        (λ same. subst (λ (j : ℕ). NodeLeads (node_at (state_of (with_journal h journal)) j) (node_last h costs pictures own j)) (sym same) (till_last journal n (part, events) here))
        (λ other. till_last journal k (at k) (others k below other))

    module _ (journal : List Entry) (part : Picture) (event : Event) (rest : List Event) (going : Going journal part (event ∷ rest)) where
      abbrev g : History
      g = with_journal h journal

      abbrev next : List Entry
      next = and_event h journal event

      abbrev then : Picture
      then = after_in h.image h.parameters costs part event

      till : TillLast journal
      till = tills journal part (event ∷ rest) going.here going.others

      comes : ComesBelow (with_journal h journal) costs n bound event
      comes = (comes_alike (with_journal h journal) costs n bound part going.run (holds journal till) going.here.is going.here.shows event).1 going.here.whole.runs.0

      late : from ≤ start_next (with_journal h journal) costs event
      late = going.nothing n event comes.due

      starts : start_in h.image h.parameters costs part event ≡ start_next (with_journal h journal) costs event
      starts = start_alike (with_journal h journal) costs n bound part going.run (holds journal till) going.here.is going.here.shows event comes

      here_next : Stands next n (then, rest)
      here_next = record {
        is = stays_picture h.image h.parameters costs n bound part event going.here.is going.here.whole.runs.0;
        shows = own_shows (with_journal h journal) costs n bound part going.run (holds journal till) going.here.is going.here.shows event comes;
        whole = record { runs = going.here.whole.runs.1; none_left = going.here.whole.none_left };
        ends = going.here.ends;
      }

      others_next : (k : ℕ) → k < node_count h.image → k ≢ n → Stands next k (at k)
      others_next k below other = let stands = going.others k below other in let first = late in record {
        is = stands.is;
        shows = others_show (with_journal h journal) costs k bound (at k).0 going.run (holds journal till) stands.is stands.shows below event comes.due.may
            (λ same. other (same ∙ comes.due.node)) (omega (arith, first));
        whole = stands.whole;
        ends = stands.ends;
      }

      going_next : Going next then rest
      going_next = record {
        run = run_grows (with_journal h journal) event going.run comes.due.may;
        nothing = late_on (with_journal h journal) costs event going.run comes.due.may (lifts journal next till (tills next then rest here_next others_next)) from late going.nothing;
        here = here_next;
        others = others_next;
      }

      sends_same : (m : ℕ) → sent_by h.image h.parameters costs part m event ≡ sent_by h.image h.parameters costs (picture_of (with_journal h journal) costs) m event
      sends_same m = sends_alike (with_journal h journal) costs n bound part going.run (holds journal till) going.here.is going.here.shows event comes m

      -- the greatest finish goes on in both by the same
      latest_next : (in_machine next).times.latest ≡ max (in_machine journal).times.latest (finish_in h.image h.parameters costs part event)
      latest_next = ap (λ (picture : Picture). picture.times.latest) (grown_is (with_journal h journal) costs event going.run comes.due.may)
          ∙ ap (λ (finish : ℕ). max (in_machine journal).times.latest finish)
          (finish_alike (with_journal h journal) costs n bound part going.run (holds journal till) going.here.is going.here.shows event comes)

    -- ---- it takes its run

    pub record Ran (journal : List Entry) (part : Picture) (events : List Event) : Type 0 where
      pub runs : RunsAlone (with_journal h journal) costs n bound events
      pub told_is : timeline (with_journal h journal) costs events ≡ told_in h.image h.parameters costs part events
      pub after : List Entry
      pub after_is : grown_by (with_journal h journal) events ≡ with_journal h after
      pub going : Going after (after_all h.image h.parameters costs part events) []
      pub latest : ℕ
      pub whole_latest : (in_machine after).times.latest ≡ max (in_machine journal).times.latest latest
      pub part_latest : (after_all h.image h.parameters costs part events).times.latest ≡ max part.times.latest latest
      pub exact : Shows h.image n (in_machine journal) part → Shows h.image n (picture_of (grown_by (with_journal h journal) events) costs) (after_all h.image h.parameters costs part events)
      pub more : (m : ℕ) → m < node_count h.image → (m ≡ n → events ≡ []) → (come : ℕ → List (Msg × ℕ)) (other : Picture) → ShowsBut h.image m come (in_machine journal) other →
          ShowsBut h.image m (and_come n (sent_in h.image h.parameters costs part m events) come) (picture_of (grown_by (with_journal h journal) events) costs) other

    pub ran : (journal : List Entry) (part : Picture) (events : List Event) → Going journal part events → Ran journal part events
    ran journal part [] going = record {
      runs = tt;
      told_is = refl;
      after = journal;
      after_is = refl;
      going = going;
      latest = 0;
      whole_latest = omega arith;
      part_latest = omega arith;
      exact = λ shows. shows;
      more = λ m below none come other shows. but_alike h.image m (in_machine journal) other come (and_come n [] come) (λ k lt differ. more_none (k == n) (come k)) shows;
    }
    ran journal part (event ∷ rest) going =
        let deep = ran (and_event h journal event) (after_in h.image h.parameters costs part event) rest (going_next journal part event rest going) in
        let now = comes journal part event rest going in
        record {
          runs = (now, deep.runs);
          told_is = λ x. (sym (starts journal part event rest going) x, event) ∷ deep.told_is x;
          after = deep.after;
          after_is = deep.after_is;
          going = deep.going;
          latest = max (finish_in h.image h.parameters costs part event) deep.latest;
          whole_latest = let first = latest_next journal part event rest going in let then = deep.whole_latest in omega (arith, first, then);
          part_latest = let then = deep.part_latest in omega (arith, then);
          exact = λ shows. deep.exact (subst (λ (k : ℕ). Shows h.image k (in_machine (and_event h journal event)) (after_in h.image h.parameters costs part event)) now.due.node
              (exact_next (with_journal h journal) costs part going.run going.here.is event now.due.may (subst (λ (k : ℕ). Shows h.image k (in_machine journal) part) (sym now.due.node) shows)));
          more = λ m below none come other shows.
              let differ : m ≢ n = λ same. absurd (let is = none same in cc) in
              let by = sent_by h.image h.parameters costs (in_machine journal) m event in
              let first = subst (λ (k : ℕ). ShowsBut h.image m (and_come k by come) (in_machine (and_event h journal event)) other) now.due.node
              (more_next (with_journal h journal) costs m come other going.run below shows event now.due.may (λ same. differ (same ∙ now.due.node))) in
              let then = deep.more m below (λ same. absurd (differ same)) (and_come n by come) other first in
              let sent = sent_in h.image h.parameters costs (after_in h.image h.parameters costs part event) m rest in
              but_alike h.image m (picture_of (grown_by (with_journal h (and_event h journal event)) rest) costs) other _ (and_come n (sent_in h.image h.parameters costs part m (event ∷ rest)) come)
              (λ k lt away. more_both (k == n) (come k) (sent_by h.image h.parameters costs (in_machine journal) m event) sent
              ∙ ap (λ (by : List (Msg × ℕ)). cond (k == n) (come k ++ (by ++ sent)) (come k)) (sym (sends_same journal part event rest going m))) then;
        }
