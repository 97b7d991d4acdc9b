-- Events of any nodes that each come next at its node, and start within the lookahead from a time on: each node goes on in the machine in which all do as it does alone.
use Rattle.std.proofs.Common.{◌≡◌, ◌≢◌, ℕ, ◌+◌, ◌<◌, ◌≤◌, ◌==◌, Bool, true, false, cond, List, [], ◌∷◌, ◌++◌, filter, append-nil, append_assoc, refl, sym, ap, subst, ◌∙◌, arith}
use Rattle.std.proofs.lemmas.Bool.{eqb-true, eqb-false}
use Rattle.alw_num.proofs.Weigh.{is_node}
use Rattle.alw_msg.specs.declared.events.Event.{Event}
use Rattle.alw_msg.specs.declared.events.Entry.{Entry}
use Rattle.alw_msg.specs.Events.{node_of}
use Rattle.alw_image.specs.Images.{node_count}
use Rattle.alw_model.specs.NodeStates.{NodeState}
use Rattle.alw_model.specs.Machine.{MachineState, node_at, stepped_by}
use Rattle.law_order.proofs.Local.{node_kept}
use Rattle.alw_mesh.specs.Histories.{History, IsRun, grown, entry_of, state_of, may_be_next}
use Rattle.alw_times.specs.declared.costs.Costs.{Costs}
use Rattle.alw_due.proofs.Left as left
use Rattle.law_windows.specs.Windows.{lookahead, start_next, ComesBelow, RunsAlone, grown_by, LiftsNoLimit, events_of, timeline, told_of}
use Rattle.law_windows.proofs.Choices.{SeesIn, with_journal, and_event, run_grows, begins, comes_in_other, start_same, stamp_same, goes_elsewhere, goes_together}
use Rattle.law_windows.proofs.Limits.{NodeLeads, Leads, LiftsNone, IsBetween, leads_itself, leads_then, node_leads_itself, grown_leads, none_between}

-- the entries of events one after another
abbrev pub entries_by : History → List Event → List Entry
entries_by h [] = []
entries_by h (event ∷ rest) = entry_of h event ∷ entries_by (grown h event) rest

-- those of a node
abbrev pub entries_at : ℕ → List Entry → List Entry
entries_at n entries = filter (λ (entry : Entry). node_of entry.event == n) entries

-- a machine once events have happened has their entries more
pub grown_journal : (h : History) (events : List Event) → grown_by h events ≡ with_journal h (h.journal ++ entries_by h events)
grown_journal h [] = ap (with_journal h) (sym (append-nil h.journal))
grown_journal h (event ∷ rest) =
    grown_journal (grown h event) rest
    ∙ ap (with_journal h) (append_assoc h.journal (entry_of h event ∷ []) (entries_by (grown h event) rest))

-- the limit is of the image and the parameters, which stay
pub lifts_none : (g : History) (events : List Event) → LiftsNoLimit g (grown_by g events) → LiftsNone g.image g.parameters (state_of g) (state_of (grown_by g events))
lifts_none g events limit =
    let is = grown_journal g events in
    subst (λ (last : History). LiftsNone g.image g.parameters (state_of g) (state_of last)) (sym is) (subst (λ (last : History). LiftsNoLimit g last) is limit)

pub lifts_no_limit : (g : History) (events : List Event) → LiftsNone g.image g.parameters (state_of g) (state_of (grown_by g events)) → LiftsNoLimit g (grown_by g events)
lifts_no_limit g events none =
    let is = grown_journal g events in
    subst (λ (last : History). LiftsNoLimit g last) (sym is) (subst (λ (last : History). LiftsNone g.image g.parameters (state_of g) (state_of last)) is none)

module _ (costs : Costs) (from : ℕ) where
  abbrev pub bound : ℕ
  bound = from + lookahead costs

  -- each comes next at its node
  abbrev pub AllCome : History → List Event → Type 0
  AllCome g [] = Unit {0}
  AllCome g (event ∷ rest) = ComesBelow g costs (node_of event) bound event × AllCome (grown g event) rest

  pub all_run : (g : History) (events : List Event) → IsRun g → AllCome g events → IsRun (grown_by g events)
  all_run g [] run all = run
  all_run g (event ∷ rest) run all = all_run (grown g event) rest (run_grows g event run all.0.due.may) all.1

  pub all_lead : (g : History) (events : List Event) → IsRun g → AllCome g events → Leads (state_of g) (state_of (grown_by g events))
  all_lead g [] run all = leads_itself (state_of g)
  all_lead g (event ∷ rest) run all =
      let may = all.0.due.may in
      leads_then (state_of g) (state_of (grown g event)) (state_of (grown_by (grown g event) rest)) (grown_leads g costs event run may) (all_lead (grown g event) rest (run_grows g event run may) all.1)

  -- and starts no sooner than a time, and lifts no limit
  pub record Passes (g : History) (event : Event) : Type 0 where
    pub comes : ComesBelow g costs (node_of event) bound event
    pub late : from ≤ start_next g costs event
    pub limit : LiftsNoLimit g (grown g event)

  abbrev pub AllPass : History → List Event → Type 0
  AllPass g [] = Unit {0}
  AllPass g (event ∷ rest) = Passes g event × AllPass (grown g event) rest

  pub all_come : (g : History) (events : List Event) → AllPass g events → AllCome g events
  all_come g [] all = tt
  all_come g (event ∷ rest) all = (all.0.comes, all_come (grown g event) rest all.1)

  -- ---- all nodes go on in one machine, and a node alone in another

  module _ (h : History) (end : MachineState) (lifts : LiftsNone h.image h.parameters (state_of h) end) (n : ℕ) (exists : n < node_count h.image) where
    -- A machine on the way, and the one in which the node has gone on alone: of that all other nodes stand as they did. Both are on the way to an end.
    pub record AreUnderWay (one other : List Entry) : Type 0 where
      pub run : IsRun (with_journal h one)
      pub also : IsRun (with_journal h other)
      pub sees : SeesIn h costs n bound one other
      pub since : Leads (state_of h) (state_of (with_journal h one))
      pub others : (k : ℕ) → k ≢ n → node_at (state_of (with_journal h other)) k ≡ node_at (state_of h) k

    between_alone : (one other : List Entry) → AreUnderWay one other → Leads (state_of h) end → Leads (state_of (with_journal h one)) end → IsBetween (state_of h) end (state_of (with_journal h other))
    between_alone one other under whole till = record {
      since = λ k. is_node (NodeLeads (node_at (state_of h) k) (node_at (state_of (with_journal h other)) k)) k n
          (λ same. subst (λ (j : ℕ). NodeLeads (node_at (state_of h) j) (node_at (state_of (with_journal h other)) j)) (sym same)
          (subst (λ (node : NodeState). NodeLeads (node_at (state_of h) n) node) under.sees.nodes.here (under.since n)))
          (λ apart. subst (λ (node : NodeState). NodeLeads (node_at (state_of h) k) node) (sym (under.others k apart)) (node_leads_itself (node_at (state_of h) k)));
      till = λ k. is_node (NodeLeads (node_at (state_of (with_journal h other)) k) (node_at end k)) k n
          (λ same. subst (λ (j : ℕ). NodeLeads (node_at (state_of (with_journal h other)) j) (node_at end j)) (sym same)
          (subst (λ (node : NodeState). NodeLeads node (node_at end n)) under.sees.nodes.here (till n)))
          (λ apart. subst (λ (node : NodeState). NodeLeads node (node_at end k)) (sym (under.others k apart)) (whole k));
    }

    pub held : (one other : List Entry) → AreUnderWay one other → Leads (state_of h) end → Leads (state_of (with_journal h one)) end → LiftsNoLimit (with_journal h one) (with_journal h other)
    held one other under whole till = none_between h.image h.parameters (state_of h) end lifts (state_of (with_journal h one)) (state_of (with_journal h other))
        (record { since = under.since; till = till }) (between_alone one other under whole till)

    pub under_way_first : IsRun h → AreUnderWay h.journal h.journal
    under_way_first run = record { run = run; also = run; sees = begins h costs n bound h.journal; since = leads_itself (state_of h); others = λ k apart. refl }

    -- an event of another node
    pub passes_elsewhere : (one other : List Entry) (event : Event) → AreUnderWay one other → LiftsNoLimit (with_journal h one) (with_journal h other) → n ≢ node_of event →
        may_be_next (with_journal h one) event ≡ true → from ≤ start_next (with_journal h one) costs event → AreUnderWay (and_event h one event) other
    passes_elsewhere one other event under limit apart may late =
        let a = with_journal h one in
        record {
          run = run_grows a event under.run may;
          also = under.also;
          sees = goes_elsewhere h costs n bound one other under.run under.also under.sees limit event exists apart may (omega (arith, late));
          since = leads_then (state_of h) (state_of a) (state_of (grown a event)) under.since (grown_leads a costs event under.run may);
          others = under.others;
        }

    -- one of the node, in both
    pub passes_together : (one other : List Entry) (event : Event) → AreUnderWay one other → LiftsNoLimit (with_journal h one) (with_journal h other) → node_of event ≡ n →
        may_be_next (with_journal h one) event ≡ true → may_be_next (with_journal h other) event ≡ true → AreUnderWay (and_event h one event) (and_event h other event)
    passes_together one other event under limit at may might =
        let a = with_journal h one in
        let b = with_journal h other in
        record {
          run = run_grows a event under.run may;
          also = run_grows b event under.also might;
          sees = goes_together h costs n bound one other under.run under.also under.sees limit event at might may;
          since = leads_then (state_of h) (state_of a) (state_of (grown a event)) under.since (grown_leads a costs event under.run may);
          others = λ k apart.
              ap (λ (m : MachineState). node_at m k) (left.after_is b costs event under.also might)
              ∙ (node_kept h.image h.parameters (state_of b) event (stepped_by h.image h.parameters (state_of b) event) k (λ same. apart (same ∙ at))
              ∙ under.others k apart);
        }

    -- what both come to
    pub record AreLast (after by_itself : History) : Type 0 where
      pub all : List Entry
      pub alone : List Entry
      pub all_is : after ≡ with_journal h all
      pub alone_is : by_itself ≡ with_journal h alone
      pub under : AreUnderWay all alone

    pub record Goes (after : History) (other : List Entry) (own : List Event) (told : List (ℕ × Event)) (entries : List Entry) : Type 0 where
      pub runs : RunsAlone (with_journal h other) costs n bound own
      pub told_is : told ≡ timeline (with_journal h other) costs own
      pub entries_are : entries ≡ entries_by (with_journal h other) own
      pub last : AreLast after (grown_by (with_journal h other) own)

    pub goes : (one other : List Entry) (events : List Event) → AreUnderWay one other → Leads (state_of h) end → Leads (state_of (grown_by (with_journal h one) events)) end → AllPass (with_journal h one) events →
        Goes (grown_by (with_journal h one) events) other (events_of n events) (told_of n (timeline (with_journal h one) costs events)) (entries_at n (entries_by (with_journal h one) events))
    goes one other [] under whole till passing = record {
      runs = tt;
      told_is = refl;
      entries_are = refl;
      last = record { all = one; alone = other; all_is = refl; alone_is = refl; under = under };
    }
    goes one other (event ∷ rest) under whole till passing = go (node_of event == n) refl (λ next under_next. goes (and_event h one event) next rest under_next whole till passing.1)
      where
        a : History
        a = with_journal h one

        limit : LiftsNoLimit (with_journal h one) (with_journal h other)
        limit = held one other under whole
            (leads_then (state_of (with_journal h one)) (state_of (grown_by (with_journal h one) (event ∷ rest))) end (all_lead (with_journal h one) (event ∷ rest) under.run (all_come (with_journal h one) (event ∷ rest) passing)) till)

        go : (t : Bool) → (node_of event == n) ≡ t →
            ((next : List Entry) → AreUnderWay (and_event h one event) next → Goes (grown_by (with_journal h (and_event h one event)) rest) next (events_of n rest)
            (told_of n (timeline (with_journal h (and_event h one event)) costs rest)) (entries_at n (entries_by (with_journal h (and_event h one event)) rest))) →
            Goes (grown_by (with_journal h (and_event h one event)) rest) other (cond t (event ∷ events_of n rest) (events_of n rest))
            (cond t ((start_next (with_journal h one) costs event, event) ∷ told_of n (timeline (with_journal h (and_event h one event)) costs rest)) (told_of n (timeline (with_journal h (and_event h one event)) costs rest)))
            (cond t (entry_of (with_journal h one) event ∷ entries_at n (entries_by (with_journal h (and_event h one event)) rest)) (entries_at n (entries_by (with_journal h (and_event h one event)) rest)))
        go true is more =
            let at = eqb-true (node_of event) n is in
            let comes = subst (λ (k : ℕ). ComesBelow (with_journal h one) costs k bound event) at passing.0.comes in
            let too = comes_in_other h costs n bound one other under.run under.also under.sees limit event comes in
            let starts = start_same h costs n bound one other under.run under.also under.sees limit event comes in
            let stamps = stamp_same h costs n bound one other under.run under.also under.sees limit event comes in
            let rests = more (and_event h other event) (passes_together one other event under limit at comes.due.may too.due.may) in
            record {
              runs = (too, rests.runs);
              told_is = λ x. (starts x, event) ∷ rests.told_is x;
              entries_are = λ x. record { stamp = stamps x; event = event } ∷ rests.entries_are x;
              last = rests.last;
            }
        go false is more =
            more other (passes_elsewhere one other event under limit (λ same. eqb-false (node_of event) n is (sym same)) passing.0.comes.due.may passing.0.late)
