-- What nodes do alone, sorted by start and then by node, comes one after another of the whole machine.
use Rattle.std.proofs.Common.{◌≡◌, ◌≢◌, ℕ, ◌+◌, ◌<◌, ◌≤◌, true, Some, List, [], ◌∷◌, inl, inr, refl, sym, ap, subst, ◌∙◌, arith}
use Rattle.std.proofs.lemmas.List.{get_or_past}
use Rattle.alw_num.proofs.Weigh.{is_node, cases_lt_then}
use Rattle.alw_msg.specs.declared.events.Event.{Event}
use Rattle.alw_msg.specs.declared.events.Entry.{Entry}
use Rattle.alw_msg.specs.Events.{node_of}
use Rattle.alw_msg.specs.Lists.{front, behind}
use Rattle.alw_image.specs.Images.{node_count}
use Rattle.alw_model.specs.NodeStates.{NodeState}
use Rattle.alw_model.specs.Machine.{MachineState, node_at, no_node}
use Rattle.alw_mesh.specs.Histories.{History, IsRun, grown, state_of}
use Rattle.alw_times.specs.declared.costs.Costs.{Costs}
use Rattle.alw_due.specs.Due.{times_in, is_before, rank_of, arrived_at, sender_of, IsFirstDue}
use Rattle.alw_due.proofs.Before.{heads_less, heads_same}
use Rattle.alw_due.proofs.Left as left
use Rattle.alw_due.proofs.Mains.{here}
use Rattle.law_windows.specs.Turns.{events_told}
use Rattle.law_windows.specs.Windows.{lookahead, start_next, key_next, IsDueAt, ComesBelow, grown_by, IsRunAlone, LiftsNoLimit, NothingIsLeft, timeline, told_of, NoLater, AreMerged}
use Rattle.law_windows.proofs.Alone.{late_on}
use Rattle.law_windows.proofs.Choices.{with_journal, and_event, run_grows, comes_in_one, comes_in_other, start_same}
use Rattle.law_windows.proofs.Firsts.{NotAfter, IsFirstAt, starts_no_later, not_after_then, is_first_due, first_at}
use Rattle.law_windows.proofs.InTurn.{alone_come}
use Rattle.law_windows.proofs.Limits.{NodeLeads, Leads, LiftsNone, leads_then, grown_leads, node_leads_itself, none_between}
use Rattle.law_windows.proofs.Merges.{told_here, told_there, first_told, some_is}
use Rattle.law_windows.proofs.Passing.{AreUnderWay, Passes, AllPass, all_lead, held, passes_elsewhere, passes_together}
use Rattle.law_windows.proofs.Windows.{same_next}

-- each event is the first of all that are due
abbrev pub AreFirst : History → Costs → List Event → Type 0
AreFirst g costs [] = Unit {0}
AreFirst g costs (event ∷ rest) = IsFirstDue g costs (times_in g costs) event × AreFirst (grown g event) costs rest

-- there is no node beyond the last
pub node_past : (g : History) (costs : Costs) → IsRun g → (k : ℕ) → node_count g.image ≤ k → node_at (state_of g) k ≡ no_node
node_past g costs run k le =
    let sized = (left.times_are_of g.image g.parameters costs g.journal run.legal).aimed.nodes in
    get_or_past (state_of g).nodes k no_node (omega (arith, sized, le))

strictly : (x y : ℕ) → x ≤ y → x ≢ y → x < y
strictly x y le differ = cases_lt_then y x (λ lt. lt) (λ more. absurd (differ (omega (arith, le, more))))

-- what is told where an event is told first
told_first : (g : History) (costs : Costs) (own : List Event) (one : ℕ × Event) (rest : List (ℕ × Event)) → one ∷ rest ≡ timeline g costs own →
    (event : Event) × (more : List Event) × (own ≡ event ∷ more) × (one ≡ (start_next g costs event, event)) × (rest ≡ timeline (grown g event) costs more)
told_first g costs [] one rest is = absurd (cc)
told_first g costs (event ∷ more) one rest is = (event, more, refl, some_is one (start_next g costs event, event) (ap front is), ap behind is)

nothing_told : (g : History) (costs : Costs) (own : List Event) → [] ≡ timeline g costs own → own ≡ []
nothing_told g costs [] is = refl
nothing_told g costs (event ∷ rest) is = absurd (cc)

module _ (costs : Costs) (from : ℕ) (h : History) (end : MachineState) (lifts : LiftsNone h.image h.parameters (state_of h) end) where
  abbrev bound : ℕ
  bound = from + lookahead costs

  -- what a node does alone from where it is, and what is told of it
  pub record Remains (one : List Entry) (told : List (ℕ × Event)) (k : ℕ) (exists : k < node_count h.image) : Type 0 where
    pub other : List Entry
    pub own : List Event
    pub under : AreUnderWay costs from h end lifts k exists one other
    pub alone : IsRunAlone (with_journal h other) costs k bound own
    pub told_is : told_of k told ≡ timeline (with_journal h other) costs own
    pub ends : node_at (state_of (grown_by (with_journal h other) own)) k ≡ node_at end k

  pub record Stand (one : List Entry) (told : List (ℕ × Event)) : Type 0 where
    pub run : IsRun (with_journal h one)
    pub since : Leads (state_of h) (state_of (with_journal h one))
    pub merged : AreMerged told
    pub late : NothingIsLeft (with_journal h one) costs from
    pub each : (k : ℕ) (exists : k < node_count h.image) → Remains one told k exists
    pub beyond : (k : ℕ) → node_count h.image ≤ k → told_of k told ≡ []

  -- ---- it leads to the end

  module _ (beyond_end : (k : ℕ) → node_count h.image ≤ k → node_at end k ≡ no_node) where
    node_till : (one : List Entry) (told : List (ℕ × Event)) (k : ℕ) (exists : k < node_count h.image) → Remains one told k exists → NodeLeads (node_at (state_of (with_journal h one)) k) (node_at end k)
    node_till one told k exists remains =
        let b = with_journal h remains.other in
        let leads = all_lead costs from b remains.own remains.under.also (alone_come costs from b k remains.own remains.alone.runs) k in
        subst (λ (node : NodeState). NodeLeads node (node_at end k)) (sym remains.under.sees.nodes.here)
        (subst (λ (node : NodeState). NodeLeads (node_at (state_of (with_journal h remains.other)) k) node) remains.ends leads)

    till : (one : List Entry) (told : List (ℕ × Event)) → IsRun (with_journal h one) → ((k : ℕ) (exists : k < node_count h.image) → Remains one told k exists) → Leads (state_of (with_journal h one)) end
    till one told run each k = cases_lt_then (node_count h.image) k
        (λ exists. node_till one told k exists (each k exists))
        (λ le. subst (λ (node : NodeState). NodeLeads node (node_at end k)) (sym (node_past (with_journal h one) costs run k le)) (subst (λ (node : NodeState). NodeLeads no_node node) (sym (beyond_end k le)) (node_leads_itself no_node)))

    module _ (whole : Leads (state_of h) end) where
      limit_at : (one : List Entry) (told : List (ℕ × Event)) (stand : Stand one told) (k : ℕ) (exists : k < node_count h.image) → LiftsNoLimit (with_journal h one) (with_journal h (stand.each k exists).other)
      limit_at one told stand k exists = held costs from h end lifts k exists one (stand.each k exists).other (stand.each k exists).under whole (till one told stand.run stand.each)

      -- ---- the first that is told comes next

      its_node : (one : List Entry) (start : ℕ) (event : Event) (rest : List (ℕ × Event)) → Stand one ((start, event) ∷ rest) → node_of event < node_count h.image
      its_node one start event rest stand = cases_lt_then (node_count h.image) (node_of event) (λ lt. lt)
          (λ le. absurd (let none = stand.beyond (node_of event) le in let some = told_here (node_of event) (start, event) rest refl in let is : (start, event) ∷ told_of (node_of event) rest ≡ [] = sym some ∙ none in cc))

      module _ (one : List Entry) (start : ℕ) (event : Event) (rest : List (ℕ × Event)) (stand : Stand one ((start, event) ∷ rest)) (exists_too : node_of event < node_count h.image) where
        abbrev a : History
        a = with_journal h one

        abbrev at : Remains one ((start, event) ∷ rest) (node_of event) exists_too
        at = stand.each (node_of event) exists_too

        abbrev b : History
        b = with_journal h (stand.each (node_of event) exists_too).other

        -- of what its node does alone it is the first
        record Heads : Type 0 where
          more : List Event
          own_is : at.own ≡ event ∷ more
          start_is : start ≡ start_next b costs event
          rest_is : told_of (node_of event) rest ≡ timeline (grown b event) costs more

        heads : Heads
        heads = go (told_first b costs at.own (start, event) (told_of (node_of event) rest) (sym (told_here (node_of event) (start, event) rest refl) ∙ at.told_is))
          where
            go : (first : Event) × (more : List Event) × (at.own ≡ first ∷ more) × (◌≡◌ {A = ℕ × Event} (start, event) (start_next b costs first, first)) × (told_of (node_of event) rest ≡ timeline (grown b first) costs more) → Heads
            go (first, more, own, head, tail) =
                let same : first ≡ event = sym (ap (λ (x : ℕ × Event). x.1) head) in
                record {
                  more = more;
                  own_is = own ∙ ap (λ (e : Event). e ∷ more) same;
                  start_is = ap (λ (x : ℕ × Event). x.0) head ∙ ap (λ (e : Event). start_next b costs e) same;
                  rest_is = tail ∙ ap (λ (e : Event). timeline (grown b e) costs more) same;
                }

        alone_now : IsRunAlone b costs (node_of event) bound (event ∷ heads.more)
        alone_now = subst (λ (own : List Event). IsRunAlone b costs (node_of event) bound own) heads.own_is at.alone

        comes : ComesBelow a costs (node_of event) bound event
        comes = comes_in_one h costs (node_of event) bound one at.other at.under.run at.under.also at.under.sees (limit_at one ((start, event) ∷ rest) stand (node_of event) exists_too) event alone_now.runs.0

        start_here : start_next a costs event ≡ start
        start_here = start_same h costs (node_of event) bound one at.other at.under.run at.under.also at.under.sees (limit_at one ((start, event) ∷ rest) stand (node_of event) exists_too) event comes ∙ sym heads.start_is

        -- what comes next at another node is told behind it
        other_behind : (m : ℕ) → m ≢ node_of event → (other : Event) → ComesBelow a costs m bound other → is_before (key_next a costs event) (key_next a costs other) ≡ true
        other_behind m apart other also = by_told (told_head (stand.each m exists) also)
          where
            exists : m < node_count h.image
            exists = subst (λ (k : ℕ). k < node_count h.image) also.due.node (here a other also.due.may)

            told_head : (there : Remains one ((start, event) ∷ rest) m exists) → ComesBelow a costs m bound other → front (told_of m ((start, event) ∷ rest)) ≡ Some (start_next a costs other, other)
            told_head there it =
                let limit = held costs from h end lifts m exists one there.other there.under whole (till one ((start, event) ∷ rest) stand.run stand.each) in
                let alone = comes_in_other h costs m bound one there.other there.under.run there.under.also there.under.sees limit other it in
                let starts = start_same h costs m bound one there.other there.under.run there.under.also there.under.sees limit other it in
                ap front there.told_is ∙ (first_is there.own alone there.alone ∙ ap (λ (s : ℕ). Some (s, other)) (sym starts))
              where
                first_is : (own : List Event) → ComesBelow (with_journal h there.other) costs m bound other → IsRunAlone (with_journal h there.other) costs m bound own →
                    front (timeline (with_journal h there.other) costs own) ≡ Some (start_next (with_journal h there.other) costs other, other)
                first_is [] alone is = absurd (is.none_left other alone)
                first_is (e ∷ more) alone is =
                    let same = same_next (with_journal h there.other) costs m bound e other is.runs.0 alone in
                    ap (λ (x : Event). Some (start_next (with_journal h there.other) costs x, x)) same

            by_told : front (told_of m ((start, event) ∷ rest)) ≡ Some (start_next a costs other, other) → is_before (key_next a costs event) (key_next a costs other) ≡ true
            by_told is = by_order (first_told (NoLater (start, event)) m rest (start_next a costs other, other) stand.merged.0
                (ap front (sym (told_there m (start, event) rest (λ same. apart (sym same)))) ∙ is))
              where
                rest_of : Event → List ℕ
                rest_of e = rank_of e ∷ arrived_at h.image (times_in a costs) e ∷ sender_of e ∷ []

                by_order : NoLater (start, event) (start_next a costs other, other) → is_before (key_next a costs event) (key_next a costs other) ≡ true
                by_order (inl lt) = heads_less (start_next a costs event) (start_next a costs other) (is_before (node_of event ∷ rest_of event) (node_of other ∷ rest_of other)) (omega (arith, start_here, lt))
                by_order (inr le) = heads_same (start_next a costs event) (start_next a costs other) (is_before (node_of event ∷ rest_of event) (node_of other ∷ rest_of other)) (start_here ∙ le.0)
                    (heads_less (node_of event) (node_of other) (is_before (rest_of event) (rest_of other)) (strictly (node_of event) (node_of other) le.1 (λ same. apart (sym also.due.node ∙ sym same))))

        before_other : (other : Event) → IsDueAt a costs (node_of other) other → NotAfter a costs event other
        before_other other due = is_node (NotAfter a costs event other) (node_of other) (node_of event)
            (λ same. comes.first other (record { node = same; main = due.main; may = due.may; due = due.due }))
            (λ apart. inr (elsewhere apart (first_at a costs (node_of other) other due)))
          where
            elsewhere : node_of other ≢ node_of event → IsFirstAt a costs (node_of other) → is_before (key_next a costs event) (key_next a costs other) ≡ true
            elsewhere apart first = not_after_then a costs event first.event other (cases_lt_then bound (start_next a costs first.event)
                (λ lt. other_behind (node_of other) apart first.event (record { due = first.due; first = first.first; below = lt }))
                (λ late. heads_less (start_next a costs event) (start_next a costs first.event) _ (let below = comes.below in omega (arith, below, late)))) (first.first other due)

        is_first : IsFirstDue a costs (times_in a costs) event
        is_first = is_first_due a costs (node_of event) event comes.due before_other

        -- ---- and what is told behind it stands in the machine that it leaves

        late_here : from ≤ start_next a costs event
        late_here = stand.late (node_of event) event comes.due

        own_next : Remains (and_event h one event) rest (node_of event) exists_too
        own_next = record {
          other = and_event h at.other event;
          own = heads.more;
          under = passes_together costs from h end lifts (node_of event) exists_too one at.other event at.under (limit_at one ((start, event) ∷ rest) stand (node_of event) exists_too) refl comes.due.may alone_now.runs.0.due.may;
          alone = record { runs = alone_now.runs.1; none_left = alone_now.none_left };
          told_is = heads.rest_is;
          ends = subst (λ (own : List Event). node_at (state_of (grown_by (with_journal h at.other) own)) (node_of event) ≡ node_at end (node_of event)) heads.own_is at.ends;
        }

        other_next : (k : ℕ) (exists : k < node_count h.image) → k ≢ node_of event → Remains (and_event h one event) rest k exists
        other_next k exists apart =
            let there = stand.each k exists in
            record {
              other = there.other;
              own = there.own;
              under = passes_elsewhere costs from h end lifts k exists one there.other event there.under (limit_at one ((start, event) ∷ rest) stand k exists) apart comes.due.may late_here;
              alone = there.alone;
              told_is = sym (told_there k (start, event) rest (λ same. apart (sym same))) ∙ there.told_is;
              ends = there.ends;
            }

      module _ (one : List Entry) (start : ℕ) (event : Event) (rest : List (ℕ × Event)) (stand : Stand one ((start, event) ∷ rest)) where
        abbrev before : History
        before = with_journal h one

        exists_now : node_of event < node_count h.image
        exists_now = its_node one start event rest stand

        next_each : (k : ℕ) (exists : k < node_count h.image) → Remains (and_event h one event) rest k exists
        next_each k = is_node ((exists : k < node_count h.image) → Remains (and_event h one event) rest k exists) k (node_of event)
            (λ same. subst (λ (j : ℕ). (exists : j < node_count h.image) → Remains (and_event h one event) rest j exists) (sym same) (own_next one start event rest stand))
            (λ apart exists. other_next one start event rest stand exists_now k exists apart)

        it_comes : ComesBelow before costs (node_of event) bound event
        it_comes = comes one start event rest stand exists_now

        run_next : IsRun (with_journal h (and_event h one event))
        run_next = run_grows before event stand.run it_comes.due.may

        since_next : Leads (state_of h) (state_of (with_journal h (and_event h one event)))
        since_next = leads_then (state_of h) (state_of before) (state_of (grown before event)) stand.since (grown_leads before costs event stand.run it_comes.due.may)

        limit_next : LiftsNoLimit before (grown before event)
        limit_next = none_between h.image h.parameters (state_of h) end lifts (state_of before) (state_of (grown before event))
            (record { since = stand.since; till = till one ((start, event) ∷ rest) stand.run stand.each }) (record { since = since_next; till = till (and_event h one event) rest run_next next_each })

        it_passes : Passes costs from before event
        it_passes = record { comes = it_comes; late = stand.late (node_of event) event it_comes.due; limit = limit_next }

        next_stand : Stand (and_event h one event) rest
        next_stand = record {
          run = run_next;
          since = since_next;
          merged = stand.merged.1;
          late = late_on before costs event stand.run it_comes.due.may limit_next from it_passes.late stand.late;
          each = next_each;
          beyond = λ k le. sym (told_there k (start, event) rest (λ same. absurd (omega (arith, exists_now, le, same)))) ∙ stand.beyond k le;
        }

      -- ---- all that is told comes

      pub record Takes (one : List Entry) (told : List (ℕ × Event)) : Type 0 where
        pub firsts : AreFirst (with_journal h one) costs (events_told told)
        pub passing : AllPass costs from (with_journal h one) (events_told told)
        pub told_is : timeline (with_journal h one) costs (events_told told) ≡ told
        pub left : NothingIsLeft (grown_by (with_journal h one) (events_told told)) costs bound
        pub last : Leads (state_of (grown_by (with_journal h one) (events_told told))) end

      -- where nothing is told any more nothing is left
      none_is_left : (one : List Entry) → Stand one [] → NothingIsLeft (with_journal h one) costs bound
      none_is_left one stand k event is = cases_lt_then bound (start_next (with_journal h one) costs event)
          (λ lt. absurd (by_first lt (first_at (with_journal h one) costs k event is)))
          (λ le. le)
        where
          exists : k < node_count h.image
          exists = subst (λ (j : ℕ). j < node_count h.image) is.node (here (with_journal h one) event is.may)

          by_first : start_next (with_journal h one) costs event < bound → IsFirstAt (with_journal h one) costs k → ⊥
          by_first lt first =
              let there = stand.each k exists in
              let le = starts_no_later (with_journal h one) costs first.event event (first.first event is) in
              let comes = comes_in_other h costs k bound one there.other there.under.run there.under.also there.under.sees (limit_at one [] stand k exists) first.event
              (record { due = first.due; first = first.first; below = omega (arith, le, lt) }) in
              let none = nothing_told (with_journal h there.other) costs there.own there.told_is in
              let alone = subst (λ (own : List Event). IsRunAlone (with_journal h there.other) costs k bound own) none there.alone in
              alone.none_left first.event comes

      pub takes : (one : List Entry) (told : List (ℕ × Event)) → Stand one told → Takes one told
      takes one [] stand = record { firsts = tt; passing = tt; told_is = refl; left = none_is_left one stand; last = till one [] stand.run stand.each }
      takes one ((start, event) ∷ rest) stand =
          let more = takes (and_event h one event) rest (next_stand one start event rest stand) in
          record {
            firsts = (is_first one start event rest stand (exists_now one start event rest stand), more.firsts);
            passing = (it_passes one start event rest stand, more.passing);
            told_is = λ x. (start_here one start event rest stand (exists_now one start event rest stand) x, event) ∷ more.told_is x;
            left = more.left;
            last = more.last;
          }
