-- Nodes that go in turn each take what they do alone from the first machine on.
use Rattle.std.proofs.Common.{◌≡◌, ℕ, zero, suc, ◌+◌, ◌<◌, ◌≤◌, List, [], ◌∷◌, ◌++◌, length, slice_index_or, refl, sym, subst, arith}
use Rattle.alw_num.proofs.Weigh.{is_node}
use Rattle.alw_msg.specs.declared.events.Event.{Event}
use Rattle.alw_msg.specs.declared.events.Entry.{Entry}
use Rattle.alw_msg.specs.Events.{node_of}
use Rattle.alw_image.specs.Images.{node_count}
use Rattle.alw_model.specs.Machine.{MachineState}
use Rattle.alw_mesh.specs.Histories.{History, IsRun, grown, state_of}
use Rattle.alw_times.specs.declared.costs.Costs.{Costs}
use Rattle.alw_due.proofs.Mains.{here}
use Rattle.law_windows.specs.Turns.{in_turn, RunInTurn, GoInTurn}
use Rattle.law_windows.specs.Windows.{lookahead, start_next, ComesBelow, RunsAlone, grown_by, IsRunAlone, NothingIsLeft, events_of, timeline, told_of}
use Rattle.law_windows.proofs.Alone.{chooses_below, late_on}
use Rattle.law_windows.proofs.Choices.{with_journal, and_event, run_grows, comes_in_one}
use Rattle.law_windows.proofs.Firsts.{nothing_before}
use Rattle.law_windows.proofs.Limits.{Leads, LiftsNone, leads_itself, leads_then, grown_leads, none_between}
use Rattle.law_windows.proofs.Passing.{AllCome, AllPass, Goes, all_run, all_lead, lifts_none, held, under_way_first, goes, entries_by, entries_at}

pub grown_both : (g : History) (xs ys : List Event) → grown_by g (xs ++ ys) ≡ grown_by (grown_by g xs) ys
grown_both g [] ys = refl
grown_both g (event ∷ xs) ys = grown_both (grown g event) xs ys

module _ (costs : Costs) (from : ℕ) where
  abbrev bound : ℕ
  bound = from + lookahead costs

  -- ---- what comes in turn

  pub alone_come : (g : History) (n : ℕ) (events : List Event) → RunsAlone g costs n bound events → AllCome costs from g events
  alone_come g n [] runs = tt
  alone_come g n (event ∷ rest) runs = (subst (λ (k : ℕ). ComesBelow g costs k bound event) (sym runs.0.due.node) runs.0, alone_come (grown g event) n rest runs.1)

  both_come : (g : History) (xs ys : List Event) → AllCome costs from g xs → AllCome costs from (grown_by g xs) ys → AllCome costs from g (xs ++ ys)
  both_come g [] ys one other = other
  both_come g (event ∷ xs) ys one other = (one.0, both_come (grown g event) xs ys one.1 other)

  turns_come : (g : History) (nodes : List ℕ) (parts : List (List Event)) → RunInTurn g costs bound nodes parts → AllCome costs from g (in_turn parts)
  turns_come g [] [] turns = tt
  turns_come g [] (own ∷ parts) turns = absurd turns
  turns_come g (n ∷ nodes) [] turns = absurd turns
  turns_come g (n ∷ nodes) (own ∷ parts) turns = both_come g own (in_turn parts) (alone_come g n own turns.0.runs) (turns_come (grown_by g own) nodes parts turns.1)

  module _ (h : History) (end : MachineState) (lifts : LiftsNone h.image h.parameters (state_of h) end) where
    all_pass : (one : List Entry) (events : List Event) → IsRun (with_journal h one) → Leads (state_of h) (state_of (with_journal h one)) → Leads (state_of (grown_by (with_journal h one) events)) end →
        NothingIsLeft (with_journal h one) costs from → AllCome costs from (with_journal h one) events → AllPass costs from (with_journal h one) events
    all_pass one [] run since till nothing come = tt
    all_pass one (event ∷ rest) run since till nothing come =
        let a = with_journal h one in
        let may = come.0.due.may in
        let next = run_grows a event run may in
        let step = grown_leads a costs event run may in
        let last = state_of (grown_by a (event ∷ rest)) in
        let since_next = leads_then (state_of h) (state_of a) (state_of (grown a event)) since step in
        let till_next = leads_then (state_of (grown a event)) last end (all_lead costs from (grown a event) rest next come.1) till in
        let limit = none_between h.image h.parameters (state_of h) end lifts (state_of a) (state_of (grown a event))
        (record { since = since; till = leads_then (state_of a) (state_of (grown a event)) end step till_next }) (record { since = since_next; till = till_next }) in
        let late = nothing (node_of event) event come.0.due in (
          record { comes = come.0; late = late; limit = limit },
          all_pass (and_event h one event) rest next since_next till (late_on a costs event run may limit from late nothing) come.1,
        )

  -- ---- what is left

  behind_pass : (g : History) (xs ys : List Event) → AllPass costs from g (xs ++ ys) → AllPass costs from (grown_by g xs) ys
  behind_pass g [] ys all = all
  behind_pass g (event ∷ xs) ys all = behind_pass (grown g event) xs ys all.1

  -- where nothing comes at a node others leave it so
  none_stays : (g : History) (events : List Event) (n : ℕ) → IsRun g → AllPass costs from g events → ((f : Event) → ComesBelow g costs n bound f → ⊥) → (f : Event) → ComesBelow (grown_by g events) costs n bound f → ⊥
  none_stays g [] n run all none = none
  none_stays g (event ∷ rest) n run all none = none_stays (grown g event) rest n (run_grows g event run all.0.comes.due.may) all.1 (λ f comes. is_node ⊥ n (node_of event)
      (λ same. none event (subst (λ (k : ℕ). ComesBelow g costs k bound event) (sym same) all.0.comes))
      (λ apart. none f ((chooses_below g costs event run all.0.comes.due.may all.0.limit n (exists f comes) apart bound low f).0 comes)))
    where
      low : bound ≤ start_next g costs event + lookahead costs
      low = let late = all.0.late in omega (arith, late)

      exists : (f : Event) → ComesBelow (grown g event) costs n bound f → n < node_count g.image
      exists f comes = subst (λ (k : ℕ). k < node_count g.image) comes.due.node (here (grown g event) f comes.due.may)

  -- behind a run in turn nothing comes at a node that is one of them
  none_behind : (g : History) (nodes : List ℕ) (parts : List (List Event)) (n k : ℕ) → k < length nodes → slice_index_or nodes k n ≡ n → IsRun g → RunInTurn g costs bound nodes parts → AllPass costs from g (in_turn parts) →
      (f : Event) → ComesBelow (grown_by g (in_turn parts)) costs n bound f → ⊥
  none_behind g [] parts n k lt is run turns all f comes = absurd (omega (arith, lt))
  none_behind g (m ∷ nodes) [] n k lt is run turns all f comes = absurd turns
  none_behind g (m ∷ nodes) (own ∷ parts) n zero lt is run turns all f comes =
      none_stays (grown_by g own) (in_turn parts) n (all_run costs from g own run (alone_come g m own turns.0.runs)) (behind_pass g own (in_turn parts) all)
      (λ e there. turns.0.none_left e (subst (λ (j : ℕ). ComesBelow (grown_by g own) costs j bound e) (sym is) there)) f
      (subst (λ (last : History). ComesBelow last costs n bound f) (grown_both g own (in_turn parts)) comes)
  none_behind g (m ∷ nodes) (own ∷ parts) n (suc k) lt is run turns all f comes =
      none_behind (grown_by g own) nodes parts n k (omega (arith, lt)) is (all_run costs from g own run (alone_come g m own turns.0.runs)) turns.1 (behind_pass g own (in_turn parts) all) f
      (subst (λ (last : History). ComesBelow last costs n bound f) (grown_both g own (in_turn parts)) comes)

  -- ---- a window in turn

  module _ (h : History) (nodes : List ℕ) (parts : List (List Event)) (run : IsRun h) (turns : GoInTurn h costs from nodes parts) where
    abbrev pub events : List Event
    events = in_turn parts

    abbrev pub end : MachineState
    end = state_of (grown_by h (in_turn parts))

    pub lifts : LiftsNone h.image h.parameters (state_of h) (state_of (grown_by h (in_turn parts)))
    lifts = lifts_none h (in_turn parts) turns.limit

    pub nothing_first : NothingIsLeft h costs from
    nothing_first = nothing_before h costs from turns.none_before

    pub come : AllCome costs from h (in_turn parts)
    come = turns_come h nodes parts turns.runs

    pub whole : Leads (state_of h) (state_of (grown_by h (in_turn parts)))
    whole = all_lead costs from h (in_turn parts) run come

    pub passing : AllPass costs from h (in_turn parts)
    passing = all_pass h end lifts h.journal (in_turn parts) run (leads_itself (state_of h)) (leads_itself end) nothing_first come

    module _ (n : ℕ) (exists : n < node_count h.image) where
      pub alone : Goes costs from h end lifts n exists (grown_by h (in_turn parts)) h.journal (events_of n (in_turn parts)) (told_of n (timeline h costs (in_turn parts))) (entries_at n (entries_by h (in_turn parts)))
      alone = goes costs from h end lifts n exists h.journal h.journal (in_turn parts) (under_way_first costs from h end lifts n exists run) whole (leads_itself end) passing

      pub is_whole : IsRunAlone h costs n bound (events_of n (in_turn parts))
      is_whole = record {
        runs = alone.runs;
        none_left = λ event comes.
            let last = alone.last in
            let there = subst (λ (g : History). ComesBelow g costs n bound event) last.alone_is comes in
            let leads = subst (λ (g : History). Leads (state_of g) end) last.all_is (leads_itself end) in
            let limit = held costs from h end lifts n exists last.all last.alone last.under whole leads in
            let one = comes_in_one h costs n bound last.all last.alone last.under.run last.under.also last.under.sees limit event there in
            let at = turns.all n exists in
            none_behind h nodes parts n at.0 at.1 at.2 run turns.runs passing event (subst (λ (g : History). ComesBelow g costs n bound event) (sym last.all_is) one);
      }
