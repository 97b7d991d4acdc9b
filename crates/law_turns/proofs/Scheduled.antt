-- Before its last entry no end holds of a journal that serves turns one after the other, where no context traps before the last one.
use Rattle.std.proofs.Common.{◌≡◌, ℕ, ◌&&◌, nat_lt, Bool, true, false, cond, map, Some, None, List, [], ◌∷◌, ◌++◌, length, take, refl, sym, subst, ap, ◌∙◌, ◌⊎◌, inl, inr, arith, append_assoc, append-nil}
use Rattle.std.specs.List.{AllByRecursion, list_any}
use Rattle.std.proofs.lemmas.Bool.{ltb-true, false≢true}
use Rattle.sparc_table.specs.Registers.{start_of}
use Rattle.sparc_table.specs.declared.outcomes.Outcome.{Outcome}
use Rattle.alw_image.specs.declared.parts.Parts.{Parts}
use Rattle.alw_image.specs.Images.{node_count, IsImage}
use Rattle.alw_image.specs.Parameters.{Parameters, AreParameters}
use Rattle.alw_msg.specs.declared.contexts.Status.{Status}
use Rattle.alw_msg.specs.declared.contexts.Status.TheVariants as statuses
use Rattle.alw_msg.specs.declared.events.Event.{Event}
use Rattle.alw_msg.specs.declared.events.Event.TheVariants.{Instr, Handle, Deliver, Evict}
use Rattle.alw_msg.specs.declared.events.Entry.{Entry}
use Rattle.alw_msg.specs.Events.{is_evict}
use Rattle.alw_msg.specs.Statuses.{is_ready, has_trapped}
use Rattle.alw_model.specs.Headline.{IsScheduled}
use Rattle.alw_model.specs.Machine.{MachineState, machine_start, any_trapped, has_halted, is_settled, is_enabled, is_within_limit, goes_on, step, after, state, main_events, end_of, IsNext, AreLegal, IsLegal, Halted, Trapped, Limit}
use Rattle.alw_model.specs.Flat.{Flat, Context, AreReady, flat_after, context_at}
use Rattle.alw_model.specs.Runs.{moments, turns_of, flat_view}
use Rattle.alw_model.proofs.Journals.{and_is, and_parts}
use Rattle.law_lines.proofs.Steps.{enabled_is}
use Rattle.law_machine.proofs.FlatStarts.{flat_view_is, turns_are_ready}
use Rattle.law_machine.proofs.MainEvents.{instr_among, handle_among, deliver_among}
use Rattle.law_turns.specs.Turns.{turns_from, serves, ServesTurn, ServesTurns, NoneTrapsEarly}
use Rattle.law_turns.proofs.Ends.{nodes_halted, nodes_trapped, trapped_one, halted_each}
use Rattle.law_turns.proofs.Fronts.{all_among, cut_in, before_last, cut_at}
use Rattle.law_turns.proofs.Turns.{state_more, turns_more, turns_of_more, next_is_ready}
use Rattle.alw_num.proofs.Alls.{all_append, all_weaker}
use Rattle.law_machine.proofs.Wear.{ready_not_halted}

pub serves_keeps : (c : ℕ) (event : Event) → serves c event ≡ true → is_evict event ≡ false
serves_keeps c (Instr at) own = refl
serves_keeps c (Handle at) own = refl
serves_keeps c (Deliver from to) own = refl
serves_keeps c (Evict at its) own = absurd (false≢true own)

pub none_first : {X : Type 0} (one two : List X) → one ++ two ≡ [] → one ≡ []
none_first [] two e = refl
none_first (x ∷ one) two e = absurd (let sizes = ap length e in omega arith)

-- ---- where a context is Ready and none has trapped, and a main event comes next, no end holds

module _ (parts : Parts) (parameters : Parameters) (s : MachineState) where
  -- an event that is no eviction is a main event
  pub among : (test : Event → Bool) (event : Event) → is_enabled parts parameters s event ≡ true → is_evict event ≡ false → test event ≡ true → list_any test (main_events parts) ≡ true
  among test (Instr at) enabled main is = instr_among parts test at.0 (enabled_is parts parameters s (Instr at) enabled).here is
  among test (Handle at) enabled main is = handle_among parts test at.0 (enabled_is parts parameters s (Handle at) enabled).here is
  among test (Deliver from to) enabled main is =
      let en = enabled_is parts parameters s (Deliver from to) enabled in
      deliver_among parts test to.0 en.here from.0 (ltb-true from.0 (node_count parts) (and_parts (nat_lt from.0 (node_count parts)) _ en.may_be).0) is
  among test (Evict at its) enabled main is = absurd (false≢true (sym main))

  no_end : (entry : Entry) → IsNext parts parameters s entry → is_evict entry.event ≡ false → any_trapped s ≡ false → has_halted s ≡ false → end_of parts parameters s ≡ None
  no_end entry next main calm awake =
      let goes : goes_on parts parameters s ≡ true = among (λ event. is_enabled parts parameters s event && is_within_limit parts parameters s event) entry.event next.enabled main (and_is (is_enabled parts parameters s entry.event) _ next.enabled next.within) in
      λ x. cond (calm x) (Some Trapped) (cond (awake x && is_settled s) (Some Halted) (cond (goes x) None (Some Limit)))

module _ (parts : Parts) (parameters : Parameters) where
  -- the second part of entries that are legal
  pub legal_behind : (s : MachineState) (front back : List Entry) → AreLegal parts parameters s (front ++ back) → AreLegal parts parameters (after parts parameters s front) back
  legal_behind s [] back legal = legal
  legal_behind s (entry ∷ front) back legal = legal_behind (step parts parameters s entry.event) front back legal.1

  pub legal_before : (s : MachineState) (front back : List Entry) → AreLegal parts parameters s (front ++ back) → AreLegal parts parameters s front
  legal_before s [] back legal = tt
  legal_before s (entry ∷ front) back legal = (legal.0, legal_before (step parts parameters s entry.event) front back legal.1)

  next_of : (journal : List Entry) (entry : Entry) (rest : List Entry) → IsLegal parts parameters (journal ++ entry ∷ rest) → IsNext parts parameters (state parts parameters journal) entry
  unfolding state
  next_of journal entry rest legal = (legal_behind (machine_start parts) journal (entry ∷ rest) legal).0

module _ (parts : Parts) (image : IsImage parts) (parameters : Parameters) (are : AreParameters parameters) where
  abbrev nobody : Context
  nobody = record { regs = start_of 0 0 0; status = statuses.Halted }

  module _ (done : List ℕ) (journal : List Entry) (legal : IsLegal parts parameters journal) (taken : turns_of parts parameters journal ≡ done) where
    flat : flat_view parts parameters (state parts parameters journal) ≡ flat_after parts done
    flat = flat_view_is parts parameters are.some_pointer journal legal ∙ ap (flat_after parts) taken

    none_trapped : ((context : ℕ) → has_trapped (context_at (flat_after parts done) context).status ≡ false) → any_trapped (state parts parameters journal) ≡ false
    none_trapped calm = go (any_trapped (state parts parameters journal)) refl
      where
        go : (b : Bool) → any_trapped (state parts parameters journal) ≡ b → any_trapped (state parts parameters journal) ≡ false
        go false e = e
        go true e =
            let at = trapped_one (flat_view parts parameters (state parts parameters journal)).contexts nobody (nodes_trapped (state parts parameters journal).nodes ∙ e) in
            absurd (false≢true (sym (calm at.0) ∙ (ap (λ (f : Flat). has_trapped (context_at f at.0).status) (sym flat) ∙ at.1)))

    one_goes : (context : ℕ) → is_ready (context_at (flat_after parts done) context).status ≡ true → has_halted (state parts parameters journal) ≡ false
    one_goes context ready = go (has_halted (state parts parameters journal)) refl
      where
        go : (b : Bool) → has_halted (state parts parameters journal) ≡ b → has_halted (state parts parameters journal) ≡ false
        go false e = e
        go true e = absurd (ready_not_halted (context_at (flat_view parts parameters (state parts parameters journal)) context).status
            (ap (λ (f : Flat). is_ready (context_at f context).status) flat ∙ ready)
            (halted_each (flat_view parts parameters (state parts parameters journal)).contexts nobody context refl (nodes_halted (state parts parameters journal).nodes ∙ e)))

  -- an entry of those that serve a turn: no end holds before it
  in_turn : (done : List ℕ) (c : ℕ) (rest : List ℕ) (journal : List Entry) (first : List Entry) → turns_of parts parameters journal ≡ done → ServesTurn parts parameters (state parts parameters journal) c first → AreReady parts (done ++ c ∷ rest) → NoneTrapsEarly parts (done ++ c ∷ rest)
      → (front : List Entry) (entry : Entry) (more behind : List Entry) → front ++ entry ∷ more ≡ first → IsLegal parts parameters ((journal ++ front) ++ entry ∷ behind) → end_of parts parameters (state parts parameters (journal ++ front)) ≡ None
  in_turn done c rest journal first taken v ready early front entry more behind is legal =
      let s = state parts parameters journal in
      let b = before_last v.before v.last front entry more (is ∙ sym v.all) in
      let none : turns_from parts parameters s front ≡ [] = none_first (turns_from parts parameters s front) _ (sym (turns_more parts parameters s front b.0) ∙ (ap (turns_from parts parameters s) b.1 ∙ v.none)) in
      let same : turns_of parts parameters (journal ++ front) ≡ done = turns_of_more parts parameters journal front ∙ ((λ i. taken i ++ map (λ (turn : ℕ × Outcome). turn.0) (none i)) ∙ append-nil done) in
      let so_far = legal_before parts parameters (machine_start parts) (journal ++ front) (entry ∷ behind) legal in
      no_end parts parameters (state parts parameters (journal ++ front)) entry (next_of parts parameters (journal ++ front) entry behind legal)
      (serves_keeps c entry.event (all_among (λ (e : Entry). serves c e.event ≡ true) front entry more first is v.own))
      (none_trapped done (journal ++ front) so_far same (λ context. early done rest c context refl))
      (one_goes done (journal ++ front) so_far same c (next_is_ready parts done c rest ready))

  -- turn by turn
  by_turns : (turns done : List ℕ) (journal entries : List Entry) → turns_of parts parameters journal ≡ done → ServesTurns parts parameters (state parts parameters journal) turns entries → AreReady parts (done ++ turns) → NoneTrapsEarly parts (done ++ turns)
      → IsLegal parts parameters (journal ++ entries) → (front : List Entry) (entry : Entry) (behind : List Entry) → front ++ entry ∷ behind ≡ entries → end_of parts parameters (state parts parameters (journal ++ front)) ≡ None
  by_turns [] done journal entries taken served ready early legal front entry behind is = absurd (none front (is ∙ served))
    where
      none : (front : List Entry) → front ++ entry ∷ behind ≡ [] → ⊥
      none [] e = let sizes = ap length e in omega arith
      none (x ∷ front) e = let sizes = ap length e in omega arith
  by_turns (c ∷ rest) done journal entries taken (first, (more, (all, (v, others)))) ready early legal front entry behind is =
      let joined : (journal ++ first) ++ more ≡ journal ++ entries = append_assoc journal first more ∙ ap (λ (es : List Entry). journal ++ es) all in
      let whole : IsLegal parts parameters ((journal ++ front) ++ entry ∷ behind) = subst (IsLegal parts parameters) (ap (λ (es : List Entry). journal ++ es) (sym is) ∙ sym (append_assoc journal front (entry ∷ behind))) legal in
      by_place (cut_in first more front entry behind (is ∙ sym all)) (λ x at. in_turn done c rest journal first taken v ready early front entry x behind at whole)
      (λ y at. by_turns rest (done ++ c ∷ []) (journal ++ first) more (turns_of_more parts parameters journal first ∙ (λ i. taken i ++ v.turn i))
      (subst (λ (t : MachineState). ServesTurns parts parameters t rest more) (sym (state_more parts parameters journal first)) others)
      (subst (AreReady parts) (sym (append_assoc done (c ∷ []) rest)) ready) (subst (NoneTrapsEarly parts) (sym (append_assoc done (c ∷ []) rest)) early)
      (subst (IsLegal parts parameters) (sym joined) legal) y entry behind at)
    where
      by_place : ((x : List Entry) × (front ++ entry ∷ x ≡ first)) ⊎ ((y : List Entry) × ((first ++ y ≡ front) × (y ++ entry ∷ behind ≡ more)))
          → ((x : List Entry) → front ++ entry ∷ x ≡ first → end_of parts parameters (state parts parameters (journal ++ front)) ≡ None)
          → ((y : List Entry) → y ++ entry ∷ behind ≡ more → end_of parts parameters (state parts parameters ((journal ++ first) ++ y)) ≡ None) → end_of parts parameters (state parts parameters (journal ++ front)) ≡ None
      by_place (inl c') here later = here c'.0 c'.1
      by_place (inr c') here later = ap (λ (j : List Entry). end_of parts parameters (state parts parameters j)) (sym (append_assoc journal first c'.0 ∙ ap (λ (es : List Entry). journal ++ es) c'.1.0)) ∙ later c'.0 c'.1.1

  no_evictions : (turns : List ℕ) (s : MachineState) (entries : List Entry) → ServesTurns parts parameters s turns entries → AllByRecursion (λ (entry : Entry). is_evict entry.event ≡ false) entries
  no_evictions [] s entries served = subst (AllByRecursion (λ (entry : Entry). is_evict entry.event ≡ false)) (sym served) tt
  no_evictions (c ∷ rest) s entries (first, (more, (all, (v, others)))) = subst (AllByRecursion (λ (entry : Entry). is_evict entry.event ≡ false)) all
      (all_append (λ (entry : Entry). is_evict entry.event ≡ false) first more
      (all_weaker (λ (entry : Entry). serves c entry.event ≡ true) (λ (entry : Entry). is_evict entry.event ≡ false) (λ entry. serves_keeps c entry.event) first v.own)
      (no_evictions rest (after parts parameters s first) more others))

  pub scheduled_so : (turns : List ℕ) (journal : List Entry) → IsLegal parts parameters journal → turns_of parts parameters journal ≡ turns → ServesTurns parts parameters (machine_start parts) turns journal → NoneTrapsEarly parts turns → IsScheduled parts parameters journal
  unfolding state moments
  scheduled_so turns journal legal taken served early = record {
    unended = λ n within.
        let c = cut_at n journal within in
        by_turns turns [] [] journal refl served (subst (AreReady parts) taken (turns_are_ready parts parameters are.some_pointer journal legal)) early legal (take n journal) c.0 c.1.0 c.1.1;
    evicts = λ none. no_evictions turns (machine_start parts) journal served;
  }
