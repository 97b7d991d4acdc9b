-- Where turns on the flat memory can always come to an end, so can the machine.
use Rattle.std.proofs.Common.{◌≡◌, ℕ, ◌+◌, ◌*◌, ◌≤◌, ◌++◌, Some, ◌⊎◌, inl, inr, true, map, List, [], ◌∷◌, length, sym, subst, ap, ◌∙◌, append-nil, append_assoc, length-append, arith}
use Rattle.std.proofs.lemmas.Nat.{mul-le}
use Rattle.alw_num.proofs.Weigh.{cases_lt_then}
use Rattle.sparc_table.specs.declared.outcomes.Outcome.{Outcome}
use Rattle.alw_msg.specs.Statuses.{is_ready, has_trapped}
use Rattle.alw_image.specs.declared.parts.Parts.{Parts}
use Rattle.alw_model.specs.ProcessorSteps.{status_after}
use Rattle.alw_model.specs.Flat.{Flat, context_at, flat_start, flat_turn, turns_after, turns_ready, flat_after, are_ready, AreReady}
use Rattle.alw_places.specs.Places.{Place, place_start, place_turn, places_after, traps, IsRun}
use Rattle.alw_places.specs.Outcomes.{flat_halted, TrapsAt, Ending, EndsIn, Halts, Traps, CanAlwaysEnd}
use Rattle.alw_places.proofs.Commuting.{effect_at}
use Rattle.alw_places.proofs.Ends.{both}
use Rattle.alw_image.specs.Images.{IsImage}
use Rattle.alw_image.specs.Parameters.{Parameters, AreParameters}
use Rattle.alw_msg.specs.declared.events.Entry.{Entry}
use Rattle.alw_model.specs.Machine.{MachineState, state, IsLegal, end_of}
use Rattle.alw_model.specs.Machine as machine
use Rattle.alw_model.specs.Runs.{turns_of}
use Rattle.alw_model.proofs.Journals.{and_is}
use Rattle.alw_places.proofs.Runs.{flat_is, left_at, turns_after-append, run_or_traps}
use Rattle.law_machine.proofs.FlatStarts.{turns_are_ready}
use Rattle.law_turns.specs.Turns.{IsAtRest, greatest_clock, turns_from, turn_events}
use Rattle.law_turns.specs.Going.{settle_events, ComesToRest}
use Rattle.law_turns.proofs.Endings.{ready_run, ready_more, flat_more}
use Rattle.law_turns.proofs.Going.{settles, every_journal_settles}
use Rattle.law_turns.proofs.Means.{AreMeans, means_of}
use Rattle.law_turns.proofs.Raised.{journal_raised, state_raised, turns_raised, ends_raised}
use Rattle.law_turns.proofs.Turns.{turns_of_more}
use Rattle.law_turns.specs.Stuck.{HasEnded, LeadToEnd, EndsWith, NoJournalIsStuck, with_limit, most_stamps, stamps_for, EndsUnderGreaterLimits, EveryJournalCanEnd}
use Rattle.law_turns.proofs.Runs.{goes_on, ends_by}

-- a run behind turns
ready_behind : (parts : Parts) (flat : Flat) (done more : List ℕ) → turns_ready parts flat done ≡ true → turns_ready parts (turns_after parts flat done) more ≡ true → turns_ready parts flat (done ++ more) ≡ true
ready_behind parts flat [] more ready also = also
ready_behind parts flat (context ∷ rest) more ready also = and_is (is_ready (context_at flat context).status) _ (both _ _ ready).0 (ready_behind parts (flat_turn parts flat context).0 rest more (both _ _ ready).1 also)

-- ---- the flat memory

module _ (parts : Parts) (always : CanAlwaysEnd parts) (done : List ℕ) (ready : AreReady parts done) where
  abbrev there : Place
  there = places_after parts (place_start parts) done

  abbrev Leads : Type 0
  Leads = (turns : List ℕ) × LeadToEnd parts done turns

  -- turns of the flat memory that lead to an end
  by_ending : (turns : List ℕ) (ending : Ending) → IsRun parts there turns → EndsIn parts (places_after parts there turns) ending → Leads
  unfolding flat_after are_ready
  by_ending turns (Halts printed memory) run ends =
      let all = ready_behind parts (flat_start parts) done turns ready (ap (λ (f : Flat). turns_ready parts f turns) (sym (flat_is parts (place_start parts) done)) ∙ ready_run parts there turns run) in
      let halted : flat_halted (turns_after parts (flat_start parts) (done ++ turns)) ≡ true =
      ap flat_halted (turns_after-append parts (flat_start parts) done turns ∙ (ap (λ (f : Flat). turns_after parts f turns) (sym (flat_is parts (place_start parts) done)) ∙ sym (flat_is parts there turns))) ∙ ends.0 in
      (turns, record { ready = all; ends = inl halted })
  by_ending turns (Traps context pc tt') run ends =
      let more = turns ++ context ∷ [] in
      let all = ready_behind parts (flat_start parts) done more ready (ap (λ (f : Flat). turns_ready parts f more) (sym (flat_is parts (place_start parts) done)) ∙ ready_more parts there turns context run ends.0) in
      let place = places_after parts there turns in
      let state_is : turns_after parts (flat_start parts) (done ++ more) ≡ (place_turn parts place context).flat =
      turns_after-append parts (flat_start parts) done more ∙ (ap (λ (f : Flat). turns_after parts f more) (sym (flat_is parts (place_start parts) done)) ∙ flat_more parts there turns context) in
      let trapped : has_trapped (context_at (turns_after parts (flat_start parts) (done ++ more)) context).status ≡ true =
      ap (λ (f : Flat). has_trapped (context_at f context).status) state_is ∙ (ap has_trapped (left_at parts place context ends.0) ∙ ap (λ (o : Outcome). has_trapped (status_after (effect_at parts place context).regs o)) ends.1) in
      (more, record { ready = all; ends = inr (context, trapped) })

  -- where no context has trapped
  by_run : IsRun parts (place_start parts) done → Leads
  by_run run = let can = always done run in by_ending can.turns can.ending can.run can.ends

  -- behind turns that are Ready an end can be come to
  pub flat_can_end : Leads
  unfolding flat_after are_ready
  flat_can_end = by_case (run_or_traps parts done ready)
    where
      by_case : IsRun parts (place_start parts) done ⊎ TrapsAt parts (turns_after parts (flat_start parts) done) → Leads
      by_case (inl run) = by_run run
      by_case (inr t) =
          let same : turns_after parts (flat_start parts) (done ++ []) ≡ turns_after parts (flat_start parts) done = ap (turns_after parts (flat_start parts)) (append-nil done) in
          let trapped : has_trapped (context_at (turns_after parts (flat_start parts) (done ++ [])) t.context).status ≡ true = ap (λ (f : Flat). has_trapped (context_at f t.context).status) same ∙ ap has_trapped t.left in
          ([], record { ready = ap (turns_ready parts (flat_start parts)) (append-nil done) ∙ ready; ends = inr (t.context, trapped) })

-- ---- and the machine

module _ (parts : Parts) (image : IsImage parts) (one : parts.contexts ≡ 1) (parameters : Parameters) (are : AreMeans parameters) (journal : List Entry) (legal : IsLegal parts parameters journal)
    (rests : IsAtRest parts (state parts parameters journal)) where
  -- from a machine at rest, turns that lead the flat memory to an end lead the machine there
  pub comes_with : (turns : List ℕ) → LeadToEnd parts (turns_of parts parameters journal) turns → greatest_clock (state parts parameters journal) + length turns * turn_events parts ≤ parameters.limit
      → EndsWith parts parameters journal turns
  comes_with turns lead room =
      let done = turns_of parts parameters journal in
      let r = goes_on parts image one parameters are journal turns legal rests lead.ready room in
      let e = ends_by parts parameters are.some_pointer (done ++ turns) (journal ++ r.more) r.legal r.taken r.rests in
      record { more = r.more; legal = r.legal; taken = r.taken; ended = ended_by (journal ++ r.more) e.halted e.trapped lead.ends }
    where
      ended_by : (j : List Entry) → (flat_halted (flat_after parts (turns_of parts parameters journal ++ turns)) ≡ true → end_of parts parameters (state parts parameters j) ≡ Some machine.Halted)
          → ((context : ℕ) → has_trapped (context_at (flat_after parts (turns_of parts parameters journal ++ turns)) context).status ≡ true → end_of parts parameters (state parts parameters j) ≡ Some machine.Trapped)
          → (flat_halted (flat_after parts (turns_of parts parameters journal ++ turns)) ≡ true) ⊎ ((context : ℕ) × (has_trapped (context_at (flat_after parts (turns_of parts parameters journal ++ turns)) context).status ≡ true))
          → HasEnded parts parameters j
      ended_by j halts traps (inl all) = inl (halts all)
      ended_by j halts traps (inr one_is) = inr (traps one_is.0 one_is.1)

pub no_journal_is_stuck : NoJournalIsStuck
no_journal_is_stuck parts image one always parameters are journal legal room =
    let r = every_journal_settles parts image one parameters are journal legal room in
    let c = flat_can_end parts always (turns_of parts parameters (journal ++ r.more)) (turns_are_ready parts parameters are.some_pointer (journal ++ r.more) r.legal) in
    record { more = r.more; legal = r.legal; rests = r.rests; can = record { turns = c.0; lead = c.1; comes = comes_with parts image one parameters (means_of parameters are) (journal ++ r.more) r.legal r.rests c.0 c.1 } }

-- ---- under a greater limit

module _ (parts : Parts) (image : IsImage parts) (one : parts.contexts ≡ 1) (always : CanAlwaysEnd parts) (parameters : Parameters) (are : AreParameters parameters) (journal : List Entry) (legal : IsLegal parts parameters journal) where
  abbrev s : MachineState
  s = state parts parameters journal

  abbrev done : List ℕ
  done = turns_of parts parameters journal

  means_with : (limit : ℕ) → limit ≤ most_stamps → AreMeans (with_limit parameters limit)
  means_with limit few = let m = means_of parameters are in record { some_pointer = m.some_pointer; some_set = m.some_set; few_sets = m.few_sets; limit = few }

  -- the journal comes to rest under one limit, and so under each greater one
  module _ (low : ℕ) (above : parameters.limit ≤ low) (room : greatest_clock s + settle_events parts s ≤ low)
      (least : (limit : ℕ) → parameters.limit ≤ limit → greatest_clock s + settle_events parts s ≤ limit → low ≤ limit) (few : low ≤ most_stamps) where
    abbrev p : Parameters
    p = with_limit parameters low

    legal_low : IsLegal parts p journal
    legal_low = journal_raised parts parameters low above journal legal

    same : state parts p journal ≡ s
    same = state_raised parts parameters low journal

    r : ComesToRest parts p journal
    r = settles parts image one p (means_with low few) journal legal_low (subst (λ (t : MachineState). greatest_clock t + settle_events parts t ≤ low) (sym same) room)

    -- the turns of the way to rest
    abbrev own : List ℕ
    own = map (λ (turn : ℕ × Outcome). turn.0) (turns_from parts p (state parts p journal) r.more)

    settled_turns : turns_of parts p (journal ++ r.more) ≡ done ++ own
    settled_turns = turns_of_more parts p journal r.more ∙ ap (λ (ts : List ℕ). ts ++ own) (turns_raised parts parameters low journal)

    c : (turns : List ℕ) × LeadToEnd parts (turns_of parts p (journal ++ r.more)) turns
    c = flat_can_end parts always (turns_of parts p (journal ++ r.more)) (turns_are_ready parts p are.some_pointer (journal ++ r.more) r.legal)

    abbrev turns : List ℕ
    turns = own ++ c.0

    all_turns : turns_of parts p (journal ++ r.more) ++ c.0 ≡ done ++ turns
    all_turns = ap (λ (ts : List ℕ). ts ++ c.0) settled_turns ∙ append_assoc done own c.0

    lead : LeadToEnd parts done turns
    lead = record {
      ready = subst (AreReady parts) all_turns c.1.ready;
      ends = subst (λ (ts : List ℕ). (flat_halted (flat_after parts ts) ≡ true) ⊎ ((context : ℕ) × (has_trapped (context_at (flat_after parts ts) context).status ≡ true))) all_turns c.1.ends;
    }

    module _ (limit : ℕ) (greater : parameters.limit ≤ limit) (enough : stamps_for parts s turns ≤ limit) (most : limit ≤ most_stamps) where
      abbrev q : Parameters
      q = with_limit parameters limit

      abbrev far : List Entry
      far = journal ++ r.more

      far_legal : IsLegal parts q far
      far_legal = journal_raised parts p limit (least limit greater (omega arith)) far r.legal

      far_state : state parts p far ≡ state parts q far
      far_state = sym (state_raised parts p limit far)

      far_turns : turns_of parts p far ≡ turns_of parts q far
      far_turns = sym (turns_raised parts p limit far)

      far_clocks : greatest_clock (state parts q far) ≤ greatest_clock s + settle_events parts s
      far_clocks = subst (λ (t : MachineState). greatest_clock t ≤ greatest_clock s + settle_events parts s) far_state
          (subst (λ (t : MachineState). greatest_clock (state parts p far) ≤ greatest_clock t + settle_events parts t) same r.clocks)

      far_ends : EndsWith parts q far c.0
      far_ends =
          let sizes = length-append own c.0 in
          let fewer : length c.0 * turn_events parts ≤ length turns * turn_events parts = mul-le (length c.0) (turn_events parts) (length turns) (turn_events parts) (omega arith) (omega arith) in
          comes_with parts image one q (means_with limit most) far far_legal (subst (IsAtRest parts) far_state r.rests) c.0 (subst (λ (ts : List ℕ). LeadToEnd parts ts c.0) far_turns c.1) (omega (arith, far_clocks))

      at_limit : EndsWith parts q journal turns
      at_limit =
          let e = far_ends in
          let joined : far ++ e.more ≡ journal ++ (r.more ++ e.more) = append_assoc journal r.more e.more in
          record {
            more = r.more ++ e.more;
            legal = subst (IsLegal parts q) joined e.legal;
            taken = ap (turns_of parts q) (sym joined) ∙ (e.taken ∙ (ap (λ (ts : List ℕ). ts ++ c.0) (sym far_turns) ∙ (all_turns ∙ ap (λ (ts : List ℕ). ts ++ turns) (sym (turns_raised parts parameters limit journal)))));
            ended = subst (HasEnded parts q) joined e.ended;
          }

    by_rest : EndsUnderGreaterLimits parts parameters journal
    by_rest = record {
      turns = turns;
      lead = lead;
      ends = λ within greater above_it enough. cases_lt_then greater most_stamps
          (λ far. ends_raised parts (with_limit parameters most_stamps) greater (omega arith) journal turns (at_limit most_stamps (omega (arith, are.limit)) within (omega arith)))
          (λ near. at_limit greater above_it enough near);
    }

  pub ends_above : EndsUnderGreaterLimits parts parameters journal
  ends_above = cases_lt_then (greatest_clock s + settle_events parts s) most_stamps
      (λ past. let c = flat_can_end parts always done (turns_are_ready parts parameters are.some_pointer journal legal) in record { turns = c.0; lead = c.1; ends = λ within greater above enough. absurd (omega arith) })
      (λ few. cases_lt_then (greatest_clock s + settle_events parts s) parameters.limit
      (λ less. by_rest (greatest_clock s + settle_events parts s) (omega arith) (omega arith) (λ limit above room. room) few)
      (λ more. by_rest parameters.limit (omega arith) more (λ limit above room. above) (omega (arith, are.limit))))

pub every_journal_can_end : EveryJournalCanEnd
every_journal_can_end parts image one always parameters are journal legal = ends_above parts image one always parameters are journal legal
