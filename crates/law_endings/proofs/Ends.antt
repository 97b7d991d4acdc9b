-- Each end that is told is one of a run of the machine.
use Rattle.std.proofs.Common.{◌≡◌, ℕ, zero, suc, ◌&&◌, ◌⊎◌, inl, inr, Bool, true, false, cond, Some, None, List, [], ◌∷◌, ◌++◌, map, refl, sym, subst, ap, ◌∙◌, arith}
use Rattle.std.specs.Prelude.{slice_get, slice_index_or}
use Rattle.std.specs.List.{AllByRecursion}
use Rattle.std.proofs.lemmas.Option.{same_Some}
use Rattle.std.proofs.lemmas.Bool.{false≢true}
use Rattle.sparc_table.specs.Registers.{start_of}
use Rattle.sparc_table.specs.declared.outcomes.Outcome.{Outcome}
use Rattle.alw_image.specs.declared.parts.Parts.{Parts}
use Rattle.alw_image.specs.Images.{IsImage, context_count, line_count}
use Rattle.alw_image.specs.Parameters.{Parameters, AreParameters}
use Rattle.alw_msg.specs.declared.contexts.Status.TheVariants as statuses
use Rattle.alw_msg.specs.declared.events.Entry.{Entry}
use Rattle.alw_msg.specs.Statuses.{is_halted, has_trapped}
use Rattle.alw_msg.specs.Stretches.{stretches, turns_in}
use Rattle.alw_msg.proofs.StretchLaws.{same_turns}
use Rattle.alw_model.specs.declared.ends.Ended.TheVariants as ended
use Rattle.alw_model.specs.Machine.{MachineState, state, IsLegal, any_trapped, has_halted, is_settled, goes_on, end_of, Halted, Trapped, Limit}
use Rattle.alw_model.specs.Flat.{Flat, Context, AreReady, are_ready, flat_start, turns_after, turns_ready, flat_after, flat_prints, context_at, line_at}
use Rattle.alw_model.specs.Runs.{turns_of, prints_of, flat_view}
use Rattle.alw_model.specs.Counts.{listed_words}
use Rattle.law_machine.proofs.CoherentRuns.{coherent_run}
use Rattle.law_machine.proofs.FlatStarts.{flat_view_is, turns_are_ready, prints_are}
use Rattle.alw_places.specs.Places.{place_start, IsRun}
use Rattle.alw_places.specs.Outcomes.{words_of, flat_halted}
use Rattle.alw_places.proofs.Runs.{flat_is, words_are, turns_after-append}
use Rattle.alw_endings.specs.declared.values.Outcomes.{Outcomes}
use Rattle.alw_endings.specs.declared.values.HaltEnd.{HaltEnd}
use Rattle.alw_endings.specs.declared.values.TrapEnd.{TrapEnd}
use Rattle.alw_endings.specs.Ends.{place_by, IsHaltEnd, IsTrapEnd, IsStuckRun, IsStuckThere, AreOutcomes}
use Rattle.alw_endings.proofs.Schedules.{same_flat}
use Rattle.law_turns.specs.Turns.{RunsTurns, NoneTrapsEarly, IsServedRun, turns_from}
use Rattle.law_turns.specs.Limits.{PassesLimit}
use Rattle.law_turns.specs.Stuck.{HasEnded}
use Rattle.law_turns.proofs.Endings.{ready_run, ready_more}
use Rattle.law_turns.proofs.Ends.{nodes_halted, nodes_trapped, trapped_one, halted_each}
use Rattle.law_turns.proofs.Runs.{every_turn_is_served_or_late}
use Rattle.law_turns.proofs.Turns.{turns_of_more}
use Rattle.law_endings.specs.Runs.{HasRun, ComesToHalt, ComesToTrap, ComesToTold, NeverEnds, EveryEndIsOfARun, EveryRunComesToTold}
use Rattle.law_endings.proofs.Turns.{IsAnEnd, none_traps, early_run, early_more, trapped_so, ready_rest, can_end}

member_is : {X : Type 0} (Is : X → Type 0) (xs : List X) (k : ℕ) (x : X) → slice_get xs k ≡ Some x → AllByRecursion Is xs → Is x
member_is Is [] k x there each = absurd cc
member_is Is (y ∷ xs) zero x there each = subst Is (same_Some y x there) each.0
member_is Is (y ∷ xs) (suc k) x there each = member_is Is xs k x there each.1

-- the turns that stretches tell
turns_told : (runs : List (ℕ × ℕ)) (turns : List ℕ) → runs ≡ stretches turns → turns ≡ turns_in runs
turns_told runs turns lead = sym (ap turns_in lead ∙ same_turns turns)

-- the context of no number
abbrev no_context : Context
no_context = record { regs = start_of 0 0 0; status = statuses.Halted }

-- ---- a machine that has ended

pub all_have : (parts : Parts) (parameters : Parameters) (s : MachineState) → end_of parts parameters s ≡ Some Halted → has_halted s ≡ true
all_have parts parameters s end = go (any_trapped s) (has_halted s) (is_settled s) (goes_on parts parameters s) end
  where
    go : (a b c d : Bool) → cond a (Some Trapped) (cond (b && c) (Some Halted) (cond d None (Some Limit))) ≡ Some Halted → b ≡ true
    go true b c d e = absurd cc
    go false true c d e = refl
    go false false c true e = absurd cc
    go false false c false e = absurd cc

one_has : (parts : Parts) (parameters : Parameters) (s : MachineState) → end_of parts parameters s ≡ Some Trapped → any_trapped s ≡ true
one_has parts parameters s end = go (any_trapped s) (has_halted s && is_settled s) (goes_on parts parameters s) end
  where
    go : (a b c : Bool) → cond a (Some Trapped) (cond b (Some Halted) (cond c None (Some Limit))) ≡ Some Trapped → a ≡ true
    go true b c e = refl
    go false true c e = absurd cc
    go false false true e = absurd cc
    go false false false e = absurd cc

module _ (parts : Parts) (parameters : Parameters) (are : AreParameters parameters) where
  -- where the machine has, so has the flat memory behind its turns
  flat_halts : (journal : List Entry) → IsLegal parts parameters journal → end_of parts parameters (state parts parameters journal) ≡ Some Halted → flat_halted (flat_after parts (turns_of parts parameters journal)) ≡ true
  flat_halts journal legal end =
      let s = state parts parameters journal in
      sym (ap flat_halted (flat_view_is parts parameters are.some_pointer journal legal)) ∙ (nodes_halted s.nodes ∙ all_have parts parameters s end)

  flat_traps : (journal : List Entry) → IsLegal parts parameters journal → end_of parts parameters (state parts parameters journal) ≡ Some Trapped →
      (context : ℕ) × (has_trapped (context_at (flat_after parts (turns_of parts parameters journal)) context).status ≡ true)
  flat_traps journal legal end =
      let s = state parts parameters journal in
      let at = trapped_one (flat_view parts parameters s).contexts no_context (nodes_trapped s.nodes ∙ one_has parts parameters s end) in
      (at.0, sym (ap (λ (f : Flat). has_trapped (context_at f at.0).status) (flat_view_is parts parameters are.some_pointer journal legal)) ∙ at.1)

  flat_ended : (journal : List Entry) → IsLegal parts parameters journal → HasEnded parts parameters journal → IsAnEnd (flat_after parts (turns_of parts parameters journal))
  flat_ended journal legal (inl end) = inl (flat_halts journal legal end)
  flat_ended journal legal (inr end) = inr (flat_traps journal legal end)

  -- ---- what a journal with told turns comes to

  -- the flat memory behind its turns
  flat_of : (turns : List ℕ) (journal : List Entry) → IsLegal parts parameters journal → turns_of parts parameters journal ≡ turns → flat_view parts parameters (state parts parameters journal) ≡ flat_after parts turns
  flat_of turns journal legal taken = flat_view_is parts parameters are.some_pointer journal legal ∙ ap (flat_after parts) taken

  comes_to_halt : (halt : HaltEnd) (is : IsHaltEnd parts halt) (journal : List Entry) → IsLegal parts parameters journal → turns_of parts parameters journal ≡ is.turns → end_of parts parameters (state parts parameters journal) ≡ Some Halted →
      ComesToHalt parts parameters halt journal
  unfolding flat_after flat_prints
  comes_to_halt halt is journal legal taken ends =
      let there = place_by parts is.turns in
      let flat : there.flat ≡ flat_after parts is.turns = flat_is parts (place_start parts) is.turns in
      let prints : prints_of parts parameters journal ≡ flat_prints parts is.turns = prints_are parts parameters are.some_pointer journal legal ∙ ap (flat_prints parts) taken in
      record {
        ended = ends;
        prints = is.prints
            ∙ same_flat (λ context. map (λ (word : ℕ). (context, word)) (slice_index_or there.printed context []))
            (λ context. map (λ (word : ℕ). (context, word)) (words_of context (prints_of parts parameters journal))) 0 (context_count parts)
            (λ context l m. ap (λ (words : List ℕ). map (λ (word : ℕ). (context, word)) words) (words_are parts is.turns context (omega (arith, m)) ∙ ap (words_of context) (sym prints)));
        memory = is.memory
            ∙ (ap (λ (f : Flat). listed_words (line_at f) (line_count parts)) (flat ∙ ap (flat_after parts) (sym taken))
            ∙ sym (coherent_run parts parameters are.some_pointer journal legal ended.Halted ends).memory);
      }

  comes_to_trap : (trap : TrapEnd) (is : IsTrapEnd parts trap) (journal : List Entry) → IsLegal parts parameters journal → turns_of parts parameters journal ≡ is.turns ++ trap.context ∷ [] → end_of parts parameters (state parts parameters journal) ≡ Some Trapped →
      ComesToTrap parts parameters trap journal
  comes_to_trap trap is journal legal taken ends = record {
    ended = ends;
    left_so = ap (λ (f : Flat). (context_at f trap.context).status) (flat_of (is.turns ++ trap.context ∷ []) journal legal taken) ∙ trapped_so parts is.turns trap.context trap.pc trap.tt is.traps;
  }

  -- a journal that has ended has halted where no context has trapped behind its turns
  halted_end : (turns : List ℕ) (journal : List Entry) → IsLegal parts parameters journal → turns_of parts parameters journal ≡ turns → ((context : ℕ) → has_trapped (context_at (flat_after parts turns) context).status ≡ false) →
      HasEnded parts parameters journal → end_of parts parameters (state parts parameters journal) ≡ Some Halted
  halted_end turns journal legal taken calm (inl end) = end
  halted_end turns journal legal taken calm (inr end) =
      let at = flat_traps journal legal end in
      absurd (false≢true (sym (calm at.0) ∙ (ap (λ (ts : List ℕ). has_trapped (context_at (flat_after parts ts) at.0).status) (sym taken) ∙ at.1)))

  -- and with a trap where one has
  trapped_end : (turns : List ℕ) (context pc type : ℕ) (journal : List Entry) → IsLegal parts parameters journal → turns_of parts parameters journal ≡ turns → (context_at (flat_after parts turns) context).status ≡ statuses.Trapped pc type →
      HasEnded parts parameters journal → end_of parts parameters (state parts parameters journal) ≡ Some Trapped
  trapped_end turns context pc type journal legal taken left (inr end) = end
  trapped_end turns context pc type journal legal taken left (inl end) =
      let all = ap (λ (ts : List ℕ). flat_halted (flat_after parts ts)) (sym taken) ∙ flat_halts journal legal end in
      absurd (false≢true (sym (ap is_halted left) ∙ halted_each (flat_after parts turns).contexts no_context context refl all))

  comes_to_told : (told : Outcomes) → AreOutcomes parts told → (journal : List Entry) → IsLegal parts parameters journal → HasEnded parts parameters journal → ComesToTold parts parameters told journal
  comes_to_told told outcomes journal legal ends = record {
    halts = λ number halt there taken.
        let is = member_is (IsHaltEnd parts) told.halts number halt there outcomes.halts in
        let same = taken ∙ sym (turns_told halt.runs is.turns is.lead) in
        comes_to_halt halt is journal legal same (halted_end is.turns journal legal same (λ context. none_traps parts is.turns context is.run) ends);
    traps = λ number trap there taken.
        let is = member_is (IsTrapEnd parts) told.traps number trap there outcomes.traps in
        let all = is.turns ++ trap.context ∷ [] in
        let same = taken ∙ sym (turns_told trap.runs all is.lead) in
        comes_to_trap trap is journal legal same (trapped_end all trap.context trap.pc trap.tt journal legal same (trapped_so parts is.turns trap.context trap.pc trap.tt is.traps) ends);
  }

module _ (parts : Parts) (image : IsImage parts) (one : parts.contexts ≡ 1) (parameters : Parameters) (are : AreParameters parameters) where
  has_run : (Holds : List Entry → Type 0) (turns told : List ℕ) → turns ≡ told → AreReady parts turns → NoneTrapsEarly parts turns → ((journal : List Entry) → IsServedRun parts parameters turns journal → Holds journal) →
      HasRun parts parameters told Holds
  has_run Holds turns told same ready early holds = subst (λ (ts : List ℕ). HasRun parts parameters ts Holds) same (go (every_turn_is_served_or_late parts image one parameters are turns ready))
    where
      go : RunsTurns parts parameters turns ⊎ PassesLimit parts parameters turns → HasRun parts parameters turns Holds
      go (inl r) = inl (r.journal, (record { legal = r.run.legal; scheduled = r.run.scheduled early; taken = r.run.taken }, holds r.journal r.run))
      go (inr passes) = inr passes

  ready_so : (turns : List ℕ) → IsRun parts (place_start parts) turns → AreReady parts turns
  unfolding are_ready
  ready_so turns run = ready_run parts (place_start parts) turns run

  halts_by : {halt : HaltEnd} (is : IsHaltEnd parts halt) {journal : List Entry} → IsServedRun parts parameters is.turns journal → end_of parts parameters (state parts parameters journal) ≡ Some Halted
  unfolding flat_after
  halts_by is run = run.halted (ap flat_halted (sym (flat_is parts (place_start parts) is.turns)) ∙ is.halted)

  halt_has_run : (halt : HaltEnd) → IsHaltEnd parts halt → HasRun parts parameters (turns_in halt.runs) (ComesToHalt parts parameters halt)
  halt_has_run halt is =
      has_run (ComesToHalt parts parameters halt) is.turns (turns_in halt.runs) (turns_told halt.runs is.turns is.lead) (ready_so is.turns is.run) (early_run parts is.turns is.run)
      (λ journal run. comes_to_halt parts parameters are halt is journal run.legal run.taken (halts_by is run))

  trap_has_run : (trap : TrapEnd) → IsTrapEnd parts trap → HasRun parts parameters (turns_in trap.runs) (ComesToTrap parts parameters trap)
  unfolding are_ready
  trap_has_run trap is =
      let all = is.turns ++ trap.context ∷ [] in
      let status = trapped_so parts is.turns trap.context trap.pc trap.tt is.traps in
      has_run (ComesToTrap parts parameters trap) all (turns_in trap.runs) (turns_told trap.runs all is.lead) (ready_more parts (place_start parts) is.turns trap.context is.run is.traps.0) (early_more parts is.turns trap.context is.run)
      (λ journal run. comes_to_trap parts parameters are trap is journal run.legal run.taken (run.trapped trap.context (ap has_trapped status)))

  -- a legal journal behind such turns that ended would lead the flat memory to an end
  never_ends : (runs : List (ℕ × ℕ)) (is : IsStuckThere parts runs) (journal : List Entry) → turns_of parts parameters journal ≡ is.turns → NeverEnds parts parameters journal
  unfolding flat_after are_ready
  never_ends runs is journal taken more legal ends =
      let there = place_by parts is.turns in
      let behind = map (λ (turn : ℕ × Outcome). turn.0) (turns_from parts parameters (state parts parameters journal) more) in
      let all : turns_of parts parameters (journal ++ more) ≡ is.turns ++ behind = turns_of_more parts parameters journal more ∙ ap (λ (ts : List ℕ). ts ++ behind) taken in
      let flat : there.flat ≡ turns_after parts (flat_start parts) is.turns = flat_is parts (place_start parts) is.turns in
      let ready : turns_ready parts (flat_start parts) (is.turns ++ behind) ≡ true =
      ap (turns_ready parts (flat_start parts)) (sym all) ∙ turns_are_ready parts parameters are.some_pointer (journal ++ more) legal in
      is.never (can_end parts there behind
      (ap (λ (f : Flat). turns_ready parts f behind) flat ∙ ready_rest parts (flat_start parts) is.turns behind ready)
      (λ context. ap (λ (f : Flat). has_trapped (context_at f context).status) flat ∙ none_traps parts is.turns context is.run)
      (subst IsAnEnd (ap (turns_after parts (flat_start parts)) all ∙ (turns_after-append parts (flat_start parts) is.turns behind ∙ ap (λ (f : Flat). turns_after parts f behind) (sym flat)))
      (flat_ended parts parameters are (journal ++ more) legal ends)))

  stuck_has_run : (runs : List (ℕ × ℕ)) → IsStuckThere parts runs → HasRun parts parameters (turns_in runs) (NeverEnds parts parameters)
  stuck_has_run runs is =
      has_run (NeverEnds parts parameters) is.turns (turns_in runs) (turns_told runs is.turns is.lead) (ready_so is.turns is.run) (early_run parts is.turns is.run) (λ journal run. never_ends runs is journal run.taken)

pub every_end_is_of_a_run : EveryEndIsOfARun
every_end_is_of_a_run parts image one told outcomes parameters are = record {
  halts = λ number halt there. halt_has_run parts image one parameters are halt (member_is (IsHaltEnd parts) told.halts number halt there outcomes.halts);
  traps = λ number trap there. trap_has_run parts image one parameters are trap (member_is (IsTrapEnd parts) told.traps number trap there outcomes.traps);
  stuck = λ runs is. stuck_has_run parts image one parameters are runs (subst (IsStuckRun parts) is outcomes.stuck);
}

pub every_run_comes_to_told : EveryRunComesToTold
every_run_comes_to_told parts told outcomes parameters are journal legal ends = comes_to_told parts parameters are told outcomes journal legal ends
