-- Turns on the flat memory: none traps within a run, and turns that come to an end lead there from each place on their way.
use Rattle.std.proofs.Common.{◌≡◌, ℕ, ◌⊎◌, inl, inr, Bool, true, false, List, [], ◌∷◌, ◌++◌, refl, sym, subst, ap, ◌∙◌}
use Rattle.std.proofs.lemmas.Bool.{false≢true}
use Rattle.alw_image.specs.declared.parts.Parts.{Parts}
use Rattle.alw_msg.specs.declared.contexts.Status.TheVariants.{Trapped}
use Rattle.alw_msg.specs.Statuses.{has_trapped}
use Rattle.alw_model.specs.ProcessorSteps.{status_after}
use Rattle.alw_model.specs.Flat.{Flat, context_at, flat_turn, turns_after, turns_ready, flat_after}
use Rattle.alw_places.specs.Places.{Place, place_start, place_turn, places_after, outcome_at, regs_at, traps, IsReadyAt, GoesOn, IsRun}
use Rattle.alw_places.specs.Outcomes.{Halts, Traps, EndsIn, flat_halted, CanEnd}
use Rattle.alw_places.proofs.Commuting.{effect_at, outcome_is}
use Rattle.alw_places.proofs.Ends.{both}
use Rattle.alw_places.proofs.Runs.{flat_is, left_at, trap_is, trap_keeps, run_traps_none, start_traps_none}
use Rattle.law_turns.specs.Turns.{NoneTrapsEarly}
use Rattle.law_turns.proofs.Endings.{flat_more}
use Rattle.law_turns.proofs.Fronts.{before_last}

-- ---- none traps within a run

run_front : (parts : Parts) (place : Place) (front rest : List ℕ) → IsRun parts place (front ++ rest) → IsRun parts place front
run_front parts place [] rest run = tt
run_front parts place (context ∷ front) rest run = (run.0, run_front parts (place_turn parts place context) front rest run.1)

-- behind a run no context has trapped
pub none_traps : (parts : Parts) (turns : List ℕ) (context : ℕ) → IsRun parts (place_start parts) turns → has_trapped (context_at (flat_after parts turns) context).status ≡ false
unfolding flat_after
none_traps parts turns context run =
    ap (λ (f : Flat). has_trapped (context_at f context).status) (sym (flat_is parts (place_start parts) turns))
    ∙ run_traps_none parts (place_start parts) turns context (start_traps_none parts context) run

pub early_run : (parts : Parts) (turns : List ℕ) → IsRun parts (place_start parts) turns → NoneTrapsEarly parts turns
early_run parts turns run front rest next context is =
    none_traps parts front context (run_front parts (place_start parts) front (next ∷ rest) (subst (IsRun parts (place_start parts)) (sym is) run))

-- nor before one more turn, which may trap
pub early_more : (parts : Parts) (turns : List ℕ) (last : ℕ) → IsRun parts (place_start parts) turns → NoneTrapsEarly parts (turns ++ last ∷ [])
early_more parts turns last run front rest next context is =
    let before = before_last turns last front next rest is in
    none_traps parts front context (run_front parts (place_start parts) front before.0 (subst (IsRun parts (place_start parts)) (sym before.1) run))

-- the turn that traps leaves its context so
pub trapped_so : (parts : Parts) (turns : List ℕ) (context pc type : ℕ) → EndsIn parts (places_after parts (place_start parts) turns) (Traps context pc type) →
    (context_at (flat_after parts (turns ++ context ∷ [])) context).status ≡ Trapped pc type
unfolding flat_after effect_at
trapped_so parts turns context pc type ends =
    let there = places_after parts (place_start parts) turns in
    let same_regs : (effect_at parts there context).regs ≡ regs_at there context = trap_keeps parts there.flat.memory (regs_at there context) type (sym (outcome_is parts there context) ∙ ends.1) in
    ap (λ (f : Flat). (context_at f context).status) (flat_more parts (place_start parts) turns context)
    ∙ (left_at parts there context ends.0 ∙ ((λ i. status_after (same_regs i) (ends.1 i)) ∙ ap (λ (at : ℕ). Trapped at type) ends.2))

-- ---- turns that come to an end

-- turns that are Ready are so behind the first of them
pub ready_rest : (parts : Parts) (flat : Flat) (done more : List ℕ) → turns_ready parts flat (done ++ more) ≡ true → turns_ready parts (turns_after parts flat done) more ≡ true
ready_rest parts flat [] more ready = ready
ready_rest parts flat (context ∷ done) more ready = ready_rest parts (flat_turn parts flat context).0 done more (both _ _ ready).1

-- all contexts have halted, or one has trapped
abbrev pub IsAnEnd : Flat → Type 0
IsAnEnd flat = (flat_halted flat ≡ true) ⊎ ((context : ℕ) × (has_trapped (context_at flat context).status ≡ true))

-- from a place where none has trapped: turns to an end are a run to one, or begin with one to a turn that traps
pub can_end : (parts : Parts) (place : Place) (turns : List ℕ) → turns_ready parts place.flat turns ≡ true → ((context : ℕ) → has_trapped (context_at place.flat context).status ≡ false) →
    IsAnEnd (turns_after parts place.flat turns) → CanEnd parts place
can_end parts place [] ready calm (inl all) = record { turns = []; ending = Halts place.printed place.flat.memory; run = tt; ends = (all, refl, refl) }
can_end parts place [] ready calm (inr trapped) = absurd (false≢true (sym (calm trapped.0) ∙ trapped.1))
can_end parts place (context ∷ rest) ready calm ends = go (traps (outcome_at parts place context)) refl
    (λ on. can_end parts (place_turn parts place context) rest (both _ _ ready).1 (λ other. run_traps_none parts place (context ∷ []) other (calm other) (on, tt)) ends)
  where
    is_so : IsReadyAt place context
    is_so = (both _ _ ready).0

    go : (b : Bool) → traps (outcome_at parts place context) ≡ b → (GoesOn parts place context → CanEnd parts (place_turn parts place context)) → CanEnd parts place
    go true e later = let trap = trap_is _ e in record { turns = []; ending = Traps context (regs_at place context).pc trap.type; run = tt; ends = (is_so, trap.is, refl) }
    go false e later =
        let on : GoesOn parts place context = record { ready = is_so; no_trap = e } in
        let can = later on in
        record { turns = context ∷ can.turns; ending = can.ending; run = (on, can.run); ends = can.ends }
