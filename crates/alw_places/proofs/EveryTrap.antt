-- Whatever context has trapped, a run comes to its trap: the turns of contexts that trap can be left out.
use Rattle.std.proofs.Common.{◌≡◌, ◌≢◌, ℕ, ◌++◌, ◌⊎◌, inl, inr, Bool, true, false, List, [], ◌∷◌, slice_index_or, slice_set, refl, sym, ap, ◌∙◌, subst}
use Rattle.std.proofs.lemmas.List.{get_or-set_same, set-get_or}
use Rattle.std.proofs.lemmas.Bool.{false≢true}
use Rattle.alw_num.proofs.Weigh.{is_node}
use Rattle.alw_num.specs.declared.addresses.Line.{Line}
use Rattle.alw_num.specs.declared.states.Mode.{Mode}
use Rattle.alw_num.specs.declared.states.Mode.TheVariants.{Read, Write}
use Rattle.sparc_table.specs.Registers.{start_of}
use Rattle.sparc_table.specs.Meaning.{OutcomeIsStill}
use Rattle.sparc_table.proofs.Effects.{orderly_turn}
use Rattle.sparc_table.specs.declared.registers.Regs.{Regs}
use Rattle.sparc_table.specs.declared.outcomes.Need.{Need}
use Rattle.sparc_table.specs.declared.outcomes.Need.TheVariants as needs
use Rattle.sparc_table.specs.declared.outcomes.Outcome.TheVariants.{Trap}
use Rattle.alw_msg.specs.declared.contexts.Status.TheVariants.{Halted}
use Rattle.alw_msg.specs.Statuses.{is_ready, has_trapped}
use Rattle.alw_image.specs.declared.parts.Parts.{Parts}
use Rattle.alw_image.specs.Images.{line_count, zero_line}
use Rattle.alw_flat.proofs.Turns.{ready_exists}
use Rattle.alw_model.specs.ProcessorSteps.{status_after}
use Rattle.alw_model.specs.Flat.{Flat, Context, context_at, stored_in, flat_start, flat_turn, turns_after, turns_ready, flat_after, are_ready, AreReady}
use Rattle.alw_places.specs.Places.{Place, place_start, place_turn, places_after, outcome_at, regs_at, traps, IsReadyAt, GoesOn, IsRun}
use Rattle.alw_places.specs.Outcomes.{HasTold}
use Rattle.alw_places.specs.Effects.{Effect, effect_by, effect_of}
use Rattle.alw_places.proofs.Commuting.{effect_at, place_turn_is, outcome_is, other_stays_at, same_effect}
use Rattle.alw_places.proofs.Ends.{both}
use Rattle.alw_places.proofs.Runs.{IsTrap, trap_is, apart, run_traps_none, start_traps_none}

-- a turn that traps leaves memory and registers
record Keeps (memory : List Line) (regs : Regs) (effect : Effect) : Type 0 where
  memory_is : effect.memory ≡ memory
  regs_are : effect.regs ≡ regs

stored_same : (memory : List Line) (line : ℕ) (mode : Mode) (body : Line) → body ≡ slice_index_or memory line zero_line → stored_in memory line mode body ≡ memory
stored_same memory line Read body e = refl
stored_same memory line Write body e = ap (slice_set memory line) e ∙ set-get_or memory line zero_line

keeps_by : (parts : Parts) (memory : List Line) (regs : Regs) (type : ℕ) (need : Need) → (effect_by parts memory regs need).outcome ≡ Trap type → Keeps memory regs (effect_by parts memory regs need)
unfolding effect_by
keeps_by parts memory regs type needs.Nothing e = record { memory_is = refl; regs_are = ((orderly_turn parts.code regs (line_count parts) zero_line).still (subst OutcomeIsStill (sym e) tt)).0 }
keeps_by parts memory regs type (needs.Trap other) e = record { memory_is = refl; regs_are = ((orderly_turn parts.code regs (line_count parts) zero_line).still (subst OutcomeIsStill (sym e) tt)).0 }
keeps_by parts memory regs type (needs.Copy line mode) e =
    let still = (orderly_turn parts.code regs (line_count parts) (slice_index_or memory line.0 zero_line)).still (subst OutcomeIsStill (sym e) tt) in
    record { memory_is = stored_same memory line.0 mode _ still.1; regs_are = still.0 }

keeps_at : (parts : Parts) (place : Place) (context type : ℕ) → outcome_at parts place context ≡ Trap type → Keeps place.flat.memory (regs_at place context) (effect_at parts place context)
unfolding effect_at effect_of
keeps_at parts place context type e = keeps_by parts place.flat.memory (regs_at place context) type _ (sym (outcome_is parts place context) ∙ e)

-- what the turn of a context leaves of it
abbrev left : Effect → Context
left effect = record { regs = effect.regs; status = status_after effect.regs effect.outcome }

left_is : (parts : Parts) (place : Place) (context : ℕ) → IsReadyAt place context → context_at (place_turn parts place context).flat context ≡ left (effect_at parts place context)
left_is parts place context ready =
    let none : Context = record { regs = start_of 0 0 0; status = Halted } in
    ap (λ (p : Place). context_at p.flat context) (place_turn_is parts place context)
    ∙ get_or-set_same place.flat.contexts context (left (effect_at parts place context)) none (ready_exists place.flat context ready)

-- ---- runs one turn longer

run-append : (parts : Parts) (place : Place) (front : List ℕ) (context : ℕ) → IsRun parts place front → GoesOn parts (places_after parts place front) context → IsRun parts place (front ++ context ∷ [])
run-append parts place [] context run on = (on, tt)
run-append parts place (first ∷ front) context run on = (run.0, run-append parts (place_turn parts place first) front context run.1 on)

after-append : (parts : Parts) (place : Place) (front : List ℕ) (context : ℕ) → places_after parts place (front ++ context ∷ []) ≡ place_turn parts (places_after parts place front) context
after-append parts place [] context = refl
after-append parts place (first ∷ front) context = after-append parts (place_turn parts place first) front context

-- ---- a run beside turns of which some trap

-- a run leads to a place with this memory and these contexts, but for those that have trapped
record IsBeside (parts : Parts) (flat : Flat) : Type 0 where
  front : List ℕ
  run : IsRun parts (place_start parts) front
  memory : flat.memory ≡ (places_after parts (place_start parts) front).flat.memory
  each : (context : ℕ) → (context_at flat context ≡ context_at (places_after parts (place_start parts) front).flat context) ⊎ HasTold parts flat context

told_moves : (parts : Parts) (flat after : Flat) (context : ℕ) → context_at after context ≡ context_at flat context → HasTold parts flat context → HasTold parts after context
told_moves parts flat after context same told = record { pc = told.pc; type = told.type; left_so = ap (λ (c : Context). c.status) same ∙ told.left_so; comes = told.comes }

module _ (parts : Parts) (flat : Flat) (context : ℕ) (beside : IsBeside parts flat) (ready : is_ready (context_at flat context).status ≡ true) where
  here : Place
  here = record { flat = flat; printed = [] }

  there : Place
  there = places_after parts (place_start parts) beside.front

  same : context_at flat context ≡ context_at there.flat context
  unfolding there
  same = go (beside.each context)
    where
      go : (context_at flat context ≡ context_at (places_after parts (place_start parts) beside.front).flat context) ⊎ HasTold parts flat context → context_at flat context ≡ context_at (places_after parts (place_start parts) beside.front).flat context
      go (inl e) = e
      go (inr told) = absurd (apart (context_at flat context).status ready (ap has_trapped told.left_so))

  effects : effect_at parts here context ≡ effect_at parts there context
  unfolding here there
  effects = same_effect parts (places_after parts (place_start parts) beside.front) (record { flat = flat; printed = [] }) context beside.memory same

  ready_there : IsReadyAt there context
  unfolding there
  ready_there = ap (λ (c : Context). is_ready c.status) (sym same) ∙ ready

  outcomes : outcome_at parts here context ≡ outcome_at parts there context
  outcomes = outcome_is parts here context ∙ ap (λ (e : Effect). e.outcome) effects ∙ sym (outcome_is parts there context)

  others : (other : ℕ) → other ≢ context → context_at (flat_turn parts flat context).0 other ≡ context_at flat other
  others other differ = other_stays_at parts (record { flat = flat; printed = [] }) context other differ

  mine : context_at (flat_turn parts flat context).0 context ≡ left (effect_at parts there context)
  unfolding here
  mine = left_is parts (record { flat = flat; printed = [] }) context ready ∙ ap left effects

  memory_left : (flat_turn parts flat context).0.memory ≡ (effect_at parts there context).memory
  unfolding here
  memory_left = ap (λ (p : Place). p.flat.memory) (place_turn_is parts (record { flat = flat; printed = [] }) context) ∙ ap (λ (e : Effect). e.memory) effects

  -- the turn goes on: the run takes it too
  with_turn : traps (outcome_at parts there context) ≡ false → IsBeside parts (flat_turn parts flat context).0
  unfolding there
  with_turn none =
      let on : GoesOn parts (places_after parts (place_start parts) beside.front) context = record { ready = ready_there; no_trap = none } in
      let longer = after-append parts (place_start parts) beside.front context in
      record {
        front = beside.front ++ context ∷ [];
        run = run-append parts (place_start parts) beside.front context beside.run on;
        memory = memory_left ∙ sym (ap (λ (p : Place). p.flat.memory) (longer ∙ place_turn_is parts (places_after parts (place_start parts) beside.front) context));
        each = λ other. subst (λ (p : Place). (context_at (flat_turn parts flat context).0 other ≡ context_at p.flat other) ⊎ HasTold parts (flat_turn parts flat context).0 other) (sym longer)
            (is_node _ other context
            (λ e. inl (subst (λ (k : ℕ). context_at (flat_turn parts flat context).0 k ≡ context_at (place_turn parts (places_after parts (place_start parts) beside.front) context).flat k) (sym e)
            (mine ∙ sym (left_is parts (places_after parts (place_start parts) beside.front) context ready_there))))
            (λ differ. kept other differ (beside.each other)));
      }
    where
      kept : (other : ℕ) → other ≢ context → (context_at flat other ≡ context_at (places_after parts (place_start parts) beside.front).flat other) ⊎ HasTold parts flat other
          → (context_at (flat_turn parts flat context).0 other ≡ context_at (place_turn parts (places_after parts (place_start parts) beside.front) context).flat other) ⊎ HasTold parts (flat_turn parts flat context).0 other
      kept other differ (inl e) = inl (others other differ ∙ e ∙ sym (other_stays_at parts (places_after parts (place_start parts) beside.front) context other differ))
      kept other differ (inr told) = inr (told_moves parts flat _ other (others other differ) told)

  -- the turn traps: the run leaves it out, and comes to it
  without_turn : IsTrap (outcome_at parts there context) → IsBeside parts (flat_turn parts flat context).0
  unfolding there
  without_turn trap =
      let keeps = keeps_at parts (places_after parts (place_start parts) beside.front) context trap.type trap.is in
      record {
        front = beside.front;
        run = beside.run;
        memory = memory_left ∙ keeps.memory_is;
        each = λ other. is_node _ other context
            (λ e. inr (subst (HasTold parts (flat_turn parts flat context).0) (sym e) (record {
              pc = (regs_at (places_after parts (place_start parts) beside.front) context).pc;
              type = trap.type;
              left_so = ap (λ (c : Context). c.status) mine ∙ (λ i. status_after (keeps.regs_are i) ((sym (outcome_is parts (places_after parts (place_start parts) beside.front) context) ∙ trap.is) i));
              comes = record { turns = beside.front; run = beside.run; ends = (ready_there, trap.is, refl) };
            })))
            (λ differ. kept other differ (beside.each other));
      }
    where
      kept : (other : ℕ) → other ≢ context → (context_at flat other ≡ context_at (places_after parts (place_start parts) beside.front).flat other) ⊎ HasTold parts flat other
          → (context_at (flat_turn parts flat context).0 other ≡ context_at (places_after parts (place_start parts) beside.front).flat other) ⊎ HasTold parts (flat_turn parts flat context).0 other
      kept other differ (inl e) = inl (others other differ ∙ e)
      kept other differ (inr told) = inr (told_moves parts flat _ other (others other differ) told)

  one_turn : IsBeside parts (flat_turn parts flat context).0
  one_turn = go (traps (outcome_at parts there context)) refl
    where
      go : (b : Bool) → traps (outcome_at parts there context) ≡ b → IsBeside parts (flat_turn parts flat context).0
      go true e = without_turn (trap_is _ e)
      go false e = with_turn e

beside_all : (parts : Parts) (flat : Flat) (turns : List ℕ) → IsBeside parts flat → turns_ready parts flat turns ≡ true → IsBeside parts (turns_after parts flat turns)
beside_all parts flat [] beside ready = beside
beside_all parts flat (context ∷ rest) beside ready = beside_all parts (flat_turn parts flat context).0 rest (one_turn parts flat context beside (both _ _ ready).0) (both _ _ ready).1

-- each context that has trapped is told
pub every_trap : (parts : Parts) (turns : List ℕ) → AreReady parts turns → (context : ℕ) → has_trapped (context_at (flat_after parts turns) context).status ≡ true → HasTold parts (flat_after parts turns) context
unfolding flat_after are_ready
every_trap parts turns ready context trapped = go (beside.each context)
  where
    beside : IsBeside parts (turns_after parts (flat_start parts) turns)
    beside = beside_all parts (flat_start parts) turns (record { front = []; run = tt; memory = refl; each = λ other. inl refl }) ready

    go : (context_at (turns_after parts (flat_start parts) turns) context ≡ context_at (places_after parts (place_start parts) beside.front).flat context) ⊎ HasTold parts (turns_after parts (flat_start parts) turns) context
        → HasTold parts (turns_after parts (flat_start parts) turns) context
    go (inr told) = told
    go (inl e) = absurd (false≢true (sym (run_traps_none parts (place_start parts) beside.front context (start_traps_none parts context) beside.run) ∙ ap (λ (c : Context). has_trapped c.status) (sym e) ∙ trapped))
