-- What turns on the flat memory come to, the machine comes to.
use Rattle.std.proofs.Common.{◌≡◌, ℕ, ◌+◌, ◌*◌, ◌≤◌, ◌++◌, true, List, [], ◌∷◌, length, slice_index_or, refl, sym, ap, ◌∙◌, arith}
use Rattle.alw_num.specs.declared.addresses.Line.{Line}
use Rattle.alw_msg.specs.declared.contexts.Status.TheVariants.{Trapped}
use Rattle.alw_msg.specs.Statuses.{is_ready, has_trapped}
use Rattle.alw_image.specs.declared.parts.Parts.{Parts}
use Rattle.alw_model.specs.ProcessorSteps.{status_after}
use Rattle.alw_model.specs.Flat.{Flat, context_at, turns_after, turns_ready, flat_after, flat_prints, are_ready}
use Rattle.alw_places.specs.Places.{Place, place_start, place_turn, places_after, regs_at, IsReadyAt, IsRun}
use Rattle.alw_places.specs.Outcomes.{words_of, flat_halted, Ending, EndsIn, ComesTo, Halts, Traps}
use Rattle.alw_places.proofs.Commuting.{effect_at, outcome_is}
use Rattle.std.proofs.Common.{length-append}
use Rattle.std.proofs.Math.Nat.{suc-mul}
use Rattle.alw_image.specs.Images.{IsImage}
use Rattle.alw_image.specs.Parameters.{Parameters, AreParameters}
use Rattle.alw_model.specs.Machine.{state}
use Rattle.alw_model.specs.Runs.{prints_of, flat_view}
use Rattle.alw_model.proofs.Journals.{and_is}
use Rattle.alw_places.proofs.Runs.{flat_is, left_at, trap_keeps, words_are}
use Rattle.law_machine.proofs.FlatStarts.{flat_view_is, prints_are}
use Rattle.law_turns.specs.Turns.{turn_events, RunsTurns}
use Rattle.law_turns.specs.Endings.{RunComesTo, EveryEndingIsReached}
use Rattle.law_turns.proofs.Runs.{every_turn_is_served}

-- ---- turns that are Ready

-- a run's turns are Ready, and so is one more
pub ready_run : (parts : Parts) (place : Place) (turns : List ℕ) → IsRun parts place turns → turns_ready parts place.flat turns ≡ true
ready_run parts place [] run = refl
ready_run parts place (context ∷ rest) run = and_is (is_ready (context_at place.flat context).status) _ run.0.ready (ready_run parts (place_turn parts place context) rest run.1)

pub ready_more : (parts : Parts) (place : Place) (turns : List ℕ) (context : ℕ) → IsRun parts place turns → IsReadyAt (places_after parts place turns) context → turns_ready parts place.flat (turns ++ context ∷ []) ≡ true
ready_more parts place [] context run ready = and_is (is_ready (context_at place.flat context).status) true ready refl
ready_more parts place (other ∷ rest) context run ready = and_is (is_ready (context_at place.flat other).status) _ run.0.ready (ready_more parts (place_turn parts place other) rest context run.1 ready)

pub flat_more : (parts : Parts) (place : Place) (turns : List ℕ) (context : ℕ) → turns_after parts place.flat (turns ++ context ∷ []) ≡ (place_turn parts (places_after parts place turns) context).flat
flat_more parts place [] context = refl
flat_more parts place (other ∷ rest) context = flat_more parts (place_turn parts place other) rest context

module _ (parts : Parts) (image : IsImage parts) (one : parts.contexts ≡ 1) (parameters : Parameters) (are : AreParameters parameters) where
  flat_of_run : (turns : List ℕ) (r : RunsTurns parts parameters turns) → flat_view parts parameters (state parts parameters r.journal) ≡ flat_after parts turns
  flat_of_run turns r = flat_view_is parts parameters are.some_pointer r.journal r.run.legal ∙ ap (flat_after parts) r.run.taken

  prints_of_run : (turns : List ℕ) (r : RunsTurns parts parameters turns) → prints_of parts parameters r.journal ≡ flat_prints parts turns
  prints_of_run turns r = prints_are parts parameters are.some_pointer r.journal r.run.legal ∙ ap (flat_prints parts) r.run.taken

  halts_so : (turns : List ℕ) (printed : List (List ℕ)) (memory : List Line) → IsRun parts (place_start parts) turns → EndsIn parts (places_after parts (place_start parts) turns) (Halts printed memory) → length turns * turn_events parts ≤ parameters.limit → RunComesTo parts parameters (Halts printed memory)
  unfolding flat_after flat_prints are_ready
  halts_so turns printed memory run ends room =
      let flat = flat_is parts (place_start parts) turns in
      let r = every_turn_is_served parts image one parameters are turns (ready_run parts (place_start parts) turns run) room in
      record {
        journal = r.journal;
        legal = r.run.legal;
        reaches = (
          r.run.halted (ap flat_halted (sym flat) ∙ ends.0),
          (
            ap (λ (f : Flat). f.memory) (flat_of_run turns r ∙ sym flat) ∙ ends.2,
            λ context exists. ap (words_of context) (prints_of_run turns r)
                ∙ (sym (words_are parts turns context exists)
                ∙ ap (λ (l : List (List ℕ)). slice_index_or l context []) ends.1),
          ),
        );
      }

  traps_so : (turns : List ℕ) (context pc tt' : ℕ) → IsRun parts (place_start parts) turns → EndsIn parts (places_after parts (place_start parts) turns) (Traps context pc tt') → length (turns ++ context ∷ []) * turn_events parts ≤ parameters.limit → RunComesTo parts parameters (Traps context pc tt')
  unfolding flat_after are_ready effect_at
  traps_so turns context pc tt' run ends room =
      let there = places_after parts (place_start parts) turns in
      let all = turns ++ context ∷ [] in
      let r = every_turn_is_served parts image one parameters are all (ready_more parts (place_start parts) turns context run ends.0) room in
      let same_regs : (effect_at parts there context).regs ≡ regs_at there context = trap_keeps parts there.flat.memory (regs_at there context) tt' (sym (outcome_is parts there context) ∙ ends.1) in
      let status : (context_at (flat_after parts all) context).status ≡ Trapped pc tt' = ap (λ (f : Flat). (context_at f context).status) (flat_more parts (place_start parts) turns context) ∙ (left_at parts there context ends.0 ∙ ((λ i. status_after (same_regs i) (ends.1 i)) ∙ ap (λ k. Trapped k tt') ends.2)) in
      record {
        journal = r.journal;
        legal = r.run.legal;
        reaches = (r.run.trapped context (ap has_trapped status), ap (λ (f : Flat). (context_at f context).status) (flat_of_run all r) ∙ status);
      }

  reached : (ending : Ending) (comes : ComesTo parts ending) → length comes.turns * turn_events parts + turn_events parts ≤ parameters.limit → RunComesTo parts parameters ending
  reached (Halts printed memory) comes room = halts_so comes.turns printed memory comes.run comes.ends (omega arith)
  reached (Traps context pc tt') comes room = traps_so comes.turns context pc tt' comes.run comes.ends (let size = ap (λ k. k * turn_events parts) (length-append comes.turns (context ∷ [])) in let more : (length comes.turns + 1) * turn_events parts ≡ length comes.turns * turn_events parts + turn_events parts = one_more (length comes.turns) (turn_events parts) in omega arith)
    where
      one_more : (a t : ℕ) → (a + 1) * t ≡ a * t + t
      one_more a t = omega (arith, suc-mul a t)

pub every_ending_is_reached : EveryEndingIsReached
every_ending_is_reached parts image one parameters are ending comes room = reached parts image one parameters are ending comes room
