-- Every list of turns that are Ready is a run of the machine.
use Rattle.std.proofs.Common.{◌≡◌, ℕ, ◌+◌, ◌*◌, ◌≤◌, true, ◌⊎◌, inl, inr, List, [], ◌++◌, length, refl, sym, subst, ap, ◌∙◌, arith}
use Rattle.sparc_table.specs.Registers.{start_of}
use Rattle.alw_image.specs.declared.parts.Parts.{Parts}
use Rattle.std.specs.Prelude.{Some}
use Rattle.alw_image.specs.Images.{IsImage}
use Rattle.alw_image.specs.Parameters.{Parameters, AreParameters}
use Rattle.alw_msg.specs.declared.contexts.Status.TheVariants as statuses
use Rattle.alw_msg.specs.Statuses.{has_trapped}
use Rattle.alw_msg.specs.declared.events.Entry.{Entry}
use Rattle.alw_model.specs.Machine.{MachineState, machine_start, state, IsLegal, end_of, Halted, Trapped}
use Rattle.alw_model.specs.Flat.{Flat, AreReady, flat_after, context_at}
use Rattle.alw_model.specs.Runs.{moments, turns_of, flat_view}
use Rattle.alw_places.specs.Outcomes.{flat_halted}
use Rattle.law_machine.proofs.FlatStarts.{flat_view_is}
use Rattle.law_turns.specs.Turns.{RunsTurns, IsAtRest, ServesTurns, greatest_clock, turn_events, EveryTurnIsServed}
use Rattle.law_turns.proofs.Turns.{HasTurnsBehind, RunsOrStops, turns_run}
use Rattle.law_turns.specs.Limits.{PassesLimit, EveryTurnIsServedOrLate}
use Rattle.law_turns.proofs.Means.{AreMeans, means_of}
use Rattle.law_turns.proofs.Served.{nobody_waits_at_rest, each_is_served}
use Rattle.law_turns.proofs.Ends.{start_rests, start_clock, ends_halted, ends_trapped}
use Rattle.law_turns.proofs.Scheduled.{scheduled_so}

module _ (parts : Parts) (parameters : Parameters) where
  none_taken : turns_of parts parameters [] ≡ []
  unfolding moments
  none_taken = refl

  start_is : state parts parameters [] ≡ machine_start parts
  unfolding state
  start_is = refl

  -- how a journal at rest has ended, by its turns
  pub record HasEndOf (turns : List ℕ) (journal : List Entry) : Type 0 where
    pub halted : flat_halted (flat_after parts turns) ≡ true → end_of parts parameters (state parts parameters journal) ≡ Some Halted
    pub trapped : (context : ℕ) → has_trapped (context_at (flat_after parts turns) context).status ≡ true → end_of parts parameters (state parts parameters journal) ≡ Some Trapped

  pub ends_by : 1 ≤ parameters.pointers → (turns : List ℕ) (journal : List Entry) → IsLegal parts parameters journal → turns_of parts parameters journal ≡ turns → IsAtRest parts (state parts parameters journal) → HasEndOf turns journal
  ends_by some turns journal legal taken rests =
      let flat : flat_view parts parameters (state parts parameters journal) ≡ flat_after parts turns = flat_view_is parts parameters some journal legal ∙ ap (flat_after parts) taken in
      record {
        halted = λ all. ends_halted parts parameters (state parts parameters journal) rests.settled (ap flat_halted flat ∙ all);
        trapped = λ context is. ends_trapped parts parameters (state parts parameters journal) (record { regs = start_of 0 0 0; status = statuses.Halted }) context refl (ap (λ (f : Flat). has_trapped (context_at f context).status) flat ∙ is);
      }

module _ (parts : Parts) (image : IsImage parts) (one : parts.contexts ≡ 1) (parameters : Parameters) (are : AreMeans parameters) where
  -- from a legal journal that ends at rest, turns that are Ready behind its own
  pub goes_or_stops : (journal : List Entry) (turns : List ℕ) → IsLegal parts parameters journal → IsAtRest parts (state parts parameters journal) → AreReady parts (turns_of parts parameters journal ++ turns)
      → RunsOrStops parts image one parameters are (nobody_waits_at_rest parts image one parameters are) (each_is_served parts image one parameters are) journal (turns_of parts parameters journal) turns
  goes_or_stops journal turns legal rests ready = turns_run parts image one parameters are (nobody_waits_at_rest parts image one parameters are) (each_is_served parts image one parameters are) turns (turns_of parts parameters journal) journal legal refl rests ready

  -- where the limit leaves room for them, they are taken
  pub goes_on : (journal : List Entry) (turns : List ℕ) → IsLegal parts parameters journal → IsAtRest parts (state parts parameters journal) → AreReady parts (turns_of parts parameters journal ++ turns)
      → greatest_clock (state parts parameters journal) + length turns * turn_events parts ≤ parameters.limit
      → HasTurnsBehind parts image one parameters are (nobody_waits_at_rest parts image one parameters are) (each_is_served parts image one parameters are) journal (turns_of parts parameters journal) turns
  goes_on journal turns legal rests ready room = go (goes_or_stops journal turns legal rests ready)
    where
      go : RunsOrStops parts image one parameters are (nobody_waits_at_rest parts image one parameters are) (each_is_served parts image one parameters are) journal (turns_of parts parameters journal) turns
          → HasTurnsBehind parts image one parameters are (nobody_waits_at_rest parts image one parameters are) (each_is_served parts image one parameters are) journal (turns_of parts parameters journal) turns
      go (inl r) = r
      go (inr x) = absurd (omega (arith, x.back.above, x.back.stamp))

module _ (parts : Parts) (image : IsImage parts) (one : parts.contexts ≡ 1) (parameters : Parameters) (are : AreParameters parameters) where
  pub ends_so : (turns : List ℕ) (journal : List Entry) → IsLegal parts parameters journal → turns_of parts parameters journal ≡ turns → IsAtRest parts (state parts parameters journal) → HasEndOf parts parameters turns journal
  ends_so = ends_by parts parameters are.some_pointer

  abbrev means : AreMeans parameters
  means = means_of parameters are

  served_or_late : (turns : List ℕ) → RunsOrStops parts image one parameters means (nobody_waits_at_rest parts image one parameters means) (each_is_served parts image one parameters means) [] (turns_of parts parameters []) turns
      → RunsTurns parts parameters turns ⊎ PassesLimit parts parameters turns
  served_or_late turns (inl r) =
      let taken = r.taken ∙ ap (λ (done : List ℕ). done ++ turns) (none_taken parts parameters) in
      let e = ends_so turns r.more r.legal taken r.rests in
      let served : ServesTurns parts parameters (machine_start parts) turns r.more = subst (λ (s : MachineState). ServesTurns parts parameters s turns r.more) (start_is parts parameters) r.served in
      inl (record {
        journal = r.more;
        run = record {
          legal = r.legal;
          taken = taken;
          served = served;
          rests = r.rests;
          halted = e.halted;
          trapped = e.trapped;
          scheduled = λ early. scheduled_so parts image parameters are turns r.more r.legal taken served early;
        };
      })
  served_or_late turns (inr x) =
      let early : greatest_clock (state parts parameters []) ≤ 0 = subst (λ (s : MachineState). greatest_clock s ≤ 0) (sym (start_is parts parameters)) (start_clock parts parameters) in
      inr (record {
        journal = x.more;
        stops = record {
          front = x.front;
          next = x.next;
          left = x.left;
          split = x.split;
          legal = x.legal;
          taken = x.taken ∙ ap (λ (done : List ℕ). done ++ x.front) (none_taken parts parameters);
          first = x.first;
          begun = x.begun;
          all = x.all;
          served = subst (λ (s : MachineState). ServesTurns parts parameters s x.front x.first) (start_is parts parameters) x.served;
          own = x.own;
          back = record { event = x.back.event; own = x.back.own; enabled = x.back.enabled; above = x.back.above; stamp = omega (arith, x.back.stamp) };
        };
      })

pub every_turn_is_served_or_late : EveryTurnIsServedOrLate
every_turn_is_served_or_late parts image one parameters are turns ready =
    let start = start_is parts parameters in
    served_or_late parts image one parameters are turns
    (goes_or_stops parts image one parameters (means_of parameters are) [] turns tt
    (subst (IsAtRest parts) (sym start) (start_rests parts)) (subst (λ (done : List ℕ). AreReady parts (done ++ turns)) (sym (none_taken parts parameters)) ready))

pub every_turn_is_served : EveryTurnIsServed
every_turn_is_served parts image one parameters are turns ready room = go (every_turn_is_served_or_late parts image one parameters are turns ready)
  where
    go : RunsTurns parts parameters turns ⊎ PassesLimit parts parameters turns → RunsTurns parts parameters turns
    go (inl r) = r
    go (inr x) = absurd (omega (arith, x.stops.back.above, x.stops.back.stamp))
