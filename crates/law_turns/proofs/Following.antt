-- Whatever order deliveries and actions of the handler come in, a context that misses in a machine at rest comes to its turn.
use Rattle.std.proofs.Common.{◌≡◌, ℕ, ◌+◌, ◌<◌, ◌≤◌, true, map, Option, Some, None, inl, inr, List, [], ◌∷◌, ◌++◌, length, refl, sym, subst, ap, ◌∙◌, arith}
use Rattle.std.specs.Prelude.{is_some}
use Rattle.std.proofs.lemmas.Bool.{false≢true}
use Rattle.alw_num.proofs.Weigh.{cases_lt_then}
use Rattle.sparc_table.specs.declared.outcomes.Outcome.{Outcome}
use Rattle.alw_image.specs.declared.parts.Parts.{Parts}
use Rattle.alw_image.specs.Images.{node_count, IsImage}
use Rattle.alw_image.specs.Parameters.{Parameters, AreParameters}
use Rattle.alw_msg.specs.declared.contexts.Status.TheVariants.{Ready}
use Rattle.alw_msg.specs.declared.events.Event.{Event}
use Rattle.alw_msg.specs.declared.events.Event.TheVariants.{Instr}
use Rattle.alw_msg.specs.declared.events.Entry.{Entry}
use Rattle.alw_model.specs.Contexts.{slot_at, running}
use Rattle.alw_model.specs.Machine.{MachineState, node_at, is_enabled, stamp_at, step, stepped_by, after, state, IsNext, AreLegal}
use Rattle.alw_model.specs.Runs.{turn_in}
use Rattle.law_lines.proofs.Steps.{enabled_is}
use Rattle.law_machine.proofs.FlatSlots.{runs_ready, ready_is}
use Rattle.law_machine.proofs.MachineRuns.{IsKept, always_kept}
use Rattle.law_turns.specs.Turns.{IsAtRest, greatest_clock, turns_from, AllServe}
use Rattle.law_turns.specs.Orders.{AllQuiet, entry_for, GoesToTurn, EveryOrderServes}
use Rattle.law_turns.proofs.Hefts.{busy}
use Rattle.law_turns.proofs.Stages.{heft_of, own, IsServing}
use Rattle.law_turns.proofs.Quiet.{quiet_lightens, quiet_serves}
use Rattle.law_turns.proofs.Moves.{left_moves, serving_reaches}
use Rattle.law_turns.proofs.Resting.{settled_light, settled_calm, light_settled}
use Rattle.law_turns.proofs.Draining.{quiet_own, quiet_turns_not, next_clock, Drains}
use Rattle.law_turns.proofs.Means.{AreMeans, means_of, entry_kept}
use Rattle.law_turns.proofs.Instructions.{Asked, Does}
use Rattle.law_turns.proofs.Served.{stamp, stepped, does, turn_is, miss_light, miss_serves, free_at, awake_at, far_enabled, served_behind}
use Rattle.law_turns.proofs.Scheduled.{none_first}

module _ (parts : Parts) (image : IsImage parts) (one : parts.contexts ≡ 1) (parameters : Parameters) (are : AreParameters parameters) where
  -- a context whose instruction is enabled is Ready
  pub runs_so : (s : MachineState) (c : ℕ) → IsKept parts parameters s → c < node_count parts → is_enabled parts parameters s (Instr (record { 0 = c })) ≡ true → (own s c).status ≡ Ready
  runs_so s c kept here enabled = go (running (node_at s c).slots (node_at s c).current) refl (enabled_is parts parameters s (Instr (record { 0 = c })) enabled).may_be
    where
      go : (o : Option ℕ) → running (node_at s c).slots (node_at s c).current ≡ o → is_some o ≡ true → (own s c).status ≡ Ready
      go None e some = absurd (false≢true some)
      go (Some slot) e some =
          let r = runs_ready (node_at s c).slots (node_at s c).current slot e in
          let size = (kept.has.contexts c here).size in
          let same : slot ≡ 0 = omega (arith, r.below, one) in
          ap (λ k. (slot_at (node_at s c).slots k).status) (sym same) ∙ ready_is (slot_at (node_at s c).slots slot).status r.passes

module _ (parts : Parts) (image : IsImage parts) (one : parts.contexts ≡ 1) (parameters : Parameters) (are : AreMeans parameters) where
  -- quiet entries, while a context is served
  pub record StaysServing (c : ℕ) (s : MachineState) (more : List Entry) : Type 0 where
    pub kept : IsKept parts parameters (after parts parameters s more)
    pub serving : IsServing c (after parts parameters s more)
    pub turns : turns_from parts parameters s more ≡ []
    pub own_all : AllServe c more
    pub light : heft_of parts (after parts parameters s more) + length more ≤ heft_of parts s
    pub clocks : greatest_clock (after parts parameters s more) ≤ greatest_clock s + length more

  pub stays_serving : (c : ℕ) (s : MachineState) (more : List Entry) → IsKept parts parameters s → IsServing c s → AreLegal parts parameters s more → AllQuiet more → StaysServing c s more
  stays_serving c s [] kept serving legal quiet = record { kept = kept; serving = serving; turns = refl; own_all = tt; light = omega arith; clocks = omega arith }
  stays_serving c s (entry ∷ rest) kept serving (next, legal) (quiet, others) =
      let event = entry.event in
      let light = quiet_lightens parts one parameters s kept.has c event quiet next.enabled in
      let grows = next_clock parts image parameters are s kept event next.enabled in
      let r = stays_serving c (step parts parameters s event) rest (entry_kept parts image parameters are s entry next kept) (quiet_serves parts one parameters s kept.has c serving event quiet next.enabled) legal others in
      record {
        kept = r.kept;
        serving = r.serving;
        turns = λ i. quiet_turns_not parts parameters s event quiet i ++ r.turns i;
        own_all = (quiet_own c event quiet, r.own_all);
        light = omega (arith, r.light);
        clocks = omega (arith, r.clocks);
      }

  module _ (s : MachineState) (kept : IsKept parts parameters s) (rests : IsAtRest parts s) (c : ℕ) where
    light : heft_of parts s ≡ 0
    light = settled_light parts s rests.settled

    abbrev event : Event
    event = Instr (record { 0 = c })

    abbrev next : MachineState
    next = step parts parameters s event

    module _ (is_next : IsNext parts parameters s (entry_for parts s event)) (here : c < node_count parts) (ready : (own s c).status ≡ Ready) where
      -- it wasn't a turn, so that a request is under way
      asked : turn_in parts c (stepped_by parts parameters s event).did ≡ [] → Does parts parameters c (stamp parts image one parameters are c here s kept light ready) (node_at s c) (stepped parts image one parameters are c here s kept light ready)
          → Asked parts parameters c (stamp parts image one parameters are c here s kept light ready) (node_at s c) (stepped parts image one parameters are c here s kept light ready)
      asked none (inr a) = a
      asked none (inl t) = absurd (let sizes = ap length (sym (turn_is parts image one parameters are c here s kept light ready t) ∙ ap (map (λ (turn : ℕ × Outcome). turn.0)) none) in omega arith)

      next_is_kept : IsKept parts parameters next
      next_is_kept = entry_kept parts image parameters are s (entry_for parts s event) is_next kept

      goes_by : (rest : List Entry) → Asked parts parameters c (stamp parts image one parameters are c here s kept light ready) (node_at s c) (stepped parts image one parameters are c here s kept light ready)
          → AreLegal parts parameters next rest → AllQuiet rest → GoesToTurn parts parameters s c (entry_for parts s event ∷ rest)
      goes_by rest a legal quiet =
          let asks = miss_light parts image one parameters are c here s kept light ready a in
          let serving = miss_serves parts image one parameters are c here s kept light ready a (settled_calm parts s busy rests.settled) (λ m other. free_at parts image one parameters are s kept rests m) (λ m line other. awake_at parts image one parameters are s kept rests m line) in
          let r = stays_serving c next rest next_is_kept serving legal quiet in
          let far = after parts parameters next rest in
          let less = r.light in
          let grows = next_clock parts image parameters are s kept event is_next.enabled in
          record {
            few = omega arith;
            clocks = omega (arith, r.clocks);
            moves = λ not. cases_lt_then (heft_of parts far) 0
                (λ some. let m = left_moves parts image parameters are far r.kept (serving_reaches parts one parameters far r.kept c r.serving) some in record { event = m.0; quiet = m.1.0; enabled = m.1.1 })
                (λ none. absurd (false≢true (sym not ∙ light_settled parts far (omega arith))));
            turn = λ settled.
                let empty = settled_light parts far settled in
                let d : Drains parts parameters c next rest = record { legal = legal; own = r.own_all; turns = r.turns; kept = r.kept; serving = r.serving; empty = empty; clocks = omega (arith, r.clocks) } in
                record {
                  enabled = far_enabled parts image one parameters are s kept light c here ready a rest d;
                  serves = λ then. served_behind parts image one parameters are s kept light c here ready a rest d is_next then;
                };
          }

pub every_order_serves : EveryOrderServes
every_order_serves parts image one parameters are journal legal rests context [] begins behind none = absurd begins
every_order_serves parts image one parameters are journal legal rests context (entry ∷ rest) (is, quiet) (next, others) none =
    subst (λ (e : Entry). GoesToTurn parts parameters s context (e ∷ rest)) (sym same)
    (goes_by parts image one parameters (means_of parameters are) s kept rests context first here ready rest
    (asked parts image one parameters (means_of parameters are) s kept rests context first here ready
    (none_first (turn_in parts context (stepped_by parts parameters s event).did) _ (subst (λ (e : Entry). turns_from parts parameters s (e ∷ rest) ≡ []) same none))
    (does parts image one parameters (means_of parameters are) context here s kept (light parts image one parameters (means_of parameters are) s kept rests context) ready))
    (subst (λ (e : Event). AreLegal parts parameters (step parts parameters s e) rest) is others) quiet)
  where
    s : MachineState
    s = state parts parameters journal

    event : Event
    event = Instr (record { 0 = context })

    kept : IsKept parts parameters s
    kept = always_kept parts image parameters are journal legal

    same : entry ≡ entry_for parts s event
    same = λ i. record { event = is i; stamp = (next.stamp ∙ ap (stamp_at parts s) is) i }

    first : IsNext parts parameters s (entry_for parts s event)
    first = subst (IsNext parts parameters s) same next

    here : context < node_count parts
    here = (enabled_is parts parameters s event first.enabled).here

    ready : (own s context).status ≡ Ready
    ready = runs_so parts image one parameters are s context kept here first.enabled
