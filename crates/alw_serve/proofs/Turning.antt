-- What entries of one turn leave of a machine, and what a context's instruction is behind them.
use Rattle.std.proofs.Common.{◌≡◌, ◌≢◌, ℕ, ◌+◌, ◌*◌, ◌<◌, ◌≤◌, ◌&&◌, ◌||◌, Bool, true, false, cond, map, Option, Some, None, ◌⊎◌, inl, inr, List, [], ◌∷◌, ◌++◌, length, find, filter, refl, sym, subst, ap, ◌∙◌, arith}
use Rattle.std.specs.List.{list_any}
use Rattle.std.proofs.lemmas.Bool.{le-leb, false≢true}
use Rattle.alw_num.proofs.Weigh.{cases_lt_then}
use Rattle.sparc_table.specs.declared.outcomes.Outcome.{Outcome}
use Rattle.alw_image.specs.declared.parts.Parts.{Parts}
use Rattle.alw_image.specs.Images.{node_count, IsImage}
use Rattle.alw_image.specs.Parameters.{Parameters, AreParameters}
use Rattle.alw_msg.specs.declared.contexts.Status.TheVariants.{Ready}
use Rattle.alw_msg.specs.declared.events.Event.{Event}
use Rattle.alw_msg.specs.declared.events.Event.TheVariants.{Instr, Handle, Deliver, Evict}
use Rattle.alw_msg.specs.declared.events.Entry.{Entry}
use Rattle.alw_msg.specs.Events.{is_evict}
use Rattle.alw_model.specs.declared.steps.Did.{Did}
use Rattle.alw_model.specs.declared.steps.Did.TheVariants as acts
use Rattle.alw_model.specs.Machine.{MachineState, node_at, is_enabled, is_within_limit, is_settled, has_halted, main_events, stamp_at, step, stepped_by, after, state, IsNext, AreLegal, IsLegal}
use Rattle.alw_model.proofs.Journals.{and_is}
use Rattle.alw_model.specs.Runs.{turn_in}
use Rattle.law_machine.proofs.MachineRuns.{IsKept, always_kept}
use Rattle.law_turns.specs.Turns.{IsAtRest, greatest_clock, turn_events, turns_from, serves, AllServe, ServesTurn}
use Rattle.law_turns.specs.Limits.{IsKeptBack}
use Rattle.law_turns.specs.Orders.{is_quiet, AllQuiet, BeginsTurn, entry_for, HasQuiet, GoesToTurn}
use Rattle.law_turns.proofs.Draining.{quiet_own, quiet_turns_not, stamp_most}
use Rattle.law_turns.proofs.Following.{every_order_serves, runs_so}
use Rattle.law_turns.proofs.Instructions.{Does}
use Rattle.law_turns.proofs.Resting.{settled_light}
use Rattle.law_turns.proofs.Serving.{stamp, stepped, does, free_at, served_hit}
use Rattle.law_turns.proofs.Stages.{heft_of, own}
use Rattle.law_turns.proofs.Scheduled.{among}
use Rattle.law_turns.proofs.Turns.{turns_more, state_more, journal_more}

-- quiet entries have no turn, and are of whoever's turn it is
pub quiet_turns : (parts : Parts) (parameters : Parameters) (s : MachineState) (more : List Entry) → AllQuiet more → turns_from parts parameters s more ≡ []
quiet_turns parts parameters s [] quiet = refl
quiet_turns parts parameters s (entry ∷ rest) quiet = λ i. quiet_turns_not parts parameters s entry.event quiet.0 i ++ quiet_turns parts parameters (step parts parameters s entry.event) rest quiet.1 i

pub quiet_serve : (c : ℕ) (more : List Entry) → AllQuiet more → AllServe c more
quiet_serve c [] quiet = tt
quiet_serve c (entry ∷ rest) quiet = (quiet_own c entry.event quiet.0, quiet_serve c rest quiet.1)

-- what is nothing but a turn has none in it
pub no_turn : (parts : Parts) (n : ℕ) (did : Did) → ((slot : ℕ) (outcome : Outcome) → did ≡ acts.Turn slot outcome → ⊥) → turn_in parts n did ≡ []
no_turn parts n (acts.Turn slot outcome) not = absurd (not slot outcome refl)
no_turn parts n (acts.Missed slot) not = refl
no_turn parts n acts.Took not = refl
no_turn parts n acts.Packet not = refl
no_turn parts n (acts.Handled kind state) not = refl
no_turn parts n acts.Evicted not = refl

-- ---- one context a node

-- a context's turn so far: nothing of it, or an instruction that missed and what it brought about
abbrev pub TurnIsBegun : Parts → Parameters → MachineState → ℕ → List Entry → Type 0
TurnIsBegun parts parameters s c more = (more ≡ []) ⊎ (BeginsTurn c more × (turns_from parts parameters s more ≡ []))

module _ (parts : Parts) (image : IsImage parts) (one : parts.contexts ≡ 1) (parameters : Parameters) (are : AreParameters parameters)
    (journal : List Entry) (legal : IsLegal parts parameters journal) (rests : IsAtRest parts (state parts parameters journal)) (c : ℕ) where
  abbrev s : MachineState
  s = state parts parameters journal

  abbrev event : Event
  event = Instr (record { 0 = c })

  kept : IsKept parts parameters s
  kept = always_kept parts image parameters are journal legal

  goes : (begun : List Entry) → BeginsTurn c begun → AreLegal parts parameters s begun → turns_from parts parameters s begun ≡ [] → GoesToTurn parts parameters s c begun
  goes begun begins behind none = every_order_serves parts image one parameters are journal legal rests c begun begins behind none

  -- an instruction that is a turn in a machine at rest is served by itself
  hit : IsNext parts parameters s (entry_for parts s event) → c < node_count parts → (own s c).status ≡ Ready → turn_in parts c (stepped_by parts parameters s event).did ≢ [] → ServesTurn parts parameters s c (entry_for parts s event ∷ [])
  hit next here ready some = go (does parts image one parameters are c here s kept light ready)
    where
      light : heft_of parts s ≡ 0
      light = settled_light parts s rests.settled

      go : Does parts parameters c (stamp parts image one parameters are c here s kept light ready) (node_at s c) (stepped parts image one parameters are c here s kept light ready)
          → ServesTurn parts parameters s c (entry_for parts s event ∷ [])
      go (inl t) = served_hit parts image one parameters are s kept light c here ready (λ m other. free_at parts image one parameters are s kept rests m) next t
      go (inr a) = absurd (some (ap (λ (did : Did). turn_in parts c did) a.did))

  -- ---- behind what was begun

  few_so : (more : List Entry) → TurnIsBegun parts parameters s c more → AreLegal parts parameters s more → (length more ≤ 6 * node_count parts + 3) × (greatest_clock (after parts parameters s more) ≤ greatest_clock s + length more)
  few_so [] begun behind = (omega arith, omega arith)
  few_so (entry ∷ rest) (inl none) behind = absurd (let sizes = ap length none in omega arith)
  few_so (entry ∷ rest) (inr begun) behind = let g = goes (entry ∷ rest) begun.0 behind begun.1 in (g.few, g.clocks)

  pub far_kept : (more : List Entry) → AreLegal parts parameters s more → IsKept parts parameters (after parts parameters s more)
  far_kept more behind = subst (IsKept parts parameters) (state_more parts parameters journal more) (always_kept parts image parameters are (journal ++ more) (journal_more parts parameters journal more legal behind))

  -- an event that the limit keeps back
  pub kept_back : (more : List Entry) → TurnIsBegun parts parameters s c more → AreLegal parts parameters s more → (late : Event) → serves c late ≡ true → is_enabled parts parameters (after parts parameters s more) late ≡ true
      → parameters.limit < stamp_at parts (after parts parameters s more) late → IsKeptBack parts parameters (after parts parameters s more) c (greatest_clock s + turn_events parts)
  kept_back more begun behind late serves_it enabled above =
      let most = stamp_most parts image parameters are (after parts parameters s more) (far_kept more behind) late enabled in
      let few = few_so more begun behind in
      let few_are = few.0 in
      let clocks = few.1 in
      record { event = late; own = serves_it; enabled = enabled; above = above; stamp = omega arith }

  -- while anything is on its way, a delivery or an action of the handler is enabled
  pub moves_so : (more : List Entry) → TurnIsBegun parts parameters s c more → AreLegal parts parameters s more → is_settled (after parts parameters s more) ≡ false → HasQuiet parts parameters (after parts parameters s more)
  moves_so [] begun behind not = absurd (false≢true (sym not ∙ rests.settled))
  moves_so (entry ∷ rest) (inl none) behind not = absurd (let sizes = ap length none in omega arith)
  moves_so (entry ∷ rest) (inr begun) behind not = (goes (entry ∷ rest) begun.0 behind begun.1).moves not

  -- an instruction that is a turn is served
  pub turn_so : (more : List Entry) → TurnIsBegun parts parameters s c more → AreLegal parts parameters s more → is_settled (after parts parameters s more) ≡ true
      → IsNext parts parameters (after parts parameters s more) (entry_for parts (after parts parameters s more) event)
      → c < node_count parts → turn_in parts c (stepped_by parts parameters (after parts parameters s more) event).did ≢ [] → ServesTurn parts parameters s c (more ++ entry_for parts (after parts parameters s more) event ∷ [])
  turn_so [] begun behind settled next here some = hit next here (runs_so parts image one parameters are s c kept here next.enabled) some
  turn_so (entry ∷ rest) (inl none) behind settled next here some = absurd (let sizes = ap length none in omega arith)
  turn_so (entry ∷ rest) (inr begun) behind settled next here some = ((goes (entry ∷ rest) begun.0 behind begun.1).turn settled).serves next

  -- one that isn't comes first, and what it brings about may follow
  pub begun_so : (more : List Entry) → TurnIsBegun parts parameters s c more → AreLegal parts parameters s more → is_settled (after parts parameters s more) ≡ true
      → IsNext parts parameters (after parts parameters s more) (entry_for parts (after parts parameters s more) event)
      → turn_in parts c (stepped_by parts parameters (after parts parameters s more) event).did ≡ [] → (quiet : List Entry) → AllQuiet quiet
      → TurnIsBegun parts parameters s c (more ++ entry_for parts (after parts parameters s more) event ∷ quiet)
  begun_so [] begun behind settled next none quiet are_quiet = inr ((refl, are_quiet), λ i. none i ++ quiet_turns parts parameters (step parts parameters s event) quiet are_quiet i)
  begun_so (entry ∷ rest) (inl empty) behind settled next none quiet are_quiet = absurd (let sizes = ap length empty in omega arith)
  begun_so (entry ∷ rest) (inr begun) behind settled next none quiet are_quiet =
      let far = after parts parameters s (entry ∷ rest) in
      let last = entry_for parts far event in
      let v = ((goes (entry ∷ rest) begun.0 behind begun.1).turn settled).serves next in
      let no : turns_from parts parameters s ((entry ∷ rest) ++ last ∷ []) ≡ [] = turns_more parts parameters s (entry ∷ rest) (last ∷ []) ∙ (λ i. begun.1 i ++ (none i ++ [])) in
      absurd (let sizes = ap length (sym v.turn ∙ ap (map (λ (turn : ℕ × Outcome). turn.0)) no) in omega arith)

-- ---- what may be next

-- an event that is enabled and may not be next is above the limit
pub above_so : (parts : Parts) (parameters : Parameters) (s : MachineState) (event : Event) → is_enabled parts parameters s event ≡ true → (is_enabled parts parameters s event && is_within_limit parts parameters s event) ≡ false
    → parameters.limit < stamp_at parts s event
above_so parts parameters s event enabled not = cases_lt_then (stamp_at parts s event) parameters.limit
    (λ above. above)
    (λ within. absurd (false≢true (sym not ∙ (λ i. enabled i && (le-leb (stamp_at parts s event) parameters.limit within i || has_halted s)))))

some_not : {X : Type 0} (x : X) → (let none : Option X = None in Some x ≡ none) → ⊥
some_not x e = absurd (cc)

find_none : {X : Type 0} (p q : X → Bool) (xs : List X) → find q (filter p xs) ≡ None → list_any (λ x. p x && q x) xs ≡ false
find_none p q [] e = refl
find_none {X} p q (x ∷ rest) e = go (p x) (q x) refl e (find_none p q rest)
  where
    go : (a b : Bool) → q x ≡ b → find q (cond a (x ∷ filter p rest) (filter p rest)) ≡ None → (find q (filter p rest) ≡ None → list_any (λ x. p x && q x) rest ≡ false) → ((a && b) || list_any (λ x. p x && q x) rest) ≡ false
    go true true qe e more = absurd (some_not x (sym (ap (λ b. cond b (Some x) (find q (filter p rest))) qe) ∙ e))
    go true false qe e more = more (sym (ap (λ b. cond b (Some x) (find q (filter p rest))) qe) ∙ e)
    go false b qe e more = more e

quiet_stays : (event : Event) → is_quiet event ≡ true → is_evict event ≡ false
quiet_stays (Instr at) quiet = refl
quiet_stays (Handle at) quiet = refl
quiet_stays (Deliver from to) quiet = refl
quiet_stays (Evict at its) quiet = absurd (false≢true quiet)

-- where none of the main events that may be next is a delivery or an action of the handler, none is anywhere
pub none_quiet : (parts : Parts) (parameters : Parameters) (s : MachineState) → find is_quiet (filter (λ event. is_enabled parts parameters s event && is_within_limit parts parameters s event) (main_events parts)) ≡ None
    → (event : Event) → is_quiet event ≡ true → is_enabled parts parameters s event ≡ true → (is_enabled parts parameters s event && is_within_limit parts parameters s event) ≡ false
none_quiet parts parameters s none event quiet enabled = go (is_enabled parts parameters s event && is_within_limit parts parameters s event) refl
  where
    go : (b : Bool) → (is_enabled parts parameters s event && is_within_limit parts parameters s event) ≡ b → (is_enabled parts parameters s event && is_within_limit parts parameters s event) ≡ false
    go false e = e
    go true e = absurd (false≢true (sym (find_none (λ event. is_enabled parts parameters s event && is_within_limit parts parameters s event) is_quiet (main_events parts) none)
        ∙ among parts parameters s (λ event. (is_enabled parts parameters s event && is_within_limit parts parameters s event) && is_quiet event) event enabled (quiet_stays event quiet) (and_is _ _ e quiet)))
