-- What is on its way is delivered: a context that is being served comes to have its line, or the line that it waits for comes.
use Rattle.std.proofs.Common.{◌≡◌, ℕ, zero, suc, ◌+◌, ◌<◌, ◌≤◌, ◌||◌, nat_lt, true, Option, Some, None, List, [], ◌∷◌, ◌++◌, refl, ap, arith, ◌⊎◌, inl, inr}
use Rattle.std.proofs.lemmas.Bool.{le-leb, ltb-true, false≢true}
use Rattle.alw_num.proofs.Weigh.{cases_lt_then}
use Rattle.alw_msg.specs.declared.messages.Msg.{Msg}
use Rattle.alw_msg.specs.declared.events.Event.{Event}
use Rattle.alw_msg.specs.declared.events.Event.TheVariants.{Instr, Handle, Deliver, Evict}
use Rattle.alw_msg.specs.declared.events.Entry.{Entry}
use Rattle.alw_msg.specs.Events.{node_of}
use Rattle.alw_image.specs.declared.parts.Parts.{Parts}
use Rattle.alw_image.specs.Images.{node_count, IsImage}
use Rattle.alw_image.specs.Parameters.{Parameters, AreParameters}
use Rattle.alw_model.specs.NodeStates.{stamp_of}
use Rattle.alw_msg.specs.Lists.{front}
use Rattle.alw_model.proofs.Journals.{and_parts}
use Rattle.law_machine.proofs.Sends.{MsgStands}
use Rattle.alw_model.specs.Machine.{MachineState, node_at, link_at, taken_by, stamp_at, is_enabled, has_halted, step, stepped_by, after, IsNext, AreLegal}
use Rattle.alw_model.specs.Runs.{turn_in}
use Rattle.law_lines.proofs.Steps.{enabled_is}
use Rattle.law_machine.proofs.MachineRuns.{IsKept}
use Rattle.law_machine.proofs.Timing.{each_front}
use Rattle.law_machine.proofs.TurnCounts.{queue_quiet, taken_quiet}
use Rattle.law_machine.proofs.Greatest.{clock_below, greatest_grows}
use Rattle.law_turns.specs.Turns.{greatest_clock, turns_from, serves, AllServe}
use Rattle.law_turns.proofs.Stages.{heft_of, IsServing}
use Rattle.law_turns.specs.Orders.{is_quiet, entry_for}
use Rattle.law_turns.proofs.Quiet.{quiet_lightens, quiet_serves}
use Rattle.law_turns.proofs.Means.{AreMeans, means_of, entry_kept}
use Rattle.law_turns.proofs.Moves.{left_moves, serving_reaches}

module _ (parts : Parts) (parameters : Parameters) where
  -- no quiet event is a turn
  pub quiet_turns_not : (s : MachineState) (event : Event) → is_quiet event ≡ true → turn_in parts (node_of event) (stepped_by parts parameters s event).did ≡ []
  quiet_turns_not s (Instr at) quiet = absurd (false≢true quiet)
  quiet_turns_not s (Evict at its) quiet = absurd (false≢true quiet)
  quiet_turns_not s (Handle at) quiet = queue_quiet parts parameters at.0 _ (node_at s at.0) (node_at s at.0).packets
  quiet_turns_not s (Deliver from to) quiet = taken_quiet parts parameters to.0 _ (node_at s to.0) (taken_by parts s (Deliver from to))

-- a quiet event serves whoever's turn it is
pub quiet_own : (c : ℕ) (event : Event) → is_quiet event ≡ true → serves c event ≡ true
quiet_own c (Instr at) quiet = absurd (false≢true quiet)
quiet_own c (Handle at) quiet = refl
quiet_own c (Deliver from to) quiet = refl
quiet_own c (Evict at its) quiet = absurd (false≢true quiet)

module _ (parts : Parts) (image : IsImage parts) (parameters : Parameters) (are : AreMeans parameters) (s : MachineState) (kept : IsKept parts parameters s) (event : Event) (enabled : is_enabled parts parameters s event ≡ true) where
  head_below : (from to : ℕ) → from < node_count parts → to < node_count parts → (head : Option Msg) → front (link_at parts s from to) ≡ head → stamp_of (node_at s to).clock head ≤ greatest_clock s + 1
  head_below from to f here None e = omega (arith, clock_below parts parameters s kept.has.sound.standing to here)
  head_below from to f here (Some msg) e =
      let m = each_front (MsgStands parts from to (node_at s from).clock) (link_at parts s from to) msg (kept.times.links from to f here) e in
      omega (arith, m.stamp, clock_below parts parameters s kept.has.sound.standing from f, clock_below parts parameters s kept.has.sound.standing to here)

  -- an event's stamp is at most 1 above the greatest clock
  pub stamp_near : stamp_at parts s event ≤ greatest_clock s + 1
  stamp_near = go event enabled
    where
      go : (event : Event) → is_enabled parts parameters s event ≡ true → stamp_at parts s event ≤ greatest_clock s + 1
      go (Instr at) is = omega (arith, clock_below parts parameters s kept.has.sound.standing at.0 (enabled_is parts parameters s (Instr at) is).here)
      go (Handle at) is = omega (arith, clock_below parts parameters s kept.has.sound.standing at.0 (enabled_is parts parameters s (Handle at) is).here)
      go (Evict at its) is = omega (arith, clock_below parts parameters s kept.has.sound.standing at.0 (enabled_is parts parameters s (Evict at its) is).here)
      go (Deliver from to) is =
          let en = enabled_is parts parameters s (Deliver from to) is in
          head_below from.0 to.0 (ltb-true from.0 (node_count parts) (and_parts (nat_lt from.0 (node_count parts)) _ en.may_be).0) en.here (front (link_at parts s from.0 to.0)) refl

  -- where its stamp is within the limit, it is the next entry
  pub is_next : stamp_at parts s event ≤ parameters.limit → IsNext parts parameters s (entry_for parts s event)
  is_next within = record {
    enabled = enabled;
    within = ap (λ b. b || has_halted s) (le-leb (stamp_at parts s event) parameters.limit within);
    stamp = refl;
  }

  pub next_kept : stamp_at parts s event ≤ parameters.limit → IsKept parts parameters (step parts parameters s event)
  next_kept within = entry_kept parts image parameters are s (entry_for parts s event) (is_next within) kept

  pub next_clock : greatest_clock (step parts parameters s event) ≤ greatest_clock s + 1
  next_clock = greatest_grows parts parameters s kept.has.sound.standing kept.times event enabled

-- the same by the ranges of the parameters
pub stamp_most : (parts : Parts) → IsImage parts → (parameters : Parameters) → AreParameters parameters → (s : MachineState) → IsKept parts parameters s → (event : Event) → is_enabled parts parameters s event ≡ true
    → stamp_at parts s event ≤ greatest_clock s + 1
stamp_most parts image parameters are s kept event enabled = stamp_near parts image parameters (means_of parameters are) s kept event enabled

-- entries that leave nothing on its way
pub record Drains (parts : Parts) (parameters : Parameters) (c : ℕ) (s : MachineState) (more : List Entry) : Type 0 where
  pub legal : AreLegal parts parameters s more
  pub own : AllServe c more
  pub turns : turns_from parts parameters s more ≡ []
  pub kept : IsKept parts parameters (after parts parameters s more)
  pub serving : IsServing c (after parts parameters s more)
  pub empty : heft_of parts (after parts parameters s more) ≡ 0
  pub clocks : greatest_clock (after parts parameters s more) ≤ greatest_clock s + heft_of parts s

-- entries without a turn, behind which an event is enabled that the limit alone keeps back, with a stamp of at most this above the greatest clock
pub record StopsThere (parts : Parts) (parameters : Parameters) (c : ℕ) (s : MachineState) (most : ℕ) (more : List Entry) : Type 0 where
  pub legal : AreLegal parts parameters s more
  pub own : AllServe c more
  pub turns : turns_from parts parameters s more ≡ []
  pub event : Event
  pub event_own : serves c event ≡ true
  pub enabled : is_enabled parts parameters (after parts parameters s more) event ≡ true
  pub above : parameters.limit < stamp_at parts (after parts parameters s more) event
  pub stamp : stamp_at parts (after parts parameters s more) event ≤ greatest_clock s + most

module _ (parts : Parts) (image : IsImage parts) (parameters : Parameters) (are : AreMeans parameters) (c : ℕ) where
  -- an event that the limit keeps back
  pub stops_now : (s : MachineState) → IsKept parts parameters s → (event : Event) → serves c event ≡ true → is_enabled parts parameters s event ≡ true → parameters.limit < stamp_at parts s event → (most : ℕ) → 1 ≤ most → StopsThere parts parameters c s most []
  stops_now s kept event own enabled above most some = record { legal = tt; own = tt; turns = refl; event = event; event_own = own; enabled = enabled; above = above; stamp = omega (arith, stamp_near parts image parameters are s kept event enabled) }

  -- one entry earlier
  pub stops_later : (s : MachineState) (event : Event) (kept : IsKept parts parameters s) (enabled : is_enabled parts parameters s event ≡ true) → serves c event ≡ true → stamp_at parts s event ≤ parameters.limit → turn_in parts (node_of event) (stepped_by parts parameters s event).did ≡ []
      → (most next_most : ℕ) → next_most + 1 ≤ most → (more : List Entry) → StopsThere parts parameters c (step parts parameters s event) next_most more → StopsThere parts parameters c s most (entry_for parts s event ∷ more)
  stops_later s event kept enabled own within no_turn most next_most less more x =
      let grows = next_clock parts image parameters are s kept event enabled in
      record {
        legal = (is_next parts image parameters are s kept event enabled within, x.legal);
        own = (own, x.own);
        turns = λ i. no_turn i ++ x.turns i;
        event = x.event;
        event_own = x.event_own;
        enabled = x.enabled;
        above = x.above;
        stamp = omega (arith, x.stamp);
      }

module _ (parts : Parts) (image : IsImage parts) (one : parts.contexts ≡ 1) (parameters : Parameters) (are : AreMeans parameters) (c : ℕ) where
  -- what is on its way is delivered, or the limit keeps an event back
  abbrev pub DrainsOrStops : MachineState → Type 0
  DrainsOrStops s = (more : List Entry) × (Drains parts parameters c s more ⊎ StopsThere parts parameters c s (heft_of parts s) more)

  drained_next : (s : MachineState) (event : Event) (kept : IsKept parts parameters s) (enabled : is_enabled parts parameters s event ≡ true) → is_quiet event ≡ true → stamp_at parts s event ≤ parameters.limit → heft_of parts (step parts parameters s event) + 1 ≤ heft_of parts s
      → DrainsOrStops (step parts parameters s event) → DrainsOrStops s
  drained_next s event kept enabled quiet within light (more, inl d) =
      let grows = next_clock parts image parameters are s kept event enabled in (
        entry_for parts s event ∷ more,
        inl (record {
          legal = (is_next parts image parameters are s kept event enabled within, d.legal);
          own = (quiet_own c event quiet, d.own);
          turns = λ x. quiet_turns_not parts parameters s event quiet x ++ d.turns x;
          kept = d.kept;
          serving = d.serving;
          empty = d.empty;
          clocks = omega (arith, d.clocks);
        }),
      )
  drained_next s event kept enabled quiet within light (more, inr x) =
      (entry_for parts s event ∷ more, inr (stops_later parts image parameters are c s event kept enabled (quiet_own c event quiet) within (quiet_turns_not parts parameters s event quiet) (heft_of parts s) (heft_of parts (step parts parameters s event)) light more x))

  drained : (fuel : ℕ) (s : MachineState) → IsKept parts parameters s → IsServing c s → heft_of parts s ≤ fuel → DrainsOrStops s
  drained zero s kept serving enough = ([], inl (record { legal = tt; own = tt; turns = refl; kept = kept; serving = serving; empty = omega arith; clocks = omega arith }))
  drained (suc fuel) s kept serving enough = cases_lt_then (heft_of parts s) 0
      (λ some.
      let m = left_moves parts image parameters are s kept (serving_reaches parts one parameters s kept c serving) some in
      let light = quiet_lightens parts one parameters s kept.has c m.0 m.1.0 m.1.1 in
      cases_lt_then (stamp_at parts s m.0) parameters.limit
      (λ above. ([], inr (stops_now parts image parameters are c s kept m.0 (quiet_own c m.0 m.1.0) m.1.1 above (heft_of parts s) some)))
      (λ within. drained_next s m.0 kept m.1.1 m.1.0 within light
      (drained fuel (step parts parameters s m.0) (next_kept parts image parameters are s kept m.0 m.1.1 within) (quiet_serves parts one parameters s kept.has c serving m.0 m.1.0 m.1.1) (omega arith))))
      (λ none. ([], inl (record { legal = tt; own = tt; turns = refl; kept = kept; serving = serving; empty = omega arith; clocks = omega arith })))

  pub drains : (s : MachineState) → IsKept parts parameters s → IsServing c s → DrainsOrStops s
  drains s kept serving = drained (heft_of parts s) s kept serving (omega arith)
