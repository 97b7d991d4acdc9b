-- How many turns a legal journal has: each is taken before the last halt and raises its node's clock, which stays within the limit.
use Rattle.std.proofs.Common.{◌≡◌, ℕ, ◌+◌, ◌*◌, ◌≤◌, Bool, true, false, Option, Some, None, List, [], ◌∷◌, ◌++◌, length, map, IsTrue, refl, ap, arith, length-append}
use Rattle.std.specs.List.{flat_map}
use Rattle.std.proofs.lemmas.List.{length-map}
use Rattle.law_machine.proofs.Vocabulary.{Outcome, Msg, Event, Instr, Handle, Deliver, Evict, Entry, ToMemory, Content, ForMemory, ForCache, content, node_of, Parts, node_count, IsImage}
use Rattle.law_machine.proofs.Vocabulary.{Parameters, AreParameters, Did, running, NodeState, memory_of, at_home, deliver_by, deliver, handle_by, handle_front, MachineState, machine_start}
use Rattle.law_machine.proofs.Vocabulary.{node_at, taken_by, is_enabled, has_halted, step, stepped_by, IsNext, AreLegal, IsLegal, Moment, number_of, moments_from, moments, turn_in, turns_in}
use Rattle.law_machine.proofs.Vocabulary.{turns_of}
use Rattle.alw_model.specs.declared.steps.Did.TheVariants as acts
use Rattle.alw_model.specs.MemorySteps as memory
use Rattle.law_lines.proofs.Steps.{enabled_is}
use Rattle.law_machine.specs.Machines.{OnEveryMachine}
use Rattle.law_machine.proofs.Ended.{halted_stays}
use Rattle.law_machine.proofs.Timing.{within_clocks}
use Rattle.law_machine.proofs.Wear.{none_runs}
use Rattle.law_machine.proofs.MachineRuns.{IsKept, entry_kept, start_kept}
use Rattle.law_machine.proofs.Lengths.{clocks_of, clocks_rise, clocks_most}

module _ (parts : Parts) (parameters : Parameters) where
  -- ---- one event

  at_most_one : (n : ℕ) (did : Did) → length (turn_in parts n did) ≤ 1
  at_most_one n (acts.Turn slot outcome) = omega arith
  at_most_one n (acts.Missed slot) = omega arith
  at_most_one n acts.Took = omega arith
  at_most_one n acts.Packet = omega arith
  at_most_one n (acts.Handled kind state) = omega arith
  at_most_one n acts.Evicted = omega arith

  -- no other event than an instruction is a turn
  module _ (n stamp : ℕ) (node : NodeState) where
    home_quiet : (msg : Msg) (said : ToMemory) (traps : Bool) → turn_in parts n (memory.at_home stamp (memory_of parts parameters n node) msg said traps).did ≡ []
    home_quiet msg said true = refl
    home_quiet msg said false = refl

    delivery_quiet : (msg : Msg) (said : Content) → turn_in parts n (deliver_by parts parameters n stamp node msg said).did ≡ []
    delivery_quiet msg (ForMemory said) = home_quiet msg said _
    delivery_quiet msg (ForCache said) = refl

    packet_quiet : (m : List Msg) (packet : Msg) (said : Content) → turn_in parts n (memory.handle_by stamp (record (memory_of parts parameters n node) { packets = m }) packet said).did ≡ []
    packet_quiet m packet (ForMemory said) = refl
    packet_quiet m packet (ForCache said) = refl

    pub queue_quiet : (queue : List Msg) → turn_in parts n (handle_front parts parameters n stamp node queue).did ≡ []
    queue_quiet [] = refl
    queue_quiet (packet ∷ rest) = packet_quiet rest packet (content packet)

    pub taken_quiet : (taken : Option Msg) → turn_in parts n (deliver parts parameters n stamp node taken).did ≡ []
    taken_quiet None = refl
    taken_quiet (Some msg) = delivery_quiet msg (content msg)

  -- once every context has halted no event is a turn
  halted_quiet : (s : MachineState) → IsKept parts parameters s → has_halted s ≡ true → (event : Event) → IsTrue (is_enabled parts parameters s event)
      → turn_in parts (node_of event) (stepped_by parts parameters s event).did ≡ []
  halted_quiet s kept halted (Instr at) enabled =
      let node = node_at s at.0 in
      absurd (none_runs parts parameters s kept.has halted at.0 (running node.slots node.current) refl (enabled_is parts parameters s (Instr at) enabled).may_be)
  halted_quiet s kept halted (Handle at) enabled = queue_quiet at.0 _ (node_at s at.0) (node_at s at.0).packets
  halted_quiet s kept halted (Deliver from to) enabled = taken_quiet to.0 _ (node_at s to.0) (taken_by parts s (Deliver from to))
  halted_quiet s kept halted (Evict at set) enabled = refl

  -- ---- journals

  abbrev turns_from : MachineState → List Entry → List (ℕ × Outcome)
  turns_from s journal = flat_map (λ (moment : Moment). turn_in parts (number_of moment) moment.stepped.did) (moments_from parts parameters s journal)

  record HasFewTurns (s : MachineState) (journal : List Entry) : Type 0 where
    after_halt : has_halted s ≡ true → length (turns_from s journal) ≤ 0
    before_halt : has_halted s ≡ false → length (turns_from s journal) + clocks_of s ≤ node_count parts * parameters.limit

  module _ (image : IsImage parts) (are : AreParameters parameters) where
    -- an entry before the last halt, by whether it is the last one before it
    before_last : (s : MachineState) (entry : Entry) (rest : List Entry) → IsNext parts parameters s entry → IsKept parts parameters s → IsKept parts parameters (step parts parameters s entry.event)
        → HasFewTurns (step parts parameters s entry.event) rest → has_halted s ≡ false → (b : Bool) → has_halted (step parts parameters s entry.event) ≡ b
        → length (turns_from s (entry ∷ rest)) + clocks_of s ≤ node_count parts * parameters.limit
    before_last s entry rest next kept after few running b e = go b e
      where
        one : List (ℕ × Outcome)
        one = turn_in parts (node_of entry.event) (stepped_by parts parameters s entry.event).did

        go : (b : Bool) → has_halted (step parts parameters s entry.event) ≡ b → length (one ++ turns_from (step parts parameters s entry.event) rest) + clocks_of s ≤ node_count parts * parameters.limit
        go true e =
            let rise = clocks_rise parts image parameters are s kept entry.event next.enabled in
            let within = clocks_most parts image parameters are (step parts parameters s entry.event) after
            (within_clocks parts parameters s kept.has.values kept.has.sound kept.times entry.event next.enabled next.within running) in
            omega (arith, few.after_halt e, at_most_one (node_of entry.event) (stepped_by parts parameters s entry.event).did, length-append one (turns_from (step parts parameters s entry.event) rest))
        go false e =
            let rise = clocks_rise parts image parameters are s kept entry.event next.enabled in
            omega (arith, few.before_halt e, at_most_one (node_of entry.event) (stepped_by parts parameters s entry.event).did, length-append one (turns_from (step parts parameters s entry.event) rest))

    few_turns : (s : MachineState) (journal : List Entry) → AreLegal parts parameters s journal → IsKept parts parameters s → HasFewTurns s journal
    few_turns s [] legal kept = record {
      after_halt = λ e. omega arith;
      before_halt = λ e. let within = clocks_most parts image parameters are s kept (kept.times.clocks e) in omega arith;
    }
    few_turns s (entry ∷ rest) (next, legal) kept =
        let after = entry_kept parts image parameters are s entry next kept in
        let few = few_turns (step parts parameters s entry.event) rest legal after in
        record {
          after_halt = λ e.
              let none = ap (λ (turns : List (ℕ × Outcome)). length (turns ++ turns_from (step parts parameters s entry.event) rest)) (halted_quiet s kept e entry.event next.enabled) in
              omega (arith, none, few.after_halt (halted_stays parts parameters s kept.has.sound.standing entry.event next.enabled e));
          before_halt = λ e. before_last s entry rest next kept after few e (has_halted (step parts parameters s entry.event)) refl;
        }

    within_limit : (journal : List Entry) → IsLegal parts parameters journal → length (turns_from (machine_start parts) journal) ≤ node_count parts * parameters.limit
    within_limit journal legal = go (has_halted (machine_start parts)) refl
      where
        go : (b : Bool) → has_halted (machine_start parts) ≡ b → length (turns_from (machine_start parts) journal) ≤ node_count parts * parameters.limit
        go true e = omega (arith, (few_turns (machine_start parts) journal legal (start_kept parts image parameters are)).after_halt e)
        go false e = omega (arith, (few_turns (machine_start parts) journal legal (start_kept parts image parameters are)).before_halt e)

pub always_few_turns : OnEveryMachine (λ parts parameters journal machine. length (turns_of parts parameters journal) ≤ node_count parts * parameters.limit)
unfolding moments
always_few_turns parts image parameters are journal legal =
    omega (arith, length-map (turns_in parts parameters journal) (λ turn. turn.0), within_limit parts parameters image are journal legal)
