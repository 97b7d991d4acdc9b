-- How long a legal journal can be: before the last halt each entry raises its node's clock, which stays within the limit, and after it each entry leaves less to do.
use Rattle.std.proofs.Common.{◌≡◌, ℕ, ◌+◌, ◌*◌, ◌<◌, ◌≤◌, Bool, true, false, List, [], ◌∷◌, length, IsTrue, refl, subst, ap, arith}
use Rattle.law_machine.proofs.Vocabulary.{weigh, Entry, Event, Parts, node_count, IsImage, Parameters, AreParameters, node_of, is_evict, NodeState, MachineState, machine_start, no_node, node_at}
use Rattle.law_machine.proofs.Vocabulary.{taken_by, is_enabled, has_halted, step, stepped_by, IsNext, AreLegal, IsLegal}
use Rattle.law_lines.proofs.Steps.{enabled_is}
use Rattle.law_machine.specs.Endings.{AtEach, EvictsInTime}
use Rattle.law_machine.proofs.Ended.{halted_stays}
use Rattle.law_machine.proofs.Timing.{above_clock, within_clocks}
use Rattle.law_machine.proofs.Sums.{weigh_set, weigh_most}
use Rattle.law_machine.proofs.AtRest.{few_left}
use Rattle.law_machine.proofs.Wear.{cached_of, messages_of, packets_of, event_wears}
use Rattle.law_machine.proofs.Bound.{sets_range, cached_few}
use Rattle.law_machine.proofs.MachineRuns.{IsKept, entry_kept, start_kept}

-- the sum of all clocks
abbrev pub clocks_of : MachineState → ℕ
clocks_of s = weigh (λ (node : NodeState). node.clock) s.nodes

module _ (parts : Parts) (image : IsImage parts) (parameters : Parameters) (are : AreParameters parameters) where
  -- each entry raises the sum of the clocks
  pub clocks_rise : (s : MachineState) → IsKept parts parameters s → (event : Event) → IsTrue (is_enabled parts parameters s event) → clocks_of s + 1 ≤ clocks_of (step parts parameters s event)
  clocks_rise s kept event enabled =
      let n = node_of event in
      let fits : n < length s.nodes = rw kept.has.sound.standing.nodes (enabled_is parts parameters s event enabled).here in
      let above = above_clock (node_at s n).clock (taken_by parts s event) in
      omega (arith, weigh_set (λ (node : NodeState). node.clock) s.nodes n (stepped_by parts parameters s event).node no_node fits)

  -- and while clocks are within the limit the sum is too
  pub clocks_most : (s : MachineState) → IsKept parts parameters s → ((n : ℕ) → n < node_count parts → (node_at s n).clock ≤ parameters.limit) → clocks_of s ≤ node_count parts * parameters.limit
  clocks_most s kept few =
      let all = weigh_most (λ (node : NodeState). node.clock) parameters.limit s.nodes no_node (λ i l. few i (subst (λ k. i < k) kept.has.sound.standing.nodes l)) in
      let size = ap (λ k. k * parameters.limit) kept.has.sound.standing.nodes in
      omega arith

  -- what is left to do once every context has halted, at most so much, and each entry that meets a fact leaves less
  module _ (left : MachineState → ℕ) (most : ℕ) (Fact : MachineState → Entry → Type 0)
      (few : (s : MachineState) → IsKept parts parameters s → has_halted s ≡ true → left s ≤ most)
      (falls : (s : MachineState) → IsKept parts parameters s → has_halted s ≡ true → (entry : Entry) → IsTrue (is_enabled parts parameters s entry.event) → Fact s entry → left (step parts parameters s entry.event) + 1 ≤ left s) where
    -- how much longer a journal can be, before the last halt and after it
    record Bounds (s : MachineState) (journal : List Entry) : Type 0 where
      after_halt : has_halted s ≡ true → length journal ≤ left s
      before_halt : has_halted s ≡ false → length journal + clocks_of s ≤ node_count parts * parameters.limit + most

    before_last : (s : MachineState) (entry : Entry) (rest : List Entry) → IsNext parts parameters s entry → IsKept parts parameters s → IsKept parts parameters (step parts parameters s entry.event) → Bounds (step parts parameters s entry.event) rest → has_halted s ≡ false
        → (b : Bool) → has_halted (step parts parameters s entry.event) ≡ b → length (entry ∷ rest) + clocks_of s ≤ node_count parts * parameters.limit + most
    before_last s entry rest next kept after bounds running true e =
        let rise = clocks_rise s kept entry.event next.enabled in
        let within = clocks_most (step parts parameters s entry.event) after (within_clocks parts parameters s kept.has.values kept.has.sound kept.times entry.event next.enabled next.within running) in
        let small = few (step parts parameters s entry.event) after e in
        omega (arith, bounds.after_halt e)
    before_last s entry rest next kept after bounds running false e =
        let rise = clocks_rise s kept entry.event next.enabled in
        omega (arith, bounds.before_halt e)

    bounds_of : (s : MachineState) (journal : List Entry) → AreLegal parts parameters s journal → IsKept parts parameters s → AtEach Fact parts parameters s journal → Bounds s journal
    bounds_of s [] legal kept each = record {
      after_halt = λ e. omega arith;
      before_halt = λ e. let within = clocks_most s kept (kept.times.clocks e) in omega arith;
    }
    bounds_of s (entry ∷ rest) (next, legal) kept (fact, each) =
        let after = entry_kept parts image parameters are s entry next kept in
        let bounds = bounds_of (step parts parameters s entry.event) rest legal after each in
        record {
          after_halt = λ e. let less = falls s kept e entry next.enabled fact in omega (arith, bounds.after_halt (halted_stays parts parameters s kept.has.sound.standing entry.event next.enabled e));
          before_halt = λ e. before_last s entry rest next kept after bounds e (has_halted (step parts parameters s entry.event)) refl;
        }

    from_start : (journal : List Entry) → IsLegal parts parameters journal → AtEach Fact parts parameters (machine_start parts) journal → length journal ≤ node_count parts * parameters.limit + most
    from_start journal legal each = go (has_halted (machine_start parts)) refl
      where
        go : (b : Bool) → has_halted (machine_start parts) ≡ b → length journal ≤ node_count parts * parameters.limit + most
        go true e = let small = few (machine_start parts) (start_kept parts image parameters are) e in omega (arith, (bounds_of (machine_start parts) journal legal (start_kept parts image parameters are) each).after_halt e)
        go false e = omega (arith, (bounds_of (machine_start parts) journal legal (start_kept parts image parameters are) each).before_halt e)

  -- ---- the two bounds

  few_messages : (s : MachineState) → IsKept parts parameters s → has_halted s ≡ true → 2 * messages_of s + packets_of s ≤ 2 * (node_count parts * parts.per_node)
  few_messages s kept halted = let few = few_left parts parameters s kept.has halted kept.times in omega arith

  pub in_time_bounded : (journal : List Entry) → IsLegal parts parameters journal → EvictsInTime parts parameters journal → length journal ≤ node_count parts * parameters.limit + 2 * (node_count parts * parts.per_node)
  in_time_bounded = from_start (λ s. 2 * messages_of s + packets_of s) (2 * (node_count parts * parts.per_node)) (λ s entry. has_halted s ≡ true → is_evict entry.event ≡ false) few_messages
      (λ s kept halted entry enabled isnt. (event_wears parts parameters s kept.has halted entry.event enabled).fewer (isnt halted))

  few_in_all : (s : MachineState) → IsKept parts parameters s → has_halted s ≡ true → 3 * cached_of s + 2 * messages_of s + packets_of s ≤ 3 * (node_count parts * parameters.sets) + 2 * (node_count parts * parts.per_node)
  few_in_all s kept halted =
      let messages = few_messages s kept halted in
      let cached = cached_few parts parameters s kept.has kept.times (sets_range parameters are).0 in
      omega arith

  any_entry : (s : MachineState) (journal : List Entry) → AtEach (λ s entry. Unit {0}) parts parameters s journal
  any_entry s [] = tt
  any_entry s (entry ∷ rest) = (tt, any_entry (step parts parameters s entry.event) rest)

  pub all_bounded : (journal : List Entry) → IsLegal parts parameters journal → length journal ≤ node_count parts * parameters.limit + (3 * (node_count parts * parameters.sets) + 2 * (node_count parts * parts.per_node))
  all_bounded journal legal = from_start (λ s. 3 * cached_of s + 2 * messages_of s + packets_of s) (3 * (node_count parts * parameters.sets) + 2 * (node_count parts * parts.per_node)) (λ s entry. Unit {0}) few_in_all
      (λ s kept halted entry enabled fact. (event_wears parts parameters s kept.has halted entry.event enabled).less) journal legal (any_entry (machine_start parts) journal)
