-- The induction over a journal for the whole machine invariant, and its fields as tests.
use Rattle.std.proofs.Common.{◌≡◌, ℕ, ◌-◌, ◌^◌, ◌<◌, ◌≤◌, ◌==◌, nat_lt, nat_le, ◌||◌, Bool, true, false, List, [], ◌∷◌, IsTrue, refl, sym, subst, ap, arith}
use Rattle.std.specs.List.{AllByRecursion, list_all}
use Rattle.std.proofs.Math.Bool.{or-true}
use Rattle.std.proofs.lemmas.Bool.{eq-eqb, lt-ltb, le-leb}
use Rattle.law_machine.proofs.Vocabulary.{Msg, Entry, Parts, node_count, line_count, IsImage, Parameters, AreParameters, content, is_to_memory, home_node, is_fit, NodeState, MachineState}
use Rattle.law_machine.proofs.Vocabulary.{machine_start, node_at, link_at, has_halted, step, state, IsNext, IsLegal, MachineInvariant, links_rightly, packed_rightly, left_to_do, most_to_do}
use Rattle.law_machine.proofs.Vocabulary.{IsPacket}
use Rattle.alw_model.proofs.Journals.{and_is}
use Rattle.law_machine.proofs.Runs.{node_at_start}
use Rattle.law_machine.proofs.Lines.{invariant_of}
use Rattle.law_machine.proofs.Stores.{all_of, entry_points, caches_stand, sizes_are}
use Rattle.law_machine.proofs.ContextRuns.{HasContexts, entry_contexts, start_contexts, after_keeps}
use Rattle.law_machine.proofs.ContextTests.{slots_are, transactions_are, nodes_are}
use Rattle.law_machine.proofs.Sends.{MsgStands}
use Rattle.law_machine.proofs.Timing.{HasTimes, Stamped, step_times, start_times, within_clocks}
use Rattle.law_machine.proofs.Bound.{sets_range, left_fits, left_falls, clock_small}
use Rattle.alw_num.proofs.Alls.{all_weaker}

-- what each entry keeps of a machine
pub record IsKept (parts : Parts) (parameters : Parameters) (s : MachineState) : Type 0 where
  pub has : HasContexts parts parameters s
  pub times : HasTimes parts parameters s
  pub bound : has_halted s ≡ true → left_to_do s ≤ most_to_do parts parameters

module _ (parts : Parts) (image : IsImage parts) (parameters : Parameters) (are : AreParameters parameters) where
  -- ---- the induction

  entry_bound : (s : MachineState) (entry : Entry) → IsNext parts parameters s entry → IsKept parts parameters s → has_halted (step parts parameters s entry.event) ≡ true → left_to_do (step parts parameters s entry.event) ≤ most_to_do parts parameters
  entry_bound s entry next kept halted = go (has_halted s) refl
    where
      go : (b : Bool) → has_halted s ≡ b → left_to_do (step parts parameters s entry.event) ≤ most_to_do parts parameters
      go true e = omega (arith, left_falls parts parameters s kept.has kept.times e entry.event next.enabled, kept.bound e)
      go false e = left_fits parts parameters (step parts parameters s entry.event) (entry_contexts parts parameters are.some_pointer s entry next kept.has)
          (step_times parts parameters s kept.has.values kept.has.sound kept.times entry.event next.enabled next.within) halted (sets_range parameters are).0
          (within_clocks parts parameters s kept.has.values kept.has.sound kept.times entry.event next.enabled next.within e)

  pub entry_kept : (s : MachineState) (entry : Entry) → IsNext parts parameters s entry → IsKept parts parameters s → IsKept parts parameters (step parts parameters s entry.event)
  entry_kept s entry next kept = record {
    has = entry_contexts parts parameters are.some_pointer s entry next kept.has;
    times = step_times parts parameters s kept.has.values kept.has.sound kept.times entry.event next.enabled next.within;
    bound = entry_bound s entry next kept;
  }

  pub start_kept : IsKept parts parameters (machine_start parts)
  start_kept = record {
    has = start_contexts parts parameters are.some_pointer image.contexts.0;
    times = start_times parts parameters;
    bound = λ halted. left_fits parts parameters (machine_start parts) (start_contexts parts parameters are.some_pointer image.contexts.0) (start_times parts parameters) halted (sets_range parameters are).0
        (λ n here. subst (λ (u : NodeState). u.clock ≤ parameters.limit) (sym (node_at_start parts n here)) (omega arith));
  }

  pub always_kept : (journal : List Entry) → IsLegal parts parameters journal → IsKept parts parameters (state parts parameters journal)
  unfolding state
  always_kept journal legal = after_keeps parts parameters (IsKept parts parameters) entry_kept (machine_start parts) journal legal start_kept

  -- ---- the fields

  module _ (s : MachineState) (kept : IsKept parts parameters s) where
    -- no clock is the greatest
    pub clocks_small : (n : ℕ) → n < node_count parts → (node_at s n).clock < 2 ^ 32 - 1
    clocks_small = clock_small parts parameters s kept.has kept.times image are kept.bound

    pub fit_on : (from to : ℕ) (msg : Msg) → MsgStands parts from to (node_at s from).clock msg → from < node_count parts → is_fit parts from to msg ≡ true
    fit_on from to msg m f = and_is (msg.src.0 == from) _ (eq-eqb msg.src.0 from m.source)
        (and_is (nat_lt msg.line.0 (line_count parts)) _ (lt-ltb msg.line.0 (line_count parts) m.exists)
        (and_is (nat_lt msg.stamp (2 ^ 32 - 1)) _ (lt-ltb msg.stamp (2 ^ 32 - 1) (omega (arith, m.stamp, clocks_small from f))) m.home))

    links_are : (from to : ℕ) → from < node_count parts → to < node_count parts → IsTrue (list_all (links_rightly parts s from to) (link_at parts s from to))
    links_are from to f t = all_of (links_rightly parts s from to) (link_at parts s from to)
        (all_weaker (MsgStands parts from to (node_at s from).clock) (λ (msg : Msg). IsTrue (links_rightly parts s from to msg))
        (λ msg m. and_is (is_fit parts from to msg) _ (fit_on from to msg m f) (le-leb msg.stamp (node_at s from).clock m.stamp)) (link_at parts s from to) (kept.times.links from to f t))

    packed : (n : ℕ) (node : NodeState) (packets : List Msg) → AllByRecursion (IsPacket parts n) packets → Stamped node.clock packets → IsTrue (list_all (packed_rightly parts n node) packets)
    packed n node [] all stamped = refl
    packed n node (packet ∷ rest) all stamped = and_is (packed_rightly parts n node packet) (list_all (packed_rightly parts n node) rest)
        (and_is (is_to_memory (content packet)) _ all.0.to_memory
        (and_is (nat_lt packet.src.0 (node_count parts)) _ (lt-ltb packet.src.0 (node_count parts) all.0.source)
        (and_is (nat_lt packet.line.0 (line_count parts)) _ (lt-ltb packet.line.0 (line_count parts) all.0.line)
        (and_is (home_node parts packet.line.0 == n) _ (eq-eqb (home_node parts packet.line.0) n all.0.home) (le-leb packet.stamp node.clock stamped.0)))))
        (packed n node rest all.1 stamped.1)

    clocks_are : (n : ℕ) → n < node_count parts → IsTrue (nat_le (node_at s n).clock parameters.limit || has_halted s)
    clocks_are n here = go (has_halted s) refl
      where
        go : (b : Bool) → has_halted s ≡ b → IsTrue (nat_le (node_at s n).clock parameters.limit || b)
        go true e = or-true (nat_le (node_at s n).clock parameters.limit)
        go false e = ap (λ c. c || false) (le-leb (node_at s n).clock parameters.limit (kept.times.clocks e n here))

    pub invariant_is : MachineInvariant parts parameters s
    invariant_is = record {
      lines = invariant_of parts parameters s kept.has.values kept.has.sound;
      entries = entry_points parts parameters s kept.has.values kept.has.sound;
      slots = slots_are parts parameters s kept.has;
      transactions = transactions_are parts parameters s kept.has;
      links = links_are;
      packets = λ n here. packed n (node_at s n) (node_at s n).packets (kept.has.sound.standing.each n here).packets (kept.times.packets n here);
      caches = caches_stand parts parameters s kept.has.values kept.has.sound;
      clocks = clocks_are;
      bound = λ halted. le-leb (left_to_do s) (most_to_do parts parameters) (kept.bound halted);
      nodes = nodes_are parts parameters s kept.has;
      sizes = sizes_are parts parameters s kept.has.values kept.has.sound;
    }
