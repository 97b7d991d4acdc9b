-- What runs of turns use of parameters: a limit far above the greatest that parameters may have will do, as long as no clock comes to the greatest stamp.
use Rattle.std.proofs.Common.{◌≡◌, ℕ, ◌-◌, ◌^◌, ◌<◌, ◌≤◌, ◌==◌, nat_lt, Bool, true, false, List, refl, sym, subst, arith}
use Rattle.std.proofs.lemmas.Bool.{eq-eqb, lt-ltb}
use Rattle.std.proofs.lemmas.Nat.{mul-le}
use Rattle.alw_msg.specs.declared.messages.Msg.{Msg}
use Rattle.alw_msg.specs.declared.events.Entry.{Entry}
use Rattle.alw_image.specs.declared.parts.Parts.{Parts}
use Rattle.alw_image.specs.Images.{node_count, line_count, IsImage}
use Rattle.alw_image.specs.Parameters.{Parameters, AreParameters}
use Rattle.alw_model.specs.Messages.{is_fit}
use Rattle.alw_model.specs.NodeStates.{NodeState}
use Rattle.alw_model.specs.Machine.{MachineState, machine_start, node_at, has_halted, step, state, IsNext, IsLegal}
use Rattle.alw_model.specs.MachineInvariant.{left_to_do, most_to_do}
use Rattle.alw_model.proofs.Journals.{and_is}
use Rattle.law_machine.proofs.Runs.{node_at_start}
use Rattle.law_machine.proofs.ContextRuns.{entry_contexts, start_contexts, after_keeps}
use Rattle.law_machine.proofs.Greatest.{clock_below}
use Rattle.law_machine.proofs.Sends.{MsgStands}
use Rattle.law_machine.proofs.Timing.{step_times, start_times, within_clocks}
use Rattle.law_machine.proofs.Bound.{sets_range, left_fits, left_falls}
use Rattle.law_machine.proofs.MachineRuns.{IsKept}
use Rattle.law_turns.specs.Stuck.{most_stamps}

pub record AreMeans (p : Parameters) : Type 0 where
  pub some_pointer : 1 ≤ p.pointers
  pub some_set : 1 ≤ p.sets
  pub few_sets : p.sets ≤ 4096
  pub limit : p.limit ≤ most_stamps

pub means_of : (p : Parameters) → AreParameters p → AreMeans p
means_of p are = record { some_pointer = are.some_pointer; some_set = (sets_range p are).0; few_sets = (sets_range p are).1; limit = omega (arith, are.limit) }

module _ (parts : Parts) (image : IsImage parts) (parameters : Parameters) (are : AreMeans parameters) where
  -- ---- the induction over a journal

  entry_bound : (s : MachineState) (entry : Entry) → IsNext parts parameters s entry → IsKept parts parameters s → has_halted (step parts parameters s entry.event) ≡ true
      → left_to_do (step parts parameters s entry.event) ≤ most_to_do parts parameters
  entry_bound s entry next kept halted = go (has_halted s) refl
    where
      go : (b : Bool) → has_halted s ≡ b → left_to_do (step parts parameters s entry.event) ≤ most_to_do parts parameters
      go true e = omega (arith, left_falls parts parameters s kept.has kept.times e entry.event next.enabled, kept.bound e)
      go false e = left_fits parts parameters (step parts parameters s entry.event) (entry_contexts parts parameters are.some_pointer s entry next kept.has)
          (step_times parts parameters s kept.has.values kept.has.sound kept.times entry.event next.enabled next.within) halted are.some_set
          (within_clocks parts parameters s kept.has.values kept.has.sound kept.times entry.event next.enabled next.within e)

  pub entry_kept : (s : MachineState) (entry : Entry) → IsNext parts parameters s entry → IsKept parts parameters s → IsKept parts parameters (step parts parameters s entry.event)
  entry_kept s entry next kept = record {
    has = entry_contexts parts parameters are.some_pointer s entry next kept.has;
    times = step_times parts parameters s kept.has.values kept.has.sound kept.times entry.event next.enabled next.within;
    bound = entry_bound s entry next kept;
  }

  start_kept : IsKept parts parameters (machine_start parts)
  start_kept = record {
    has = start_contexts parts parameters are.some_pointer image.contexts.0;
    times = start_times parts parameters;
    bound = λ halted. left_fits parts parameters (machine_start parts) (start_contexts parts parameters are.some_pointer image.contexts.0) (start_times parts parameters) halted are.some_set
        (λ n here. subst (λ (u : NodeState). u.clock ≤ parameters.limit) (sym (node_at_start parts n here)) (omega arith));
  }

  pub always_kept : (journal : List Entry) → IsLegal parts parameters journal → IsKept parts parameters (state parts parameters journal)
  unfolding state
  always_kept journal legal = after_keeps parts parameters (IsKept parts parameters) entry_kept (machine_start parts) journal legal start_kept

  -- ---- no clock is the greatest

  most_small : most_to_do parts parameters < 2 ^ 32 - 1
  most_small =
      let nodes = mul-le parts.width parts.height 16 16 image.width.1 image.height.1 in
      let sets = mul-le (node_count parts) parameters.sets 256 4096 (omega arith) are.few_sets in
      let lines = mul-le (node_count parts) parts.per_node 256 4096 (omega arith) image.per_node.1 in
      omega (arith, are.limit)

  module _ (s : MachineState) (kept : IsKept parts parameters s) where
    pub clocks_small : (n : ℕ) → n < node_count parts → (node_at s n).clock < 2 ^ 32 - 1
    clocks_small n here = go (has_halted s) refl
      where
        go : (b : Bool) → has_halted s ≡ b → (node_at s n).clock < 2 ^ 32 - 1
        go true e = omega (arith, kept.bound e, clock_below parts parameters s kept.has.sound.standing n here, most_small)
        go false e = omega (arith, kept.times.clocks e n here, are.limit)

    pub fit_on : (from to : ℕ) (msg : Msg) → MsgStands parts from to (node_at s from).clock msg → from < node_count parts → is_fit parts from to msg ≡ true
    fit_on from to msg m f = and_is (msg.src.0 == from) _ (eq-eqb msg.src.0 from m.source)
        (and_is (nat_lt msg.line.0 (line_count parts)) _ (lt-ltb msg.line.0 (line_count parts) m.exists)
        (and_is (nat_lt msg.stamp (2 ^ 32 - 1)) _ (lt-ltb msg.stamp (2 ^ 32 - 1) (omega (arith, m.stamp, clocks_small from f))) m.home))
