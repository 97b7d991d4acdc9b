-- What is so at the start, and once every context has halted: a machine can start, and then it comes to rest.
use Rattle.std.proofs.Common.{◌≡◌, ℕ, ◌+◌, ◌*◌, ◌<◌, ◌≤◌, Bool, true, false, cond, Option, Some, None, List, [], ◌∷◌, length, IsTrue, refl, sym, subst, ap, ◌∙◌, arith}
use Rattle.std.specs.Prelude.{is_some}
use Rattle.std.specs.List.{AllByRecursion}
use Rattle.std.proofs.lemmas.Bool.{eq-eqb, false≢true}
use Rattle.std.proofs.lemmas.List.FromFn.{get_or-map-range_with_len}
use Rattle.law_machine.proofs.Vocabulary.{digit, weigh, value_at, NodeNo, Entry, Instr, Status, Ready, Halted, Parts, node_count, line_count, started_at, start_in, IsStart, IsImage, Parameters}
use Rattle.law_machine.proofs.Vocabulary.{AreParameters, is_halted, Slot, slot_at, no_slot, running, slot_start, NodeState, MachineState, machine_start, no_node, node_at, has_halted, step, state}
use Rattle.law_machine.proofs.Vocabulary.{is_enabled, moments, counts_of, count_holds, is_evict}
use Rattle.law_lines.proofs.Steps.{enabled_is}
use Rattle.law_machine.specs.Endings.{has_ended, may_go_on, AtEach}
use Rattle.law_machine.specs.Machines.{OnEveryMachine}
use Rattle.law_machine.proofs.Runs.{node_at_start}
use Rattle.law_machine.proofs.ContextRuns.{HasContexts}
use Rattle.law_machine.proofs.Ended.{halted_at}
use Rattle.law_machine.proofs.Sums.{weigh_most}
use Rattle.law_machine.proofs.AtRest.{none_open, few_left}
use Rattle.law_machine.proofs.Wear.{none_runs}
use Rattle.law_machine.proofs.HoldEvents.{holds_of}
use Rattle.law_machine.proofs.MachineRuns.{always_kept, start_kept}
use Rattle.law_machine.proofs.Progress.{live_goes}
use Rattle.law_machine.proofs.RunFacts.{always_used, always_in_time}

-- ---- the start

-- the first start of an image is that of a context
first_started : (parts : Parts) (starts : List (NodeNo × ℕ × ℕ)) → parts.starts ≡ starts → 1 ≤ length starts → AllByRecursion (IsStart parts) starts → (n : ℕ) × (slot : ℕ) × ((n < node_count parts) × (slot < parts.contexts) × (is_some (started_at parts n slot) ≡ true))
first_started parts [] e some all = absurd (omega arith)
first_started parts (start ∷ rest) e some all = (start.0.0, start.1, (all.0.0, all.0.1, ap (λ (l : List (NodeNo × ℕ × ℕ)). is_some (start_in l start.0.0 start.1)) e ∙ found))
  where
    found : is_some (start_in (start ∷ rest) start.0.0 start.1) ≡ true
    found = rw (eq-eqb start.0.0 start.0.0 refl, eq-eqb start.1 start.1 refl) refl

module _ (parts : Parts) (image : IsImage parts) (parameters : Parameters) (are : AreParameters parameters) where
  -- so a context is Ready at the start, and a main event is enabled
  pub starts_go : may_go_on parts parameters (machine_start parts) ≡ true
  starts_go =
      let f = first_started parts parts.starts refl image.some_start image.starts in
      live_goes parts image parameters are (machine_start parts) (start_kept parts image parameters are) f.0 f.1 f.2.0 (live f.0 f.1 f.2.0 f.2.1 f.2.2)
    where
      ready : (b : Bool) → b ≡ true → has_ended (cond b Ready Halted) ≡ false
      ready true e = refl
      ready false e = absurd (false≢true e)

      live : (n slot : ℕ) → n < node_count parts → slot < parts.contexts → is_some (started_at parts n slot) ≡ true → has_ended (slot_at (node_at (machine_start parts) n).slots slot).status ≡ false
      live n slot here fits is = ap (λ (u : NodeState). has_ended (slot_at u.slots slot).status) (node_at_start parts n here)
          ∙ (ap (λ (u : Slot). has_ended u.status) (get_or-map-range_with_len (slot_start parts n) 0 parts.contexts slot slot no_slot fits (omega arith)) ∙ ready (is_some (started_at parts n slot)) is)

-- ---- once every context has halted

halted_not_ready : (status : Status) → is_halted status ≡ true → status ≡ Ready → ⊥
halted_not_ready status halted ready = false≢true (sym (ap is_halted ready) ∙ halted)

pub halted_open : OnEveryMachine (λ parts parameters journal machine. IsTrue (has_halted machine) → (n line : ℕ) → n < node_count parts → value_at (node_at machine n).transactions line ≡ None)
halted_open parts image parameters are journal legal halted n line here =
    let s = state parts parameters journal in
    none_open parts parameters s (always_kept parts image parameters are journal legal).has halted n line here (value_at (node_at s n).transactions line) refl

pub halted_few : OnEveryMachine (λ parts parameters journal machine. IsTrue (has_halted machine) → weigh length machine.links + weigh (λ (node : NodeState). length node.packets) machine.nodes ≤ line_count parts)
halted_few parts image parameters are journal legal halted =
    let kept = always_kept parts image parameters are journal legal in
    few_left parts parameters (state parts parameters journal) kept.has halted kept.times

pub halted_instr : OnEveryMachine (λ parts parameters journal machine. IsTrue (has_halted machine) → (at : NodeNo) → is_enabled parts parameters machine (Instr at) ≡ false)
halted_instr parts image parameters are journal legal halted at = go (is_enabled parts parameters (state parts parameters journal) (Instr at)) refl
  where
    go : (b : Bool) → is_enabled parts parameters (state parts parameters journal) (Instr at) ≡ b → is_enabled parts parameters (state parts parameters journal) (Instr at) ≡ false
    go false e = e
    go true e = let node = node_at (state parts parameters journal) at.0 in
        absurd (none_runs parts parameters (state parts parameters journal) (always_kept parts image parameters are journal legal).has halted at.0 (running node.slots node.current) refl (enabled_is parts parameters (state parts parameters journal) (Instr at) e).may_be)

module _ (parts : Parts) (parameters : Parameters) (s : MachineState) (has : HasContexts parts parameters s) (halted : has_halted s ≡ true) where
  not_holding : (n i : ℕ) → n < node_count parts → digit (is_some (slot_at (node_at s n).slots i).hold) ≤ 0
  not_holding n i here = go (slot_at (node_at s n).slots i).hold refl
    where
      go : (o : Option ℕ) → (slot_at (node_at s n).slots i).hold ≡ o → digit (is_some o) ≤ 0
      go None e = omega arith
      go (Some line) e = absurd (halted_not_ready (slot_at (node_at s n).slots i).status (halted_at s halted n i) (((has.contexts n here).each i).holds line e).ready)

  no_holds : count_holds s ≡ 0
  no_holds =
      let all = weigh_most (λ (node : NodeState). holds_of node.slots) 0 s.nodes no_node (λ n l.
      let here : n < node_count parts = subst (λ k. n < k) has.sound.standing.nodes l in
      let few = weigh_most (λ (slot : Slot). digit (is_some slot.hold)) 0 (node_at s n).slots no_slot (λ i m. not_holding n i here) in
      omega arith) in
      omega arith

pub halted_used : OnEveryMachine (λ parts parameters journal machine. IsTrue (has_halted machine) → (counts_of parts (moments parts parameters journal)).replies ≡ (counts_of parts (moments parts parameters journal)).used)
halted_used parts image parameters are journal legal halted =
    let none = no_holds parts parameters (state parts parameters journal) (always_kept parts image parameters are journal legal).has halted in
    let used = always_used parts image parameters are journal legal in
    omega arith

-- ---- without evictions

none_evict : (parts : Parts) (parameters : Parameters) (s : MachineState) (journal : List Entry) → AllByRecursion (λ (entry : Entry). is_evict entry.event ≡ false) journal → AtEach (λ machine entry. IsTrue (has_halted machine) → is_evict entry.event ≡ false) parts parameters s journal
none_evict parts parameters s [] all = tt
none_evict parts parameters s (entry ∷ rest) all = (λ halted. all.0, none_evict parts parameters (step parts parameters s entry.event) rest all.1)

pub without_evictions : OnEveryMachine (λ parts parameters journal machine. AllByRecursion (λ (entry : Entry). is_evict entry.event ≡ false) journal → length journal ≤ node_count parts * parameters.limit + 2 * (node_count parts * parts.per_node))
without_evictions parts image parameters are journal legal none = always_in_time parts image parameters are journal legal (none_evict parts parameters (machine_start parts) journal none)
