-- What an event of a node is to the flat machine: a turn is the flat machine's turn of its context, and any other event is nothing.
use Rattle.std.proofs.Common.{◌≡◌, ◌≢◌, ℕ, ◌+◌, ◌*◌, ◌<◌, ◌&&◌, true, List, [], ◌∷◌, ◌++◌, length, set, map, refl, sym, ap, ◌∙◌, arith}
use Rattle.std.specs.List.{range_with_len}
use Rattle.std.proofs.lemmas.List.{length-set, length-map, map-set}
use Rattle.std.proofs.lemmas.List.FromFn.{get_or-map-range_with_len}
use Rattle.law_machine.proofs.Vocabulary.{Line, LineNo, Mode, Regs, Need, Outcome, need_of, turn_of, Parts, line_count, zero_line, Waiting, is_ready, slot_at, ran, NodeState, status_after}
use Rattle.law_machine.proofs.Vocabulary.{MachineState, node_at, Context, Flat, context_at, line_at, stored_in, turned, flat_turn_by, flat_turn, print_of, flat_context, flat_status}
use Rattle.sparc_table.specs.declared.outcomes.Need.TheVariants as needs
use Rattle.sparc_table.proofs.Effects.{turn_exists}
use Rattle.law_machine.specs.FlatRuns.{contexts_of, flat_of, RunsFlat}
use Rattle.law_machine.proofs.FlatViews.{HaveSlots, contexts_stay, context_set, context_read, values_same}
use Rattle.law_machine.proofs.FlatSlots.{same_context, flat_after_turn, Chosen, ready_is}

module _ (parts : Parts) (s : MachineState) (values : ℕ → Line) (have : HaveSlots parts.contexts s.nodes) (n : ℕ) (fits : n < length s.nodes) where
  abbrev before : Flat
  before = flat_of parts values s.nodes

  -- what an event leaves of its node and of the values, with the turns that it was
  pub record Seen (v : NodeState) (next : ℕ → Line) (turns : List (ℕ × Outcome)) : Type 0 where
    pub slots : length v.slots ≡ length (node_at s n).slots
    pub flat : RunsFlat parts before turns (flat_of parts next (set s.nodes n v))

  -- an event that keeps contexts and values is nothing
  pub calm : (v : NodeState) (next : ℕ → Line) → map flat_context v.slots ≡ map flat_context (node_at s n).slots → ((l : ℕ) → l < line_count parts → next l ≡ values l) → Seen v next []
  calm v next slots same = record {
    slots = sym (length-map v.slots flat_context) ∙ (ap length slots ∙ length-map (node_at s n).slots flat_context);
    flat = record {
      ready = refl;
      state = λ x. record { memory = values_same next values 0 (line_count parts) (λ l m o. same l (omega arith)) x; contexts = contexts_stay parts.contexts s.nodes n v slots x };
      prints = refl;
    };
  }

  module _ (slot : ℕ) (is_chosen : Chosen (λ i. is_ready (slot_at (node_at s n).slots i).status) (length (node_at s n).slots) slot) where
    abbrev context : ℕ
    context = n * parts.contexts + slot

    abbrev regs : Regs
    regs = (slot_at (node_at s n).slots slot).regs

    slot_below : slot < parts.contexts
    slot_below = let l = is_chosen.below in let h : length (node_at s n).slots ≡ parts.contexts = have n fits in omega arith

    context_is : context_at before context ≡ flat_context (slot_at (node_at s n).slots slot)
    context_is = context_read parts.contexts s.nodes n slot _ have fits slot_below

    -- a turn that the flat machine takes as well
    pub turns : (v : NodeState) (next : ℕ → Line) (memory : List Line) (after : Regs) (outcome : Outcome) → v.slots ≡ ran (node_at s n).slots slot after (status_after after outcome) → flat_turn parts before context ≡ turned before context memory after outcome
        → map next (range_with_len 0 (line_count parts)) ≡ memory → Seen v next ((context, outcome) ∷ [])
    turns v next memory after outcome slots turn stored = record {
      slots = ap length slots ∙ length-set (node_at s n).slots slot _;
      flat = record {
        ready = ap (λ (c : Context). is_ready c.status && true) context_is ∙ ap (λ st. is_ready (flat_status st) && true) (ready_is (slot_at (node_at s n).slots slot).status is_chosen.passes);
        state = (λ x. record { memory = stored x; contexts = left x }) ∙ sym (ap (λ (done : Flat × Outcome). done.0) turn);
        prints = ap (λ (o : Outcome). print_of context o ++ []) (sym (ap (λ (done : Flat × Outcome). done.1) turn));
      };
    }
      where
        left : contexts_of (set s.nodes n v) ≡ set (contexts_of s.nodes) context (record { regs = after; status = status_after after outcome })
        left = context_set parts.contexts s.nodes n v slot (record { regs = after; status = status_after after outcome }) have fits slot_below
            (ap (map flat_context) slots ∙ (map-set flat_context (node_at s n).slots slot _ ∙ ap (λ st. set (map flat_context (node_at s n).slots) slot (record { regs = after; status = st })) (flat_after_turn after outcome)))

    -- the flat machine's turn, by what the slot's registers need
    regs_are : (context_at before context).regs ≡ regs
    regs_are = ap (λ (c : Context). c.regs) context_is

    pub turn_with : (l : LineNo) (mode : Mode) (body : Line) → need_of parts.code regs (line_count parts) ≡ needs.Copy l mode → values l.0 ≡ body
        → flat_turn parts before context ≡ turned before context (stored_in before.memory l.0 mode (turn_of parts.code regs (line_count parts) body).1) (turn_of parts.code regs (line_count parts) body).0 (turn_of parts.code regs (line_count parts) body).2
    turn_with l mode body need value =
        let lines : l.0 < line_count parts = turn_exists parts.code regs (line_count parts) l mode need in
        let line : line_at before l.0 ≡ body = get_or-map-range_with_len values 0 (line_count parts) l.0 l.0 zero_line lines (omega arith) ∙ value in
        ap (flat_turn_by parts before context) (ap (λ r. need_of parts.code r (line_count parts)) regs_are ∙ need)
        ∙ (λ x. turned before context (stored_in before.memory l.0 mode (turn_of parts.code (regs_are x) (line_count parts) (line x)).1) (turn_of parts.code (regs_are x) (line_count parts) (line x)).0 (turn_of parts.code (regs_are x) (line_count parts) (line x)).2)

    pub turn_without : (need : Need) → need_of parts.code regs (line_count parts) ≡ need → ((l : LineNo) (mode : Mode) → need ≢ needs.Copy l mode)
        → flat_turn parts before context ≡ turned before context before.memory (turn_of parts.code regs (line_count parts) zero_line).0 (turn_of parts.code regs (line_count parts) zero_line).2
    turn_without (needs.Copy l mode) is none = absurd (none l mode refl)
    turn_without needs.Nothing is none = ap (flat_turn_by parts before context) (ap (λ r. need_of parts.code r (line_count parts)) regs_are ∙ is)
        ∙ (λ x. turned before context before.memory (turn_of parts.code (regs_are x) (line_count parts) zero_line).0 (turn_of parts.code (regs_are x) (line_count parts) zero_line).2)
    turn_without (needs.Trap tt) is none = ap (flat_turn_by parts before context) (ap (λ r. need_of parts.code r (line_count parts)) regs_are ∙ is)
        ∙ (λ x. turned before context before.memory (turn_of parts.code (regs_are x) (line_count parts) zero_line).0 (turn_of parts.code (regs_are x) (line_count parts) zero_line).2)

    -- a slot that misses is the same context
    pub miss_same : (line : LineNo) → map flat_context (ran (node_at s n).slots slot regs (Waiting line)) ≡ map flat_context (node_at s n).slots
    miss_same line = same_context (node_at s n).slots slot _ (λ x. record { regs = regs; status = flat_status (sym (ready_is (slot_at (node_at s n).slots slot).status is_chosen.passes) x) })
