-- Of the machine invariant: the fields on slots, transactions and sizes of nodes, from contexts that stand.
use Rattle.std.proofs.Common.{◌≡◌, ℕ, suc, ◌<◌, ◌==◌, nat_lt, ◌&&◌, Bool, true, cond, Option, Some, None, List, [], ◌∷◌, length, IsTrue, refl, ap, ◌∙◌}
use Rattle.std.specs.Prelude.{is_some}
use Rattle.std.specs.List.{list_all}
use Rattle.std.proofs.lemmas.Bool.{eq-eqb, lt-ltb}
use Rattle.law_machine.proofs.Vocabulary.{Mode, passes, passes_if_some, value_at, need_of, Need, Status, Ready, Waiting, Halted, Trapped, Parts, node_count, line_count, Parameters, Transaction}
use Rattle.law_machine.proofs.Vocabulary.{granted_copy, grants, is_ready, waits_on, waited, Slot, slot_at, NodeState, MachineState, node_at, mode_in, next_mode, waits_rightly, opens_rightly}
use Rattle.law_machine.proofs.Vocabulary.{holds_rightly, trapped_rightly, slot_fits, transaction_stands, sizes_fit}
use Rattle.alw_num.specs.declared.states.Mode.TheVariants as modes
use Rattle.sparc_table.specs.declared.outcomes.Need.TheVariants as needs
use Rattle.sparc_table.proofs.Effects.{turn_exists}
use Rattle.alw_model.proofs.Journals.{and_is}
use Rattle.law_machine.proofs.Stores.{all_of, each_entry}
use Rattle.law_machine.proofs.ContextFacts.{SlotStands, TransactionStands, NodeContexts}
use Rattle.law_machine.proofs.ContextRuns.{HasContexts}

-- each slot passes a test that each number's slot passes
all_slots : (test : Slot → Bool) (slots : List Slot) → ((i : ℕ) → test (slot_at slots i) ≡ true) → IsTrue (list_all test slots)
all_slots test [] each = refl
all_slots test (slot ∷ rest) each = and_is (test slot) (list_all test rest) (each 0) (all_slots test rest (λ i. each (suc i)))

either_grants : (mode : Mode) → (grants mode mode && grants mode mode) ≡ true
either_grants mode = cases mode
  where
    cases : (mode : Mode) → (grants mode mode && grants mode mode) ≡ true
    cases modes.Read = refl
    cases modes.Write = refl

module _ (parts : Parts) (parameters : Parameters) where
  -- the line that an instruction needs exists
  pub needed_exists : (slot : Slot) (line : ℕ) (mode : Mode) → need_of parts.code slot.regs (line_count parts) ≡ needs.Copy (record { 0 = line }) mode → line < line_count parts
  needed_exists slot line mode e = turn_exists parts.code slot.regs (line_count parts) (record { 0 = line }) mode e

  -- the mode in which it needs the line
  pub mode_needed : (slot : Slot) (line : ℕ) (mode : Mode) → need_of parts.code slot.regs (line_count parts) ≡ needs.Copy (record { 0 = line }) mode → next_mode parts slot line ≡ Some mode
  mode_needed slot line mode e = ap (λ (need : Need). mode_in need line) e ∙ ap (λ b. cond b (Some mode) None) (eq-eqb line line refl)

  module _ (node : NodeState) (stands : NodeContexts parts parameters node) where
    -- the line that a slot waits on exists
    pub waited_exists : (line : ℕ) → is_some (value_at node.transactions line) ≡ true → line < line_count parts
    waited_exists line is = go (value_at node.transactions line) refl is
      where
        go : (o : Option Transaction) → value_at node.transactions line ≡ o → is_some o ≡ true → line < line_count parts
        go None e is = absurd (cc)
        go (Some t) e is = let s = stands.opened line t e in needed_exists (slot_at node.slots t.opener) line t.mode s.need

    module _ (slot : Slot) (s : SlotStands parts parameters node.cache node.transactions slot) where
      waits : (status : Status) → slot.status ≡ status → passes_if_some (λ line. is_some (value_at node.transactions line)) (waited status) ≡ true
      waits Ready e = refl
      waits (Waiting line) e = s.waits line.0 (ap (waits_on line.0) e ∙ eq-eqb line.0 line.0 refl)
      waits Halted e = refl
      waits (Trapped pc tt) e = refl

      waits_exist : (status : Status) → slot.status ≡ status → passes_if_some (λ line. nat_lt line (line_count parts)) (waited status) ≡ true
      waits_exist Ready e = refl
      waits_exist (Waiting line) e = lt-ltb line.0 (line_count parts) (waited_exists line.0 (s.waits line.0 (ap (waits_on line.0) e ∙ eq-eqb line.0 line.0 refl)))
      waits_exist Halted e = refl
      waits_exist (Trapped pc tt) e = refl

      holds : (o : Option ℕ) → slot.hold ≡ o → passes_if_some (λ line. is_ready slot.status && passes (λ mode. is_some (granted_copy parameters.sets node.cache line mode)) (next_mode parts slot line)) o ≡ true
      holds None e = refl
      holds (Some line) e = let h = s.holds line e in
          and_is (is_ready slot.status) _ (ap is_ready h.ready) (ap (passes (λ (mode : Mode). is_some (granted_copy parameters.sets node.cache line mode))) (mode_needed slot line h.mode h.need) ∙ h.granted)

      holds_exist : (o : Option ℕ) → slot.hold ≡ o → passes_if_some (λ line. nat_lt line (line_count parts)) o ≡ true
      holds_exist None e = refl
      holds_exist (Some line) e = let h = s.holds line e in lt-ltb line (line_count parts) (needed_exists slot line h.mode h.need)

      fits : slot_fits parts parameters node slot ≡ true
      fits = and_is (waits_rightly node slot) _ (waits slot.status refl)
          (and_is (holds_rightly parts parameters node slot) _ (holds slot.hold refl)
          (and_is (trapped_rightly slot.regs.pc slot.status) _ s.trapped
          (and_is _ _ (waits_exist slot.status refl) (holds_exist slot.hold refl))))

    pub slots_fit : IsTrue (list_all (slot_fits parts parameters node) node.slots)
    slots_fit = all_slots (slot_fits parts parameters node) node.slots (λ i. fits (slot_at node.slots i) (stands.each i))

    opens : (line : ℕ) (t : Transaction) → TransactionStands parts node.slots line t → transaction_stands parts node (line, t) ≡ true
    opens line t s = and_is (opens_rightly parts node (line, t)) _
        (and_is (waits_on line (slot_at node.slots t.opener).status) _ s.waits
        (ap (passes (λ (mode : Mode). grants mode t.mode && grants t.mode mode)) (mode_needed (slot_at node.slots t.opener) line t.mode s.need) ∙ either_grants t.mode))
        (and_is (nat_lt line (line_count parts)) _ (lt-ltb line (line_count parts) (needed_exists (slot_at node.slots t.opener) line t.mode s.need)) (lt-ltb t.opener parts.contexts s.opener))

    pub transactions_fit : IsTrue (list_all (transaction_stands parts node) node.transactions.entries)
    transactions_fit = all_of (transaction_stands parts node) node.transactions.entries (each_entry (λ entry. IsTrue (transaction_stands parts node entry)) node.transactions (λ line t e. opens line t (stands.opened line t e)))

    pub sizes_are : length node.homes ≡ parts.per_node → IsTrue (sizes_fit parts node)
    sizes_are homes = and_is (length node.slots == parts.contexts) _ (eq-eqb (length node.slots) parts.contexts stands.size)
        (and_is (length node.homes == parts.per_node) _ (eq-eqb (length node.homes) parts.per_node homes) (lt-ltb node.current parts.contexts stands.chosen))

  module _ (s : MachineState) (has : HasContexts parts parameters s) (n : ℕ) (here : n < node_count parts) where
    pub slots_are : IsTrue (list_all (slot_fits parts parameters (node_at s n)) (node_at s n).slots)
    slots_are = slots_fit (node_at s n) (has.contexts n here)

    pub transactions_are : IsTrue (list_all (transaction_stands parts (node_at s n)) (node_at s n).transactions.entries)
    transactions_are = transactions_fit (node_at s n) (has.contexts n here)

    pub nodes_are : IsTrue (sizes_fit parts (node_at s n))
    nodes_are = sizes_are (node_at s n) (has.contexts n here) (has.sound.standing.each n here).homes
