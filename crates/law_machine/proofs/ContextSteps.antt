-- Each part of an event keeps a node's contexts and transactions standing: a change of the cache, a turn, a miss, and the end of a transaction.
use Rattle.std.proofs.Common.{◌≡◌, ◌≢◌, ℕ, ◌<◌, ◌==◌, Bool, true, false, cond, Option, Some, None, List, length, set, refl, sym, subst, ap, ◌∙◌}
use Rattle.std.specs.Prelude.{is_some}
use Rattle.std.proofs.lemmas.Bool.{eq-eqb, ne_eqb, eqb-true, eqb-false, false≢true}
use Rattle.std.proofs.lemmas.List.{length-set}
use Rattle.alw_num.proofs.Weigh.{at_nodes}
use Rattle.alw_num.proofs.MapLaws.{value-with, value-without}
use Rattle.law_machine.proofs.Vocabulary.{value_at, with_value, without_value, Mode, need_of, Outcome, Regs, Ready, Waiting, Parts, line_count, Parameters, Cache, Transaction, Transactions}
use Rattle.law_machine.proofs.Vocabulary.{granted_copy, is_ready, waits_on, Slot, slot_at, no_slot, woken, wake, ran, give_hold, status_after, opened, trapped_rightly}
use Rattle.sparc_table.specs.declared.outcomes.Need.TheVariants as needs
use Rattle.sparc_table.specs.declared.outcomes.Outcome.TheVariants as outcomes
use Rattle.law_lines.proofs.Links.{read_set}
use Rattle.law_machine.proofs.FlatSlots.{Chosen}
use Rattle.law_machine.proofs.ContextFacts.{HoldStands, SlotStands, TransactionStands, ContextsStand, ready_not_waiting, waits_once, wake_at, length-wake, hold_regs, hold_status}

-- a turn leaves its slot not waiting, and trapped at its pc if it is
turn_waits_not : (regs : Regs) (outcome : Outcome) (line : ℕ) → waits_on line (status_after regs outcome) ≡ true → ⊥
turn_waits_not regs outcomes.Done line e = cc
turn_waits_not regs (outcomes.Miss needed mode) line e = cc
turn_waits_not regs (outcomes.Out word) line e = cc
turn_waits_not regs outcomes.Halt line e = cc
turn_waits_not regs (outcomes.Trap tt) line e = cc

turn_trapped : (regs : Regs) (outcome : Outcome) → trapped_rightly regs.pc (status_after regs outcome) ≡ true
turn_trapped regs outcomes.Done = refl
turn_trapped regs (outcomes.Miss needed mode) = refl
turn_trapped regs (outcomes.Out word) = refl
turn_trapped regs outcomes.Halt = refl
turn_trapped regs (outcomes.Trap tt) = eq-eqb regs.pc regs.pc refl

-- a transaction that is still there once one of another line has ended, and one that is there once one more is open
without_is : (open_ones : Transactions) (l line : ℕ) (t : Transaction) → value_at (without_value open_ones l) line ≡ Some t → (line ≢ l) × (value_at open_ones line ≡ Some t)
without_is open_ones l line t e = go (line == l) refl (sym (value-without open_ones l line) ∙ e)
  where
    go : (b : Bool) → (line == l) ≡ b → cond b None (value_at open_ones line) ≡ Some t → (line ≢ l) × (value_at open_ones line ≡ Some t)
    go true is f = absurd (cc)
    go false is f = (eqb-false line l is, f)

without_some : (open_ones : Transactions) (l line : ℕ) → line ≢ l → is_some (value_at open_ones line) ≡ true → is_some (value_at (without_value open_ones l) line) ≡ true
without_some open_ones l line apart is = ap is_some (value-without open_ones l line ∙ ap (λ b. cond b None (value_at open_ones line)) (ne_eqb line l apart)) ∙ is

with_some : (open_ones : Transactions) (l line : ℕ) (t : Transaction) → is_some (value_at open_ones line) ≡ true → is_some (value_at (with_value open_ones l t) line) ≡ true
with_some open_ones l line t is = ap is_some (value-with open_ones l t line) ∙ go (line == l)
  where
    go : (b : Bool) → is_some (cond b (Some t) (value_at open_ones line)) ≡ true
    go true = refl
    go false = is

module _ (parts : Parts) (parameters : Parameters) where
  -- what a slot that stays needs of the caches and the transactions
  slot_stays : (cache next : Cache) (open_ones more : Transactions) (slot : Slot) → SlotStands parts parameters cache open_ones slot
      → ((line : ℕ) → waits_on line slot.status ≡ true → is_some (value_at open_ones line) ≡ true → is_some (value_at more line) ≡ true)
      → ((line : ℕ) (mode : Mode) → slot.hold ≡ Some line → is_some (granted_copy parameters.sets cache line mode) ≡ true → is_some (granted_copy parameters.sets next line mode) ≡ true)
      → SlotStands parts parameters next more slot
  slot_stays cache next open_ones more slot s waits holds = record {
    waits = λ line e. waits line e (s.waits line e);
    holds = λ line e. let h = s.holds line e in record { ready = h.ready; mode = h.mode; need = h.need; granted = holds line h.mode e h.granted };
    trapped = s.trapped;
  }

  -- a transaction stands while its opener keeps status and registers
  opener_stays : (slots next : List Slot) (line : ℕ) (t : Transaction) → TransactionStands parts slots line t → (slot_at next t.opener).regs ≡ (slot_at slots t.opener).regs → (slot_at next t.opener).status ≡ (slot_at slots t.opener).status → TransactionStands parts next line t
  opener_stays slots next line t s regs status = record {
    waits = ap (waits_on line) status ∙ s.waits;
    need = ap (λ (r : Regs). need_of parts.code r (line_count parts)) regs ∙ s.need;
    opener = s.opener;
  }

  module _ (slots : List Slot) (current : ℕ) (cache : Cache) (open_ones : Transactions) (stands : ContextsStand parts parameters slots current cache open_ones) where
    -- what an event does to the cache keeps what is held
    abbrev pub KeepsHeld : Cache → Type 0
    KeepsHeld next = (i line : ℕ) → (slot_at slots i).hold ≡ Some line → (mode : Mode) → is_some (granted_copy parameters.sets cache line mode) ≡ true → is_some (granted_copy parameters.sets next line mode) ≡ true

    pub cache_stands : (next : Cache) → KeepsHeld next → ContextsStand parts parameters slots current next open_ones
    cache_stands next keeps = record {
      size = stands.size;
      chosen = stands.chosen;
      each = λ i. slot_stays cache next open_ones open_ones (slot_at slots i) (stands.each i) (λ line e is. is) (λ line mode e is. keeps i line e mode is);
      opened = stands.opened;
    }

    -- ---- the slot that runs

    module _ (i : ℕ) (chosen : Chosen (λ i. is_ready (slot_at slots i).status) (length slots) i) (slot : Slot) where
      ran_at : (j : ℕ) → slot_at (set slots i slot) j ≡ cond (j == i) slot (slot_at slots j)
      ran_at j = read_set slots i slot no_slot j chosen.below

      -- it has opened no transaction that stands
      not_opener : (line : ℕ) (t : Transaction) → TransactionStands parts slots line t → t.opener ≢ i
      not_opener line t s same = ready_not_waiting line (slot_at slots i).status chosen.passes (ap (λ j. waits_on line (slot_at slots j).status) (sym same) ∙ s.waits)

      old_stands : (line : ℕ) (t : Transaction) → TransactionStands parts slots line t → TransactionStands parts (set slots i slot) line t
      old_stands line t s =
          let same : slot_at (set slots i slot) t.opener ≡ slot_at slots t.opener = ran_at t.opener ∙ ap (λ b. cond b slot (slot_at slots t.opener)) (ne_eqb t.opener i (not_opener line t s)) in
          opener_stays slots (set slots i slot) line t s (ap (λ (u : Slot). u.regs) same) (ap (λ (u : Slot). u.status) same)

      ran_stands : (next : Cache) (more : Transactions) → SlotStands parts parameters next more slot
          → ((line : ℕ) → is_some (value_at open_ones line) ≡ true → is_some (value_at more line) ≡ true)
          → ((j line : ℕ) → (slot_at slots j).hold ≡ Some line → (mode : Mode) → is_some (granted_copy parameters.sets cache line mode) ≡ true → is_some (granted_copy parameters.sets next line mode) ≡ true)
          → ((line : ℕ) (t : Transaction) → value_at more line ≡ Some t → TransactionStands parts (set slots i slot) line t)
          → ContextsStand parts parameters (set slots i slot) i next more
      ran_stands next more here waits holds opens = record {
        size = length-set slots i slot ∙ stands.size;
        chosen = subst (λ n. i < n) stands.size chosen.below;
        each = λ j. subst (SlotStands parts parameters next more) (sym (ran_at j))
            (at_nodes (λ k u. SlotStands parts parameters next more u) (slot_at slots) i slot here
            (λ k other. slot_stays cache next open_ones more (slot_at slots k) (stands.each k) (λ line e is. waits line is) (λ line mode e is. holds k line e mode is)) j);
        opened = opens;
      }

    -- a turn
    pub turn_stands : (i : ℕ) → Chosen (λ i. is_ready (slot_at slots i).status) (length slots) i → (regs : Regs) (outcome : Outcome) (next : Cache) → KeepsHeld next → ContextsStand parts parameters (ran slots i regs (status_after regs outcome)) i next open_ones
    turn_stands i chosen regs outcome next keeps =
        let slot : Slot = record { regs = regs; status = status_after regs outcome; hold = None } in
        ran_stands i chosen slot next open_ones (record {
          waits = λ line e. absurd (turn_waits_not regs outcome line e);
          holds = λ line e. absurd (cc);
          trapped = turn_trapped regs outcome;
        }) (λ line is. is) keeps (λ line t e. old_stands i chosen slot line t (stands.opened line t e))

    -- a miss
    module _ (i : ℕ) (chosen : Chosen (λ i. is_ready (slot_at slots i).status) (length slots) i) (l : ℕ) (mode : Mode) (need : need_of parts.code (slot_at slots i).regs (line_count parts) ≡ needs.Copy (record { 0 = l }) mode) where
      abbrev waiting : Slot
      waiting = record { regs = (slot_at slots i).regs; status = Waiting (record { 0 = l }); hold = None }

      abbrev opening : Transaction
      opening = record { mode = mode; opener = i }

      waiting_stands : (more : Transactions) → is_some (value_at more l) ≡ true → SlotStands parts parameters cache more waiting
      waiting_stands more is = record {
        waits = λ line e. ap (λ k. is_some (value_at more k)) (sym (eqb-true l line e)) ∙ is;
        holds = λ line e. absurd (cc);
        trapped = refl;
      }

      waiting_at : slot_at (set slots i waiting) i ≡ waiting
      waiting_at = ran_at i chosen waiting i ∙ ap (λ b. cond b waiting (slot_at slots i)) (eq-eqb i i refl)

      opening_stands : TransactionStands parts (set slots i waiting) l opening
      opening_stands = record {
        waits = ap (λ (u : Slot). waits_on l u.status) waiting_at ∙ eq-eqb l l refl;
        need = ap (λ (u : Slot). need_of parts.code u.regs (line_count parts)) waiting_at ∙ need;
        opener = subst (λ n. i < n) stands.size chosen.below;
      }

      -- with one more transaction, those that were open and the new one stand
      more_stand : (line : ℕ) (t : Transaction) → value_at (with_value open_ones l opening) line ≡ Some t → TransactionStands parts (set slots i waiting) line t
      more_stand line t e = go (line == l) refl (sym (value-with open_ones l opening line) ∙ e)
        where
          go : (b : Bool) → (line == l) ≡ b → cond b (Some opening) (value_at open_ones line) ≡ Some t → TransactionStands parts (set slots i waiting) line t
          go true is f = let same : opening ≡ t = cc in subst (λ k. TransactionStands parts (set slots i waiting) k t) (sym (eqb-true line l is)) (subst (TransactionStands parts (set slots i waiting) l) same opening_stands)
          go false is f = old_stands i chosen waiting line t (stands.opened line t f)

      pub miss_stands : (o : Option Transaction) → value_at open_ones l ≡ o → ContextsStand parts parameters (ran slots i (slot_at slots i).regs (Waiting (record { 0 = l }))) i cache (opened open_ones l mode i o).0
      miss_stands (Some t) e = ran_stands i chosen waiting cache open_ones (waiting_stands open_ones (ap is_some e)) (λ line is. is) (λ j line h m is. is) (λ line u f. old_stands i chosen waiting line u (stands.opened line u f))
      miss_stands None e = ran_stands i chosen waiting cache (with_value open_ones l opening)
          (waiting_stands (with_value open_ones l opening) (ap is_some (value-with open_ones l opening l) ∙ ap (λ b. is_some (cond b (Some opening) (value_at open_ones l))) (eq-eqb l l refl)))
          (λ line is. with_some open_ones l line opening is) (λ j line h m is. is) more_stand

    -- ---- the end of a transaction

    module _ (l : ℕ) where
      woken_stands : (slot : Slot) → SlotStands parts parameters cache open_ones slot → SlotStands parts parameters cache (without_value open_ones l) (woken l slot)
      woken_stands slot s = go (waits_on l slot.status) refl
        where
          go : (b : Bool) → waits_on l slot.status ≡ b → SlotStands parts parameters cache (without_value open_ones l) (cond b (record slot { status = Ready }) slot)
          go true w = record {
            waits = λ line e. absurd (false≢true e);
            holds = λ line e. let h = s.holds line e in record { ready = refl; mode = h.mode; need = h.need; granted = h.granted };
            trapped = refl;
          }
          go false w = slot_stays cache cache open_ones (without_value open_ones l) slot s
              (λ line e is. without_some open_ones l line (λ same. false≢true (sym w ∙ (ap (λ k. waits_on k slot.status) (sym same) ∙ e))) is)
              (λ line mode e is. is)

      -- who waits on another line isn't woken
      not_woken : (slot : Slot) (line : ℕ) → waits_on line slot.status ≡ true → line ≢ l → woken l slot ≡ slot
      not_woken slot line waits apart = ap (λ b. cond b (record slot { status = Ready }) slot) (waits_once line l slot.status waits (λ e. apart (sym e)))

      left_stand : (line : ℕ) (t : Transaction) → value_at (without_value open_ones l) line ≡ Some t → TransactionStands parts (wake l slots) line t
      left_stand line t e =
          let w = without_is open_ones l line t e in
          let s = stands.opened line t w.1 in
          let same : slot_at (wake l slots) t.opener ≡ slot_at slots t.opener = wake_at l slots t.opener ∙ not_woken (slot_at slots t.opener) line s.waits w.0 in
          opener_stays slots (wake l slots) line t s (ap (λ (u : Slot). u.regs) same) (ap (λ (u : Slot). u.status) same)

      pub wake_stands : ContextsStand parts parameters (wake l slots) current cache (without_value open_ones l)
      wake_stands = record {
        size = length-wake l slots ∙ stands.size;
        chosen = stands.chosen;
        each = λ i. subst (SlotStands parts parameters cache (without_value open_ones l)) (sym (wake_at l slots i)) (woken_stands (slot_at slots i) (stands.each i));
        opened = left_stand;
      }

      -- where there is none, nobody waits on the line
      pub none_stands : value_at open_ones l ≡ None → ContextsStand parts parameters slots current cache (without_value open_ones l)
      none_stands none = record {
        size = stands.size;
        chosen = stands.chosen;
        each = λ i. slot_stays cache cache open_ones (without_value open_ones l) (slot_at slots i) (stands.each i)
            (λ line e is. without_some open_ones l line (λ same. false≢true (sym (ap (λ k. is_some (value_at open_ones k)) same ∙ ap is_some none) ∙ is)) is)
            (λ line mode e is. is);
        opened = λ line t e. stands.opened line t (without_is open_ones l line t e).1;
      }

      -- the opener is given a hold, where there is a copy of the transaction's mode
      module _ (t : Transaction) (s : TransactionStands parts slots l t) (granted : is_some (granted_copy parameters.sets cache l t.mode) ≡ true) where
        abbrev left : Transactions
        left = without_value open_ones l

        abbrev next : Slot
        next = record (slot_at (wake l slots) t.opener) { hold = Some l }

        woken_all : ContextsStand parts parameters (wake l slots) current cache left
        woken_all = wake_stands

        fits : t.opener < length (wake l slots)
        fits = subst (λ n. t.opener < n) (sym woken_all.size) s.opener

        is_woken : slot_at (wake l slots) t.opener ≡ record (slot_at slots t.opener) { status = Ready }
        is_woken = wake_at l slots t.opener ∙ ap (λ b. cond b (record (slot_at slots t.opener) { status = Ready }) (slot_at slots t.opener)) s.waits

        next_holds : HoldStands parts parameters cache next l
        next_holds = record {
          ready = ap (λ (u : Slot). u.status) is_woken;
          mode = t.mode;
          need = ap (λ (u : Slot). need_of parts.code u.regs (line_count parts)) is_woken ∙ s.need;
          granted = granted;
        }

        next_stands : SlotStands parts parameters cache left next
        next_stands = record {
          waits = (woken_all.each t.opener).waits;
          holds = λ line e. let same : l ≡ line = cc in subst (λ k. HoldStands parts parameters cache next k) same next_holds;
          trapped = (woken_all.each t.opener).trapped;
        }

        pub hold_stands : ContextsStand parts parameters (give_hold l t.opener (wake l slots)) current cache left
        hold_stands = record {
          size = length-set (wake l slots) t.opener next ∙ woken_all.size;
          chosen = stands.chosen;
          each = λ i. subst (SlotStands parts parameters cache left) (sym (read_set (wake l slots) t.opener next no_slot i fits))
              (at_nodes (λ k u. SlotStands parts parameters cache left u) (slot_at (wake l slots)) t.opener next next_stands (λ k other. woken_all.each k) i);
          opened = λ line u e. opener_stays (wake l slots) (give_hold l t.opener (wake l slots)) line u (woken_all.opened line u e) (hold_regs l t.opener (wake l slots) u.opener) (hold_status l t.opener (wake l slots) u.opener);
        }
