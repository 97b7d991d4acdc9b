-- What stands of a node's contexts and transactions while a machine runs: who waits, who opened what, and who holds a line.
use Rattle.std.proofs.Common.{◌≡◌, ◌≢◌, ℕ, zero, suc, ◌<◌, ◌==◌, ◌||◌, true, false, Some, List, [], ◌∷◌, length, refl, sym, ap, ◌∙◌}
use Rattle.std.specs.Prelude.{is_some}
use Rattle.std.proofs.Math.Bool.{or-true}
use Rattle.std.proofs.lemmas.Bool.{eq-eqb, ne_eqb, eqb-true}
use Rattle.law_machine.proofs.Vocabulary.{Mode, need_of, Status, Ready, Waiting, Halted, Trapped, Parts, line_count, Parameters, value_at, passes, Cache, Transaction, Transactions, granted_copy}
use Rattle.law_machine.proofs.Vocabulary.{is_ready, waits_on, Slot, slot_at, woken, wake, give_hold, is_held, NodeState, trapped_rightly}
use Rattle.sparc_table.specs.declared.outcomes.Need.TheVariants as needs

-- a slot that holds a line is Ready, its next instruction needs the line, and there is a copy that grants it
pub record HoldStands (parts : Parts) (parameters : Parameters) (cache : Cache) (slot : Slot) (line : ℕ) : Type 0 where
  pub ready : slot.status ≡ Ready
  pub mode : Mode
  pub need : need_of parts.code slot.regs (line_count parts) ≡ needs.Copy (record { 0 = line }) mode
  pub granted : is_some (granted_copy parameters.sets cache line mode) ≡ true

-- a slot waits on a line with a transaction, holds as above, and is trapped at its pc
pub record SlotStands (parts : Parts) (parameters : Parameters) (cache : Cache) (open_ones : Transactions) (slot : Slot) : Type 0 where
  pub waits : (line : ℕ) → waits_on line slot.status ≡ true → is_some (value_at open_ones line) ≡ true
  pub holds : (line : ℕ) → slot.hold ≡ Some line → HoldStands parts parameters cache slot line
  pub trapped : trapped_rightly slot.regs.pc slot.status ≡ true

-- the slot that opened a transaction exists, waits on its line, and needs it in the transaction's mode
pub record TransactionStands (parts : Parts) (slots : List Slot) (line : ℕ) (opened : Transaction) : Type 0 where
  pub waits : waits_on line (slot_at slots opened.opener).status ≡ true
  pub need : need_of parts.code (slot_at slots opened.opener).regs (line_count parts) ≡ needs.Copy (record { 0 = line }) opened.mode
  pub opener : opened.opener < parts.contexts

-- all slots and all transactions of a node
pub record ContextsStand (parts : Parts) (parameters : Parameters) (slots : List Slot) (current : ℕ) (cache : Cache) (open_ones : Transactions) : Type 0 where
  pub size : length slots ≡ parts.contexts
  pub chosen : current < parts.contexts
  pub each : (i : ℕ) → SlotStands parts parameters cache open_ones (slot_at slots i)
  pub opened : (line : ℕ) (transaction : Transaction) → value_at open_ones line ≡ Some transaction → TransactionStands parts slots line transaction

-- the same of a node
abbrev pub NodeContexts : Parts → Parameters → NodeState → Type 0
NodeContexts parts parameters node = ContextsStand parts parameters node.slots node.current node.cache node.transactions

-- ---- statuses

pub ready_not_waiting : (line : ℕ) (status : Status) → is_ready status ≡ true → waits_on line status ≡ true → ⊥
ready_not_waiting line Ready ready waits = cc
ready_not_waiting line (Waiting other) ready waits = cc
ready_not_waiting line Halted ready waits = cc
ready_not_waiting line (Trapped pc tt) ready waits = cc

-- a slot waits on one line
pub waits_once : (one other : ℕ) (status : Status) → waits_on one status ≡ true → other ≢ one → waits_on other status ≡ false
waits_once one other Ready waits apart = refl
waits_once one other (Waiting line) waits apart = ne_eqb line.0 other (λ same. apart (sym same ∙ eqb-true line.0 one waits))
waits_once one other Halted waits apart = refl
waits_once one other (Trapped pc tt) waits apart = refl

-- ---- slots by number

pub wake_at : (line : ℕ) (slots : List Slot) (i : ℕ) → slot_at (wake line slots) i ≡ woken line (slot_at slots i)
wake_at line [] i = refl
wake_at line (slot ∷ rest) zero = refl
wake_at line (slot ∷ rest) (suc i) = wake_at line rest i

pub length-wake : (line : ℕ) (slots : List Slot) → length (wake line slots) ≡ length slots
length-wake line [] = refl
length-wake line (slot ∷ rest) = ap suc (length-wake line rest)

-- a hold changes neither registers nor status
pub hold_regs : (line opener : ℕ) (slots : List Slot) (i : ℕ) → (slot_at (give_hold line opener slots) i).regs ≡ (slot_at slots i).regs
hold_regs line opener [] i = refl
hold_regs line zero (slot ∷ rest) zero = refl
hold_regs line zero (slot ∷ rest) (suc i) = refl
hold_regs line (suc opener) (slot ∷ rest) zero = refl
hold_regs line (suc opener) (slot ∷ rest) (suc i) = hold_regs line opener rest i

pub hold_status : (line opener : ℕ) (slots : List Slot) (i : ℕ) → (slot_at (give_hold line opener slots) i).status ≡ (slot_at slots i).status
hold_status line opener [] i = refl
hold_status line zero (slot ∷ rest) zero = refl
hold_status line zero (slot ∷ rest) (suc i) = refl
hold_status line (suc opener) (slot ∷ rest) zero = refl
hold_status line (suc opener) (slot ∷ rest) (suc i) = hold_status line opener rest i

-- the line that a slot holds is held
pub hold_held : (slots : List Slot) (i line : ℕ) → (slot_at slots i).hold ≡ Some line → is_held slots line ≡ true
hold_held [] i line e = absurd (cc)
hold_held (slot ∷ rest) zero line e = ap (λ o. passes (λ held. held == line) o || is_held rest line) e ∙ ap (λ b. b || is_held rest line) (eq-eqb line line refl)
hold_held (slot ∷ rest) (suc i) line e = ap (λ b. passes (λ held. held == line) slot.hold || b) (hold_held rest i line e) ∙ or-true (passes (λ held. held == line) slot.hold)
