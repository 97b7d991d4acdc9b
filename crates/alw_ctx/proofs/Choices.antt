-- The first number of a range that passes a test, and which slot runs.
use Rattle.std.proofs.Common.{◌≡◌, ℕ, zero, suc, ◌+◌, ◌<◌, ◌≤◌, ◌%◌, Bool, true, false, ◌==◌, Some, None, find, List, length, map, take, refl, sym, ap, subst, ◌∙◌, ◌⊎◌, inl, inr, arith}
use Rattle.std.proofs.Math.Nat.{mod-eq_of_lt}
use Rattle.std.proofs.lemmas.Bool.{cases_lt}
use Rattle.std.specs.List.{range_with_len, list_all}
use Rattle.std.proofs.lemmas.List.{get_or_default, take_all}
use Rattle.std.proofs.lemmas.List.Folds.{list_any_none, list_any-from_Any, list_all_at, list_all_more}
use Rattle.alw_num.specs.Maps.{passes}
use Rattle.alw_msg.specs.Statuses.{is_ready, is_halted}
use Rattle.alw_model.specs.Contexts.{Slot, no_slot, slot_at, running, turn_order, is_held, all_halted}

find_first : (p : ℕ → Bool) (f : ℕ → ℕ) (a n k : ℕ) → a ≤ k → k < a + n → ((j : ℕ) → a ≤ j → j < k → p (f j) ≡ false) → p (f k) ≡ true → find p (map f (range_with_len a n)) ≡ Some (f k)
find_first p f a zero k l m before here = absurd (omega arith)
find_first p f a (suc n) k l m before here = go (λ l. find_first p f (a + 1) n k (omega arith) (omega arith) (λ j l m. before j (omega arith) m) here) (cases_lt a k)
  where
    go : (a < k → find p (map f (range_with_len (a + 1) n)) ≡ Some (f k)) → (a < k) ⊎ (k ≤ a) → find p (map f (range_with_len a (suc n))) ≡ Some (f k)
    go next (inl l) = rw (before a (omega arith) l) (next l)
    go next (inr m) = let same : a ≡ k = omega arith in rw (same, here) refl

find_none : (p : ℕ → Bool) (f : ℕ → ℕ) (a n : ℕ) → ((j : ℕ) → a ≤ j → j < a + n → p (f j) ≡ false) → find p (map f (range_with_len a n)) ≡ None
find_none p f a zero none = refl
find_none p f a (suc n) none = rw (none a (omega arith) (omega arith)) (find_none p f (a + 1) n (λ j l m. none j (omega arith) (omega arith)))

-- the slot is Ready
abbrev pub ready_at : List Slot → ℕ → Bool
ready_at slots slot = is_ready (slot_at slots slot).status

-- the first slot in the turn's order that is Ready runs
pub runs : (slots : List Slot) (current n k : ℕ) → length slots ≡ n → k < n → ((j : ℕ) → j < k → ready_at slots ((current + j) % n) ≡ false) → ready_at slots ((current + k) % n) ≡ true → Some ((current + k) % n) ≡ running slots current
runs slots current n k size l before here =
    sym (ap (λ m. find (ready_at slots) (turn_order current m)) size ∙ find_first (ready_at slots) (λ j. (current + j) % n) 0 n k (omega arith) (omega arith) (λ j _ m. before j m) here)

pub runs_none : (slots : List Slot) (current n : ℕ) → length slots ≡ n → ((j : ℕ) → j < n → ready_at slots ((current + j) % n) ≡ false) → None ≡ running slots current
runs_none slots current n size none =
    sym (ap (λ m. find (ready_at slots) (turn_order current m)) size ∙ find_none (ready_at slots) (λ j. (current + j) % n) 0 n (λ j _ m. none j (omega arith)))

-- the current slot is the first in the turn's order
pub first_is : (slots : List Slot) (current n : ℕ) (b : Bool) → current < n → ready_at slots current ≡ b → (j : ℕ) → j < 1 → ready_at slots ((current + j) % n) ≡ b
first_is slots current n b l here j m =
    let at : (current + j) % n ≡ current = ap (λ k. k % n) (omega arith) ∙ mod-eq_of_lt l in
    ap (ready_at slots) at ∙ here

pub runs_first : (slots : List Slot) (current n : ℕ) → length slots ≡ n → current < n → ready_at slots current ≡ true → Some current ≡ running slots current
runs_first slots current n size l here =
    let at : (current + 0) % n ≡ current = ap (λ k. k % n) (omega arith) ∙ mod-eq_of_lt l in
    subst (λ k. Some k ≡ running slots current) at (runs slots current n 0 size (omega arith) (λ j m. absurd (omega arith)) (first_is slots current n true l here 0 (omega arith)))

-- the slot has a hold on the line
abbrev pub holds_on : ℕ → Slot → Bool
holds_on line slot = passes (λ held. held == line) slot.hold

pub held_by : (slots : List Slot) (line i : ℕ) → i < length slots → holds_on line (slot_at slots i) ≡ true → true ≡ is_held slots line
held_by slots line i l here = sym (list_any-from_Any (holds_on line) slots (i, slot_at slots i, l, get_or_default slots i (slot_at slots i) no_slot l, here))

pub held_by_none : (slots : List Slot) (line n : ℕ) → length slots ≡ n → ((i : ℕ) → i < n → holds_on line (slot_at slots i) ≡ false) → false ≡ is_held slots line
held_by_none slots line n size none = sym (list_any_none (holds_on line) slots (λ k d l. ap (holds_on line) (get_or_default slots k d no_slot l) ∙ none k (omega arith)))

-- the slot's context has halted
abbrev pub halted_in : Slot → Bool
halted_in slot = is_halted slot.status

pub live_by : (slots : List Slot) (i : ℕ) → i < length slots → halted_in (slot_at slots i) ≡ false → false ≡ all_halted slots
live_by slots i l here = sym (list_all_at halted_in slots i no_slot l here)

pub halted_more : (slots : List Slot) (i : ℕ) → i < length slots → list_all halted_in (take i slots) ≡ true → halted_in (slot_at slots i) ≡ true → list_all halted_in (take (i + 1) slots) ≡ true
halted_more slots i l before here = list_all_more halted_in slots i no_slot l ∙ (rw (before, here) refl)

pub halted_by : (slots : List Slot) (n : ℕ) → length slots ≤ n → list_all halted_in (take n slots) ≡ true → true ≡ all_halted slots
halted_by slots n all halted = sym (ap (list_all halted_in) (sym (take_all n slots all)) ∙ halted)
