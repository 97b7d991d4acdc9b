-- What a run's outcome says: a miss comes exactly where the copy isn't granted, and a run that stops changes nothing.
use Rattle.std.proofs.Common.{◌≡◌, ◌≢◌, ◌↔◌, ℕ, ◌==◌, Bool, true, false, cond, Option, Some, None, refl, sym, ◌∙◌, ap, subst}
use Rattle.std.proofs.lemmas.Bool.{eqb-true}
use Rattle.alw_num.specs.declared.addresses.Line.{Line}
use Rattle.alw_num.specs.declared.addresses.LineNo.{LineNo}
use Rattle.alw_num.specs.declared.states.Mode.{Mode}
use Rattle.alw_num.specs.declared.states.Mode.TheVariants.{Read, Write}
use Rattle.sparc_table.specs.Meaning.{need, effect, OutcomeIsStill}
use Rattle.sparc_table.proofs.Effects.{IsOrderly}
use Rattle.sparc_table.specs.declared.registers.Regs.{Regs}
use Rattle.sparc_table.specs.declared.outcomes.Need.{Need}
use Rattle.sparc_table.specs.declared.outcomes.Need.TheVariants as needs
use Rattle.sparc_table.specs.declared.outcomes.Outcome.{Outcome}
use Rattle.sparc_table.specs.declared.outcomes.Outcome.TheVariants as ends
use Rattle.sparc_exec.specs.Ports.{Copies, granted, with_copy}
use Rattle.sparc_exec.specs.Runs.{Seen, Same, Completed, IsRunOn, IsRunWith, CopyIsMissing}

-- ---- copies

granted_write : (copy : Option (Mode × Line)) (value : Line) → granted Write copy ≡ Some value → copy ≡ Some (Write, value)
granted_write None value e = cc
granted_write (Some (Read, old)) value e = cc
granted_write (Some (Write, old)) value e = let f : old ≡ value = cc in rw f refl

-- a copy that is written with the value that it has is the same
same_written : (line : ℕ) (value : Line) (copies : Copies) → granted Write (copies line) ≡ Some value → Same (with_copy line value copies) copies
same_written line value copies e l = go (l == line) refl
  where
    go : (b : Bool) → (l == line) ≡ b → copies l ≡ cond b (Some (Write, value)) (copies l)
    go true t = ap copies (eqb-true l line t) ∙ granted_write (copies line) value e
    go false f = refl

-- ---- what stops changes nothing

abbrev Effect : Type 0
Effect = Line → Regs × Line × Outcome

abbrev AreOrderly : Regs → Effect → Type 0
AreOrderly regs effect = (line : Line) → IsOrderly regs line (effect line)

abbrev ChangesNothing : Seen → Seen → Type 0
ChangesNothing before after = (after.regs ≡ before.regs) × Same before.copies after.copies

still_done : (line : LineNo) (mode : Mode) (effect : Effect) (value : Line) (before after : Seen) (outcome : Outcome)
    → AreOrderly before.regs effect → granted mode (before.copies line.0) ≡ Some value → Completed line mode (effect value) before after outcome → OutcomeIsStill outcome → ChangesNothing before after
still_done line Read effect value before after outcome o g h s =
    let k = (o value).still (subst OutcomeIsStill h.0 s) in (h.1 ∙ k.0, h.2)
still_done line Write effect value before after outcome o g h s =
    let k = (o value).still (subst OutcomeIsStill h.0 s) in
    (h.1 ∙ k.0, λ l. h.2 l ∙ (ap (λ (v : Line). with_copy line.0 v before.copies l) k.1 ∙ sym (same_written line.0 value before.copies g l)))

still_on : (found : Option Line) (line : LineNo) (mode : Mode) (effect : Effect) (before after : Seen) (outcome : Outcome)
    → AreOrderly before.regs effect → granted mode (before.copies line.0) ≡ found → IsRunOn found line mode effect before after outcome → OutcomeIsStill outcome → ChangesNothing before after
still_on None line mode effect before after outcome o g h s = (h.1, h.2)
still_on (Some value) line mode effect before after outcome o g h s = still_done line mode effect value before after outcome o g h s

nowhere : Line
nowhere = record { a = 0; b = 0; c = 0; d = 0 }

still_beside : (effect : Effect) (before after : Seen) (outcome : Outcome) → AreOrderly before.regs effect → ((line : Line) → effect line ≡ (after.regs, line, outcome)) → OutcomeIsStill outcome → after.regs ≡ before.regs
still_beside effect before after outcome o h s =
    let e = h nowhere in
    sym (ap (λ (a : Regs × Line × Outcome). a.0) e) ∙ ((o nowhere).still (subst OutcomeIsStill (sym (ap (λ (a : Regs × Line × Outcome). a.2) e)) s)).0

pub still_is : (need : Need) (effect : Effect) (before after : Seen) (outcome : Outcome)
    → AreOrderly before.regs effect → IsRunWith need effect before after outcome → OutcomeIsStill outcome → ChangesNothing before after
still_is (needs.Copy line mode) effect before after outcome o h s = still_on _ line mode effect before after outcome o refl h s
still_is needs.Nothing effect before after outcome o h s = (still_beside effect before after outcome o h.0 s, h.1)
still_is (needs.Trap type) effect before after outcome o h s = (still_beside effect before after outcome o h.0 s, h.1)

-- ---- a miss comes exactly where the copy isn't granted

missed_on : (found : Option Line) (l line : LineNo) (m mode : Mode) (effect : Effect) (before after : Seen) (outcome : Outcome)
    → AreOrderly before.regs effect → granted m (before.copies l.0) ≡ found → IsRunOn found l m effect before after outcome → outcome ≡ ends.Miss line mode → CopyIsMissing (needs.Copy l m) before.copies line mode
missed_on None l line m mode effect before after outcome o g h e =
    let f : ends.Miss l m ≡ ends.Miss line mode = sym h.0 ∙ e in
    let a : l ≡ line = cc in let b : m ≡ mode = cc in
    let n : granted mode (before.copies line.0) ≡ None = rw (← a, ← b) g in (cc, n)
missed_on (Some value) l line Read mode effect before after outcome o g h e = absurd ((o value).found line mode (sym h.0 ∙ e))
missed_on (Some value) l line Write mode effect before after outcome o g h e = absurd ((o value).found line mode (sym h.0 ∙ e))

no_miss : (effect : Effect) (before after : Seen) (outcome : Outcome) → AreOrderly before.regs effect → ((line : Line) → effect line ≡ (after.regs, line, outcome)) → (line : LineNo) (mode : Mode) → outcome ≢ ends.Miss line mode
no_miss effect before after outcome o h line mode e = (o nowhere).found line mode (ap (λ (a : Regs × Line × Outcome). a.2) (h nowhere) ∙ e)

missed_from : (need : Need) (effect : Effect) (before after : Seen) (outcome : Outcome)
    → AreOrderly before.regs effect → IsRunWith need effect before after outcome → (line : LineNo) (mode : Mode) → outcome ≡ ends.Miss line mode → CopyIsMissing need before.copies line mode
missed_from (needs.Copy l m) effect before after outcome o h line mode e = missed_on _ l line m mode effect before after outcome o refl h e
missed_from needs.Nothing effect before after outcome o h line mode e = absurd (no_miss effect before after outcome o h.0 line mode e)
missed_from (needs.Trap type) effect before after outcome o h line mode e = absurd (no_miss effect before after outcome o h.0 line mode e)

missed_to : (need : Need) (effect : Effect) (before after : Seen) (outcome : Outcome)
    → IsRunWith need effect before after outcome → (line : LineNo) (mode : Mode) → CopyIsMissing need before.copies line mode → outcome ≡ ends.Miss line mode
missed_to need effect before after outcome h line mode missing =
    let P : Need → Type 0 = λ n. IsRunWith n effect before after outcome in
    let Q : Option Line → Type 0 = λ found. IsRunOn found line mode effect before after outcome in
    (subst Q missing.1 (subst P missing.0 h)).0

pub missed_is : (need : Need) (effect : Effect) (before after : Seen) (outcome : Outcome)
    → AreOrderly before.regs effect → IsRunWith need effect before after outcome → (line : LineNo) → (mode : Mode) → (outcome ≡ ends.Miss line mode) ↔ CopyIsMissing need before.copies line mode
missed_is need effect before after outcome o h line mode = (missed_from need effect before after outcome o h line mode, missed_to need effect before after outcome h line mode)
