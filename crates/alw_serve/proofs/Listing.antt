-- A list of turns on a machine, turn by turn from its start on.
use Rattle.std.proofs.Common.{◌≡◌, ℕ, ◌+◌, ◌*◌, ◌≤◌, true, false, List, [], ◌∷◌, ◌++◌, length, refl, sym, subst, ap, ◌∙◌, arith, append_assoc, append-nil}
use Rattle.std.proofs.Math.Nat.{suc-mul}
use Rattle.alw_image.specs.declared.parts.Parts.{Parts}
use Rattle.alw_image.specs.Parameters.{Parameters}
use Rattle.alw_msg.specs.declared.events.Entry.{Entry}
use Rattle.alw_msg.specs.Statuses.{is_ready, has_trapped}
use Rattle.alw_model.specs.Machine.{MachineState, after}
use Rattle.alw_model.specs.Flat.{Flat, flat_turn, turns_after, turns_ready, flat_start, flat_after, are_ready, AreReady, context_at}
use Rattle.alw_model.proofs.Journals.{after-append, and_is, and_parts}
use Rattle.law_turns.specs.Turns.{greatest_clock, turn_events, NoneTrapsEarly, ServesTurn, ServesTurns}
use Rattle.law_turns.proofs.Fronts.{before_last}

module _ (parts : Parts) (parameters : Parameters) where
  -- one turn more is served behind others
  pub serves_push : (s : MachineState) (turns : List ℕ) (entries : List Entry) (c : ℕ) (piece : List Entry) → ServesTurns parts parameters s turns entries → ServesTurn parts parameters (after parts parameters s entries) c piece
      → ServesTurns parts parameters s (turns ++ c ∷ []) (entries ++ piece)
  serves_push s [] entries c piece served v = subst (λ (es : List Entry). ServesTurns parts parameters s (c ∷ []) (es ++ piece)) (sym served)
      (piece, ([], (append-nil piece, (subst (λ (es : List Entry). ServesTurn parts parameters (after parts parameters s es) c piece) served v, refl))))
  serves_push s (d ∷ turns) entries c piece (first, (more, (all, (w, others)))) v =
      let later = serves_push (after parts parameters s first) turns more c piece others
      (subst (λ (t : MachineState). ServesTurn parts parameters t c piece) (ap (after parts parameters s) (sym all) ∙ after-append parts parameters s first more) v) in
      (first, (more ++ piece, (sym (append_assoc first more piece) ∙ ap (λ (es : List Entry). es ++ piece) all, (w, later))))

  -- and no clock has risen by more than what each turn takes
  pub served_clock : (s : MachineState) (turns : List ℕ) (entries : List Entry) → ServesTurns parts parameters s turns entries → greatest_clock (after parts parameters s entries) ≤ greatest_clock s + length turns * turn_events parts
  served_clock s [] entries served = subst (λ (es : List Entry). greatest_clock (after parts parameters s es) ≤ greatest_clock s + 0 * turn_events parts) (sym served) (omega arith)
  served_clock s (d ∷ turns) entries (first, (more, (all, (w, others)))) =
      let later = served_clock (after parts parameters s first) turns more others in
      let here = w.clocks in
      let more_turns = suc-mul (length turns) (turn_events parts) in
      subst (λ (t : MachineState). greatest_clock t ≤ greatest_clock s + length (d ∷ turns) * turn_events parts) (sym (ap (after parts parameters s) (sym all) ∙ after-append parts parameters s first more)) (omega arith)

-- no context has trapped before one turn more
pub early_push : (parts : Parts) (done : List ℕ) (c : ℕ) → NoneTrapsEarly parts done → ((other : ℕ) → has_trapped (context_at (flat_after parts done) other).status ≡ false) → NoneTrapsEarly parts (done ++ c ∷ [])
early_push parts done c early calm front rest next other is = go (before_last done c front next rest is)
  where
    go : (more : List ℕ) × (front ++ more ≡ done) → has_trapped (context_at (flat_after parts front) other).status ≡ false
    go ([], e) = ap (λ (ts : List ℕ). has_trapped (context_at (flat_after parts ts) other).status) (sym (append-nil front) ∙ e) ∙ calm other
    go (x ∷ more, e) = early front more x other e

ready_one : (parts : Parts) (flat : Flat) (done : List ℕ) (c : ℕ) → turns_ready parts flat done ≡ true → is_ready (context_at (turns_after parts flat done) c).status ≡ true → turns_ready parts flat (done ++ c ∷ []) ≡ true
ready_one parts flat [] c all ready = and_is (is_ready (context_at flat c).status) true ready refl
ready_one parts flat (d ∷ done) c all ready =
    and_is (is_ready (context_at flat d).status) _ (and_parts (is_ready (context_at flat d).status) _ all).0 (ready_one parts (flat_turn parts flat d).0 done c (and_parts (is_ready (context_at flat d).status) _ all).1 ready)

pub ready_push : (parts : Parts) (done : List ℕ) (c : ℕ) → AreReady parts done → is_ready (context_at (flat_after parts done) c).status ≡ true → AreReady parts (done ++ c ∷ [])
unfolding are_ready flat_after
ready_push parts done c all ready = ready_one parts (flat_start parts) done c all ready
