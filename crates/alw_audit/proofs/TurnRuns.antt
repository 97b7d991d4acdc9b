-- The turns that are taken, and those that are left, are all.
use Rattle.std.proofs.Common.{◌≡◌, ℕ, ◌+◌, ◌++◌, Bool, true, if◌then◌else◌, List, [], ◌∷◌, refl, sym, ap, ◌∙◌, append_assoc}
use Rattle.sparc_table.specs.Turns.{need_of}
use Rattle.sparc_table.specs.declared.outcomes.Need.{Need}
use Rattle.sparc_table.specs.declared.outcomes.Need.TheVariants as needs
use Rattle.sparc_table.specs.declared.outcomes.Outcome.{Outcome}
use Rattle.alw_msg.specs.Statuses.{is_ready}
use Rattle.alw_image.specs.declared.parts.Parts.{Parts}
use Rattle.alw_image.specs.Images.{line_count}
use Rattle.alw_model.specs.Flat.{Flat, context_at, flat_turn, flat_turn_by, print_of, turns_after, turns_print}
use Rattle.alw_flat.specs.Machines.{for_turns}
use Rattle.alw_audit.specs.declared.verdicts.Difference.TheVariants.{Turn}
use Rattle.alw_audit.specs.declared.verdicts.Verdict.{Verdict}
use Rattle.alw_audit.specs.declared.verdicts.Verdict.TheVariants.{Differs}
use Rattle.alw_audit.specs.Verdicts.{stop_number, turns_verdict}

-- what the turns that are left say, behind those that are taken, is what all say
pub record TurnsAreUnderWay (parts : Parts) (first now : Flat) (turns left : List ℕ) (k : ℕ) (printed prints : List (ℕ × ℕ)) : Type 0 where
  pub verdict : turns_verdict parts now k left ≡ turns_verdict parts first 0 turns
  pub prints_are : prints ++ turns_print parts now left ≡ printed ++ turns_print parts first turns
  pub after : turns_after parts now left ≡ turns_after parts first turns

pub turn_ready : (parts : Parts) (now : Flat) (k context : ℕ) (rest : List ℕ) → is_ready (context_at now context).status ≡ true → turns_verdict parts now k (context ∷ rest) ≡ turns_verdict parts (flat_turn parts now context).0 (k + 1) rest
turn_ready parts now k context rest ready = ap (λ (b : Bool). if b then turns_verdict parts (flat_turn parts now context).0 (k + 1) rest else Differs (Turn k) context (stop_number (context_at now context).status)) ready

pub goes_on : (parts : Parts) (first now next : Flat) (turns left rest : List ℕ) (k context : ℕ) (outcome : Outcome) (printed prints more : List (ℕ × ℕ)) → left ≡ context ∷ rest → is_ready (context_at now context).status ≡ true → next ≡ (flat_turn parts now context).0 → outcome ≡ (flat_turn parts now context).1
    → more ≡ prints ++ print_of context outcome → TurnsAreUnderWay parts first now turns left k printed prints → TurnsAreUnderWay parts first next turns rest (k + 1) printed more
goes_on parts first now next turns left rest k context outcome printed prints more head ready moved ended grown way = record {
  verdict = ap (λ (f : Flat). turns_verdict parts f (k + 1) rest) moved ∙ sym (turn_ready parts now k context rest ready) ∙ ap (turns_verdict parts now k) (sym head) ∙ way.verdict;
  prints_are = ap (λ (f : Flat). more ++ turns_print parts f rest) moved
      ∙ ap (λ (m : List (ℕ × ℕ)). m ++ turns_print parts (flat_turn parts now context).0 rest) (grown ∙ ap (λ (o : Outcome). prints ++ print_of context o) ended)
      ∙ append_assoc prints (print_of context (flat_turn parts now context).1) (turns_print parts (flat_turn parts now context).0 rest)
      ∙ ap (λ (l : List ℕ). prints ++ turns_print parts now l) (sym head) ∙ way.prints_are;
  after = ap (λ (f : Flat). turns_after parts f rest) moved ∙ ap (turns_after parts now) (sym head) ∙ way.after;
}

-- ---- turns read the code and the sizes alone

same_by : (parts : Parts) (flat : Flat) (context : ℕ) (n : Need) → flat_turn_by (for_turns parts) flat context n ≡ flat_turn_by parts flat context n
same_by parts flat context (needs.Copy line mode) = refl
same_by parts flat context needs.Nothing = refl
same_by parts flat context (needs.Trap tt) = refl

pub same_turn : (parts : Parts) (flat : Flat) (context : ℕ) → flat_turn (for_turns parts) flat context ≡ flat_turn parts flat context
same_turn parts flat context = same_by parts flat context (need_of parts.code (context_at flat context).regs (line_count parts))

pub same_verdict : (parts : Parts) (flat : Flat) (k : ℕ) (turns : List ℕ) → turns_verdict (for_turns parts) flat k turns ≡ turns_verdict parts flat k turns
same_verdict parts flat k [] = refl
same_verdict parts flat k (context ∷ rest) =
    ap (λ (v : Verdict). if is_ready (context_at flat context).status then v else Differs (Turn k) context (stop_number (context_at flat context).status))
    (ap (λ (d : Flat × Outcome). turns_verdict (for_turns parts) d.0 (k + 1) rest) (same_turn parts flat context) ∙ same_verdict parts (flat_turn parts flat context).0 (k + 1) rest)

pub same_after : (parts : Parts) (flat : Flat) (turns : List ℕ) → turns_after (for_turns parts) flat turns ≡ turns_after parts flat turns
same_after parts flat [] = refl
same_after parts flat (context ∷ rest) = ap (λ (d : Flat × Outcome). turns_after (for_turns parts) d.0 rest) (same_turn parts flat context) ∙ same_after parts (flat_turn parts flat context).0 rest

pub same_prints : (parts : Parts) (flat : Flat) (turns : List ℕ) → turns_print (for_turns parts) flat turns ≡ turns_print parts flat turns
same_prints parts flat [] = refl
same_prints parts flat (context ∷ rest) =
    ap (λ (d : Flat × Outcome). print_of context d.1 ++ turns_print (for_turns parts) d.0 rest) (same_turn parts flat context)
    ∙ ap (λ (ps : List (ℕ × ℕ)). print_of context (flat_turn parts flat context).1 ++ ps) (same_prints parts (flat_turn parts flat context).0 rest)
