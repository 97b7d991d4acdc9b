-- Lines of entries tell the entries, by recursion on both journals.
use Rattle.std.proofs.Common.{◌≡◌, ℕ, ◌<◌, List, [], ◌∷◌, ◌++◌, length, slice_index, refl, sym, ap, subst, ◌∙◌, arith, append_assoc}
use Rattle.std.specs.Fmt.{decimal}
use Rattle.std.specs.Char.{digit_value}
use Rattle.std.specs.Str.Parse.{AllDigits}
use Rattle.std.proofs.lemmas.Fmt.{decimal_is_IsNumeral}
use Rattle.alw_msg.specs.declared.events.Entry.{Entry}
use Rattle.alw_image.specs.declared.parts.Parts.{Parts}
use Rattle.alw_image.specs.Images.{IsImage}
use Rattle.alw_image.specs.Parameters.{Parameters, AreParameters}
use Rattle.alw_model.specs.Machine.{MachineState, step, IsNext, AreLegal}
use Rattle.alw_trace.specs.Lines.{IsNumber}
use Rattle.alw_trace.specs.Texts.{event_text}
use Rattle.alw_log.specs.Entries.{event_line}
use Rattle.alw_log.specs.Logs.{lines_from}
use Rattle.law_logs.proofs.Lines.{one_line}
use Rattle.law_logs.proofs.Deeds.{event_whole}
use Rattle.law_logs.proofs.Entries.{BeginsWithEntry, event_front, told_entry}

-- no number begins with a `c`, with which the contexts begin
no_letter : {P : Type 0} (text u v : List ℕ) → 0 < length text → AllDigits 10 text → 99 ∷ u ≡ text ++ v → P
no_letter [] u v some all e = absurd (omega (arith, some))
no_letter (first ∷ rest) u v some all e =
    let same : first ≡ 99 = sym (ap (λ (t : List ℕ). slice_index t 0) e) in
    let digit : digit_value 99 < 10 = subst (λ (byte : ℕ). digit_value byte < 10) same all.0 in
    absurd (omega arith)

no_stamp : {P : Type 0} (n : ℕ) (u v : List ℕ) → IsNumber n → 99 ∷ u ≡ decimal n ++ v → P
no_stamp n u v small e = let numeral = (decimal_is_IsNumeral n small).0 in no_letter (decimal n) u v numeral.0 numeral.1 e

module _ (image : Parts) (is : IsImage image) (parameters : Parameters) (are : AreParameters parameters) where
  front : (machine : MachineState) (entry : Entry) → IsNext image parameters machine entry
      → BeginsWithEntry image parameters machine entry (event_line image parameters machine entry)
  front machine entry next = event_front image parameters machine entry is are next

  -- where the contexts stand, no entry does
  no_entry : {P : Type 0} (machine : MachineState) (entry : Entry) (rest : List Entry) (u v : List ℕ) → IsNext image parameters machine entry
      → 99 ∷ u ≡ lines_from image parameters machine (entry ∷ rest) ++ v → P
  no_entry machine entry rest u v next e =
      let line = front machine entry next in
      let behind = lines_from image parameters (step image parameters machine entry.event) rest in
      no_stamp entry.stamp u ((event_text entry.event ++ 32 ∷ line.rest) ++ (behind ++ v)) line.fits.0
      (e ∙ append_assoc (event_line image parameters machine entry) behind v ∙ ap (λ (t : List ℕ). t ++ (behind ++ v)) line.whole
      ∙ append_assoc (decimal entry.stamp) (event_text entry.event ++ 32 ∷ line.rest) (behind ++ v))

module _ (image other_image : Parts) (is : IsImage image) (also : IsImage other_image) (parameters other_parameters : Parameters)
    (are : AreParameters parameters) (too : AreParameters other_parameters) where
  -- lines of entries before a `c` tell the entries, and what stands behind them
  pub one_journal : (machine other_machine : MachineState) (one other : List Entry) (u v : List ℕ) → AreLegal image parameters machine one
      → AreLegal other_image other_parameters other_machine other
      → lines_from image parameters machine one ++ 99 ∷ u ≡ lines_from other_image other_parameters other_machine other ++ 99 ∷ v
      → (one ≡ other) × (99 ∷ u ≡ 99 ∷ v)
  one_journal machine other_machine [] [] u v legal lawful e = (refl, e)
  one_journal machine other_machine [] (b ∷ other) u v legal lawful e =
      no_entry other_image also other_parameters too other_machine b other u (99 ∷ v) lawful.0 e
  one_journal machine other_machine (a ∷ one) [] u v legal lawful e = no_entry image is parameters are machine a one v (99 ∷ u) legal.0 (sym e)
  one_journal machine other_machine (a ∷ one) (b ∷ other) u v legal lawful e =
      let left = lines_from image parameters (step image parameters machine a.event) one in
      let right = lines_from other_image other_parameters (step other_image other_parameters other_machine b.event) other in
      let here = event_line image parameters machine a in
      let there = event_line other_image other_parameters other_machine b in
      let first = one_line (event_whole image parameters machine a) (event_whole other_image other_parameters other_machine b)
      (sym (append_assoc here left (99 ∷ u)) ∙ e ∙ append_assoc there right (99 ∷ v)) in
      let entry = told_entry image other_image parameters other_parameters machine other_machine a b there
      (subst (BeginsWithEntry image parameters machine a) first.0 (front image is parameters are machine a legal.0))
      (front other_image also other_parameters too other_machine b lawful.0) in
      let rest = one_journal (step image parameters machine a.event) (step other_image other_parameters other_machine b.event) one other u v legal.1
      lawful.1 first.1 in
      (let same : a ∷ one ≡ b ∷ other = cc (entry, rest.0) in same, rest.1)
