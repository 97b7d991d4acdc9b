-- A journal that is made event by event: before its first entry, and with one entry more where no end holds yet.
use Rattle.std.proofs.Common.{◌≡◌, ℕ, ◌≤◌, false, None, List, [], ◌∷◌, ◌++◌, length, take, ap, ◌∙◌, arith, length-append}
use Rattle.std.specs.List.{AllByRecursion}
use Rattle.std.proofs.lemmas.List.{take-append-le, take_all}
use Rattle.alw_num.proofs.Weigh.{cases_lt_then}
use Rattle.alw_msg.specs.declared.events.Entry.{Entry}
use Rattle.alw_msg.specs.Events.{is_evict}
use Rattle.alw_image.specs.declared.parts.Parts.{Parts}
use Rattle.alw_image.specs.Parameters.{Parameters}
use Rattle.alw_model.specs.Machine.{state, end_of}
use Rattle.alw_model.specs.Headline.{IsScheduled}

-- what holds of each entry, and of one more, holds of all
all_more : (P : Entry → Type 0) (journal : List Entry) (entry : Entry) → AllByRecursion P journal → P entry → AllByRecursion P (journal ++ entry ∷ [])
all_more P [] entry all one = (one, tt)
all_more P (first ∷ rest) entry (h, all) one = (h, all_more P rest entry all one)

module _ (parts : Parts) (parameters : Parameters) where
  pub scheduled_none : IsScheduled parts parameters []
  scheduled_none = record { unended = λ n few. absurd (omega arith); evicts = λ none. tt }

  pub scheduled_more : (journal : List Entry) (entry : Entry) → IsScheduled parts parameters journal →
      end_of parts parameters (state parts parameters journal) ≡ None →
      (parameters.evict ≡ 0 → is_evict entry.event ≡ false) → IsScheduled parts parameters (journal ++ entry ∷ [])
  scheduled_more journal entry scheduled going kept = record {
    unended = λ n few. by_place n (omega (arith, few, length-append journal (entry ∷ [])));
    evicts = λ none. all_more (λ (e : Entry). is_evict e.event ≡ false) journal entry (scheduled.evicts none) (kept none);
  }
    where
      by_place : (n : ℕ) → n ≤ length journal → end_of parts parameters (state parts parameters (take n (journal ++ entry ∷ []))) ≡ None
      by_place n within =
          ap (λ (j : List Entry). end_of parts parameters (state parts parameters j)) (take-append-le n journal (entry ∷ []) within)
          ∙ cases_lt_then (length journal) n (scheduled.unended n)
          (λ all. ap (λ (j : List Entry). end_of parts parameters (state parts parameters j)) (take_all n journal all) ∙ going)
