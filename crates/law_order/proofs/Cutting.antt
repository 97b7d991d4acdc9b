-- A legal journal cut at a stamp: each later entry passes those that are kept.
use Rattle.std.proofs.Common.{◌≡◌, ℕ, ◌≤◌, nat_le, nat_lt, Bool, true, false, cond, List, [], ◌∷◌, ◌++◌, refl, ◌∙◌, arith}
use Rattle.std.specs.List.{AllByRecursion}
use Rattle.std.specs.List.Sorted.{IsPermutation}
use Rattle.std.proofs.lemmas.List.Sorted.{IsPermutation-refl, IsPermutation-sym, IsPermutation-trans, IsPermutation-cons, IsPermutation-middle}
use Rattle.std.proofs.lemmas.Bool.Decides.{nat_tests}
use Rattle.alw_msg.specs.declared.events.Entry.{Entry}
use Rattle.alw_image.specs.declared.parts.Parts.{Parts}
use Rattle.alw_image.specs.Parameters.{Parameters}
use Rattle.alw_model.specs.Machine.{MachineState, step, after, AreLegal}
use Rattle.law_order.specs.Orders.{kept_by, later_than}
use Rattle.law_order.specs.Aims.{IsAimed}
use Rattle.law_order.proofs.Aimed.{step_aimed}
use Rattle.law_order.proofs.Sorting.{LeavesSame, swap_legal}

kept_le : (t : ℕ) (journal : List Entry) → AllByRecursion (λ (entry : Entry). entry.stamp ≤ t) (kept_by t journal)
kept_le t [] = tt
kept_le t (entry ∷ rest) = go (nat_le entry.stamp t) refl (kept_le t rest)
  where
    go : (b : Bool) → nat_le entry.stamp t ≡ b → AllByRecursion (λ (entry : Entry). entry.stamp ≤ t) (kept_by t rest) → AllByRecursion (λ (entry : Entry). entry.stamp ≤ t) (cond b (entry ∷ kept_by t rest) (kept_by t rest))
    go true is low = (grind (arith, nat_tests), low)
    go false is low = low

-- the same entries, cut
pub cut_same : (t : ℕ) (journal : List Entry) → IsPermutation journal (kept_by t journal ++ later_than t journal)
cut_same t [] = IsPermutation-refl []
cut_same t (entry ∷ rest) = go (nat_le entry.stamp t) (nat_lt t entry.stamp) refl refl (IsPermutation-cons entry rest (kept_by t rest ++ later_than t rest) (cut_same t rest))
  where
    go : (b c : Bool) → nat_le entry.stamp t ≡ b → nat_lt t entry.stamp ≡ c → IsPermutation (entry ∷ rest) (entry ∷ (kept_by t rest ++ later_than t rest))
        → IsPermutation (entry ∷ rest) (cond b (entry ∷ kept_by t rest) (kept_by t rest) ++ cond c (entry ∷ later_than t rest) (later_than t rest))
    go true true is also same = absurd (grind (arith, nat_tests))
    go false false is also same = absurd (grind (arith, nat_tests))
    go true false is also same = same
    go false true is also same = IsPermutation-trans (entry ∷ rest) (entry ∷ (kept_by t rest ++ later_than t rest)) (kept_by t rest ++ entry ∷ later_than t rest) same
        (IsPermutation-sym (kept_by t rest ++ entry ∷ later_than t rest) (entry ∷ (kept_by t rest ++ later_than t rest)) (IsPermutation-middle (kept_by t rest) entry (later_than t rest)))

module _ (parts : Parts) (parameters : Parameters) where
  -- an entry passes others of which none has a greater stamp
  passes_all : (s : MachineState) (t : ℕ) (e : Entry) (ks rest : List Entry) → IsAimed parts s → t ≤ e.stamp → AllByRecursion (λ (entry : Entry). entry.stamp ≤ t) ks → AreLegal parts parameters s (e ∷ (ks ++ rest)) → LeavesSame parts parameters s (ks ++ e ∷ rest) (e ∷ (ks ++ rest))
  passes_all s t e [] rest aimed above low legal = record { legal = legal; state = refl }
  passes_all s t e (k ∷ ks) rest aimed above low legal =
      let swap = swap_legal parts parameters s e k (ks ++ rest) aimed legal (omega (arith, low.0)) in
      let deeper = passes_all (step parts parameters s k.event) t e ks rest (step_aimed parts parameters s k.event swap.legal.0.enabled aimed) above low.1 swap.legal.1 in
      record { legal = (swap.legal.0, deeper.legal); state = deeper.state ∙ swap.state }

  pub cut_legal : (s : MachineState) (t : ℕ) (journal : List Entry) → IsAimed parts s → AreLegal parts parameters s journal → LeavesSame parts parameters s (kept_by t journal ++ later_than t journal) journal
  cut_legal s t [] aimed legal = record { legal = legal; state = refl }
  cut_legal s t (entry ∷ rest) aimed (next, legal) =
      go (nat_le entry.stamp t) (nat_lt t entry.stamp) refl refl (cut_legal (step parts parameters s entry.event) t rest (step_aimed parts parameters s entry.event next.enabled aimed) legal)
    where
      go : (b c : Bool) → nat_le entry.stamp t ≡ b → nat_lt t entry.stamp ≡ c → LeavesSame parts parameters (step parts parameters s entry.event) (kept_by t rest ++ later_than t rest) rest
          → LeavesSame parts parameters s (cond b (entry ∷ kept_by t rest) (kept_by t rest) ++ cond c (entry ∷ later_than t rest) (later_than t rest)) (entry ∷ rest)
      go true true is also cut = absurd (grind (arith, nat_tests))
      go false false is also cut = absurd (grind (arith, nat_tests))
      go true false is also cut = record { legal = (next, cut.legal); state = cut.state }
      go false true is also cut =
          let passed = passes_all s t entry (kept_by t rest) (later_than t rest) aimed (grind (arith, nat_tests)) (kept_le t rest) (next, cut.legal) in
          record { legal = passed.legal; state = passed.state ∙ cut.state }

  -- the front of a legal list
  pub front_legal : (s : MachineState) (front back : List Entry) → AreLegal parts parameters s (front ++ back) → AreLegal parts parameters s front
  front_legal s [] back legal = tt
  front_legal s (entry ∷ rest) back legal = (legal.0, front_legal (step parts parameters s entry.event) rest back legal.1)

  -- and what comes after it
  pub back_legal : (s : MachineState) (front back : List Entry) → AreLegal parts parameters s (front ++ back) → AreLegal parts parameters (after parts parameters s front) back
  back_legal s [] back legal = legal
  back_legal s (entry ∷ rest) back legal = back_legal (step parts parameters s entry.event) rest back legal.1
