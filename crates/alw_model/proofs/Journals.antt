-- Laws of journals: a journal and one more entry, its front, and what is read off it; legal journals are those that the test takes.
use Rattle.std.proofs.Common.{◌≡◌, ℕ, zero, suc, Bool, true, false, ◌&&◌, IsTrue, List, [], ◌∷◌, ◌++◌, take, refl, ap, ◌↔◌, arith}
use Rattle.std.proofs.lemmas.Bool.{false≢true}
use Rattle.std.proofs.lemmas.Bool.Decides.{nat_tests}
use Rattle.alw_msg.specs.declared.events.Entry.{Entry}
use Rattle.alw_image.specs.declared.parts.Parts.{Parts}
use Rattle.alw_image.specs.Parameters.{Parameters}
use Rattle.alw_model.specs.Machine.{MachineState, machine_start, step, after, state, IsNext, AreLegal, IsLegal, is_next, are_legal, is_legal}
use Rattle.alw_model.specs.Runs.{moment_of, moments_from, moments}

pub and_parts : (a b : Bool) → IsTrue (a && b) → IsTrue a × IsTrue b
and_parts true b is = (refl, is)
and_parts false b is = absurd (false≢true is)

pub and_is : (a b : Bool) → IsTrue a → IsTrue b → IsTrue (a && b)
and_is true b p q = q
and_is false b p q = p

module _ (parts : Parts) (parameters : Parameters) where
  pub after-append : (machine : MachineState) (journal more : List Entry) → after parts parameters machine (journal ++ more) ≡ after parts parameters (after parts parameters machine journal) more
  after-append machine [] more = refl
  after-append machine (entry ∷ rest) more = after-append (step parts parameters machine entry.event) rest more

  -- the machine after one more entry
  pub state_push : (journal : List Entry) (entry : Entry) → state parts parameters (journal ++ entry ∷ []) ≡ step parts parameters (state parts parameters journal) entry.event
  unfolding state
  state_push journal entry = after-append (machine_start parts) journal (entry ∷ [])

  pub moments_from-append : (machine : MachineState) (journal more : List Entry) → moments_from parts parameters machine (journal ++ more) ≡ moments_from parts parameters machine journal ++ moments_from parts parameters (after parts parameters machine journal) more
  moments_from-append machine [] more = refl
  moments_from-append machine (entry ∷ rest) more = ap (λ run. moment_of parts parameters machine entry ∷ run) (moments_from-append (step parts parameters machine entry.event) rest more)

  -- the events of a journal and one more entry
  pub moments_push : (journal : List Entry) (entry : Entry) → moments parts parameters (journal ++ entry ∷ []) ≡ moments parts parameters journal ++ moment_of parts parameters (state parts parameters journal) entry ∷ []
  unfolding moments state
  moments_push journal entry = moments_from-append (machine_start parts) journal (entry ∷ [])

  are_legal-append : (machine : MachineState) (journal : List Entry) (entry : Entry) → AreLegal parts parameters machine journal → IsNext parts parameters (after parts parameters machine journal) entry → AreLegal parts parameters machine (journal ++ entry ∷ [])
  are_legal-append machine [] entry legal next = (next, tt)
  are_legal-append machine (first ∷ rest) entry (h, legal) next = (h, are_legal-append (step parts parameters machine first.event) rest entry legal next)

  -- a legal journal and its next entry
  pub legal_push : (journal : List Entry) (entry : Entry) → IsLegal parts parameters journal → IsNext parts parameters (state parts parameters journal) entry → IsLegal parts parameters (journal ++ entry ∷ [])
  unfolding state
  legal_push journal entry legal next = are_legal-append (machine_start parts) journal entry legal next

  are_legal_take : (n : ℕ) (machine : MachineState) (journal : List Entry) → AreLegal parts parameters machine journal → AreLegal parts parameters machine (take n journal)
  are_legal_take zero machine journal legal = tt
  are_legal_take (suc n) machine [] legal = tt
  are_legal_take (suc n) machine (entry ∷ rest) (h, legal) = (h, are_legal_take n (step parts parameters machine entry.event) rest legal)

  -- a front of a legal journal
  pub legal_take : (n : ℕ) (journal : List Entry) → IsLegal parts parameters journal → IsLegal parts parameters (take n journal)
  legal_take n journal legal = are_legal_take n (machine_start parts) journal legal

  next_by_test : (machine : MachineState) (entry : Entry) → IsTrue (is_next parts parameters machine entry) → IsNext parts parameters machine entry
  next_by_test machine entry is = record { enabled = grind (arith, nat_tests); within = grind (arith, nat_tests); stamp = grind (arith, nat_tests) }

  test_of_next : (machine : MachineState) (entry : Entry) → IsNext parts parameters machine entry → IsTrue (is_next parts parameters machine entry)
  test_of_next machine entry next = grind (arith, nat_tests, next.enabled, next.within, next.stamp)

  legal_by_test : (machine : MachineState) (journal : List Entry) → IsTrue (are_legal parts parameters machine journal) → AreLegal parts parameters machine journal
  legal_by_test machine [] is = tt
  legal_by_test machine (entry ∷ rest) is =
      let parts_of = and_parts (is_next parts parameters machine entry) (are_legal parts parameters (step parts parameters machine entry.event) rest) is in
      (next_by_test machine entry parts_of.0, legal_by_test (step parts parameters machine entry.event) rest parts_of.1)

  test_of_legal : (machine : MachineState) (journal : List Entry) → AreLegal parts parameters machine journal → IsTrue (are_legal parts parameters machine journal)
  test_of_legal machine [] legal = refl
  test_of_legal machine (entry ∷ rest) (h, legal) = and_is _ _ (test_of_next machine entry h) (test_of_legal (step parts parameters machine entry.event) rest legal)

  -- a journal is legal exactly where the test says so
  pub tested_legal : (journal : List Entry) → IsTrue (is_legal parts parameters journal) ↔ IsLegal parts parameters journal
  unfolding is_legal
  tested_legal journal = (legal_by_test (machine_start parts) journal, test_of_legal (machine_start parts) journal)
