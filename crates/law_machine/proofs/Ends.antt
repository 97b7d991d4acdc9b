-- A run that ends by the limit has a main event enabled beyond it.
use Rattle.std.proofs.Common.{◌≡◌, ℕ, suc, ◌<◌, ◌&&◌, Bool, true, false, cond, Some, None, List, [], ◌∷◌, length, get_or, refl, sym, subst, ◌∙◌, arith}
use Rattle.std.specs.List.{list_any, list_all}
use Rattle.std.proofs.lemmas.Bool.{false≢true}
use Rattle.std.proofs.lemmas.List.Folds.{list_any_at}
use Rattle.law_machine.proofs.Vocabulary.{Status, Ready, Waiting, Halted, Trapped, Parts, IsImage, Parameters, AreParameters, is_halted, has_trapped, Slot, slot_at, no_slot, all_halted}
use Rattle.law_machine.proofs.Vocabulary.{NodeState, MachineState, no_node, node_at, has_halted, is_settled, any_trapped, goes_on, end_of}
use Rattle.alw_model.specs.Machine as machine
use Rattle.law_machine.specs.Endings.{has_ended, may_go_on}
use Rattle.law_machine.proofs.MachineRuns.{IsKept}
use Rattle.law_machine.proofs.Progress.{live_goes, unsettled_goes}

-- where not all pass a test, one doesn't
not_all : {X : Type 0} (test : X → Bool) (d : X) (xs : List X) → list_all test xs ≡ false → (i : ℕ) × ((i < length xs) × (test (get_or xs i d) ≡ false))
not_all test d [] isnt = absurd (false≢true (sym isnt))
not_all test d (x ∷ rest) isnt = go (test x) refl isnt (not_all test d rest)
  where
    go : (b : Bool) → test x ≡ b → (b && list_all test rest) ≡ false → (list_all test rest ≡ false → (i : ℕ) × ((i < length rest) × (test (get_or rest i d) ≡ false))) → (i : ℕ) × ((i < length (x ∷ rest)) × (test (get_or (x ∷ rest) i d) ≡ false))
    go false e isnt more = (0, (omega arith, e))
    go true e isnt more = let r = more isnt in (suc r.0, (omega (arith, r.1.0), r.1.1))

-- a context that is neither halted nor trapped hasn't ended
not_ended : (status : Status) → is_halted status ≡ false → has_trapped status ≡ false → has_ended status ≡ false
not_ended Ready h t = refl
not_ended (Waiting line) h t = refl
not_ended Halted h t = absurd (false≢true (sym h))
not_ended (Trapped pc type) h t = absurd (false≢true (sym t))

module _ (parts : Parts) (image : IsImage parts) (parameters : Parameters) (are : AreParameters parameters) (s : MachineState) (kept : IsKept parts parameters s) where
  -- a context that hasn't halted goes on, where none is trapped
  unhalted_goes : any_trapped s ≡ false → has_halted s ≡ false → may_go_on parts parameters s ≡ true
  unhalted_goes none isnt =
      let n = not_all (λ (node : NodeState). all_halted node.slots) no_node s.nodes isnt in
      let i = not_all (λ (slot : Slot). is_halted slot.status) no_slot (node_at s n.0).slots n.1.1 in
      live_goes parts image parameters are s kept n.0 i.0 (subst (λ k. n.0 < k) kept.has.sound.standing.nodes n.1.0)
      (not_ended (slot_at (node_at s n.0).slots i.0).status i.1.1 (untrapped n.0 i.0 n.1.0 i.1.0 (has_trapped (slot_at (node_at s n.0).slots i.0).status) refl))
    where
      untrapped : (n i : ℕ) → n < length s.nodes → i < length (node_at s n).slots → (b : Bool) → has_trapped (slot_at (node_at s n).slots i).status ≡ b → has_trapped (slot_at (node_at s n).slots i).status ≡ false
      untrapped n i l m false e = e
      untrapped n i l m true e = absurd (false≢true (sym none ∙ list_any_at (λ (node : NodeState). list_any (λ (slot : Slot). has_trapped slot.status) node.slots) s.nodes n no_node l (list_any_at (λ (slot : Slot). has_trapped slot.status) (node_at s n).slots i no_slot m e)))

  pub limit_goes : end_of parts parameters s ≡ Some machine.Limit → may_go_on parts parameters s ≡ true
  limit_goes ends = go (any_trapped s) (has_halted s) (is_settled s) (goes_on parts parameters s) refl refl refl ends
    where
      go : (a b c d : Bool) → any_trapped s ≡ a → has_halted s ≡ b → is_settled s ≡ c → cond a (Some machine.Trapped) (cond (b && c) (Some machine.Halted) (cond d None (Some machine.Limit))) ≡ Some machine.Limit → may_go_on parts parameters s ≡ true
      go true b c d e f g ends = absurd (cc)
      go false true true d e f g ends = absurd (cc)
      go false true false d e f g ends = unsettled_goes parts image parameters are s kept g
      go false false c d e f g ends = unhalted_goes e f
