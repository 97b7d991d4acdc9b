-- What remains at all nodes tells whether a context has trapped, whether all have halted, and whether a packet waits.
use Rattle.std.proofs.Common.{◌≡◌, ℕ, zero, suc, ◌+◌, ◌==◌, Bool, true, false, not, ◌&&◌, ◌||◌, List, [], ◌∷◌, length, refl, sym, ap, ◌∙◌, arith}
use Rattle.std.specs.List.{list_any, list_all}
use Rattle.std.proofs.lemmas.Bool.{ne_eqb}
use Rattle.alw_num.specs.Weights.{digit, weigh}
use Rattle.alw_msg.specs.declared.messages.Msg.{Msg}
use Rattle.alw_msg.specs.Statuses.{is_halted, has_trapped}
use Rattle.alw_msg.specs.Lists.{is_nonempty}
use Rattle.alw_model.specs.Contexts.{Slot}
use Rattle.alw_model.specs.NodeStates.{NodeState}
use Rattle.alw_model.specs.Machine.{MachineState, any_trapped, has_halted}
use Rattle.alw_tally.specs.declared.remains.Remains.{Remains}
use Rattle.alw_tally.specs.Remaining.{remains_of}

sum_is_none : (a b : ℕ) → (a + b == 0) ≡ ((a == 0) && (b == 0))
sum_is_none zero b = ap (λ n. n == 0) (let e : 0 + b ≡ b = omega arith in e)
sum_is_none (suc a) b = ne_eqb (suc a + b) 0 (λ e. omega arith) ∙ sym (ap (λ test. test && (b == 0)) (ne_eqb (suc a) 0 (λ e. omega arith)))

not_both : (a b : Bool) → not (a && b) ≡ (not a || not b)
not_both true b = refl
not_both false b = refl

module _ {X : Type 0} where
  -- all members pass where nothing is counted of any
  all_none : (test : X → Bool) (f : X → ℕ) → ((x : X) → test x ≡ (f x == 0)) → (xs : List X) → list_all test xs ≡ (weigh f xs == 0)
  all_none test f is [] = refl
  all_none test f is (x ∷ rest) = rw (is x, all_none test f is rest) (sym (sum_is_none (f x) (weigh f rest)))

  -- some member passes where something is counted of one
  any_some : (test : X → Bool) (f : X → ℕ) → ((x : X) → test x ≡ not (f x == 0)) → (xs : List X) → list_any test xs ≡ not (weigh f xs == 0)
  any_some test f is [] = refl
  any_some test f is (x ∷ rest) =
      rw (is x, any_some test f is rest) (sym (ap not (sum_is_none (f x) (weigh f rest)) ∙ not_both (f x == 0) (weigh f rest == 0)))

digit_none : (test : Bool) → test ≡ (digit (not test) == 0)
digit_none true = refl
digit_none false = refl

digit_some : (test : Bool) → test ≡ not (digit test == 0)
digit_some true = refl
digit_some false = refl

length_some : (packets : List Msg) → is_nonempty packets ≡ not (length packets == 0)
length_some [] = refl
length_some (msg ∷ rest) = sym (ap not (ne_eqb (length (msg ∷ rest)) 0 (λ e. omega arith)))

not_not : (test : Bool) → not (not test) ≡ test
not_not true = refl
not_not false = refl

module _ (all : Remains) (machine : MachineState) (are : all ≡ remains_of machine.nodes) where
  -- a context has trapped
  pub trapped_is : not (all.trapped == 0) ≡ any_trapped machine
  trapped_is =
      let in_node = λ (node : NodeState). any_some _ _ (λ (slot : Slot). digit_some (has_trapped slot.status)) node.slots in
      ap (λ (r : Remains). not (r.trapped == 0)) are ∙ sym (any_some _ _ in_node machine.nodes)

  -- every context has halted
  pub halted_is : (all.live == 0) ≡ has_halted machine
  halted_is =
      let in_node = λ (node : NodeState). all_none _ _ (λ (slot : Slot). digit_none (is_halted slot.status)) node.slots in
      ap (λ (r : Remains). r.live == 0) are ∙ sym (all_none _ _ in_node machine.nodes)

  -- no packet waits
  pub handled_is : (all.packets == 0) ≡ not (list_any (λ (node : NodeState). is_nonempty node.packets) machine.nodes)
  handled_is =
      let some = any_some _ _ (λ (node : NodeState). length_some node.packets) machine.nodes in
      ap (λ (r : Remains). r.packets == 0) are ∙ sym (ap not some ∙ not_not _)
