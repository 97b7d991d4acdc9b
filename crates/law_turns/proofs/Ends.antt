-- The start is at rest, and where all contexts have halted, or one has trapped, a machine at rest has ended.
use Rattle.std.proofs.Common.{◌≡◌, ℕ, zero, suc, ◌+◌, ◌*◌, ◌≤◌, ◌&&◌, ◌||◌, Bool, true, false, cond, map, Some, None, List, [], ◌∷◌, get_or, replicate, refl, sym, subst, ap, ◌∙◌, arith}
use Rattle.std.specs.List.{list_all, list_any, range_with_len}
use Rattle.std.proofs.lemmas.Bool.{false≢true}
use Rattle.std.proofs.lemmas.List.Folds.{list_all-append, list_any-append}
use Rattle.std.proofs.Math.Bool.{or-true}
use Rattle.alw_num.specs.Weights.{weigh}
use Rattle.alw_msg.specs.declared.messages.Msg.{Msg}
use Rattle.alw_msg.specs.declared.contexts.Status.{Status}
use Rattle.alw_msg.specs.declared.contexts.Status.TheVariants as statuses
use Rattle.alw_msg.specs.Statuses.{is_halted, has_trapped}
use Rattle.alw_image.specs.declared.parts.Parts.{Parts}
use Rattle.alw_image.specs.Images.{node_count}
use Rattle.alw_image.specs.Parameters.{Parameters}
use Rattle.alw_model.proofs.Journals.{and_parts}
use Rattle.alw_model.specs.Contexts.{Slot, slot_at, slot_start, all_halted}
use Rattle.alw_model.specs.NodeStates.{NodeState, node_start}
use Rattle.alw_model.specs.Machine.{MachineState, machine_start, has_halted, is_settled, goes_on, end_of, Halted, Trapped, Limit}
use Rattle.alw_model.specs.Flat.{Context}
use Rattle.alw_model.specs.Runs.{flat_status, flat_context}
use Rattle.law_machine.specs.FlatRuns.{contexts_of}
use Rattle.law_machine.proofs.ContextRuns.{mapped}
use Rattle.law_machine.proofs.Greatest.{greatest_most}
use Rattle.law_machine.proofs.Runs.{node_at_start, stands_at_start}
use Rattle.law_turns.specs.Turns.{IsAtRest, greatest_clock}
use Rattle.law_turns.proofs.Hefts.{heft, packet_heft}
use Rattle.law_turns.proofs.Resting.{light_settled}

-- ---- the start

weigh_nothing : (f : Msg → ℕ) (k : ℕ) → weigh (weigh f) (replicate k []) ≡ 0
weigh_nothing f zero = refl
weigh_nothing f (suc k) = omega (arith, weigh_nothing f k)

module _ (parts : Parts) where
  weigh_nodes : (f : Msg → ℕ) (low count : ℕ) → weigh (λ (node : NodeState). weigh f node.packets) (map (node_start parts) (range_with_len low count)) ≡ 0
  weigh_nodes f low zero = refl
  weigh_nodes f low (suc count) = omega (arith, weigh_nodes f (low + 1) count)

  pub start_rests : IsAtRest parts (machine_start parts)
  start_rests = record {
    settled = light_settled parts (machine_start parts) (omega (arith, weigh_nothing (heft (node_count parts)) (node_count parts * node_count parts), weigh_nodes (packet_heft (node_count parts)) 0 (node_count parts)));
    free = λ m slot here. ap (λ (u : NodeState). (slot_at u.slots slot).hold) (node_at_start parts m here) ∙ mapped (λ (u : Slot). u.hold ≡ None) (slot_start parts m) 0 parts.contexts slot (λ k. refl) refl;
  }

  pub start_clock : (parameters : Parameters) → greatest_clock (machine_start parts) ≤ 0
  start_clock parameters = greatest_most parts parameters (machine_start parts) (stands_at_start parts parameters) 0 (λ m here. subst (λ (u : NodeState). u.clock ≤ 0) (sym (node_at_start parts m here)) (omega arith))

-- ---- contexts and slots

same_halted : (status : Status) → is_halted (flat_status status) ≡ is_halted status
same_halted statuses.Ready = refl
same_halted (statuses.Waiting line) = refl
same_halted statuses.Halted = refl
same_halted (statuses.Trapped pc tt) = refl

same_trapped : (status : Status) → has_trapped (flat_status status) ≡ has_trapped status
same_trapped statuses.Ready = refl
same_trapped (statuses.Waiting line) = refl
same_trapped statuses.Halted = refl
same_trapped (statuses.Trapped pc tt) = refl

slots_halted : (slots : List Slot) → list_all (λ (context : Context). is_halted context.status) (map flat_context slots) ≡ all_halted slots
slots_halted [] = refl
slots_halted (slot ∷ rest) = λ x. same_halted slot.status x && slots_halted rest x

slots_trapped : (slots : List Slot) → list_any (λ (context : Context). has_trapped context.status) (map flat_context slots) ≡ list_any (λ (slot : Slot). has_trapped slot.status) slots
slots_trapped [] = refl
slots_trapped (slot ∷ rest) = λ x. same_trapped slot.status x || slots_trapped rest x

pub nodes_halted : (nodes : List NodeState) → list_all (λ (context : Context). is_halted context.status) (contexts_of nodes) ≡ list_all (λ (node : NodeState). all_halted node.slots) nodes
nodes_halted [] = refl
nodes_halted (node ∷ rest) = list_all-append (λ (context : Context). is_halted context.status) (map flat_context node.slots) (contexts_of rest) ∙ (λ x. slots_halted node.slots x && nodes_halted rest x)

pub nodes_trapped : (nodes : List NodeState) → list_any (λ (context : Context). has_trapped context.status) (contexts_of nodes) ≡ list_any (λ (node : NodeState). list_any (λ (slot : Slot). has_trapped slot.status) node.slots) nodes
nodes_trapped [] = refl
nodes_trapped (node ∷ rest) = list_any-append (λ (context : Context). has_trapped context.status) (map flat_context node.slots) (contexts_of rest) ∙ (λ x. slots_trapped node.slots x || nodes_trapped rest x)

halted_not_trapped : (contexts : List Context) → list_all (λ (context : Context). is_halted context.status) contexts ≡ true → list_any (λ (context : Context). has_trapped context.status) contexts ≡ false
halted_not_trapped [] all = refl
halted_not_trapped (context ∷ rest) all = go context.status refl all (halted_not_trapped rest)
  where
    go : (status : Status) → context.status ≡ status → (is_halted status && list_all (λ (context : Context). is_halted context.status) rest) ≡ true
        → (list_all (λ (context : Context). is_halted context.status) rest ≡ true → list_any (λ (context : Context). has_trapped context.status) rest ≡ false)
        → (has_trapped context.status || list_any (λ (context : Context). has_trapped context.status) rest) ≡ false
    go statuses.Ready e all more = absurd (false≢true all)
    go (statuses.Waiting line) e all more = absurd (false≢true all)
    go statuses.Halted e all more = ap (λ (st : Status). has_trapped st || list_any (λ (context : Context). has_trapped context.status) rest) e ∙ more all
    go (statuses.Trapped pc tt) e all more = absurd (false≢true all)

pub trapped_among : (contexts : List Context) (d : Context) (i : ℕ) → has_trapped d.status ≡ false → has_trapped (get_or contexts i d).status ≡ true → list_any (λ (context : Context). has_trapped context.status) contexts ≡ true
trapped_among [] d i not is = absurd (false≢true (sym not ∙ is))
trapped_among (context ∷ rest) d zero not is = ap (λ b. b || list_any (λ (context : Context). has_trapped context.status) rest) is
trapped_among (context ∷ rest) d (suc i) not is = ap (λ b. has_trapped context.status || b) (trapped_among rest d i not is) ∙ or-true (has_trapped context.status)

pub trapped_one : (contexts : List Context) (d : Context) → list_any (λ (context : Context). has_trapped context.status) contexts ≡ true → (i : ℕ) × (has_trapped (get_or contexts i d).status ≡ true)
trapped_one [] d is = absurd (false≢true is)
trapped_one (context ∷ rest) d is = go (has_trapped context.status) refl is (trapped_one rest d)
  where
    go : (b : Bool) → has_trapped context.status ≡ b → (b || list_any (λ (context : Context). has_trapped context.status) rest) ≡ true → (list_any (λ (context : Context). has_trapped context.status) rest ≡ true → (i : ℕ) × (has_trapped (get_or rest i d).status ≡ true)) → (i : ℕ) × (has_trapped (get_or (context ∷ rest) i d).status ≡ true)
    go true e is more = (0, e)
    go false e is more = let r = more is in (suc r.0, r.1)

-- where all have halted each has
pub halted_each : (contexts : List Context) (d : Context) (i : ℕ) → is_halted d.status ≡ true → list_all (λ (context : Context). is_halted context.status) contexts ≡ true → is_halted (get_or contexts i d).status ≡ true
halted_each [] d i is all = is
halted_each (context ∷ rest) d zero is all = (and_parts (is_halted context.status) _ all).0
halted_each (context ∷ rest) d (suc i) is all = halted_each rest d i is (and_parts (is_halted context.status) _ all).1

-- ---- ends

module _ (parts : Parts) (parameters : Parameters) (s : MachineState) where
  pub ends_halted : is_settled s ≡ true → list_all (λ (context : Context). is_halted context.status) (contexts_of s.nodes) ≡ true → end_of parts parameters s ≡ Some Halted
  ends_halted settled all =
      let not = sym (nodes_trapped s.nodes) ∙ halted_not_trapped (contexts_of s.nodes) all in
      let halted = sym (nodes_halted s.nodes) ∙ all in
      λ x. cond (not x) (Some Trapped) (cond (halted x && settled x) (Some Halted) (cond (goes_on parts parameters s) None (Some Limit)))

  pub ends_trapped : (d : Context) (i : ℕ) → has_trapped d.status ≡ false → has_trapped (get_or (contexts_of s.nodes) i d).status ≡ true → end_of parts parameters s ≡ Some Trapped
  ends_trapped d i not is =
      let trapped = sym (nodes_trapped s.nodes) ∙ trapped_among (contexts_of s.nodes) d i not is in
      λ x. cond (trapped x) (Some Trapped) (cond (has_halted s && is_settled s) (Some Halted) (cond (goes_on parts parameters s) None (Some Limit)))

  pub ends_any : list_any (λ (context : Context). has_trapped context.status) (contexts_of s.nodes) ≡ true → end_of parts parameters s ≡ Some Trapped
  ends_any is =
      let trapped = sym (nodes_trapped s.nodes) ∙ is in
      λ x. cond (trapped x) (Some Trapped) (cond (has_halted s && is_settled s) (Some Halted) (cond (goes_on parts parameters s) None (Some Limit)))
