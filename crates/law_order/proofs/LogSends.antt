-- What logs took and sent, one entry on.
use Rattle.std.proofs.Common.{◌≡◌, ℕ, ◌≤◌, ◌==◌, Bool, true, false, cond, Some, List, [], ◌∷◌, ◌++◌, map, refl, sym, subst, ap, ◌∙◌, arith}
use Rattle.std.specs.Prelude.{filter, option_to_list}
use Rattle.std.specs.List.{AllByRecursion}
use Rattle.std.proofs.lemmas.Bool.{eq-eqb, ne_eqb}
use Rattle.alw_num.proofs.Weigh.{is_node}
use Rattle.alw_msg.specs.declared.messages.Msg.{Msg}
use Rattle.alw_image.specs.declared.parts.Parts.{Parts}
use Rattle.alw_image.specs.Parameters.{Parameters}
use Rattle.alw_msg.specs.Events.{node_of}
use Rattle.alw_model.specs.NodeStates.{NodeState, stamp_of}
use Rattle.alw_model.specs.NodeSteps.{node_step}
use Rattle.alw_msg.specs.Lists.{front}
use Rattle.alw_model.specs.Threads.{Logged, IsRunFrom, is_from, took_from, sent_to}
use Rattle.law_lines.specs.Links.{msgs_to}
use Rattle.law_order.proofs.Sends.{BearStamp, step_so}
use Rattle.law_order.proofs.LogOrders.{mine}

pub eqb_turned : (a b : ℕ) → (a == b) ≡ (b == a)
eqb_turned a b = is_node _ a b
    (λ same. eq-eqb a b same ∙ sym (eq-eqb b a (sym same)))
    (λ other. ne_eqb a b other ∙ sym (ne_eqb b a (λ same. other (sym same))))

-- the messages for a node
abbrev pub picked : ℕ → List (ℕ × Msg) → List Msg
picked b sends = map (λ (send : ℕ × Msg). send.1) (filter (λ (send : ℕ × Msg). send.0 == b) sends)

pub msgs_picked : (b : ℕ) (sends : List (ℕ × Msg)) → msgs_to b sends ≡ picked b sends
msgs_picked b [] = refl
msgs_picked b (send ∷ rest) = go (b == send.0) (send.0 == b) (eqb_turned b send.0) (msgs_picked b rest)
  where
    go : (c d : Bool) → c ≡ d → msgs_to b rest ≡ picked b rest → cond c (send.1 ∷ msgs_to b rest) (msgs_to b rest) ≡ map (λ (send : ℕ × Msg). send.1) (cond d (send ∷ filter (λ (send : ℕ × Msg). send.0 == b) rest) (filter (λ (send : ℕ × Msg). send.0 == b) rest))
    go true true is same = ap (λ (xs : List Msg). send.1 ∷ xs) same
    go false false is same = same
    go true false is same = absurd (cc)
    go false true is same = absurd (cc)

-- what an entry took of a node, where it is of this one
abbrev pub took_here : ℕ → ℕ → Logged → List Msg
took_here a b logged = cond (node_of logged.entry.event == b) (cond (is_from a logged.entry.event) (option_to_list logged.taken) []) []

-- what an entry sent to a node, where it is of this one
abbrev pub sent_here : ℕ → ℕ → Logged → List Msg
sent_here a b logged = cond (node_of logged.entry.event == a) (picked b logged.sent) []

pub took_split : (a b : ℕ) (logged : Logged) (rest : List Logged) → took_from a (mine b (logged ∷ rest)) ≡ took_here a b logged ++ took_from a (mine b rest)
took_split a b logged rest = go (node_of logged.entry.event == b)
  where
    go : (c : Bool) → took_from a (cond c (logged ∷ mine b rest) (mine b rest)) ≡ cond c (cond (is_from a logged.entry.event) (option_to_list logged.taken) []) [] ++ took_from a (mine b rest)
    go true = refl
    go false = refl

pub sent_split : (a b : ℕ) (logged : Logged) (rest : List Logged) → sent_to b (mine a (logged ∷ rest)) ≡ sent_here a b logged ++ sent_to b (mine a rest)
sent_split a b logged rest = go (node_of logged.entry.event == a)
  where
    go : (c : Bool) → sent_to b (cond c (logged ∷ mine a rest) (mine a rest)) ≡ cond c (picked b logged.sent) [] ++ sent_to b (mine a rest)
    go true = refl
    go false = refl

-- ---- stamps of what is sent

pub all_mine : (P : Logged → Type 0) (n : ℕ) (log : List Logged) → AllByRecursion P log → AllByRecursion P (mine n log)
all_mine P n [] all = tt
all_mine P n (logged ∷ rest) all = go (node_of logged.entry.event == n) (all_mine P n rest all.1)
  where
    go : (b : Bool) → AllByRecursion P (mine n rest) → AllByRecursion P (cond b (logged ∷ mine n rest) (mine n rest))
    go true deep = (all.0, deep)
    go false deep = deep

pub run_bears : (parts : Parts) (parameters : Parameters) (n : ℕ) (node : NodeState) (log : List Logged) → IsRunFrom parts parameters n node log → AllByRecursion (λ (logged : Logged). BearStamp logged.entry.stamp logged.sent) log
run_bears parts parameters n node [] run = tt
run_bears parts parameters n node (logged ∷ rest) (next, run) = (
  subst (λ (stamp : ℕ). BearStamp stamp logged.sent) (sym next.stamp) (subst (BearStamp (stamp_of node.clock logged.taken)) (sym next.sent) (step_so parts parameters n node logged.entry.event logged.taken)),
  run_bears parts parameters n (node_step parts parameters n node logged.entry.event logged.taken).node rest run,
)

-- whatever is sent for a node from entries above a stamp is not below it
module _ (low b : ℕ) where
  abbrev High : List Msg → Type 0
  High msgs = AllByRecursion (λ (msg : Msg). low ≤ msg.stamp) msgs

  high_append : (xs ys : List Msg) → High xs → High ys → High (xs ++ ys)
  high_append [] ys one other = other
  high_append (x ∷ xs) ys one other = (one.0, high_append xs ys one.1 other)

  picked_high : (stamp : ℕ) (sends : List (ℕ × Msg)) → low ≤ stamp → BearStamp stamp sends → High (picked b sends)
  picked_high stamp [] le bears = tt
  picked_high stamp (send ∷ rest) le bears = go (send.0 == b) (picked_high stamp rest le bears.1)
    where
      go : (c : Bool) → High (picked b rest) → High (map (λ (send : ℕ × Msg). send.1) (cond c (send ∷ filter (λ (send : ℕ × Msg). send.0 == b) rest) (filter (λ (send : ℕ × Msg). send.0 == b) rest)))
      go true deep = (omega (arith, bears.0), deep)
      go false deep = deep

  pub sent_high : (log : List Logged) → AllByRecursion (λ (logged : Logged). low ≤ logged.entry.stamp) log → AllByRecursion (λ (logged : Logged). BearStamp logged.entry.stamp logged.sent) log → High (sent_to b log)
  sent_high [] above bears = tt
  sent_high (logged ∷ rest) above bears = high_append (picked b logged.sent) (sent_to b rest) (picked_high logged.entry.stamp logged.sent above.0 bears.0) (sent_high rest above.1 bears.1)

  pub first_high : (msgs : List Msg) (msg : Msg) → High msgs → front msgs ≡ Some msg → low ≤ msg.stamp
  first_high [] msg all is = absurd (cc)
  first_high (m ∷ rest) msg all is = let same : m ≡ msg = cc in subst (λ (m : Msg). low ≤ m.stamp) same all.0
