-- The greatest clock: an event raises it by at most 1.
use Rattle.std.proofs.Common.{◌≡◌, ℕ, ◌+◌, ◌<◌, ◌≤◌, nat_lt, Option, Some, None, length, set, IsTrue, refl, sym, subst, arith}
use Rattle.std.proofs.lemmas.Bool.{ltb-true}
use Rattle.std.proofs.lemmas.List.{length-set}
use Rattle.alw_num.proofs.Weigh.{at_nodes}
use Rattle.law_machine.proofs.Vocabulary.{Msg, Event, Instr, Handle, Deliver, Evict, Parts, node_count, Parameters, node_of, NodeState, stamp_of, front, MachineState, no_node, node_at, link_at}
use Rattle.law_machine.proofs.Vocabulary.{stamp_at, is_enabled, step, stepped_by, IsStanding}
use Rattle.alw_model.proofs.Journals.{and_parts}
use Rattle.law_lines.proofs.Links.{read_set}
use Rattle.law_lines.proofs.Steps.{enabled_is}
use Rattle.law_machine.proofs.Sends.{MsgStands}
use Rattle.law_machine.proofs.Timing.{HasTimes, each_front}
use Rattle.law_machine.proofs.Sums.{max_at, max_most}
use Rattle.law_machine.proofs.Wear.{greatest_of}

module _ (parts : Parts) (parameters : Parameters) (s : MachineState) (standing : IsStanding parts parameters s) where
  pub clock_below : (n : ℕ) → n < node_count parts → (node_at s n).clock ≤ greatest_of s
  clock_below n here = max_at (λ (node : NodeState). node.clock) s.nodes 0 n no_node (rw standing.nodes here)

  pub greatest_most : (most : ℕ) → ((n : ℕ) → n < node_count parts → (node_at s n).clock ≤ most) → greatest_of s ≤ most
  greatest_most most few = max_most (λ (node : NodeState). node.clock) s.nodes 0 most no_node (omega arith) (λ i l. few i (subst (λ n. i < n) standing.nodes l))

  module _ (times : HasTimes parts parameters s) where
    head_below : (from to : ℕ) → from < node_count parts → to < node_count parts → (head : Option Msg) → front (link_at parts s from to) ≡ head → stamp_of (node_at s to).clock head ≤ greatest_of s + 1
    head_below from to f here None e = omega (arith, clock_below to here)
    head_below from to f here (Some msg) e =
        let m = each_front (MsgStands parts from to (node_at s from).clock) (link_at parts s from to) msg (times.links from to f here) e in
        omega (arith, m.stamp, clock_below from f, clock_below to here)

    stamp_below : (event : Event) → IsTrue (is_enabled parts parameters s event) → stamp_at parts s event ≤ greatest_of s + 1
    stamp_below (Instr at) enabled = omega (arith, clock_below at.0 (enabled_is parts parameters s (Instr at) enabled).here)
    stamp_below (Handle at) enabled = omega (arith, clock_below at.0 (enabled_is parts parameters s (Handle at) enabled).here)
    stamp_below (Evict at its) enabled = omega (arith, clock_below at.0 (enabled_is parts parameters s (Evict at its) enabled).here)
    stamp_below (Deliver from to) enabled =
        let en = enabled_is parts parameters s (Deliver from to) enabled in
        head_below from.0 to.0 (ltb-true from.0 (node_count parts) (and_parts (nat_lt from.0 (node_count parts)) _ en.may_be).0) en.here (front (link_at parts s from.0 to.0)) refl

    pub greatest_grows : (event : Event) → IsTrue (is_enabled parts parameters s event) → greatest_of (step parts parameters s event) ≤ greatest_of s + 1
    greatest_grows event enabled =
        let n = node_of event in
        let v = (stepped_by parts parameters s event).node in
        let fits : n < length s.nodes = rw standing.nodes (enabled_is parts parameters s event enabled).here in
        max_most (λ (node : NodeState). node.clock) (set s.nodes n v) 0 (greatest_of s + 1) no_node (omega arith)
        (λ i l. subst (λ (u : NodeState). u.clock ≤ greatest_of s + 1) (sym (read_set s.nodes n v no_node i fits))
        (at_nodes (λ j u. j < length s.nodes → u.clock ≤ greatest_of s + 1) (node_at s) n v (λ m. stamp_below event enabled)
        (λ j other m. omega (arith, max_at (λ (node : NodeState). node.clock) s.nodes 0 j no_node m)) i (omega (arith, length-set s.nodes n v))))
