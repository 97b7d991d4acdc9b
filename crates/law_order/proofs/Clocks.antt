-- A node's clock is the stamp of its last entry, so that its stamps rise.
use Rattle.std.proofs.Common.{◌≡◌, ℕ, ◌<◌, ◌≤◌, Option, Some, None, List, [], ◌∷◌, IsTrue, sym, subst, ap, arith}
use Rattle.std.specs.List.{AllByRecursion}
use Rattle.std.proofs.lemmas.List.{get_or-set_same}
use Rattle.alw_num.proofs.Weigh.{is_node}
use Rattle.alw_msg.specs.declared.messages.Msg.{Msg}
use Rattle.alw_msg.specs.declared.events.Event.{Event}
use Rattle.alw_msg.specs.declared.events.Entry.{Entry}
use Rattle.alw_image.specs.declared.parts.Parts.{Parts}
use Rattle.alw_image.specs.Parameters.{Parameters}
use Rattle.alw_msg.specs.Events.{node_of}
use Rattle.alw_model.specs.NodeStates.{NodeState, stamp_of}
use Rattle.alw_model.specs.Machine.{MachineState, node_at, taken_by, is_enabled, stamp_at, stepped_by, step, AreLegal}
use Rattle.law_order.specs.Orders.{NodesRise}
use Rattle.law_lines.proofs.Steps.{enabled_is}
use Rattle.law_order.proofs.Local.{node_kept}
use Rattle.law_order.specs.Aims.{IsAimed}
use Rattle.law_order.proofs.Aimed.{step_aimed}

pub stamp_above : (clock : ℕ) (taken : Option Msg) → clock < stamp_of clock taken
stamp_above clock None = omega arith
stamp_above clock (Some msg) = omega arith

module _ (parts : Parts) (parameters : Parameters) where
  -- the node that an event is of, after it
  pub node_stepped : (s : MachineState) (event : Event) → IsAimed parts s → IsTrue (is_enabled parts parameters s event) → node_at (step parts parameters s event) (node_of event) ≡ (stepped_by parts parameters s event).node
  node_stepped s event aimed enabled = get_or-set_same s.nodes (node_of event) (stepped_by parts parameters s event).node _ (rw aimed.nodes (enabled_is parts parameters s event enabled).here)

  pub clock_stepped : (s : MachineState) (event : Event) → IsAimed parts s → IsTrue (is_enabled parts parameters s event) → (node_at (step parts parameters s event) (node_of event)).clock ≡ stamp_at parts s event
  clock_stepped s event aimed enabled = ap (λ (node : NodeState). node.clock) (node_stepped s event aimed enabled)

  -- no clock falls
  clock_rises : (s : MachineState) (event : Event) (n : ℕ) → IsAimed parts s → IsTrue (is_enabled parts parameters s event) → (node_at s n).clock ≤ (node_at (step parts parameters s event) n).clock
  clock_rises s event n aimed enabled = is_node _ n (node_of event)
      (λ same. subst (λ a. (node_at s a).clock ≤ (node_at (step parts parameters s event) a).clock) (sym same) (rw (clock_stepped s event aimed enabled) (let above = stamp_above (node_at s (node_of event)).clock (taken_by parts s event) in omega arith)))
      (λ other. rw (node_kept parts parameters s event (stepped_by parts parameters s event) n other) (omega arith))

  stamps_above : (s : MachineState) (n least : ℕ) (journal : List Entry) → IsAimed parts s → AreLegal parts parameters s journal → least ≤ (node_at s n).clock → AllByRecursion (λ (later : Entry). node_of later.event ≡ n → least < later.stamp) journal
  stamps_above s n least [] aimed legal le = tt
  stamps_above s n least (entry ∷ rest) aimed (next, legal) le = (
    λ same. let above = stamp_above (node_at s (node_of entry.event)).clock (taken_by parts s entry.event) in
        let here : (node_at s (node_of entry.event)).clock ≡ (node_at s n).clock = ap (λ a. (node_at s a).clock) same in
        omega (arith, next.stamp),
    stamps_above (step parts parameters s entry.event) n least rest (step_aimed parts parameters s entry.event next.enabled aimed) legal (let rises = clock_rises s entry.event n aimed next.enabled in omega arith),
  )

  -- the stamps of each node's entries rise
  pub nodes_rise : (s : MachineState) (journal : List Entry) → IsAimed parts s → AreLegal parts parameters s journal → NodesRise journal
  nodes_rise s [] aimed legal = tt
  nodes_rise s (entry ∷ rest) aimed (next, legal) =
      let after = step_aimed parts parameters s entry.event next.enabled aimed in (
        stamps_above (step parts parameters s entry.event) (node_of entry.event) entry.stamp rest after legal (rw (clock_stepped s entry.event aimed next.enabled) (omega (arith, next.stamp))),
        nodes_rise (step parts parameters s entry.event) rest after legal,
      )
