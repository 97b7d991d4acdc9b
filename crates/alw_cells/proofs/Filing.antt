-- What an event of a cell is as a record of its log.
use Rattle.std.proofs.Common.{◌≡◌, ℕ, ◌≤◌, ◌<◌, ◌^◌, ◌==◌, true, IfSome, Option, List, [], ◌∷◌, length, sym, subst, ap, ◌∙◌, arith}
use Rattle.std.specs.List.{AllByRecursion}
use Rattle.std.proofs.lemmas.Bool.{eqb-true}
use Rattle.alw_msg.specs.declared.messages.Msg.{Msg}
use Rattle.alw_msg.specs.declared.events.Event.{Event}
use Rattle.alw_msg.specs.Events.{node_of}
use Rattle.alw_msg.specs.Sending.{Sending}
use Rattle.alw_model.specs.declared.steps.Did.{Did}
use Rattle.alw_model.specs.NodeStates.{NodeState, node_start, stamp_of}
use Rattle.alw_model.specs.NodeSteps.{node_step}
use Rattle.alw_model.specs.Threads.{Logged, takes_rightly, node_after}
use Rattle.alw_model.proofs.Journals.{and_parts}
use Rattle.alw_node.specs.Nodes.{Whole, IsNodeStep}
use Rattle.alw_cells.specs.Cells.{Cell, IsCell}
use Rattle.alw_cells.specs.Choice.{taken_by, may_happen}
use Rattle.alw_cells.specs.Records.{BodyIsPlain, SendsAreOfEvent, IsRecord, StampsAreBelow}
use Rattle.alw_cells.proofs.Runs.{enabled, may_be, takes, stamps_within}
use Rattle.alw_cells.proofs.Sends.{step_so}
use Rattle.law_order.proofs.Clocks.{stamp_above}

-- its stamp is above those of the log
pub rises : (cell : Cell) (event : Event) (taken : Option Msg) (sent sent' : Sending) (after : Whole) (did : Did) (stamp : ℕ) (log : List Logged)
    → IsCell cell → log ≡ cell.log
    → IsNodeStep cell.node after sent sent' did (node_step cell.node.parts cell.node.parameters cell.node.number cell.node.state event taken)
    → stamp ≡ after.state.clock → StampsAreBelow stamp log
rises cell event taken sent sent' after did stamp log is log_is steps stamp_is =
    let stamped : stamp ≡ stamp_of cell.node.state.clock taken = stamp_is ∙ ap (λ (w : Whole). w.state.clock) steps.node in
    let node = cell.node in
    let clock : node.state.clock ≡ (node_after node.parts node.parameters node.number (node_start node.parts node.number) cell.log).clock =
    ap (λ (n : NodeState). n.clock) is.state in
    subst (StampsAreBelow stamp) (sym log_is) (below cell.log _ (omega (arith, stamped, clock, stamp_above node.state.clock taken))
    (stamps_within node.parts node.parameters node.number (node_start node.parts node.number) cell.log is.run))
  where
    below : (log : List Logged) (clock : ℕ) → clock < stamp → AllByRecursion (λ (logged : Logged). logged.entry.stamp ≤ clock) log → StampsAreBelow stamp log
    below [] clock above all = tt
    below (first ∷ rest) clock above all = (omega (arith, above, all.0), below rest clock above all.1)

-- as the calls in it say
pub filed : (cell : Cell) (event : Event) (taken : Option Msg) (sent sent' : Sending) (after : Whole) (did : Did) (stamp number : ℕ)
    → may_happen cell event ≡ true → taken ≡ taken_by cell.come event → IfSome taken BodyIsPlain
    → IsNodeStep cell.node after sent sent' did (node_step cell.node.parts cell.node.parameters cell.node.number cell.node.state event taken)
    → stamp ≡ after.state.clock → number ≡ cell.node.number → length sent'.messages < 2 ^ 16
    → IsRecord number (record { entry = record { stamp = stamp; event = event }; taken = taken; sent = sent'.messages })
filed cell event taken sent sent' after did stamp number may taken_is plain steps stamp_is own few =
    let stamped : stamp ≡ stamp_of cell.node.state.clock taken = stamp_is ∙ ap (λ (w : Whole). w.state.clock) steps.node in
    let sends : SendsAreOfEvent cell.node.number (stamp_of cell.node.state.clock taken)
    (node_step cell.node.parts cell.node.parameters cell.node.number cell.node.state event taken).sends =
    step_so cell.node.parts cell.node.parameters cell.node.number cell.node.state event taken in
    record {
      node = eqb-true (node_of event) cell.node.number (and_parts (node_of event == cell.node.number) _ (enabled cell event may)).0 ∙ sym own;
      taken = subst (λ (o : Option Msg). takes_rightly event o ≡ true) (sym taken_is) (takes cell event (may_be cell event may));
      plain = plain;
      sent = subst (λ (P : Type 0). P) (λ x. SendsAreOfEvent (sym own x) (sym stamped x) (sym steps.sends x).messages) sends;
      few = few;
    }
