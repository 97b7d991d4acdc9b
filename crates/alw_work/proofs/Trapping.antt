-- A log with one event more holds a trapping turn where it held one before, and where that event is one.
use Rattle.std.proofs.Common.{◌≡◌, ℕ, Bool, true, false, ◌||◌, List, [], ◌∷◌, ◌++◌, refl, sym, ap, ◌∙◌}
use Rattle.alw_image.specs.declared.parts.Parts.{Parts}
use Rattle.alw_image.specs.Parameters.{Parameters}
use Rattle.alw_model.specs.declared.steps.Did.{Did}
use Rattle.alw_msg.specs.declared.events.Event.{Event}
use Rattle.alw_model.specs.NodeStates.{NodeState, node_start}
use Rattle.alw_model.specs.NodeSteps.{node_step}
use Rattle.alw_model.specs.Threads.{Logged, node_after}
use Rattle.alw_node.specs.Shares.{share_of}
use Rattle.alw_node.proofs.KeptMembers.{start_same, step_same}
use Rattle.alw_cells.specs.Cells.{Cell, IsCell}
use Rattle.alw_cells.specs.Choice.{stepped_by, logged_by, after_event}
use Rattle.alw_work.specs.Works.{is_trap, traps_from, holds_trap}
use Rattle.alw_work.specs.Seats.{TrapIsMarked}

or_false : (a : Bool) → (a || false) ≡ a
or_false true = refl
or_false false = refl

or_true : (a : Bool) → (a || true) ≡ true
or_true true = refl
or_true false = refl

or_assoc : (a b c : Bool) → (a || (b || c)) ≡ ((a || b) || c)
or_assoc true b c = refl
or_assoc false b c = refl

module _ (parts : Parts) (parameters : Parameters) (number : ℕ) where
  traps_push : (node : NodeState) (log : List Logged) (one : Logged)
      → traps_from parts parameters number node (log ++ one ∷ [])
      ≡ (traps_from parts parameters number node log
      || is_trap (node_step parts parameters number (node_after parts parameters number node log) one.entry.event one.taken).did)
  traps_push node [] one = or_false (is_trap (node_step parts parameters number node one.entry.event one.taken).did)
  traps_push node (first ∷ rest) one =
      let step = node_step parts parameters number node first.entry.event first.taken in
      ap (λ (b : Bool). is_trap step.did || b) (traps_push step.node rest one)
      ∙ or_assoc (is_trap step.did) (traps_from parts parameters number step.node rest)
      (is_trap (node_step parts parameters number (node_after parts parameters number step.node rest) one.entry.event one.taken).did)

  -- by the node's share of an image as by the image
  traps_same : (node : NodeState) (log : List Logged)
      → traps_from (share_of parts number) parameters number node log ≡ traps_from parts parameters number node log
  traps_same node [] = refl
  traps_same node (first ∷ rest) =
      let step = node_step parts parameters number node first.entry.event first.taken in
      ap (λ step. is_trap step.did || traps_from (share_of parts number) parameters number step.node rest)
      (step_same parts number parameters number node first.entry.event first.taken)
      ∙ ap (λ (b : Bool). is_trap step.did || b) (traps_same step.node rest)

  pub holds_same : (log : List Logged) → holds_trap (share_of parts number) parameters number log ≡ holds_trap parts parameters number log
  holds_same log =
      ap (λ node. traps_from (share_of parts number) parameters number node log) (start_same parts number) ∙ traps_same (node_start parts number) log

-- a mark that is set where the event was a trapping turn is of a log that holds one
pub marks : (cell : Cell) (event : Event) (did : Did) (was : Bool) → IsCell cell → did ≡ (stepped_by cell event).did → TrapIsMarked was cell
    → TrapIsMarked (was || is_trap did) (after_event cell event)
marks cell event did was stands is marked trapped =
    let node = cell.node in
    let more = traps_push node.parts node.parameters node.number (node_start node.parts node.number) cell.log (logged_by cell event) in
    let reached = node_after node.parts node.parameters node.number (node_start node.parts node.number) cell.log in
    let last : (node_step node.parts node.parameters node.number reached event (logged_by cell event).taken).did ≡ did =
    ap (λ state. (node_step node.parts node.parameters node.number state event (logged_by cell event).taken).did) (sym stands.state) ∙ sym is in
    more ∙ (ap (λ (d : Did). holds_trap node.parts node.parameters node.number cell.log || is_trap d) last ∙ by was (is_trap did) trapped marked)
  where
    held_before : Bool
    held_before = holds_trap cell.node.parts cell.node.parameters cell.node.number cell.log

    by : (was is : Bool) → (was || is) ≡ true → (was ≡ true → held_before ≡ true) → (held_before || is) ≡ true
    by true is both held = ap (λ (b : Bool). b || is) (held refl)
    by false false both held = absurd (cc)
    by false true both held = or_true held_before
