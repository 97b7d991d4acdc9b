-- One of the nodes that a machine keeps: by its share of the image it does what the machine's definitions say of its number.
use Rattle.std.proofs.Common.{◌≡◌, ℕ, ◌+◌, ◌/◌, ◌<◌, ◌≤◌, ◌==◌, ◌&&◌, Bool, not, Option, List, get_or, set, length, sym, ap, subst, ◌∙◌, arith}
use Rattle.std.proofs.Math.ListN.{get_or-map}
use Rattle.std.proofs.lemmas.List.{get_or_read}
use Rattle.std.proofs.lemmas.Nat.{mul-le}
use Rattle.std.proofs.Math.Nat.{div-lt_iff_lt-mul}
use Rattle.alw_msg.specs.declared.messages.Msg.{Msg}
use Rattle.alw_msg.specs.declared.events.Event.{Event}
use Rattle.alw_msg.specs.Sending.{Sending}
use Rattle.alw_image.specs.declared.parts.Parts.{Parts}
use Rattle.alw_image.specs.Images.{IsImage, node_count, line_count}
use Rattle.alw_image.specs.Parameters.{Parameters}
use Rattle.alw_model.specs.declared.steps.Did.{Did}
use Rattle.alw_model.specs.Contexts.{Slot}
use Rattle.alw_model.specs.NodeStates.{is_enabled_at}
use Rattle.alw_model.specs.NodeSteps.{node_step}
use Rattle.alw_model.specs.Machine.{node_at}
use Rattle.alw_model.specs.Counts.{is_turn}
use Rattle.alw_ready.specs.Changes.{hold_count}
use Rattle.alw_node.specs.Nodes.{Whole, IsNodeStep}
use Rattle.alw_node.proofs.KeptMembers.{enabled_same, step_same}
use Rattle.alw_mesh.proofs.Turning.{Left, left_step, none_given}
use Rattle.alw_mesh.specs.Keeping.{machine_of, no_whole, whole_in, NodeIsOf, AreNodes, acted_by, NodeActs}

-- the home of a line exists
pub home_exists : (image : Parts) → IsImage image → (line per_node home : ℕ) → per_node ≡ image.per_node → home ≡ line / per_node → line < line_count image → home < node_count image
home_exists image is line per_node home per_node_is home_is exists = rw (home_is, per_node_is) ((div-lt_iff_lt-mul is.per_node.0).1 exists)

-- an image has at most 256 nodes
pub few_nodes : (image : Parts) → IsImage image → node_count image ≤ 256
few_nodes image is = mul-le image.width image.height 16 16 is.width.1 is.height.1

-- a node's state in the machine
pub state_at : (nodes : List Whole) (links : List (List Msg)) (n : ℕ) → node_at (machine_of nodes links) n ≡ (whole_in nodes n).state
state_at nodes links n = get_or-map (λ (whole : Whole). whole.state) nodes n no_whole

module _ (image : Parts) (parameters : Parameters) where
  -- a node that was read is the one at its place
  pub node_read : (nodes : List Whole) → AreNodes image parameters nodes → (n : ℕ) (whole : Whole) → n < node_count image → whole ≡ get_or nodes n whole → whole ≡ whole_in nodes n
  node_read nodes are n whole here is = let l : n < length nodes = rw are.counted here in get_or_read nodes n whole l is no_whole

  module _ (n : ℕ) (whole : Whole) (of : NodeIsOf image parameters n whole) (event : Event) (head : Option Msg) where
    pub enabled_there : is_enabled_at whole.parts whole.parameters whole.number whole.state event head ≡ is_enabled_at image parameters n whole.state event head
    enabled_there = (λ i. is_enabled_at (of.share i) (of.parameters_are i) (of.number i) whole.state event head) ∙ enabled_same image n parameters n whole.state event head

    pub step_there : node_step whole.parts whole.parameters whole.number whole.state event head ≡ node_step image parameters n whole.state event head
    step_there = (λ i. node_step (of.share i) (of.parameters_are i) (of.number i) whole.state event head) ∙ step_same image n parameters n whole.state event head

-- a node that was read takes its step, and is put back
pub acts : (nodes : List Whole) (at : ℕ) (event : Event) (taken : Option Msg) (sent sent' : Sending) (node node' : Whole) (did : Did) (before free : ℕ) (changes : Bool)
    → at < length nodes → node ≡ get_or nodes at node → IsNodeStep node node' sent sent' did (acted_by node event taken)
    → before ≡ hold_count node.state.slots → changes ≡ (not (before == 0 && is_turn did) && not (hold_count node'.state.slots == before))
    → free + length sent'.messages ≡ sent'.room
    → NodeActs nodes (set nodes at node') at event taken sent sent' (record { did = did; changes_holds = changes })
acts nodes at event taken sent sent' node node' did before free changes here read steps held changed fits =
    let is : node ≡ whole_in nodes at = get_or_read nodes at node here read no_whole in
    let slots = ap (λ (w : Whole). w.state.slots) steps.node ∙ ap (λ (w : Whole). (acted_by w event taken).node.slots) is in
    let room = ap (λ (s : Sending). s.room) steps.sends in
    let left = left_step node.parts node.parameters node.number node.state event taken in
    let left_so : Left node.state node'.state.slots did = subst (λ (p : List Slot × Did). Left node.state p.0 p.1) (λ i. (sym (ap (λ (w : Whole). w.state.slots) steps.node) i, sym steps.outcome i)) left in
    let changed_so : changes ≡ not (hold_count node'.state.slots == hold_count node.state.slots)
    = changed ∙ (ap (λ n. not (n == 0 && is_turn did) && not (hold_count node'.state.slots == n)) held ∙ none_given node.state node'.state.slots did left_so) in
    record {
      nodes_are = ap (set nodes at) (steps.node ∙ ap (λ (w : Whole). record w { state = (acted_by w event taken).node }) is);
      room = room;
      few = omega (arith, fits, room);
      sends = ap (λ (s : Sending). s.messages) steps.sends ∙ ap (λ (w : Whole). (acted_by w event taken).sends) is;
      did = steps.outcome ∙ ap (λ (w : Whole). (acted_by w event taken).did) is;
      holds = changed_so ∙ (λ i. not (hold_count (slots i) == hold_count (is i).state.slots));
    }
