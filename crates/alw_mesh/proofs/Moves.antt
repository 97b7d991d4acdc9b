-- Messages that are taken and sent: the links as they are kept do what the machine's definitions say.
use Rattle.std.proofs.Common.{◌≡◌, ℕ, zero, suc, ◌<◌, ◌≤◌, nat_lt, IsTrue, None, List, [], ◌∷◌, ◌++◌, ◌+◌, ◌*◌, set, length, get_or, slice_index_or, refl, sym, ap, ◌∙◌, arith}
use Rattle.std.proofs.lemmas.List.{get_or_past}
use Rattle.std.proofs.lemmas.Nat.{mul-le}
use Rattle.std.proofs.lemmas.Bool.{ltb-true}
use Rattle.alw_num.specs.declared.addresses.NodeNo.{NodeNo}
use Rattle.alw_msg.specs.declared.messages.Msg.{Msg}
use Rattle.alw_msg.specs.declared.events.Event.{Event}
use Rattle.alw_msg.specs.declared.events.Event.TheVariants.{Instr, Handle, Deliver, Evict}
use Rattle.alw_image.specs.declared.parts.Parts.{Parts}
use Rattle.alw_image.specs.Images.{node_count}
use Rattle.alw_image.specs.Parameters.{Parameters}
use Rattle.alw_model.proofs.Journals.{and_parts}
use Rattle.alw_model.specs.Machine.{MachineState, is_enabled, taken_by, links_taken, links_sent}
use Rattle.law_lines.specs.Links.{GoBelow}
use Rattle.law_lines.proofs.Steps.{enabled_is}
use Rattle.alw_links.specs.Traffic.{Traffic, links_with_all}
use Rattle.alw_node.specs.Nodes.{MessageIsGiven}
use Rattle.alw_mesh.specs.Keeping.{taken_from, after_taking, NodesAreWithin}

module _ (image : Parts) (machine : MachineState) (traffic : Traffic) (nodes_are : traffic.nodes ≡ node_count image) (links_are : machine.links ≡ traffic.links) where
  pub taken_is : (event : Event) → taken_from traffic event ≡ taken_by image machine event
  taken_is (Instr at) = refl
  taken_is (Handle at) = refl
  taken_is (Evict at set) = refl
  taken_is (Deliver from to) = rw (nodes_are, links_are) refl

  pub links_are_taken : (event : Event) → (after_taking traffic event).links ≡ links_taken image machine.links event
  links_are_taken (Instr at) = sym links_are
  links_are_taken (Handle at) = sym links_are
  links_are_taken (Evict at set) = sym links_are
  links_are_taken (Deliver from to) = rw (nodes_are, links_are) refl

pub taking_keeps_nodes : (traffic : Traffic) (event : Event) → (after_taking traffic event).nodes ≡ traffic.nodes
taking_keeps_nodes traffic (Instr at) = refl
taking_keeps_nodes traffic (Handle at) = refl
taking_keeps_nodes traffic (Evict at set) = refl
taking_keeps_nodes traffic (Deliver from to) = refl

pub taking_keeps_room : (traffic : Traffic) (event : Event) → traffic.room ≤ (after_taking traffic event).room
taking_keeps_room traffic (Instr at) = omega arith
taking_keeps_room traffic (Handle at) = omega arith
taking_keeps_room traffic (Evict at set) = omega arith
taking_keeps_room traffic (Deliver from to) = omega arith

-- what a node sends goes to the ends of its links
pub links_are_sent : (image : Parts) (nodes : ℕ) (links : List (List Msg)) (from : ℕ) (sends : List (ℕ × Msg)) → nodes ≡ node_count image → links_with_all nodes links from sends ≡ links_sent image links from sends
links_are_sent image nodes links from [] is = refl
links_are_sent image nodes links from (send ∷ rest) is =
    let place = λ (count : ℕ). from * count + send.0 in
    let next = λ (count : ℕ). set links (place count) (get_or links (place count) [] ++ send.1 ∷ []) in
    links_are_sent image nodes (next nodes) from rest is ∙ ap (λ (count : ℕ). links_sent image (next count) from rest) is

-- each message goes to a node below a number
pub goes_below : (n : ℕ) (sends : List (ℕ × Msg)) → GoBelow n sends → (k : ℕ) (d : ℕ × Msg) → k < length sends → (slice_index_or sends k d).0 < n
goes_below n [] below k d l = absurd (omega arith)
goes_below n (send ∷ rest) below zero d l = below.0
goes_below n (send ∷ rest) below (suc k) d l = goes_below n rest below.1 k d (omega (arith, l))

-- the nodes that an enabled event names exist
pub named : (image : Parts) (parameters : Parameters) (machine : MachineState) (event : Event) → IsTrue (is_enabled image parameters machine event) → NodesAreWithin (node_count image) event
named image parameters machine (Deliver from to) is =
    let en = enabled_is image parameters machine (Deliver from to) is in
    (ltb-true from.0 (node_count image) (and_parts (nat_lt from.0 (node_count image)) _ en.may_be).0, en.here)
named image parameters machine _ is = tt

-- only a delivery takes a message
pub given : (image : Parts) (machine : MachineState) (event : Event) → MessageIsGiven event (taken_by image machine event)
given image machine (Instr at) = tt
given image machine (Handle at) = tt
given image machine (Evict at set) = tt
given image machine (Deliver from to) = tt

-- no message comes from a node that doesn't exist
pub nothing_from : (image : Parts) (machine : MachineState) (from to : NodeNo) → length machine.links ≡ node_count image * node_count image → node_count image ≤ from.0 → None ≡ taken_by image machine (Deliver from to)
nothing_from image machine from to size past =
    let rows = mul-le (node_count image) (node_count image) from.0 (node_count image) past (omega arith) in
    rw (get_or_past machine.links (from.0 * node_count image + to.0) [] (omega arith)) refl
