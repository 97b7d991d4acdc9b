-- A machine that starts so keeps aiming at nodes and lines that exist.
use Rattle.std.proofs.Common.{◌≡◌, ℕ, ◌*◌, ◌<◌, List, [], length, IsTrue, refl, sym, subst, ◌∙◌, arith}
use Rattle.std.proofs.lemmas.List.{length-set, length-replicate}
use Rattle.std.proofs.lemmas.List.FromFn.{length-map-range_with_len, get_or-map-range_with_len}
use Rattle.alw_num.proofs.Weigh.{at_nodes}
use Rattle.alw_msg.specs.declared.messages.Msg.{Msg}
use Rattle.alw_msg.specs.declared.events.Event.{Event}
use Rattle.alw_msg.specs.declared.events.Event.TheVariants.{Instr, Handle, Deliver, Evict}
use Rattle.alw_image.specs.declared.parts.Parts.{Parts}
use Rattle.alw_image.specs.Images.{node_count}
use Rattle.alw_image.specs.Parameters.{Parameters}
use Rattle.alw_msg.specs.Events.{node_of}
use Rattle.alw_model.specs.NodeStates.{node_start, stamp_of}
use Rattle.alw_model.specs.Machine.{MachineState, machine_start, node_at, link_place, taken_by, is_enabled, links_taken, stepped_by, step}
use Rattle.law_lines.specs.Links.{GoBelow}
use Rattle.law_lines.proofs.Links.{read_set, length-sent}
use Rattle.law_lines.proofs.Steps.{enabled_is}
use Rattle.law_order.specs.Aims.{NodeAims, IsAimed}
use Rattle.law_order.proofs.Aims.{StepAims, start_aims, step_aims}

module _ (parts : Parts) (parameters : Parameters) where
  pub node_at_start : (n : ℕ) → n < node_count parts → node_at (machine_start parts) n ≡ node_start parts n
  node_at_start n here = get_or-map-range_with_len (node_start parts) 0 (node_count parts) n n _ here (omega arith)

  pub start_aimed : IsAimed parts (machine_start parts)
  start_aimed = record {
    nodes = length-map-range_with_len (node_start parts) 0 (node_count parts);
    links = length-replicate (node_count parts * node_count parts) [];
    each = λ n here. subst (NodeAims parts) (sym (node_at_start n here)) (start_aims parts parameters n);
  }

  event_aims : (s : MachineState) (event : Event) → IsTrue (is_enabled parts parameters s event) → IsAimed parts s → StepAims parts (stepped_by parts parameters s event)
  event_aims s event enabled aimed =
      let n = node_of event in
      let en = enabled_is parts parameters s event enabled in
      step_aims parts parameters n (stamp_of (node_at s n).clock (taken_by parts s event)) (node_at s n) (aimed.each n en.here) event (taken_by parts s event) refl en.may_be

  pub sends_below : (s : MachineState) (event : Event) → IsTrue (is_enabled parts parameters s event) → IsAimed parts s → GoBelow (node_count parts) (stepped_by parts parameters s event).sends
  sends_below s event enabled aimed = (event_aims s event enabled aimed).sends

  pub links_fit : (links : List (List Msg)) (event : Event) → length (links_taken parts links event) ≡ length links
  links_fit links (Instr at) = refl
  links_fit links (Handle at) = refl
  links_fit links (Evict at emptied) = refl
  links_fit links (Deliver from to) = length-set links (link_place parts from.0 to.0) _

  pub step_aimed : (s : MachineState) (event : Event) → IsTrue (is_enabled parts parameters s event) → IsAimed parts s → IsAimed parts (step parts parameters s event)
  step_aimed s event enabled aimed =
      let n = node_of event in
      let v = stepped_by parts parameters s event in
      let fits : n < length s.nodes = rw aimed.nodes (enabled_is parts parameters s event enabled).here in
      record {
        nodes = length-set s.nodes n v.node ∙ aimed.nodes;
        links = length-sent parts n v.sends (links_taken parts s.links event) ∙ (links_fit s.links event ∙ aimed.links);
        each = λ m here. subst (NodeAims parts) (sym (read_set s.nodes n v.node _ m fits))
            (at_nodes (λ j u. j < node_count parts → NodeAims parts u) (node_at s) n v.node (λ l. (event_aims s event enabled aimed).node) (λ j other l. aimed.each j l) m here);
      }
