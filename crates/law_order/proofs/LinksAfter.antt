-- The link of two nodes after an event.
use Rattle.std.proofs.Common.{◌≡◌, ℕ, ◌<◌, ◌==◌, nat_lt, ◌&&◌, Bool, true, false, cond, List, [], ◌++◌, get_or, IsTrue, refl, sym, ap, ◌∙◌}
use Rattle.std.proofs.lemmas.Bool.{eqb-true, ltb-true}
use Rattle.alw_msg.specs.declared.messages.Msg.{Msg}
use Rattle.alw_msg.specs.declared.events.Event.{Event}
use Rattle.alw_msg.specs.declared.events.Event.TheVariants.{Instr, Handle, Deliver, Evict}
use Rattle.alw_image.specs.declared.parts.Parts.{Parts}
use Rattle.alw_image.specs.Images.{node_count}
use Rattle.alw_image.specs.Parameters.{Parameters}
use Rattle.alw_msg.specs.Events.{node_of}
use Rattle.alw_msg.specs.Lists.{behind}
use Rattle.alw_model.specs.Machine.{MachineState, link_at, link_place, is_enabled, links_taken, stepped_by, step}
use Rattle.alw_model.proofs.Journals.{and_parts}
use Rattle.law_lines.specs.Links.{msgs_to}
use Rattle.law_lines.proofs.Links.{link_sent, link_taken}
use Rattle.law_lines.proofs.Steps.{enabled_is}
use Rattle.law_order.specs.Orders.{takes_from, link_after}
use Rattle.law_order.specs.Aims.{IsAimed}
use Rattle.law_order.proofs.Aimed.{sends_below, links_fit}

module _ (parts : Parts) (parameters : Parameters) (s : MachineState) (aimed : IsAimed parts s) where
  -- a link once an event has taken its message
  taken_is : (event : Event) (a b : ℕ) → b < node_count parts → IsTrue (is_enabled parts parameters s event) → get_or (links_taken parts s.links event) (link_place parts a b) [] ≡ cond (takes_from event a b) (behind (link_at parts s a b)) (link_at parts s a b)
  taken_is (Instr at) a b m enabled = refl
  taken_is (Handle at) a b m enabled = refl
  taken_is (Evict at emptied) a b m enabled = refl
  taken_is (Deliver from to) a b m enabled =
      let en = enabled_is parts parameters s (Deliver from to) enabled in
      let l : from.0 < node_count parts = ltb-true from.0 (node_count parts) (and_parts (nat_lt from.0 (node_count parts)) _ en.may_be).0 in
      link_taken parts s.links from.0 to.0 a b l en.here m aimed.links ∙ same (a == from.0) (b == to.0) refl refl
    where
      same : (c d : Bool) → (a == from.0) ≡ c → (b == to.0) ≡ d → cond (c && d) (behind (link_at parts s from.0 to.0)) (link_at parts s a b) ≡ cond (c && d) (behind (link_at parts s a b)) (link_at parts s a b)
      same true true is also = λ x. behind (link_at parts s (sym (eqb-true a from.0 is) x) (sym (eqb-true b to.0 also) x))
      same true false is also = refl
      same false d is also = refl

  pub link_is : (event : Event) (a b : ℕ) → b < node_count parts → IsTrue (is_enabled parts parameters s event) → link_at parts (step parts parameters s event) a b ≡ link_after parts parameters s event a b
  link_is event a b m enabled =
      let sends = (stepped_by parts parameters s event).sends in
      link_sent parts (node_of event) a b sends (links_taken parts s.links event) (enabled_is parts parameters s event enabled).here m (links_fit parts parameters s.links event ∙ aimed.links) (sends_below parts parameters s event enabled aimed)
      ∙ ap (λ (l : List Msg). l ++ cond (a == node_of event) (msgs_to b sends) []) (taken_is event a b m enabled)
