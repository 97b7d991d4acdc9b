-- An event sees its own node and the front of one link, and changes its own node, that link and the links from its node.
use Rattle.std.proofs.Common.{◌≡◌, ◌≢◌, ℕ, ◌<◌, nat_lt, Bool, Option, Some, None, List, [], get_or, set, IsTrue, refl, sym, ap, ◌∙◌}
use Rattle.std.proofs.lemmas.Bool.{false≢true}
use Rattle.std.proofs.lemmas.List.{get_or-set_other, set_comm}
use Rattle.std.proofs.lemmas.Nat.{same_from_place}
use Rattle.alw_num.specs.Maps.{passes}
use Rattle.alw_msg.specs.declared.messages.Msg.{Msg}
use Rattle.alw_msg.specs.declared.events.Event.{Event}
use Rattle.alw_msg.specs.declared.events.Event.TheVariants.{Instr, Handle, Deliver, Evict}
use Rattle.alw_image.specs.declared.parts.Parts.{Parts}
use Rattle.alw_image.specs.Images.{node_count}
use Rattle.alw_image.specs.Parameters.{Parameters}
use Rattle.alw_msg.specs.Events.{node_of}
use Rattle.alw_model.specs.NodeStates.{stamp_of, may_deliver, is_enabled_at}
use Rattle.alw_model.specs.NodeSteps.{Stepped, node_step}
use Rattle.alw_msg.specs.Lists.{front, behind}
use Rattle.alw_model.specs.Machine.{MachineState, node_at, link_at, link_place, taken_by, is_enabled, stamp_at, links_taken, links_sent, stepped_by, after_step}
use Rattle.alw_model.proofs.Journals.{and_parts}
use Rattle.law_order.specs.Orders.{SeesAlike}
use Rattle.law_order.proofs.Places.{changes_apart, changed_there}
use Rattle.law_lines.specs.Links.{GoBelow}
use Rattle.law_lines.proofs.Steps.{enabled_is}
use Rattle.law_order.proofs.Exchanges.{front_stays, take_and_send, send_and_send}

module _ (parts : Parts) (parameters : Parameters) where
  -- ---- what an event sees

  pub enabled_alike : (one other : MachineState) (event : Event) → SeesAlike parts event one other → is_enabled parts parameters one event ≡ is_enabled parts parameters other event
  enabled_alike one other event alike = λ x. is_enabled_at parts parameters (node_of event) (alike.node x) event (alike.taken x)

  pub stamp_alike : (one other : MachineState) (event : Event) → SeesAlike parts event one other → stamp_at parts one event ≡ stamp_at parts other event
  stamp_alike one other event alike = λ x. stamp_of (alike.node x).clock (alike.taken x)

  pub stepped_alike : (one other : MachineState) (event : Event) → SeesAlike parts event one other → stepped_by parts parameters one event ≡ stepped_by parts parameters other event
  stepped_alike one other event alike = λ x. node_step parts parameters (node_of event) (alike.node x) event (alike.taken x)

  -- ---- what an event needs

  -- a delivery has a front message to take
  abbrev pub HasFront : List (List Msg) → Event → Type 0
  HasFront links (Deliver from to) = (msg : Msg) × (front (get_or links (link_place parts from.0 to.0) []) ≡ Some msg)
  HasFront links event = Unit {0}

  there_is : (test : Msg → Bool) (head : Option Msg) → IsTrue (passes test head) → (msg : Msg) × (head ≡ Some msg)
  there_is test None is = absurd (false≢true is)
  there_is test (Some msg) is = (msg, refl)

  pub has_front : (s : MachineState) (event : Event) → IsTrue (is_enabled parts parameters s event) → HasFront s.links event
  has_front s (Instr at) is = tt
  has_front s (Handle at) is = tt
  has_front s (Evict at emptied) is = tt
  has_front s (Deliver from to) is =
      let p = and_parts (nat_lt from.0 (node_count parts)) _ (enabled_is parts parameters s (Deliver from to) is).may_be in
      there_is (may_deliver parts parameters from.0 to.0 (node_at s to.0)) (front (link_at parts s from.0 to.0)) p.1

  -- ---- what an event leaves

  pub node_kept : (s : MachineState) (event : Event) (v : Stepped) (k : ℕ) → k ≢ node_of event → node_at (after_step parts s event v) k ≡ node_at s k
  node_kept s event v k other = get_or-set_other s.nodes (node_of event) k v.node _ other

  -- the link that one event takes from, where another one has taken
  pub link_kept : (links : List (List Msg)) (event : Event) (a b : ℕ) → node_of event < node_count parts → b < node_count parts → b ≢ node_of event → get_or (links_taken parts links event) (link_place parts a b) [] ≡ get_or links (link_place parts a b) []
  link_kept links (Instr at) a b l m other = refl
  link_kept links (Handle at) a b l m other = refl
  link_kept links (Evict at emptied) a b l m other = refl
  link_kept links (Deliver from to) a b l m other = changed_there [] links (link_place parts from.0 to.0) (link_place parts a b) behind (λ e. other (same_from_place a b from.0 to.0 (node_count parts) m l e).1)

  front_kept : (links : List (List Msg)) (e f : Event) → node_of e < node_count parts → node_of f < node_count parts → node_of f ≢ node_of e → HasFront links f → HasFront (links_taken parts links e) f
  front_kept links e (Instr at) l m apart has = tt
  front_kept links e (Handle at) l m apart has = tt
  front_kept links e (Evict at emptied) l m apart has = tt
  front_kept links e (Deliver from to) l m apart has = (has.0, ap front (link_kept links e from.0 to.0 l m apart) ∙ has.1)

  takes_apart : (links : List (List Msg)) (e f : Event) → node_of e < node_count parts → node_of f < node_count parts → node_of f ≢ node_of e → links_taken parts (links_taken parts links e) f ≡ links_taken parts (links_taken parts links f) e
  takes_apart links (Instr at) f l m apart = refl
  takes_apart links (Handle at) f l m apart = refl
  takes_apart links (Evict at emptied) f l m apart = refl
  takes_apart links (Deliver from to) (Instr at) l m apart = refl
  takes_apart links (Deliver from to) (Handle at) l m apart = refl
  takes_apart links (Deliver from to) (Evict at emptied) l m apart = refl
  takes_apart links (Deliver from to) (Deliver other at) l m apart =
      changes_apart [] links (link_place parts from.0 to.0) (link_place parts other.0 at.0) behind behind (λ e. apart (sym (same_from_place from.0 to.0 other.0 at.0 (node_count parts) l m e).1))

  takes_before : (links : List (List Msg)) (f : Event) (from : ℕ) (sends : List (ℕ × Msg)) → HasFront links f → links_taken parts (links_sent parts links from sends) f ≡ links_sent parts (links_taken parts links f) from sends
  takes_before links (Instr at) from sends has = refl
  takes_before links (Handle at) from sends has = refl
  takes_before links (Evict at emptied) from sends has = refl
  takes_before links (Deliver other at) from sends has = take_and_send parts links from sends (link_place parts other.0 at.0) has.0 has.1

  -- what a delivery takes, it takes after an event of another node too
  pub taken_kept : (s : MachineState) (e f : Event) (v : Stepped) → node_of e < node_count parts → node_of f < node_count parts → node_of f ≢ node_of e → HasFront s.links f → taken_by parts (after_step parts s e v) f ≡ taken_by parts s f
  taken_kept s e (Instr at) v l m apart has = refl
  taken_kept s e (Handle at) v l m apart has = refl
  taken_kept s e (Evict at emptied) v l m apart has = refl
  taken_kept s e (Deliver from to) v l m apart has =
      front_stays parts (links_taken parts s.links e) (node_of e) v.sends (link_place parts from.0 to.0) has.0 (ap front (link_kept s.links e from.0 to.0 l m apart) ∙ has.1) ∙ sym has.1

  -- two events of different nodes, in either order
  pub steps_apart : (s : MachineState) (e f : Event) (v w : Stepped) → node_of e < node_count parts → node_of f < node_count parts → node_of f ≢ node_of e
      → GoBelow (node_count parts) v.sends → GoBelow (node_count parts) w.sends → HasFront s.links e → HasFront s.links f
      → after_step parts (after_step parts s e v) f w ≡ after_step parts (after_step parts s f w) e v
  steps_apart s e f v w l m apart below above first second = λ x. record { nodes = nodes x; links = links x }
    where
      back : node_of e ≢ node_of f
      back same = apart (sym same)

      nodes : set (set s.nodes (node_of e) v.node) (node_of f) w.node ≡ set (set s.nodes (node_of f) w.node) (node_of e) v.node
      nodes = set_comm s.nodes (node_of e) (node_of f) v.node w.node back

      links : (after_step parts (after_step parts s e v) f w).links ≡ (after_step parts (after_step parts s f w) e v).links
      links =
          ap (λ (ls : List (List Msg)). links_sent parts ls (node_of f) w.sends) (takes_before (links_taken parts s.links e) f (node_of e) v.sends (front_kept s.links e f l m apart second))
          ∙ (send_and_send parts (links_taken parts (links_taken parts s.links e) f) (node_of e) (node_of f) v.sends w.sends back below above
          ∙ (ap (λ (ls : List (List Msg)). links_sent parts (links_sent parts ls (node_of f) w.sends) (node_of e) v.sends) (takes_apart s.links e f l m apart)
          ∙ sym (ap (λ (ls : List (List Msg)). links_sent parts ls (node_of e) v.sends) (takes_before (links_taken parts s.links f) e (node_of f) w.sends (front_kept s.links f e m l back first)))))
