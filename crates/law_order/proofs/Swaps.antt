-- Two neighbouring entries of which the later one has no greater stamp change places.
use Rattle.std.proofs.Common.{◌≡◌, ◌≢◌, ℕ, ◌<◌, ◌≤◌, Option, Some, None, List, [], ◌∷◌, get_or, IsTrue, refl, sym, subst, ap, ◌∙◌, arith}
use Rattle.std.specs.List.{AllByRecursion}
use Rattle.alw_msg.specs.declared.messages.Msg.{Msg}
use Rattle.alw_msg.specs.declared.events.Event.{Event}
use Rattle.alw_msg.specs.declared.events.Event.TheVariants.{Instr, Handle, Deliver, Evict}
use Rattle.alw_image.specs.declared.parts.Parts.{Parts}
use Rattle.alw_image.specs.Images.{node_count}
use Rattle.alw_image.specs.Parameters.{Parameters}
use Rattle.alw_msg.specs.Events.{node_of}
use Rattle.alw_model.specs.NodeStates.{stamp_of}
use Rattle.alw_msg.specs.Lists.{front}
use Rattle.alw_model.specs.Machine.{MachineState, node_at, link_at, link_place, taken_by, is_enabled, stamp_at, links_taken, stepped_by, after_step, step}
use Rattle.law_order.specs.Orders.{SeesAlike}
use Rattle.law_lines.specs.Links.{GoBelow}
use Rattle.law_order.proofs.Exchanges.{each_sent}
use Rattle.law_order.proofs.Sends.{step_so}
use Rattle.law_lines.proofs.Steps.{enabled_is}
use Rattle.law_order.proofs.Local.{HasFront, has_front, enabled_alike, stamp_alike, stepped_alike, node_kept, link_kept, taken_kept, steps_apart}

-- what stands first on a link bears the stamp that all there bear
first_sent : (msgs : List Msg) (msg : Msg) (stamp : ℕ) → AllByRecursion (λ (m : Msg). m.stamp ≡ stamp) msgs → front msgs ≡ Some msg → msg.stamp ≡ stamp
first_sent [] msg stamp all is = absurd (cc)
first_sent (m ∷ rest) msg stamp all is = let same : m ≡ msg = cc in ap (λ (m : Msg). m.stamp) (sym same) ∙ all.0

-- who takes a message has a greater stamp
above_taken : (clock stamp : ℕ) (head : Option Msg) (msg : Msg) → head ≡ Some msg → msg.stamp ≡ stamp → stamp_of clock head ≤ stamp → ⊥
above_taken clock stamp None msg is bears le = absurd (cc)
above_taken clock stamp (Some m) msg is bears le = let same : m ≡ msg = cc in let stamps : m.stamp ≡ msg.stamp = ap (λ (m : Msg). m.stamp) same in omega arith

-- two events in the other order, with the same stamps: the earlier one is enabled after the later one, and they leave the same
pub record Swapped (parts : Parts) (parameters : Parameters) (s : MachineState) (e f : Event) : Type 0 where
  pub stamp : stamp_at parts s f ≡ stamp_at parts (step parts parameters s e) f
  pub later_enabled : is_enabled parts parameters (step parts parameters s f) e ≡ is_enabled parts parameters s e
  pub later_stamp : stamp_at parts (step parts parameters s f) e ≡ stamp_at parts s e
  pub state : step parts parameters (step parts parameters s f) e ≡ step parts parameters (step parts parameters s e) f

module _ (parts : Parts) (parameters : Parameters) (s : MachineState) (e : Event) where
  abbrev next : MachineState
  next = step parts parameters s e

  -- a later event of another node doesn't take what the earlier one sent, since its stamp would be greater
  had_front : (f : Event) → node_of e < node_count parts → node_of f < node_count parts → node_of f ≢ node_of e → IsTrue (is_enabled parts parameters next f) → stamp_at parts next f ≤ stamp_at parts s e → HasFront parts parameters s.links f
  had_front (Instr at) l m apart enabled low = tt
  had_front (Handle at) l m apart enabled low = tt
  had_front (Evict at emptied) l m apart enabled low = tt
  had_front (Deliver from to) l m apart enabled low = go (get_or s.links (link_place parts from.0 to.0) []) refl
    where
      go : (old : List Msg) → get_or s.links (link_place parts from.0 to.0) [] ≡ old → HasFront parts parameters s.links (Deliver from to)
      go (msg ∷ rest) is = (msg, ap front is)
      go [] is =
          let p = link_place parts from.0 to.0 in
          let nothing : get_or (links_taken parts s.links e) p [] ≡ [] = link_kept parts parameters s.links e from.0 to.0 l m apart ∙ is in
          let stamp = stamp_at parts s e in
          let all = each_sent parts (λ (msg : Msg). msg.stamp ≡ stamp) (links_taken parts s.links e) (node_of e) (stepped_by parts parameters s e).sends p
          (step_so parts parameters (node_of e) (node_at s (node_of e)) e (taken_by parts s e)) (subst (AllByRecursion (λ (msg : Msg). msg.stamp ≡ stamp)) (sym nothing) tt) in
          let has = has_front parts parameters next (Deliver from to) enabled in
          absurd (above_taken (node_at next to.0).clock stamp (front (link_at parts next from.0 to.0)) has.0 has.1 (first_sent (link_at parts next from.0 to.0) has.0 stamp all has.1) low)

  module _ (f : Event) (enabled : IsTrue (is_enabled parts parameters s e)) (later : IsTrue (is_enabled parts parameters next f)) (apart : node_of f ≢ node_of e) (low : stamp_at parts next f ≤ stamp_at parts s e) where
    -- the later event sees the same before the earlier one
    pub sees_before : SeesAlike parts f next s
    sees_before =
        let l = (enabled_is parts parameters s e enabled).here in
        let m = (enabled_is parts parameters next f later).here in
        record {
          node = node_kept parts parameters s e (stepped_by parts parameters s e) (node_of f) apart;
          taken = taken_kept parts parameters s e f (stepped_by parts parameters s e) l m apart (had_front f l m apart later low);
        }

    pub enabled_before : IsTrue (is_enabled parts parameters s f)
    enabled_before = sym (enabled_alike parts parameters next s f sees_before) ∙ later

    pub swapped : GoBelow (node_count parts) (stepped_by parts parameters s e).sends → GoBelow (node_count parts) (stepped_by parts parameters s f).sends → Swapped parts parameters s e f
    swapped below above =
        let l = (enabled_is parts parameters s e enabled).here in
        let m = (enabled_is parts parameters s f enabled_before).here in
        let first = has_front parts parameters s e enabled in
        let second = has_front parts parameters s f enabled_before in
        let back : node_of e ≢ node_of f = λ same. apart (sym same) in
        let v = stepped_by parts parameters s e in
        let w = stepped_by parts parameters s f in
        let seen : SeesAlike parts e (step parts parameters s f) s = record { node = node_kept parts parameters s f w (node_of e) back; taken = taken_kept parts parameters s f e w m l back first } in
        record {
          stamp = sym (stamp_alike parts parameters next s f sees_before);
          later_enabled = enabled_alike parts parameters (step parts parameters s f) s e seen;
          later_stamp = stamp_alike parts parameters (step parts parameters s f) s e seen;
          state = ap (after_step parts (step parts parameters s f) e) (stepped_alike parts parameters (step parts parameters s f) s e seen)
              ∙ (sym (steps_apart parts parameters s e f v w l m apart below above first second)
              ∙ ap (after_step parts next f) (sym (stepped_alike parts parameters next s f sees_before)));
        }
