-- What it is for a line to follow an event, and the ways in which a line does: nothing changes, or one node's part does.
use Rattle.std.proofs.Common.{◌≡◌, ◌≢◌, ℕ, ◌<◌, List, [], ◌∷◌, sym, ap, ◌∙◌, arith}
use Rattle.std.proofs.lemmas.Bool.{eq-eqb, ne_eqb}
use Rattle.std.proofs.lemmas.Nat.{row_below_turned}
use Rattle.alw_num.proofs.Weigh.{is_node}
use Rattle.alw_msg.specs.declared.messages.Msg.{Msg}
use Rattle.alw_image.specs.declared.parts.Parts.{Parts}
use Rattle.alw_image.specs.Images.{node_count, line_count}
use Rattle.alw_image.specs.Parameters.{Parameters}
use Rattle.alw_model.specs.Caches.{Requests}
use Rattle.alw_msg.specs.Contents.{ToCache}
use Rattle.alw_model.specs.Messages.{home_node, to_homes}
use Rattle.alw_model.specs.NodeStates.{NodeState}
use Rattle.alw_model.specs.Machine.{MachineState}
use Rattle.alw_model.specs.Lines.{LineNode, LineState, line_node, line_of}
use Rattle.law_line.specs.Protocol.{LineEvent, changed, step, IsLegal}
use Rattle.law_lines.specs.LineEvents.{Follows, about}
use Rattle.law_lines.proofs.Views.{next_machine}
use Rattle.law_lines.proofs.CacheSide as cache
use Rattle.law_lines.proofs.CacheSide.{new_part, old_part, changed_same, changed_line}

pub stays : (n : ℕ) (s t : LineState) → t ≡ s → Follows n s [] t
stays n s t same = record { legal = tt; state = same }

pub takes : (n : ℕ) (s t : LineState) (e : LineEvent) → IsLegal n s e → t ≡ step s e → Follows n s (e ∷ []) t
takes n s t e legal same = record { legal = (legal, tt); state = same }

-- an event about one line, as one of each line
pub takes_about : (n : ℕ) (s t : LineState) (k line : ℕ) (e : LineEvent) → (k ≡ line → IsLegal n s e × (t ≡ step s e)) → (k ≢ line → t ≡ s) → Follows n s (about k line e) t
takes_about n s t k line e same other = is_node _ k line
    (λ is. rw (eq-eqb k line is) (takes n s t e (same is).0 (same is).1))
    (λ isnt. rw (ne_eqb k line isnt) (stays n s t (other isnt)))

-- the home of a line that exists is a node
pub home_below : (parts : Parts) (k : ℕ) → k < line_count parts → home_node parts k < node_count parts
home_below parts k l = (row_below_turned k parts.per_node (node_count parts) parts.per_node l (omega arith)).1

module _ (parts : Parts) (parameters : Parameters) (s : MachineState) (n : ℕ) (v : NodeState) (links : List (List Msg)) (stamp : ℕ) (requests : Requests) (k : ℕ) (down : List ToCache) (keeps : cache.Keeps parts parameters s n v links stamp requests k down) where
  -- a node's part becomes what an event of the line makes of it
  pub part_changes : (f : LineNode → LineNode) → new_part parts parameters s n v links stamp requests k down ≡ f (line_node parts parameters s k n)
      → line_of parts parameters (next_machine parts parameters s n v links (to_homes parts n stamp requests) k) k ≡ changed (line_of parts parameters s k) n (f ((line_of parts parameters s k).node n))
  part_changes f becomes = changed_line parts parameters s n v links stamp requests k down keeps ∙ ap (changed (line_of parts parameters s k) n) (becomes ∙ ap f (sym (old_part parts parameters s n k keeps.here)))

  -- or stays
  pub part_stays : new_part parts parameters s n v links stamp requests k down ≡ line_node parts parameters s k n
      → line_of parts parameters (next_machine parts parameters s n v links (to_homes parts n stamp requests) k) k ≡ line_of parts parameters s k
  part_stays same = changed_line parts parameters s n v links stamp requests k down keeps ∙ changed_same (line_of parts parameters s k) n (new_part parts parameters s n v links stamp requests k down) (same ∙ sym (old_part parts parameters s n k keeps.here))
