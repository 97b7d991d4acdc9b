-- Sending INV to the members of a set, one after the other.
use Rattle.std.proofs.Common.{◌≡◌, ℕ, ◌+◌, ◌<◌, ◌≤◌, List, [], ◌∷◌, length, sym, ap, ◌∙◌, append_assoc, length-append, arith}
use Rattle.std.proofs.lemmas.List.{append-nil}
use Rattle.alw_num.specs.declared.addresses.Line.{Line}
use Rattle.alw_num.specs.declared.addresses.LineNo.{LineNo}
use Rattle.alw_num.specs.NodeSets.{Nodes, drop_node, members, count_nodes}
use Rattle.alw_msg.specs.declared.messages.Kind.TheVariants as kinds
use Rattle.alw_msg.specs.declared.messages.Msg.{Msg}
use Rattle.alw_msg.specs.Sending.{Sending, with_message, event_message}
use Rattle.alw_model.specs.FullMap.{invs}
use Rattle.alw_model.specs.Messages.{to_caches}
use Rattle.dir_full.specs.Reactions.{with_sends}

-- what was sent, and INV to the members that are left, is what is to be sent in all, and there is room for it
pub record InvsAreUnderWay (before now : Sending) (line : LineNo) (all rest : Nodes) : Type 0 where
  pub whole : with_sends now line.0 (invs (members rest)) ≡ with_sends before line.0 (invs (members all))
  pub room : length now.messages + count_nodes rest ≤ now.room

sent_after : Sending → List (ℕ × Msg) → Sending
sent_after s messages = record s { messages = messages }

one_sent : (now : Sending) (line : LineNo) (body : Line) (m : ℕ) (js : List ℕ) → with_sends (with_message now m kinds.INV line body) line.0 (invs js) ≡ with_sends now line.0 (invs (m ∷ js))
unfolding sent_after
one_sent now line body m js = ap (sent_after now) (append_assoc now.messages ((m, event_message now kinds.INV line body) ∷ []) (to_caches now.src now.stamp line.0 (invs js)))

pub goes_on : (before now next : Sending) (line : LineNo) (body : Line) (all rest after : Nodes) (m : ℕ) → InvsAreUnderWay before now line all rest
    → members rest ≡ m ∷ members (drop_node rest m) → next ≡ with_message now m kinds.INV line body → after ≡ drop_node rest m → InvsAreUnderWay before next line all after
goes_on before now next line body all rest after m way least sent dropped =
    let count = ap length least in
    rw (sent, dropped) (record {
      whole = one_sent now line body m (members (drop_node rest m)) ∙ ap (λ (js : List ℕ). with_sends now line.0 (invs js)) (sym least) ∙ way.whole;
      room = omega (arith, way.room, length-append now.messages ((m, event_message now kinds.INV line body) ∷ []));
    })

pub has_place : (before now : Sending) (line : LineNo) (all rest : Nodes) (m : ℕ) → InvsAreUnderWay before now line all rest → members rest ≡ m ∷ members (drop_node rest m)
    → length now.messages < now.room
has_place before now line all rest m way least = let count = ap length least in omega (arith, way.room)

pub ends : (before now : Sending) (line : LineNo) (all rest : Nodes) → InvsAreUnderWay before now line all rest → members rest ≡ [] → now ≡ with_sends before line.0 (invs (members all))
unfolding sent_after
ends before now line all rest way none = ap (sent_after now) (sym (append-nil now.messages)) ∙ ap (λ (js : List ℕ). with_sends now line.0 (invs js)) (sym none) ∙ way.whole
