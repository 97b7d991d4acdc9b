-- What an entry takes and sends, and what links hold before and after it.
use Rattle.std.proofs.Common.{◌≡◌, ℕ, ◌<◌, ◌==◌, Bool, true, false, cond, ◌&&◌, Option, Some, List, [], ◌++◌, IsTrue, refl, sym, subst, ap, ◌∙◌, append_assoc}
use Rattle.std.specs.Prelude.{option_to_list}
use Rattle.std.proofs.lemmas.Bool.{eqb-true}
use Rattle.std.proofs.lemmas.List.{append_cancel_left}
use Rattle.alw_num.specs.declared.addresses.NodeNo.{NodeNo}
use Rattle.alw_msg.specs.declared.messages.Msg.{Msg}
use Rattle.alw_msg.specs.declared.events.Event.{Event}
use Rattle.alw_msg.specs.declared.events.Event.TheVariants.{Instr, Handle, Deliver, Evict}
use Rattle.alw_image.specs.declared.parts.Parts.{Parts}
use Rattle.alw_image.specs.Images.{node_count}
use Rattle.alw_image.specs.Parameters.{Parameters}
use Rattle.alw_msg.specs.Events.{node_of}
use Rattle.alw_msg.specs.Lists.{front, behind}
use Rattle.alw_model.specs.Machine.{MachineState, link_at, taken_by, is_enabled, stepped_by, step}
use Rattle.alw_model.specs.Threads.{Logged, is_from}
use Rattle.law_lines.specs.Links.{msgs_to}
use Rattle.law_lines.proofs.Taken.{split_front}
use Rattle.law_order.specs.Orders.{takes_from}
use Rattle.law_order.proofs.Local.{has_front}
use Rattle.law_order.specs.Aims.{IsAimed}
use Rattle.law_order.proofs.LinksAfter.{link_is}
use Rattle.law_order.proofs.LogSends.{eqb_turned, picked, msgs_picked, took_here, sent_here}

-- what was taken and is on the way, one entry on
pub moves_on : (took t r link sent more after : List Msg) → took ++ after ≡ link ++ sent → (took ++ t) ++ r ≡ link ++ (sent ++ more) → t ++ r ≡ after ++ more
moves_on took t r link sent more after moves whole = append_cancel_left took (t ++ r) (after ++ more)
    (sym (append_assoc took t r) ∙ (whole ∙ (sym (append_assoc link sent more) ∙ (ap (λ (xs : List Msg). xs ++ more) (sym moves) ∙ append_assoc took after more))))

pub moves_back : (took t r link sent more after : List Msg) → took ++ after ≡ link ++ sent → t ++ r ≡ after ++ more → (took ++ t) ++ r ≡ link ++ (sent ++ more)
moves_back took t r link sent more after moves rest =
    append_assoc took t r ∙ (ap (λ (xs : List Msg). took ++ xs) rest ∙ (sym (append_assoc took after more) ∙ (ap (λ (xs : List Msg). xs ++ more) moves ∙ append_assoc link sent more)))

module _ (parts : Parts) (parameters : Parameters) (s : MachineState) (aimed : IsAimed parts s) (logged : Logged) (enabled : IsTrue (is_enabled parts parameters s logged.entry.event))
    (taken : taken_by parts s logged.entry.event ≡ logged.taken) (sent : logged.sent ≡ (stepped_by parts parameters s logged.entry.event).sends) where
  -- what a delivery took stood first on its link
  first_taken : (from to : NodeNo) → logged.entry.event ≡ Deliver from to → (msg : Msg) × (logged.taken ≡ Some msg) × (front (link_at parts s from.0 to.0) ≡ Some msg)
  first_taken from to is =
      let has = has_front parts parameters s (Deliver from to) (subst (λ (e : Event). IsTrue (is_enabled parts parameters s e)) is enabled) in
      (has.0, sym taken ∙ (ap (taken_by parts s) is ∙ has.1), has.1)

  took_taken : (a b : ℕ) → took_here a b logged ++ cond (takes_from logged.entry.event a b) (behind (link_at parts s a b)) (link_at parts s a b) ≡ link_at parts s a b
  took_taken a b = go logged.entry.event refl
    where
      nothing : (c : Bool) (xs : List Msg) → cond {A = List Msg} c [] [] ++ xs ≡ xs
      nothing true xs = refl
      nothing false xs = refl

      both : (from to : NodeNo) → logged.entry.event ≡ Deliver from to → (c d : Bool) → (a == from.0) ≡ c → (b == to.0) ≡ d
          → cond d (cond c (option_to_list logged.taken) []) [] ++ cond (c && d) (behind (link_at parts s a b)) (link_at parts s a b) ≡ link_at parts s a b
      both from to is true false one other = refl
      both from to is false true one other = refl
      both from to is false false one other = refl
      both from to is true true one other =
          let t = first_taken from to is in
          let first : front (link_at parts s a b) ≡ Some t.0 = (λ x. front (link_at parts s (eqb-true a from.0 one x) (eqb-true b to.0 other x))) ∙ t.2 in
          ap (λ (o : Option Msg). option_to_list o ++ behind (link_at parts s a b)) t.1 ∙ sym (split_front (link_at parts s a b) t.0 first)

      go : (e : Event) → logged.entry.event ≡ e → cond (node_of e == b) (cond (is_from a e) (option_to_list logged.taken) []) [] ++ cond (takes_from e a b) (behind (link_at parts s a b)) (link_at parts s a b) ≡ link_at parts s a b
      go (Instr at) is = nothing (at.0 == b) (link_at parts s a b)
      go (Handle at) is = nothing (at.0 == b) (link_at parts s a b)
      go (Evict at emptied) is = nothing (at.0 == b) (link_at parts s a b)
      go (Deliver from to) is =
          (λ x. cond (eqb_turned to.0 b x) (cond (eqb_turned from.0 a x) (option_to_list logged.taken) []) [] ++ cond (a == from.0 && (b == to.0)) (behind (link_at parts s a b)) (link_at parts s a b))
          ∙ both from to is (a == from.0) (b == to.0) refl refl

  -- what the entry took of a link and what the link holds then is what it held and what the entry sent
  pub link_moves : (a b : ℕ) → b < node_count parts → took_here a b logged ++ link_at parts (step parts parameters s logged.entry.event) a b ≡ link_at parts s a b ++ sent_here a b logged
  link_moves a b m =
      let n = node_of logged.entry.event in
      let sends = (stepped_by parts parameters s logged.entry.event).sends in
      let left_there = cond (takes_from logged.entry.event a b) (behind (link_at parts s a b)) (link_at parts s a b) in
      let same : cond (a == n) (msgs_to b sends) [] ≡ sent_here a b logged = λ x. cond (eqb_turned a n x) ((msgs_picked b sends ∙ ap (picked b) (sym sent)) x) [] in
      ap (λ (xs : List Msg). took_here a b logged ++ xs) (link_is parts parameters s aimed logged.entry.event a b m enabled ∙ ap (λ (more : List Msg). left_there ++ more) same)
      ∙ (sym (append_assoc (took_here a b logged) left_there (sent_here a b logged)) ∙ ap (λ (xs : List Msg). xs ++ sent_here a b logged) (took_taken a b))
