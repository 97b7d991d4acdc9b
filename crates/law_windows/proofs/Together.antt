-- Where a node sees the same of two machines, and one of its events happens in both, it sees the same again.
use Rattle.std.proofs.Common.{◌≡◌, ◌≢◌, ℕ, ◌+◌, ◌<◌, ◌==◌, Bool, true, false, cond, IsTrue, Some, List, [], ◌∷◌, ◌++◌, slice_set, append-nil, refl, sym, ap, subst, ◌∙◌}
use Rattle.std.proofs.lemmas.Bool.{ne_eqb, eqb-true}
use Rattle.std.proofs.lemmas.Nat.{same_from_place}
use Rattle.alw_num.proofs.Weigh.{is_node}
use Rattle.alw_msg.specs.declared.messages.Msg.{Msg}
use Rattle.alw_msg.specs.declared.events.Event.{Event}
use Rattle.alw_msg.specs.declared.events.Event.TheVariants.{Instr, Handle, Deliver, Evict}
use Rattle.alw_msg.specs.Events.{node_of}
use Rattle.alw_msg.specs.Lists.{front, behind}
use Rattle.alw_image.specs.declared.parts.Parts.{Parts}
use Rattle.alw_image.specs.Images.{node_count}
use Rattle.alw_image.specs.Parameters.{Parameters}
use Rattle.alw_model.specs.NodeSteps.{Stepped}
use Rattle.alw_model.specs.Machine.{MachineState, no_node, link_at, link_place, is_enabled, stepped_by, step}
use Rattle.alw_model.proofs.Journals.{and_parts}
use Rattle.law_lines.specs.Links.{GoBelow, msgs_to}
use Rattle.law_lines.proofs.Steps.{enabled_is}
use Rattle.law_order.specs.Orders.{SeesAlike, takes_from}
use Rattle.law_order.proofs.Aimed.{sends_below}
use Rattle.law_order.proofs.Local.{HasFront, has_front, enabled_alike, stepped_alike}
use Rattle.law_order.proofs.LinksAfter.{link_is}
use Rattle.law_order.proofs.Places.{changed_here, changed_there, fits_where_front}
use Rattle.alw_times.specs.declared.costs.Costs.{Costs}
use Rattle.alw_times.specs.declared.happenings.TimedMoment.{TimedMoment}
use Rattle.alw_times.specs.Times.{Times, time_at, queue_at, arrivals_taken, leaves_at, start_of, finish_of, cost_of, passed}
use Rattle.law_times.proofs.Apart.{HasTime}
use Rattle.law_times.proofs.Changes.{pushes}
use Rattle.law_times.proofs.Counted.{has_time, runs_within}
use Rattle.law_times.proofs.Effects.{port_by, goes, wakes_by, state_by, processor_changes, controller_changes, draw_changes, packet_changes, applied, left_is}
use Rattle.law_times.proofs.Orders.{AreTimesOf, moment_alike}
use Rattle.alw_times.specs.Happening.{happened_of}
use Rattle.law_windows.specs.Windows.{GoOnFrom}
use Rattle.law_windows.proofs.Messages.{unsent, go_none}
use Rattle.law_windows.proofs.Others.{happening}
use Rattle.law_windows.proofs.Same.{SameAt, same_changed, same_all}
use Rattle.law_windows.proofs.Sees.{Sees, LinkGoesOn, TakesAlike, front_more, takes_alike, alike_so, start_alike}

-- ---- a queue of which the front is taken

behind_more : {X : Type 0} (xs more : List X) (x : X) → front xs ≡ Some x → behind (xs ++ more) ≡ behind xs ++ more
behind_more [] more x is = absurd (cc)
behind_more (y ∷ rest) more x is = refl

taken_same : (parts : Parts) (p : ℕ) (event : Event) (xs ys : List (List ℕ)) → SameAt [] p xs ys → SameAt [] p (arrivals_taken parts event xs) (arrivals_taken parts event ys)
taken_same parts p (Instr at) xs ys same = same
taken_same parts p (Handle at) xs ys same = same
taken_same parts p (Evict at set) xs ys same = same
taken_same parts p (Deliver from to) xs ys same = same_changed [] p (link_place parts from.0 to.0) behind xs ys same

module _ (parts : Parts) (bound : ℕ) where
  -- arrivals that go on do so once one is taken off both
  taken_on : (event : Event) (xs ys : List (List ℕ)) (from : ℕ) → node_of event < node_count parts → HasTime parts ys event →
      GoOnFrom bound (queue_at ys (link_place parts from (node_of event))) (queue_at xs (link_place parts from (node_of event))) →
      GoOnFrom bound (queue_at (arrivals_taken parts event ys) (link_place parts from (node_of event))) (queue_at (arrivals_taken parts event xs) (link_place parts from (node_of event)))
  taken_on (Instr at) xs ys from here has on = on
  taken_on (Handle at) xs ys from here has on = on
  taken_on (Evict at set) xs ys from here has on = on
  taken_on (Deliver a b) xs ys from here has on = is_node After from a.0
      (λ same. subst (λ (k : ℕ). GoOnFrom bound (queue_at ys (link_place parts k b.0)) (queue_at xs (link_place parts k b.0)) →
      GoOnFrom bound (queue_at (arrivals_taken parts (Deliver a b) ys) (link_place parts k b.0)) (queue_at (arrivals_taken parts (Deliver a b) xs) (link_place parts k b.0))) (sym same) both on)
      (λ other. let apart : link_place parts from b.0 ≢ q = λ same. other (same_from_place from b.0 a.0 b.0 (node_count parts) here here same).0 in
      record {
        more = on.more;
        after_is = changed_there [] xs q (link_place parts from b.0) behind apart ∙ (on.after_is ∙ ap (λ (queue : List ℕ). queue ++ on.more) (sym (changed_there [] ys q (link_place parts from b.0) behind apart)));
        late = on.late;
      })
    where
      q : ℕ
      q = link_place parts a.0 b.0

      After : Type 0
      After = GoOnFrom bound (queue_at (arrivals_taken parts (Deliver a b) ys) (link_place parts from b.0)) (queue_at (arrivals_taken parts (Deliver a b) xs) (link_place parts from b.0))

      both : GoOnFrom bound (queue_at ys (link_place parts a.0 b.0)) (queue_at xs (link_place parts a.0 b.0)) →
          GoOnFrom bound (queue_at (arrivals_taken parts (Deliver a b) ys) (link_place parts a.0 b.0)) (queue_at (arrivals_taken parts (Deliver a b) xs) (link_place parts a.0 b.0))
      both go =
          let first : front (queue_at xs (link_place parts a.0 b.0)) ≡ Some has.0 = ap front go.after_is ∙ front_more (queue_at ys (link_place parts a.0 b.0)) go.more has.0 has.1 in
          record {
            more = go.more;
            after_is = changed_here [] xs (link_place parts a.0 b.0) behind (fits_where_front xs (link_place parts a.0 b.0) has.0 first)
                ∙ (ap behind go.after_is ∙ (behind_more (queue_at ys (link_place parts a.0 b.0)) go.more has.0 has.1
                ∙ ap (λ (queue : List ℕ). queue ++ go.more) (sym (changed_here [] ys (link_place parts a.0 b.0) behind (fits_where_front ys (link_place parts a.0 b.0) has.0 has.1)))));
            late = go.late;
          }

  -- the same of messages
  link_taken : (b : Bool) (xs ys more : List Msg) → xs ≡ ys ++ more → (b ≡ true → (msg : Msg) × (front ys ≡ Some msg)) → cond b (behind xs) xs ≡ cond b (behind ys) ys ++ more
  link_taken false xs ys more is has = is
  link_taken true xs ys more is has = let some = has refl in ap behind is ∙ behind_more ys more some.0 some.1

  takes_front : (parameters : Parameters) (s : MachineState) (event : Event) (from : ℕ) → HasFront parts parameters s.links event → takes_from event from (node_of event) ≡ true →
      (msg : Msg) × (front (link_at parts s from (node_of event)) ≡ Some msg)
  takes_front parameters s (Instr at) from has takes = absurd (cc)
  takes_front parameters s (Handle at) from has takes = absurd (cc)
  takes_front parameters s (Evict at set) from has takes = absurd (cc)
  takes_front parameters s (Deliver a b) from has takes =
      let same = eqb-true from a.0 (and_parts (from == a.0) (b.0 == b.0) takes).0 in
      (has.0, ap (λ k. front (link_at parts s k b.0)) same ∙ has.1)

module _ (parts : Parts) (parameters : Parameters) (costs : Costs) (bound : ℕ) (s : MachineState) (t : Times) (s' : MachineState) (t' : Times) (e : Event) (sees : Sees parts (node_of e) bound s t s' t')
    (enabled' : IsTrue (is_enabled parts parameters s' e)) (are : AreTimesOf parts parameters costs t s) (are' : AreTimesOf parts parameters costs t' s') where
  abbrev n : ℕ
  n = node_of e

  takes : TakesAlike parts parameters bound s t s' t' e
  takes = takes_alike parts parameters bound s t s' t' e sees are'.arrivals enabled'

  alike : SeesAlike parts e s s'
  alike = alike_so parts parameters bound s t s' t' e sees takes.taken

  enabled : IsTrue (is_enabled parts parameters s e)
  enabled = enabled_alike parts parameters s s' e alike ∙ enabled'

  here : n < node_count parts
  here = (enabled_is parts parameters s e enabled).here

  abbrev v : Stepped
  v = stepped_by parts parameters s e

  abbrev v' : Stepped
  v' = stepped_by parts parameters s' e

  abbrev s1 : MachineState
  s1 = step parts parameters s e

  abbrev s1' : MachineState
  s1' = step parts parameters s' e

  stepped : v ≡ v'
  stepped = stepped_alike parts parameters s s' e alike

  abbrev happened : TimedMoment
  happened = happening parts parameters s e

  abbrev happened' : TimedMoment
  happened' = happening parts parameters s' e

  happens : happened ≡ happened'
  happens = ap happened_of (moment_alike parts parameters costs s s' (record { stamp = 0; event = e }) alike)

  abbrev start : ℕ
  start = start_of parts costs t happened

  abbrev finish : ℕ
  finish = finish_of parts costs t happened v.sends

  abbrev port : ℕ
  port = time_at t.ports n

  abbrev draws : ℕ
  draws = time_at t.draws n

  starts_same : start ≡ start_of parts costs t' happened
  starts_same = start_alike parts parameters bound s t s' t' costs happened.slot e sees (runs_within parts s n are.slots) takes.arrival

  abbrev t1 : Times
  t1 = applied parts costs happened v.sends start finish port draws t

  abbrev t1' : Times
  t1' = applied parts costs happened v.sends start finish port draws t'

  first_is : passed parts costs t happened v.sends ≡ t1
  first_is = left_is parts costs happened v.sends t start finish

  second_is : passed parts costs t' happened' v'.sends ≡ t1'
  second_is =
      (λ x. passed parts costs t' (sym happens x) (sym stepped x).sends)
      ∙ (left_is parts costs happened v.sends t' (start_of parts costs t' happened) (finish_of parts costs t' happened v.sends)
      ∙ (λ x. applied parts costs happened v.sends (sym starts_same x) (sym starts_same x + cost_of costs happened v.sends) (sym sees.ports.here x) (sym sees.draws.here x) t'))

  below : GoBelow (node_count parts) v.sends
  below = sends_below parts parameters s e enabled are.aimed

  below' : GoBelow (node_count parts) v'.sends
  below' = sends_below parts parameters s' e enabled' are'.aimed

  -- ---- its links

  abbrev out : List (ℕ × ℕ)
  out = goes parts costs n (leaves_at e start finish) port v.sends

  own_same : SameAt [] (link_place parts n n) t1.arrivals t1'.arrivals
  own_same = same_all [] (pushes out) (link_place parts n n) (arrivals_taken parts e t.arrivals) (arrivals_taken parts e t'.arrivals) (taken_same parts (link_place parts n n) e t.arrivals t'.arrivals sees.own_arrivals)

  own_link_same : link_at parts s1 n n ≡ link_at parts s1' n n
  own_link_same =
      link_is parts parameters s are.aimed e n n here enabled
      ∙ ((λ x. cond (takes_from e n n) (behind (sees.own_link x)) (sees.own_link x) ++ cond (n == n) (msgs_to n (stepped x).sends) [])
      ∙ sym (link_is parts parameters s' are'.aimed e n n here enabled'))

  own_on : LinkGoesOn parts n bound n s1 t1 s1' t1'
  own_on = record {
    arrivals = subst (λ (queue : List ℕ). GoOnFrom bound (queue_at t1'.arrivals (link_place parts n n)) queue) (sym own_same.here) (go_none bound (queue_at t1'.arrivals (link_place parts n n)));
    more = [];
    link = own_link_same ∙ sym (append-nil (link_at parts s1' n n));
  }

  other_on : (from : ℕ) → from ≢ n → LinkGoesOn parts n bound from s t s' t' → LinkGoesOn parts n bound from s1 t1 s1' t1'
  other_on from other on = record {
    arrivals = subst (λ (queue : List ℕ). GoOnFrom bound (queue_at t1'.arrivals p) queue) (sym one) (subst (λ (queue : List ℕ). GoOnFrom bound queue (queue_at (arrivals_taken parts e t.arrivals) p)) (sym two)
        (taken_on parts bound e t.arrivals t'.arrivals from here (has_time parts parameters t'.arrivals s'.links e are'.arrivals (has_front parts parameters s' e enabled')) on.arrivals));
    more = on.more;
    link = link_is parts parameters s are.aimed e from n here enabled
        ∙ ((λ x. cond (takes_from e from n) (behind (link_at parts s from n)) (link_at parts s from n) ++ cond (ne_eqb from n other x) (msgs_to n v.sends) [])
        ∙ (append-nil _
        ∙ (link_taken parts bound (takes_from e from n) (link_at parts s from n) (link_at parts s' from n) on.more on.link (takes_front parts bound parameters s' e from (has_front parts parameters s' e enabled'))
        ∙ ap (λ (msgs : List Msg). msgs ++ on.more) (sym left))));
  }
    where
      p : ℕ
      p = link_place parts from n

      one : queue_at t1.arrivals p ≡ queue_at (arrivals_taken parts e t.arrivals) p
      one = ap (λ (x : Times). queue_at x.arrivals p) (sym first_is) ∙ unsent parts costs t happened v.sends here below from n other here

      two : queue_at t1'.arrivals p ≡ queue_at (arrivals_taken parts e t'.arrivals) p
      two = ap (λ (x : Times). queue_at x.arrivals p) (sym second_is) ∙ unsent parts costs t' happened' v'.sends here below' from n other here

      left : link_at parts s1' from n ≡ cond (takes_from e from n) (behind (link_at parts s' from n)) (link_at parts s' from n)
      left = link_is parts parameters s' are'.aimed e from n here enabled'
          ∙ ((λ x. cond (takes_from e from n) (behind (link_at parts s' from n)) (link_at parts s' from n) ++ cond (ne_eqb from n other x) (msgs_to n v'.sends) []) ∙ append-nil _)

  -- ---- all of it

  applied_sees : Sees parts n bound s1 t1 s1' t1'
  applied_sees = record {
    nodes = subst (λ (w : Stepped). SameAt no_node n s1.nodes (slice_set s'.nodes n w.node)) stepped (same_changed no_node n n (λ old. v.node) s.nodes s'.nodes sees.nodes);
    starts = same_changed 0 n n (λ old. start) t.starts t'.starts sees.starts;
    processors = same_all 0 (processor_changes finish e) n t.processors t'.processors sees.processors;
    controllers = same_all 0 (controller_changes finish e) n t.controllers t'.controllers sees.controllers;
    ports = same_changed 0 n n (λ old. port_by parts costs n (leaves_at e start finish) port v.sends) t.ports t'.ports sees.ports;
    draws = same_all 0 (draw_changes (state_by parts costs happened draws e) e) n t.draws t'.draws sees.draws;
    wakes = λ p own. same_all 0 (wakes_by parts costs happened finish draws e) p t.wakes t'.wakes (sees.wakes p own);
    packets = same_all [] (packet_changes v.did finish e) n t.packets t'.packets sees.packets;
    own_arrivals = own_same;
    own_link = own_link_same;
    links = λ from sender. is_node (LinkGoesOn parts n bound from s1 t1 s1' t1') from n
        (λ same. subst (λ (k : ℕ). LinkGoesOn parts n bound k s1 t1 s1' t1') (sym same) own_on)
        (λ other. other_on from other (sees.links from sender));
  }

  -- the node sees the same of both machines after the event
  pub together_sees : Sees parts n bound s1 (passed parts costs t happened v.sends) s1' (passed parts costs t' happened' v'.sends)
  together_sees = subst (λ (x : Times). Sees parts n bound s1 x s1' (passed parts costs t' happened' v'.sends)) (sym first_is) (subst (λ (x : Times). Sees parts n bound s1 t1 s1' x) (sym second_is) applied_sees)
