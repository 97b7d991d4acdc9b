-- An event of another node leaves what a node sees, but for messages that arrive a lookahead behind its start, or later.
use Rattle.std.proofs.Common.{◌≡◌, ◌≢◌, ℕ, ◌+◌, ◌<◌, ◌≤◌, ◌==◌, cond, IsTrue, List, [], ◌++◌, length, append-nil, append_assoc, refl, sym, ap, subst, ◌∙◌}
use Rattle.std.proofs.lemmas.Bool.{ne_eqb}
use Rattle.std.proofs.lemmas.List.{get_or-set_other, length-set}
use Rattle.alw_num.proofs.Weigh.{is_node}
use Rattle.alw_msg.specs.declared.messages.Msg.{Msg}
use Rattle.alw_msg.specs.declared.events.Event.{Event}
use Rattle.alw_msg.specs.declared.events.Event.TheVariants.{Instr, Handle, Deliver, Evict}
use Rattle.alw_msg.specs.Events.{node_of}
use Rattle.alw_image.specs.declared.parts.Parts.{Parts}
use Rattle.alw_image.specs.Images.{node_count}
use Rattle.alw_image.specs.Parameters.{Parameters}
use Rattle.alw_model.specs.NodeSteps.{Stepped}
use Rattle.alw_model.specs.Machine.{MachineState, node_at, no_node, link_at, link_place, is_enabled, links_taken, stepped_by, step}
use Rattle.alw_model.specs.Runs.{moment_of}
use Rattle.law_lines.specs.Links.{GoBelow, msgs_to}
use Rattle.law_lines.proofs.Steps.{enabled_is}
use Rattle.law_order.proofs.Aimed.{sends_below, links_fit}
use Rattle.law_order.proofs.Local.{node_kept, link_kept}
use Rattle.law_lines.proofs.Links.{link_sent}
use Rattle.alw_times.specs.declared.costs.Costs.{Costs}
use Rattle.alw_times.specs.declared.happenings.TimedMoment.{TimedMoment}
use Rattle.alw_times.specs.Happening.{happened_of}
use Rattle.alw_times.specs.Times.{Times, time_at, queue_at, arrivals_taken, leaves_at, start_of, finish_of, passed}
use Rattle.law_times.proofs.Apart.{contexts_apart}
use Rattle.law_times.proofs.Changes.{pushes, read_apart}
use Rattle.law_times.proofs.Effects.{port_by, goes, wakes_by, wakes_of_node, state_by, IsContextOf, processor_changes, controller_changes, draw_changes, packet_changes, Is, processor_at, controller_at, draw_at, packet_at, applied, left_is}
use Rattle.law_times.proofs.Orders.{AreTimesOf}
use Rattle.law_windows.specs.Windows.{lookahead, GoOnFrom}
use Rattle.law_windows.proofs.Messages.{go_then, go_lower, sent_late, others_stay}
use Rattle.law_windows.proofs.Same.{same_left, all_long}
use Rattle.law_windows.proofs.Sees.{Sees, LinkGoesOn}

-- an event, as one that happens
abbrev pub happening : Parts → Parameters → MachineState → Event → TimedMoment
happening parts parameters s e = happened_of (moment_of parts parameters s (record { stamp = 0; event = e }))

taken_long : (parts : Parts) (event : Event) (arrivals : List (List ℕ)) → length (arrivals_taken parts event arrivals) ≡ length arrivals
taken_long parts (Instr at) arrivals = refl
taken_long parts (Handle at) arrivals = refl
taken_long parts (Evict at set) arrivals = refl
taken_long parts (Deliver from to) arrivals = length-set arrivals (link_place parts from.0 to.0) _

module _ (parts : Parts) (parameters : Parameters) (costs : Costs) (n bound : ℕ) (s : MachineState) (t : Times) (s' : MachineState) (t' : Times) (e : Event) (exists : n < node_count parts) (apart : n ≢ node_of e)
    (enabled : IsTrue (is_enabled parts parameters s e)) (are : AreTimesOf parts parameters costs t s) where
  abbrev happened : TimedMoment
  happened = happening parts parameters s e

  abbrev v : Stepped
  v = stepped_by parts parameters s e

  abbrev s1 : MachineState
  s1 = step parts parameters s e

  abbrev t1 : Times
  t1 = passed parts costs t happened v.sends

  abbrev start : ℕ
  start = start_of parts costs t happened

  abbrev finish : ℕ
  finish = finish_of parts costs t happened v.sends

  abbrev port : ℕ
  port = time_at t.ports (node_of e)

  abbrev draws : ℕ
  draws = time_at t.draws (node_of e)

  is : t1 ≡ applied parts costs happened v.sends start finish port draws t
  is = left_is parts costs happened v.sends t start finish

  here : node_of e < node_count parts
  here = (enabled_is parts parameters s e enabled).here

  below : GoBelow (node_count parts) v.sends
  below = sends_below parts parameters s e enabled are.aimed

  kept : (k : ℕ) → k ≢ node_of e → node_at s1 k ≡ node_at s k
  kept k other = node_kept parts parameters s e v k other

  -- a link to the node once the event has happened: what was there, and what it sends
  link_then : (from : ℕ) → link_at parts s1 from n ≡ link_at parts s from n ++ cond (from == node_of e) (msgs_to n v.sends) []
  link_then from =
      link_sent parts (node_of e) from n v.sends (links_taken parts s.links e) here exists (links_fit parts parameters s.links e ∙ are.aimed.links) below
      ∙ ap (λ (link : List Msg). link ++ cond (from == node_of e) (msgs_to n v.sends) []) (link_kept parts parameters s.links e from n here exists apart)

  unsent : (from : ℕ) → from ≢ node_of e → link_at parts s1 from n ≡ link_at parts s from n
  unsent from other = link_then from ∙ ((λ x. link_at parts s from n ++ cond (ne_eqb from (node_of e) other x) (msgs_to n v.sends) []) ∙ append-nil (link_at parts s from n))

  link_on : (low : bound ≤ start + lookahead costs) (from : ℕ) → from < node_count parts → LinkGoesOn parts n bound from s t s' t' → LinkGoesOn parts n bound from s1 t1 s' t'
  link_on low from sender on = is_node (LinkGoesOn parts n bound from s1 t1 s' t') from (node_of e)
      (λ same. subst (λ (k : ℕ). LinkGoesOn parts n bound k s t s' t' → LinkGoesOn parts n bound k s1 t1 s' t') (sym same) sent_on on)
      (λ other. record {
        arrivals = subst (λ (queue : List ℕ). GoOnFrom bound (queue_at t'.arrivals (link_place parts from n)) queue) (sym (others_stay parts costs t happened v.sends here below from n other exists apart)) on.arrivals;
        more = on.more;
        link = unsent from other ∙ on.link;
      })
    where
      sent_on : LinkGoesOn parts n bound (node_of e) s t s' t' → LinkGoesOn parts n bound (node_of e) s1 t1 s' t'
      sent_on on =
          let k = node_of e in
          let p = link_place parts k n in
          let late = go_lower parts bound (start + lookahead costs) (queue_at t.arrivals p) (queue_at t1.arrivals p) low (sent_late parts costs t happened v.sends here below n exists apart) in
          let msgs = cond (k == k) (msgs_to n v.sends) [] in
          record {
            arrivals = go_then bound (queue_at t'.arrivals p) (queue_at t.arrivals p) (queue_at t1.arrivals p) on.arrivals late;
            more = on.more ++ msgs;
            link = link_then k ∙ (ap (λ (link : List Msg). link ++ msgs) on.link ∙ append_assoc (link_at parts s' k n) on.more msgs);
          }

  -- the node sees the same of the machine after the event
  pub other_sees : bound ≤ start + lookahead costs → Sees parts n bound s t s' t' → Sees parts n bound s1 t1 s' t'
  other_sees low sees = record {
    nodes = same_left no_node n s.nodes s'.nodes s1.nodes (length-set s.nodes (node_of e) v.node) (kept n apart) sees.nodes;
    starts = same_left 0 n t.starts t'.starts t1.starts (length-set t.starts (node_of e) start) (get_or-set_other t.starts (node_of e) n start 0 apart) sees.starts;
    processors = same_left 0 n t.processors t'.processors t1.processors
        (ap (λ (x : Times). length x.processors) is ∙ all_long 0 (processor_changes finish e) t.processors)
        (ap (λ (x : Times). time_at x.processors n) is ∙ read_apart 0 (Is (node_of e)) (processor_changes finish e) t.processors n at_node (processor_at finish e)) sees.processors;
    controllers = same_left 0 n t.controllers t'.controllers t1.controllers
        (ap (λ (x : Times). length x.controllers) is ∙ all_long 0 (controller_changes finish e) t.controllers)
        (ap (λ (x : Times). time_at x.controllers n) is ∙ read_apart 0 (Is (node_of e)) (controller_changes finish e) t.controllers n at_node (controller_at finish e)) sees.controllers;
    ports = same_left 0 n t.ports t'.ports t1.ports
        (ap (λ (x : Times). length x.ports) is ∙ length-set t.ports (node_of e) free)
        (ap (λ (x : Times). time_at x.ports n) is ∙ get_or-set_other t.ports (node_of e) n free 0 apart) sees.ports;
    draws = same_left 0 n t.draws t'.draws t1.draws
        (ap (λ (x : Times). length x.draws) is ∙ all_long 0 (draw_changes drawn e) t.draws)
        (ap (λ (x : Times). time_at x.draws n) is ∙ read_apart 0 (Is (node_of e)) (draw_changes drawn e) t.draws n at_node (draw_at drawn e)) sees.draws;
    wakes = λ p own. same_left 0 p t.wakes t'.wakes t1.wakes
        (ap (λ (x : Times). length x.wakes) is ∙ all_long 0 (wakes_by parts costs happened finish draws e) t.wakes)
        (ap (λ (x : Times). time_at x.wakes p) is ∙ read_apart 0 (IsContextOf parts (node_of e)) (wakes_by parts costs happened finish draws e) t.wakes p
        (λ q that. contexts_apart parts n (node_of e) apart p q own that) (wakes_of_node parts costs happened finish draws e)) (sees.wakes p own);
    packets = same_left [] n t.packets t'.packets t1.packets
        (ap (λ (x : Times). length x.packets) is ∙ all_long [] (packet_changes v.did finish e) t.packets)
        (ap (λ (x : Times). queue_at x.packets n) is ∙ read_apart [] (Is (node_of e)) (packet_changes v.did finish e) t.packets n at_node (packet_at v.did finish e)) sees.packets;
    own_arrivals = same_left [] (link_place parts n n) t.arrivals t'.arrivals t1.arrivals
        (ap (λ (x : Times). length x.arrivals) is ∙ (all_long [] (pushes out) (arrivals_taken parts e t.arrivals) ∙ taken_long parts e t.arrivals))
        (others_stay parts costs t happened v.sends here below n n apart exists apart) sees.own_arrivals;
    own_link = unsent n apart ∙ sees.own_link;
    links = λ from sender. link_on low from sender (sees.links from sender);
  }
    where
      at_node : (q : ℕ) → Is (node_of e) q → n ≢ q
      at_node q that same = apart (same ∙ that)

      drawn : ℕ
      drawn = state_by parts costs happened draws e

      free : ℕ
      free = port_by parts costs (node_of e) (leaves_at e start finish) port v.sends

      out : List (ℕ × ℕ)
      out = goes parts costs (node_of e) (leaves_at e start finish) port v.sends
