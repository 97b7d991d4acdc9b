-- Two events of different nodes, of which neither takes what the other sends, leave the same times in either order.
use Rattle.std.proofs.Common.{◌≡◌, ◌≢◌, ◌<◌, ℕ, ◌+◌, ◌*◌, max, Option, Some, None, List, [], ◌∷◌, refl, sym, ap, ◌∙◌, arith}
use Rattle.std.proofs.lemmas.List.{get_or-set_other, set_comm}
use Rattle.std.proofs.lemmas.Nat.{same_from_place}
use Rattle.alw_msg.specs.declared.messages.Msg.{Msg}
use Rattle.alw_msg.specs.declared.events.Event.{Event}
use Rattle.alw_msg.specs.declared.events.Event.TheVariants.{Instr, Handle, Deliver, Evict}
use Rattle.alw_msg.specs.Events.{node_of}
use Rattle.alw_msg.specs.Lists.{front, behind}
use Rattle.alw_image.specs.declared.parts.Parts.{Parts}
use Rattle.alw_image.specs.Images.{node_count}
use Rattle.alw_model.specs.Machine.{link_place}
use Rattle.law_lines.specs.Links.{GoBelow}
use Rattle.law_order.proofs.Places.{changes_apart, changed_there}
use Rattle.alw_times.specs.declared.costs.Costs.{Costs}
use Rattle.alw_times.specs.declared.happenings.TimedMoment.{TimedMoment}
use Rattle.alw_times.specs.Times.{Times, time_at, queue_at, first_time, woken_at, arrival_of, begin_by, start_by, leaves_at, arrivals_taken, cost_of, start_of, finish_of, passed}
use Rattle.law_times.proofs.Changes.{changed_all, AllAt, all_and_all, read_apart, pushes, pushes_at, front_stays, pop_and_push}
use Rattle.law_times.proofs.Effects.{port_by, goes, goes_at, wakes_by, wakes_of_node, state_by, IsContextOf, processor_changes, controller_changes, draw_changes, packet_changes, Is, processor_at, controller_at, draw_at, packet_at, applied, left_is}

module _ (parts : Parts) where
  -- ---- arrivals: what one event takes and sends, and another

  -- a delivery has an arrival to take
  abbrev pub HasTime : List (List ℕ) → Event → Type 0
  HasTime arrivals (Deliver from to) = (time : ℕ) × (front (queue_at arrivals (link_place parts from.0 to.0)) ≡ Some time)
  HasTime arrivals event = Unit {0}

  abbrev IsLinkOf : ℕ → ℕ → Type 0
  IsLinkOf from place = (to : ℕ) × ((to < node_count parts) × (place ≡ link_place parts from to))

  link_kept : (arrivals : List (List ℕ)) (event : Event) (a b : ℕ) → node_of event < node_count parts → b < node_count parts → b ≢ node_of event →
      queue_at (arrivals_taken parts event arrivals) (link_place parts a b) ≡ queue_at arrivals (link_place parts a b)
  link_kept arrivals (Instr at) a b l m other = refl
  link_kept arrivals (Handle at) a b l m other = refl
  link_kept arrivals (Evict at set) a b l m other = refl
  link_kept arrivals (Deliver from to) a b l m other =
      changed_there [] arrivals (link_place parts from.0 to.0) (link_place parts a b) behind (λ e. other (same_from_place a b from.0 to.0 (node_count parts) m l e).1)

  time_kept : (arrivals : List (List ℕ)) (e f : Event) → node_of e < node_count parts → node_of f < node_count parts → node_of f ≢ node_of e → HasTime arrivals f →
      HasTime (arrivals_taken parts e arrivals) f
  time_kept arrivals e (Instr at) l m apart has = tt
  time_kept arrivals e (Handle at) l m apart has = tt
  time_kept arrivals e (Evict at set) l m apart has = tt
  time_kept arrivals e (Deliver from to) l m apart has = (has.0, ap front (link_kept arrivals e from.0 to.0 l m apart) ∙ has.1)

  takes_apart : (arrivals : List (List ℕ)) (e f : Event) → node_of e < node_count parts → node_of f < node_count parts → node_of f ≢ node_of e →
      arrivals_taken parts f (arrivals_taken parts e arrivals) ≡ arrivals_taken parts e (arrivals_taken parts f arrivals)
  takes_apart arrivals (Instr at) f l m apart = refl
  takes_apart arrivals (Handle at) f l m apart = refl
  takes_apart arrivals (Evict at set) f l m apart = refl
  takes_apart arrivals (Deliver from to) (Instr at) l m apart = refl
  takes_apart arrivals (Deliver from to) (Handle at) l m apart = refl
  takes_apart arrivals (Deliver from to) (Evict at set) l m apart = refl
  takes_apart arrivals (Deliver from to) (Deliver other at) l m apart =
      changes_apart [] arrivals (link_place parts from.0 to.0) (link_place parts other.0 at.0) behind behind
      (λ e. apart (sym (same_from_place from.0 to.0 other.0 at.0 (node_count parts) l m e).1))

  takes_before : (arrivals : List (List ℕ)) (f : Event) (out : List (ℕ × ℕ)) → HasTime arrivals f →
      arrivals_taken parts f (changed_all [] (pushes out) arrivals) ≡ changed_all [] (pushes out) (arrivals_taken parts f arrivals)
  takes_before arrivals (Instr at) out has = refl
  takes_before arrivals (Handle at) out has = refl
  takes_before arrivals (Evict at set) out has = refl
  takes_before arrivals (Deliver from to) out has = pop_and_push out arrivals (link_place parts from.0 to.0) has.0 has.1

  -- links from two nodes are two
  pub links_apart : (n m : ℕ) → n ≢ m → (p q : ℕ) → IsLinkOf n p → IsLinkOf m q → p ≢ q
  links_apart n m apart p q (to, (l, is)) (other, (k, also)) same = apart (same_from_place n to m other (node_count parts) l k (sym is ∙ (same ∙ also))).0

  -- contexts of two nodes are two
  pub contexts_apart : (n m : ℕ) → n ≢ m → (p q : ℕ) → IsContextOf parts n p → IsContextOf parts m q → p ≢ q
  contexts_apart n m apart p q (slot, (l, is)) (other, (k, also)) same = apart (same_from_place n slot m other parts.contexts l k (sym is ∙ (same ∙ also))).0

  -- two nodes are two
  pub nodes_apart : (n m : ℕ) → n ≢ m → (p q : ℕ) → Is n p → Is m q → p ≢ q
  nodes_apart n m apart p q is also same = apart (sym is ∙ (same ∙ also))

  module _ (e f : Event) (l : node_of e < node_count parts) (m : node_of f < node_count parts) (apart : node_of f ≢ node_of e) where
    back : node_of e ≢ node_of f
    back same = apart (sym same)

    -- what two events take and send, in either order
    arrivals_apart : (arrivals : List (List ℕ)) (one other : List (ℕ × ℕ)) → AllAt [] (IsLinkOf (node_of e)) (pushes one) → AllAt [] (IsLinkOf (node_of f)) (pushes other) →
        HasTime arrivals e → HasTime arrivals f →
        changed_all [] (pushes other) (arrivals_taken parts f (changed_all [] (pushes one) (arrivals_taken parts e arrivals)))
        ≡ changed_all [] (pushes one) (arrivals_taken parts e (changed_all [] (pushes other) (arrivals_taken parts f arrivals)))
    arrivals_apart arrivals one other first second has also =
        ap (changed_all [] (pushes other)) (takes_before (arrivals_taken parts e arrivals) f one (time_kept arrivals e f l m apart also))
        ∙ (all_and_all [] (IsLinkOf (node_of e)) (IsLinkOf (node_of f)) (pushes one) (pushes other) (arrivals_taken parts f (arrivals_taken parts e arrivals))
        (links_apart (node_of e) (node_of f) back) first second
        ∙ (ap (λ (queues : List (List ℕ)). changed_all [] (pushes one) (changed_all [] (pushes other) queues)) (takes_apart arrivals e f l m apart)
        ∙ sym (ap (changed_all [] (pushes one)) (takes_before (arrivals_taken parts f arrivals) e other (time_kept arrivals f e m l back has)))))

first_is : (queue : List ℕ) (time : ℕ) → front queue ≡ Some time → first_time queue ≡ time
first_is [] time is = absurd (cc)
first_is (t ∷ rest) time is = cc

-- a slot that runs is one of its node's
abbrev pub SlotFits : Parts → Option ℕ → Type 0
SlotFits parts None = Unit {0}
SlotFits parts (Some slot) = slot < parts.contexts

module _ (parts : Parts) (costs : Costs) where
  -- ---- what an event of another node reads

  module _ (a : TimedMoment) (sends : List (ℕ × Msg)) (start finish port state : ℕ) (times : Times) (l : node_of a.event < node_count parts) where
    abbrev after : Times
    after = applied parts costs a sends start finish port state times

    processor_read : (m : ℕ) → m ≢ node_of a.event → time_at after.processors m ≡ time_at times.processors m
    processor_read m apart = read_apart 0 (Is (node_of a.event)) (processor_changes finish a.event) times.processors m (λ q is same. apart (same ∙ is)) (processor_at finish a.event)

    controller_read : (m : ℕ) → m ≢ node_of a.event → time_at after.controllers m ≡ time_at times.controllers m
    controller_read m apart = read_apart 0 (Is (node_of a.event)) (controller_changes finish a.event) times.controllers m (λ q is same. apart (same ∙ is)) (controller_at finish a.event)

    draw_read : (m : ℕ) → m ≢ node_of a.event → time_at after.draws m ≡ time_at times.draws m
    draw_read m apart =
        let drawn = state_by parts costs a state a.event in
        read_apart 0 (Is (node_of a.event)) (draw_changes drawn a.event) times.draws m (λ q is same. apart (same ∙ is)) (draw_at drawn a.event)

    packet_read : (m : ℕ) → m ≢ node_of a.event → queue_at after.packets m ≡ queue_at times.packets m
    packet_read m apart = read_apart [] (Is (node_of a.event)) (packet_changes a.did finish a.event) times.packets m (λ q is same. apart (same ∙ is)) (packet_at a.did finish a.event)

    wake_read : (m slot : ℕ) → m ≢ node_of a.event → slot < parts.contexts → time_at after.wakes (m * parts.contexts + slot) ≡ time_at times.wakes (m * parts.contexts + slot)
    wake_read m slot apart less =
        read_apart 0 (IsContextOf parts (node_of a.event)) (wakes_by parts costs a finish state a.event) times.wakes (m * parts.contexts + slot)
        (λ q is. contexts_apart parts m (node_of a.event) apart (m * parts.contexts + slot) q (slot, (less, refl)) is) (wakes_of_node parts costs a finish state a.event)

    woken_read : (m : ℕ) (slot : Option ℕ) → m ≢ node_of a.event → SlotFits parts slot → woken_at parts after m slot ≡ woken_at parts times m slot
    woken_read m None apart fits = refl
    woken_read m (Some slot) apart fits = wake_read m slot apart fits

    arrival_read : (f : Event) → node_of f ≢ node_of a.event → node_of f < node_count parts → HasTime parts times.arrivals f → arrival_of parts after f ≡ arrival_of parts times f
    arrival_read (Instr at) apart m has = refl
    arrival_read (Handle at) apart m has = ap first_time (packet_read at.0 apart)
    arrival_read (Deliver from to) apart m has =
        let leave = leaves_at a.event start finish in
        let p = link_place parts from.0 to.0 in
        let still = ap front (link_kept parts times.arrivals a.event from.0 to.0 l m apart) ∙ has.1 in
        let stays = front_stays (goes parts costs (node_of a.event) leave port sends) (arrivals_taken parts a.event times.arrivals) p has.0 still in
        first_is (queue_at after.arrivals p) has.0 stays ∙ sym (first_is (queue_at times.arrivals p) has.0 has.1)
    arrival_read (Evict at set) apart m has = refl

    begin_read : (slot : Option ℕ) (f : Event) → node_of f ≢ node_of a.event → node_of f < node_count parts → SlotFits parts slot → HasTime parts times.arrivals f →
        begin_by parts after slot f ≡ begin_by parts times slot f
    begin_read slot (Instr at) apart m fits has = λ x. max (processor_read at.0 apart x) (woken_read at.0 slot apart fits x)
    begin_read slot (Handle at) apart m fits has = λ x. max (processor_read at.0 apart x) (arrival_read (Handle at) apart m has x)
    begin_read slot (Deliver from to) apart m fits has = λ x. max (controller_read to.0 apart x) (arrival_read (Deliver from to) apart m has x)
    begin_read slot (Evict at set) apart m fits has = controller_read at.0 apart

    start_read : (slot : Option ℕ) (f : Event) → node_of f ≢ node_of a.event → node_of f < node_count parts → SlotFits parts slot → HasTime parts times.arrivals f →
        start_by parts costs after slot f ≡ start_by parts costs times slot f
    start_read slot f apart m fits has =
        let last : time_at after.starts (node_of f) ≡ time_at times.starts (node_of f) = get_or-set_other times.starts (node_of a.event) (node_of f) start 0 apart in
        let begins = begin_read slot f apart m fits has in
        omega (arith, last, begins)

    port_read : (m : ℕ) → m ≢ node_of a.event → time_at after.ports m ≡ time_at times.ports m
    port_read m apart = get_or-set_other times.ports (node_of a.event) m (port_by parts costs (node_of a.event) (leaves_at a.event start finish) port sends) 0 apart

  -- ---- two events

  module _ (a b : TimedMoment) (one other : List (ℕ × Msg)) (times : Times) (l : node_of a.event < node_count parts) (m : node_of b.event < node_count parts) (apart : node_of b.event ≢ node_of a.event)
      (below : GoBelow (node_count parts) one) (above : GoBelow (node_count parts) other) (has : HasTime parts times.arrivals a.event) (also : HasTime parts times.arrivals b.event) where
    aback : node_of a.event ≢ node_of b.event
    aback same = apart (sym same)

    -- two effects in either order
    applied_apart : (start finish port state begun ended free drawn : ℕ) →
        applied parts costs b other begun ended free drawn (applied parts costs a one start finish port state times)
        ≡ applied parts costs a one start finish port state (applied parts costs b other begun ended free drawn times)
    applied_apart start finish port state begun ended free drawn =
        let e = node_of a.event in
        let f = node_of b.event in
        let nodes = nodes_apart parts e f aback in
        let first = goes parts costs e (leaves_at a.event start finish) port one in
        let second = goes parts costs f (leaves_at b.event begun ended) free other in
        λ x. record {
          starts = set_comm times.starts e f start begun aback x;
          processors = all_and_all 0 (Is e) (Is f) (processor_changes finish a.event) (processor_changes ended b.event) times.processors nodes
              (processor_at finish a.event) (processor_at ended b.event) x;
          controllers = all_and_all 0 (Is e) (Is f) (controller_changes finish a.event) (controller_changes ended b.event) times.controllers nodes
              (controller_at finish a.event) (controller_at ended b.event) x;
          ports = set_comm times.ports e f (port_by parts costs e (leaves_at a.event start finish) port one) (port_by parts costs f (leaves_at b.event begun ended) free other) aback x;
          draws = all_and_all 0 (Is e) (Is f) (draw_changes (state_by parts costs a state a.event) a.event) (draw_changes (state_by parts costs b drawn b.event) b.event) times.draws nodes
              (draw_at (state_by parts costs a state a.event) a.event) (draw_at (state_by parts costs b drawn b.event) b.event) x;
          wakes = all_and_all 0 (IsContextOf parts e) (IsContextOf parts f) (wakes_by parts costs a finish state a.event) (wakes_by parts costs b ended drawn b.event) times.wakes
              (contexts_apart parts e f aback) (wakes_of_node parts costs a finish state a.event) (wakes_of_node parts costs b ended drawn b.event) x;
          arrivals = arrivals_apart parts a.event b.event l m apart times.arrivals first second
              (pushes_at (IsLinkOf parts e) first (goes_at parts costs e (leaves_at a.event start finish) (IsLinkOf parts e) port one (λ to less. (to, (less, refl))) below))
              (pushes_at (IsLinkOf parts f) second (goes_at parts costs f (leaves_at b.event begun ended) (IsLinkOf parts f) free other (λ to less. (to, (less, refl))) above)) has also x;
          packets = all_and_all [] (Is e) (Is f) (packet_changes a.did finish a.event) (packet_changes b.did ended b.event) times.packets nodes
              (packet_at a.did finish a.event) (packet_at b.did ended b.event) x;
          latest = same_latest finish ended x;
        }
      where
        same_latest : (finish ended : ℕ) → max (max times.latest finish) ended ≡ max (max times.latest ended) finish
        same_latest finish ended = omega arith

  -- what a moment does to a base, reading of the times
  abbrev as_read : Times → TimedMoment → List (ℕ × Msg) → Times → Times
  as_read times a sends base =
      applied parts costs a sends (start_of parts costs times a) (finish_of parts costs times a sends) (time_at times.ports (node_of a.event)) (time_at times.draws (node_of a.event)) base

  second_passed : (a b : TimedMoment) (one other : List (ℕ × Msg)) (times : Times) → node_of a.event < node_count parts → node_of b.event < node_count parts → node_of b.event ≢ node_of a.event →
      SlotFits parts b.slot → HasTime parts times.arrivals b.event → passed parts costs (passed parts costs times a one) b other ≡ as_read times b other (as_read times a one times)
  second_passed a b one other times l m apart fits has =
      let start = start_of parts costs times a in
      let finish = finish_of parts costs times a one in
      let port = time_at times.ports (node_of a.event) in
      let drawn = time_at times.draws (node_of a.event) in
      let base = as_read times a one times in
      let starts = start_read a one start finish port drawn times l b.slot b.event apart m fits has in
      let ports = port_read a one start finish port drawn times l (node_of b.event) apart in
      let draws = draw_read a one start finish port drawn times l (node_of b.event) apart in
      ap (λ (t : Times). passed parts costs t b other) (left_is parts costs a one times start finish)
      ∙ (left_is parts costs b other base (start_of parts costs base b) (finish_of parts costs base b other)
      ∙ (λ x. applied parts costs b other (starts x) (starts x + cost_of costs b other) (ports x) (draws x) base))

  -- what an event of another node has of the times
  pub start_kept : (a b : TimedMoment) (one : List (ℕ × Msg)) (times : Times) → node_of a.event < node_count parts → node_of b.event < node_count parts → node_of b.event ≢ node_of a.event →
      SlotFits parts b.slot → HasTime parts times.arrivals b.event → start_of parts costs (passed parts costs times a one) b ≡ start_of parts costs times b
  start_kept a b one times l m apart fits has =
      let start = start_of parts costs times a in
      let finish = finish_of parts costs times a one in
      ap (λ (t : Times). start_of parts costs t b) (left_is parts costs a one times start finish)
      ∙ start_read a one start finish (time_at times.ports (node_of a.event)) (time_at times.draws (node_of a.event)) times l b.slot b.event apart m fits has

  -- its message arrives when it would
  pub arrival_kept : (a b : TimedMoment) (one : List (ℕ × Msg)) (times : Times) → node_of a.event < node_count parts → node_of b.event < node_count parts → node_of b.event ≢ node_of a.event →
      HasTime parts times.arrivals b.event → arrival_of parts (passed parts costs times a one) b.event ≡ arrival_of parts times b.event
  arrival_kept a b one times l m apart has =
      let start = start_of parts costs times a in
      let finish = finish_of parts costs times a one in
      ap (λ (t : Times). arrival_of parts t b.event) (left_is parts costs a one times start finish)
      ∙ arrival_read a one start finish (time_at times.ports (node_of a.event)) (time_at times.draws (node_of a.event)) times l b.event apart m has

  -- two events that happened, in either order
  pub passed_apart : (a b : TimedMoment) (one other : List (ℕ × Msg)) (times : Times) → node_of a.event < node_count parts → node_of b.event < node_count parts → node_of b.event ≢ node_of a.event →
      SlotFits parts a.slot → SlotFits parts b.slot → GoBelow (node_count parts) one → GoBelow (node_count parts) other → HasTime parts times.arrivals a.event → HasTime parts times.arrivals b.event →
      passed parts costs (passed parts costs times a one) b other ≡ passed parts costs (passed parts costs times b other) a one
  passed_apart a b one other times l m apart fits fit below above has also =
      second_passed a b one other times l m apart fit also
      ∙ (applied_apart a b one other times l m apart below above has also (start_of parts costs times a) (finish_of parts costs times a one)
      (time_at times.ports (node_of a.event)) (time_at times.draws (node_of a.event)) (start_of parts costs times b) (finish_of parts costs times b other)
      (time_at times.ports (node_of b.event)) (time_at times.draws (node_of b.event))
      ∙ sym (second_passed b a other one times m l (λ same. apart (sym same)) fits has))
