-- What is sent to another node arrives a lookahead behind its event's start, or later.
use Rattle.std.proofs.Common.{◌≡◌, ◌≢◌, ℕ, zero, suc, ◌+◌, ◌*◌, ◌/◌, ◌%◌, ◌<◌, ◌≤◌, ◌==◌, max, Bool, true, false, cond, List, [], ◌∷◌, ◌++◌, append-nil, refl, sym, ap, subst, ◌∙◌, arith}
use Rattle.std.specs.List.{AllByRecursion}
use Rattle.std.proofs.Common.{append_assoc}
use Rattle.std.proofs.Math.Nat.{div-add-mod}
use Rattle.std.proofs.lemmas.Nat.{mul-le, same_from_place}
use Rattle.std.proofs.lemmas.Bool.{ne_eqb}
use Rattle.alw_msg.specs.declared.messages.Msg.{Msg}
use Rattle.alw_msg.specs.declared.events.Event.{Event}
use Rattle.alw_msg.specs.declared.events.Event.TheVariants.{Instr, Handle, Deliver, Evict}
use Rattle.alw_msg.specs.Events.{node_of}
use Rattle.alw_msg.specs.Lists.{behind}
use Rattle.alw_image.specs.declared.parts.Parts.{Parts}
use Rattle.alw_image.specs.Images.{node_count, hops_between}
use Rattle.alw_model.specs.Machine.{link_place}
use Rattle.law_lines.specs.Links.{GoBelow}
use Rattle.law_order.proofs.Places.{changed, changed_there}
use Rattle.alw_model.specs.Machine.{is_enabled}
use Rattle.alw_model.proofs.Journals.{and_parts}
use Rattle.law_order.proofs.Aimed.{sends_below}
use Rattle.alw_mesh.specs.Histories.{History, IsRun, grown, state_of, may_be_next}
use Rattle.alw_times.specs.declared.costs.Costs.{Costs}
use Rattle.alw_times.specs.declared.happenings.TimedMoment.{TimedMoment}
use Rattle.alw_times.specs.Times.{Times, time_at, queue_at, length_of, arrivals_taken, leaves_at, start_of, finish_of, cost_of, passed}
use Rattle.law_times.proofs.Changes.{changed_all, pushes, pushes_at, with_last, read_apart}
use Rattle.law_times.proofs.Effects.{time_one, port_one, goes, goes_at, left_is}
use Rattle.alw_due.proofs.Left as left
use Rattle.alw_due.proofs.Mains.{here}
use Rattle.alw_due.specs.Due.{times_in}
use Rattle.law_windows.specs.Windows.{lookahead, GoOnFrom, arrivals_between, start_next}

-- ---- arrivals that go on

pub go_none : (time : ℕ) (queue : List ℕ) → GoOnFrom time queue queue
go_none time queue = record { more = []; after_is = sym (append-nil queue); late = tt }

pub all_late : (time : ℕ) (one other : List ℕ) → AllByRecursion (λ arrival. time ≤ arrival) one → AllByRecursion (λ arrival. time ≤ arrival) other → AllByRecursion (λ arrival. time ≤ arrival) (one ++ other)
all_late time [] other first second = second
all_late time (arrival ∷ rest) other first second = (first.0, all_late time rest other first.1 second)

pub go_then : (time : ℕ) (a b c : List ℕ) → GoOnFrom time a b → GoOnFrom time b c → GoOnFrom time a c
go_then time a b c one other = record {
  more = one.more ++ other.more;
  after_is = other.after_is ∙ (ap (λ (queue : List ℕ). queue ++ other.more) one.after_is ∙ append_assoc a one.more other.more);
  late = all_late time one.more other.more one.late other.late;
}

-- a time is pushed at a place
pushed : (bound : ℕ) (queues : List (List ℕ)) (q p time : ℕ) → (p ≡ q → bound ≤ time) → GoOnFrom bound (queue_at queues p) (queue_at (changed [] queues q (with_last time)) p)
pushed bound [] q p time late = go_none bound []
pushed bound (queue ∷ rest) zero zero time late = record { more = time ∷ []; after_is = refl; late = (late refl, tt) }
pushed bound (queue ∷ rest) zero (suc p) time late = go_none bound (queue_at rest p)
pushed bound (queue ∷ rest) (suc q) zero time late = go_none bound queue
pushed bound (queue ∷ rest) (suc q) (suc p) time late = pushed bound rest q p time (λ same. late (ap suc same))

module _ (parts : Parts) where
  -- two nodes are a hop apart, or more
  hops_some : (from to : ℕ) → to ≢ from → 1 ≤ hops_between parts from to
  hops_some from to apart = go (hops_between parts from to) refl
    where
      go : (hops : ℕ) → hops_between parts from to ≡ hops → 1 ≤ hops
      go (suc hops) is = omega arith
      go zero is = absurd (apart (
          let columns : to % parts.width ≡ from % parts.width = omega (arith, is) in
          let rows : to / parts.width ≡ from / parts.width = omega (arith, is) in
          sym (div-add-mod to parts.width) ∙ ((λ i. parts.width * rows i + columns i) ∙ div-add-mod from parts.width)))

  -- ---- what an event sends

  module _ (costs : Costs) (from leave to : ℕ) (here : to < node_count parts) (apart : to ≢ from) where
    -- one message to the node
    one_late : (port : ℕ) (send : ℕ × Msg) → send.0 ≡ to → leave + lookahead costs ≤ time_one parts costs from leave port send
    one_late port send same = go (send.0 == from) (ne_eqb send.0 from (λ back. apart (sym same ∙ back)))
      where
        time : Bool → ℕ
        time b = cond b leave (max port leave + length_of costs send.1.kind + costs.hop * hops_between parts from send.0)

        go : (b : Bool) → b ≡ false → leave + lookahead costs ≤ time b
        go true is = absurd (cc)
        go false is =
            let some = hops_some from send.0 (λ back. apart (sym same ∙ back)) in
            let way = mul-le costs.hop 1 costs.hop (hops_between parts from send.0) (omega arith) some in
            let alone : costs.hop * 1 ≡ costs.hop = omega arith in
            omega (arith, way, alone)

    pub goes_late : (sends : List (ℕ × Msg)) (port : ℕ) (arrivals : List (List ℕ)) → GoBelow (node_count parts) sends →
        GoOnFrom (leave + lookahead costs) (queue_at arrivals (link_place parts from to)) (queue_at (changed_all [] (pushes (goes parts costs from leave port sends)) arrivals) (link_place parts from to))
    goes_late [] port arrivals below = go_none (leave + lookahead costs) (queue_at arrivals (link_place parts from to))
    goes_late (send ∷ rest) port arrivals below =
        let p = link_place parts from to in
        let q = link_place parts from send.0 in
        let time = time_one parts costs from leave port send in
        let next = changed [] arrivals q (with_last time) in
        go_then (leave + lookahead costs) (queue_at arrivals p) (queue_at next p) _
        (pushed (leave + lookahead costs) arrivals q p time (λ same. one_late port send (sym (same_from_place from to from send.0 (node_count parts) here below.0 same).1)))
        (goes_late rest (port_one parts costs from leave port send) next below.1)

module _ (parts : Parts) where
  -- ---- links to other nodes

  -- the queue that an event of another node leaves
  pub queue_kept : (arrivals : List (List ℕ)) (event : Event) (from to : ℕ) → node_of event < node_count parts → to < node_count parts → to ≢ node_of event →
      queue_at (arrivals_taken parts event arrivals) (link_place parts from to) ≡ queue_at arrivals (link_place parts from to)
  queue_kept arrivals (Instr at) from to exists here apart = refl
  queue_kept arrivals (Handle at) from to exists here apart = refl
  queue_kept arrivals (Evict at set) from to exists here apart = refl
  queue_kept arrivals (Deliver a b) from to exists here apart =
      changed_there [] arrivals (link_place parts a.0 b.0) (link_place parts from to) behind (λ e. apart (same_from_place from to a.0 b.0 (node_count parts) here exists e).1)

  pub leaves_late : (event : Event) (start cost : ℕ) → start ≤ leaves_at event start (start + cost)
  leaves_late (Instr at) start cost = omega arith
  leaves_late (Handle at) start cost = omega arith
  leaves_late (Deliver from to) start cost = omega arith
  leaves_late (Evict at set) start cost = omega arith

  later_all : (low high : ℕ) (queue : List ℕ) → low ≤ high → AllByRecursion (λ arrival. high ≤ arrival) queue → AllByRecursion (λ arrival. low ≤ arrival) queue
  later_all low high [] le all = tt
  later_all low high (arrival ∷ rest) le all = (omega (arith, le, all.0), later_all low high rest le all.1)

  -- a bound may be lower
  pub go_lower : (low high : ℕ) (a b : List ℕ) → low ≤ high → GoOnFrom high a b → GoOnFrom low a b
  go_lower low high a b le go = record { more = go.more; after_is = go.after_is; late = later_all low high go.more le go.late }

  module _ (costs : Costs) (times : Times) (happened : TimedMoment) (sends : List (ℕ × Msg)) (exists : node_of happened.event < node_count parts) (below : GoBelow (node_count parts) sends) where
    abbrev n : ℕ
    n = node_of happened.event

    abbrev start : ℕ
    start = start_of parts costs times happened

    abbrev finish : ℕ
    finish = finish_of parts costs times happened sends

    abbrev after : Times
    after = passed parts costs times happened sends

    abbrev out : List (ℕ × ℕ)
    out = goes parts costs n (leaves_at happened.event start finish) (time_at times.ports n) sends

    arrivals_are : after.arrivals ≡ changed_all [] (pushes out) (arrivals_taken parts happened.event times.arrivals)
    arrivals_are = ap (λ (t : Times). t.arrivals) (left_is parts costs happened sends times start finish)

    -- from its node
    pub sent_late : (to : ℕ) → to < node_count parts → to ≢ n → GoOnFrom (start + lookahead costs) (queue_at times.arrivals (link_place parts n to)) (queue_at after.arrivals (link_place parts n to))
    sent_late to here apart =
        let p = link_place parts n to in
        let leave = leaves_at happened.event start finish in
        let late = leaves_late happened.event start (cost_of costs happened sends) in
        go_lower (start + lookahead costs) (leave + lookahead costs) _ _ (omega (arith, late))
        (subst (λ (queues : List (List ℕ)). GoOnFrom (leave + lookahead costs) (queue_at times.arrivals p) (queue_at queues p)) (sym arrivals_are)
        (subst (λ (queue : List ℕ). GoOnFrom (leave + lookahead costs) queue (queue_at (changed_all [] (pushes out) (arrivals_taken parts happened.event times.arrivals)) p))
        (queue_kept times.arrivals happened.event n to exists here apart)
        (goes_late parts costs n leave to here apart sends (time_at times.ports n) (arrivals_taken parts happened.event times.arrivals) below)))

    -- no push is at the link of another sender
    pub unsent : (from to : ℕ) → from ≢ n → to < node_count parts → queue_at after.arrivals (link_place parts from to) ≡ queue_at (arrivals_taken parts happened.event times.arrivals) (link_place parts from to)
    unsent from to apart here =
        let p = link_place parts from to in
        let IsFrom : ℕ → Type 0 = λ place. (other : ℕ) × ((other < node_count parts) × (place ≡ link_place parts n other)) in
        ap (λ (queues : List (List ℕ)). queue_at queues p) arrivals_are
        ∙ read_apart [] IsFrom (pushes out) (arrivals_taken parts happened.event times.arrivals) p
        (λ q is same. apart (same_from_place from to n is.0 (node_count parts) here is.1.0 (same ∙ is.1.1)).0)
        (pushes_at IsFrom out (goes_at parts costs n (leaves_at happened.event start finish) IsFrom (time_at times.ports n) sends (λ other less. (other, (less, refl))) below))

    -- between two other nodes
    pub others_stay : (from to : ℕ) → from ≢ n → to < node_count parts → to ≢ n → queue_at after.arrivals (link_place parts from to) ≡ queue_at times.arrivals (link_place parts from to)
    others_stay from to apart here away = unsent from to apart here ∙ queue_kept times.arrivals happened.event from to exists here away

-- ---- an event of a machine

module _ (h : History) (costs : Costs) (event : Event) (run : IsRun h) (may : may_be_next h event ≡ true) where
  below : GoBelow (node_count h.image) (left.sends h costs event run may)
  below = sends_below h.image h.parameters (state_of h) event (and_parts (is_enabled h.image h.parameters (state_of h) event) _ may).0 (left.are h costs event run may).aimed

  pub messages_late : (to : ℕ) → to < node_count h.image → to ≢ node_of event →
      GoOnFrom (start_next h costs event + lookahead costs) (arrivals_between h costs (node_of event) to) (arrivals_between (grown h event) costs (node_of event) to)
  messages_late to exists apart =
      subst (λ (t : Times). GoOnFrom (start_next h costs event + lookahead costs) (arrivals_between h costs (node_of event) to) (queue_at t.arrivals (link_place h.image (node_of event) to)))
      (sym (left.times_are h costs event run may))
      (sent_late h.image costs (times_in h costs) (left.happened h costs event run may) (left.sends h costs event run may) (here h event may) below to exists apart)

  pub messages_stay : (from to : ℕ) → from ≢ node_of event → to < node_count h.image → to ≢ node_of event → arrivals_between (grown h event) costs from to ≡ arrivals_between h costs from to
  messages_stay from to other exists apart =
      ap (λ (t : Times). queue_at t.arrivals (link_place h.image from to)) (left.times_are h costs event run may)
      ∙ others_stay h.image costs (times_in h costs) (left.happened h costs event run may) (left.sends h costs event run may) (here h event may) below from to other exists apart
