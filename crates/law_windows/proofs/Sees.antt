-- A node sees the same of two machines, but for messages that arrive at a bound or later: so it chooses alike below the bound.
use Rattle.std.proofs.Common.{◌≡◌, ℕ, ◌+◌, ◌*◌, ◌<◌, ◌≤◌, nat_lt, max, Bool, true, false, ◌&&◌, IsTrue, Option, Some, None, List, [], ◌∷◌, ◌++◌, length, append-nil, refl, sym, ap, subst, ◌∙◌, arith}
use Rattle.std.specs.List.{AllByRecursion}
use Rattle.std.proofs.lemmas.Bool.{ltb-true}
use Rattle.std.proofs.lemmas.List.{nil_from_length}
use Rattle.alw_msg.specs.declared.messages.Msg.{Msg}
use Rattle.alw_msg.specs.declared.events.Event.{Event}
use Rattle.alw_msg.specs.declared.events.Event.TheVariants.{Instr, Handle, Deliver, Evict}
use Rattle.alw_msg.specs.Events.{node_of}
use Rattle.alw_msg.specs.Lists.{front}
use Rattle.alw_image.specs.declared.parts.Parts.{Parts}
use Rattle.alw_image.specs.Images.{node_count}
use Rattle.alw_image.specs.Parameters.{Parameters}
use Rattle.alw_model.specs.Contexts.{running}
use Rattle.alw_model.specs.NodeStates.{NodeState}
use Rattle.alw_model.specs.Machine.{MachineState, node_at, no_node, link_at, link_place, taken_by, is_enabled, is_within_limit}
use Rattle.alw_model.proofs.Journals.{and_parts}
use Rattle.law_lines.proofs.Steps.{enabled_is}
use Rattle.law_order.specs.Orders.{SeesAlike}
use Rattle.law_order.proofs.Local.{has_front, enabled_alike}
use Rattle.alw_mesh.proofs.Carriers.{none_is_empty}
use Rattle.alw_ready.specs.Fits.{may_happen}
use Rattle.alw_times.specs.declared.costs.Costs.{Costs}
use Rattle.alw_times.specs.Times.{Times, queue_at, first_time, woken_at, arrival_of, begin_by, work_before, start_by}
use Rattle.law_times.proofs.Apart.{SlotFits}
use Rattle.law_times.proofs.Beside.{Beside, beside_at}
use Rattle.law_times.proofs.Counted.{AreAsMany, has_time}
use Rattle.law_times.proofs.Effects.{IsContextOf}
use Rattle.law_windows.specs.Windows.{GoOnFrom}
use Rattle.law_windows.proofs.Messages.{go_none}
use Rattle.law_windows.proofs.Same.{SameAt, itself}

-- ---- what is seen

module _ (parts : Parts) (n bound : ℕ) where
  -- the link from a node goes on, with arrivals from the bound on
  pub record LinkGoesOn (from : ℕ) (s : MachineState) (t : Times) (s' : MachineState) (t' : Times) : Type 0 where
    pub arrivals : GoOnFrom bound (queue_at t'.arrivals (link_place parts from n)) (queue_at t.arrivals (link_place parts from n))
    pub more : List Msg
    pub link : link_at parts s from n ≡ link_at parts s' from n ++ more

  -- the node has the same state and times in both machines, and its links go on in the first
  pub record Sees (s : MachineState) (t : Times) (s' : MachineState) (t' : Times) : Type 0 where
    pub nodes : SameAt no_node n s.nodes s'.nodes
    pub starts : SameAt 0 n t.starts t'.starts
    pub processors : SameAt 0 n t.processors t'.processors
    pub controllers : SameAt 0 n t.controllers t'.controllers
    pub ports : SameAt 0 n t.ports t'.ports
    pub draws : SameAt 0 n t.draws t'.draws
    pub wakes : (p : ℕ) → IsContextOf parts n p → SameAt 0 p t.wakes t'.wakes
    pub packets : SameAt [] n t.packets t'.packets
    pub own_arrivals : SameAt [] (link_place parts n n) t.arrivals t'.arrivals
    pub own_link : link_at parts s n n ≡ link_at parts s' n n
    pub links : (from : ℕ) → from < node_count parts → LinkGoesOn from s t s' t'

  -- a machine and itself
  pub sees_itself : (s : MachineState) (t : Times) → Sees s t s t
  sees_itself s t = record {
    nodes = itself no_node n s.nodes;
    starts = itself 0 n t.starts;
    processors = itself 0 n t.processors;
    controllers = itself 0 n t.controllers;
    ports = itself 0 n t.ports;
    draws = itself 0 n t.draws;
    wakes = λ p is. itself 0 p t.wakes;
    packets = itself [] n t.packets;
    own_arrivals = itself [] (link_place parts n n) t.arrivals;
    own_link = refl;
    links = λ from below. record {
      arrivals = go_none bound (queue_at t.arrivals (link_place parts from n));
      more = [];
      link = sym (append-nil (link_at parts s from n));
    };
  }

-- ---- fronts of queues

pub front_more : {X : Type 0} (xs more : List X) (x : X) → front xs ≡ Some x → front (xs ++ more) ≡ Some x
front_more [] more x is = absurd (cc)
front_more (y ∷ rest) more x is = is

first_more : (queue more : List ℕ) (time : ℕ) → front queue ≡ Some time → first_time (queue ++ more) ≡ first_time queue
first_more [] more time is = absurd (cc)
first_more (t ∷ rest) more time is = refl

first_late : (bound : ℕ) (queue : List ℕ) (time : ℕ) → front queue ≡ Some time → AllByRecursion (λ arrival. bound ≤ arrival) queue → bound ≤ first_time queue
first_late bound [] time is all = absurd (cc)
first_late bound (t ∷ rest) time is all = all.0

-- ---- an event of the node

module _ (parts : Parts) (parameters : Parameters) (bound : ℕ) (s : MachineState) (t : Times) (s' : MachineState) (t' : Times) where
  -- it takes the same message, which arrives at the same time
  pub record TakesAlike (f : Event) : Type 0 where
    pub taken : taken_by parts s f ≡ taken_by parts s' f
    pub arrival : arrival_of parts t f ≡ arrival_of parts t' f

  pub takes_alike : (f : Event) → Sees parts (node_of f) bound s t s' t' → Beside AreAsMany t'.arrivals s'.links → IsTrue (is_enabled parts parameters s' f) → TakesAlike f
  takes_alike (Instr at) sees many enabled = record { taken = refl; arrival = refl }
  takes_alike (Handle at) sees many enabled = record { taken = refl; arrival = ap first_time sees.packets.here }
  takes_alike (Evict at set) sees many enabled = record { taken = refl; arrival = refl }
  takes_alike (Deliver from to) sees many enabled =
      let event = Deliver from to in
      let from_is = ltb-true from.0 (node_count parts) (and_parts (nat_lt from.0 (node_count parts)) _ (enabled_is parts parameters s' event enabled).may_be).0 in
      let on = sees.links from.0 from_is in
      let has = has_front parts parameters s' event enabled in
      let time = has_time parts parameters t'.arrivals s'.links event many has in
      record {
        taken = ap front on.link ∙ (front_more (link_at parts s' from.0 to.0) on.more has.0 has.1 ∙ sym has.1);
        arrival = ap first_time on.arrivals.after_is ∙ first_more (queue_at t'.arrivals (link_place parts from.0 to.0)) on.arrivals.more time.0 time.1;
      }

  pub alike_so : (f : Event) → Sees parts (node_of f) bound s t s' t' → taken_by parts s f ≡ taken_by parts s' f → SeesAlike parts f s s'
  alike_so f sees taken = record { node = sees.nodes.here; taken = taken }

  -- where it is enabled the limit lets it happen alike
  abbrev pub LimitAlike : Event → Type 0
  LimitAlike f = SeesAlike parts f s s' → IsTrue (is_enabled parts parameters s f) → is_within_limit parts parameters s f ≡ is_within_limit parts parameters s' f

  pub may_so : (f : Event) → Sees parts (node_of f) bound s t s' t' → LimitAlike f → taken_by parts s f ≡ taken_by parts s' f → may_happen parts parameters s f ≡ may_happen parts parameters s' f
  may_so f sees limit taken = go (is_enabled parts parameters s f) refl
    where
      alike : SeesAlike parts f s s'
      alike = alike_so f sees taken

      go : (b : Bool) → is_enabled parts parameters s f ≡ b → may_happen parts parameters s f ≡ may_happen parts parameters s' f
      go true is = λ x. enabled_alike parts parameters s s' f alike x && limit alike is x
      go false is =
          ap (λ b. b && is_within_limit parts parameters s f) is
          ∙ sym (ap (λ b. b && is_within_limit parts parameters s' f) (sym (enabled_alike parts parameters s s' f alike) ∙ is))

  -- what may happen in the first machine alone starts at the bound or later
  pub late : (costs : Costs) (slot : Option ℕ) (f : Event) → Sees parts (node_of f) bound s t s' t' → LimitAlike f → Beside AreAsMany t.arrivals s.links → Beside AreAsMany t'.arrivals s'.links →
      may_happen parts parameters s f ≡ true → may_happen parts parameters s' f ≡ false → bound ≤ start_by parts costs t slot f
  late costs slot (Instr at) sees limit many also might isnt = absurd (let same = may_so (Instr at) sees limit refl in cc)
  late costs slot (Handle at) sees limit many also might isnt = absurd (let same = may_so (Handle at) sees limit refl in cc)
  late costs slot (Evict at set) sees limit many also might isnt = absurd (let same = may_so (Evict at set) sees limit refl in cc)
  late costs slot (Deliver from to) sees limit many also might isnt = go (front (link_at parts s' from.0 to.0)) refl
    where
      event : Event
      event = Deliver from to

      p : ℕ
      p = link_place parts from.0 to.0

      enabled : IsTrue (is_enabled parts parameters s event)
      enabled = (and_parts (is_enabled parts parameters s event) _ might).0

      on : LinkGoesOn parts to.0 bound from.0 s t s' t'
      on = sees.links from.0 (ltb-true from.0 (node_count parts) (and_parts (nat_lt from.0 (node_count parts)) _ (enabled_is parts parameters s event enabled).may_be).0)

      go : (head : Option Msg) → front (link_at parts s' from.0 to.0) ≡ head → bound ≤ start_by parts costs t slot event
      go (Some msg) is =
          absurd (let same = may_so event sees limit (ap front on.link ∙ (front_more (link_at parts s' from.0 to.0) on.more msg is ∙ sym is)) in cc)
      go None is =
          let none : queue_at t'.arrivals p ≡ [] = nil_from_length (queue_at t'.arrivals p) (beside_at AreAsMany t'.arrivals s'.links p [] [] refl also ∙ ap length (none_is_empty (link_at parts s' from.0 to.0) is)) in
          let all : queue_at t.arrivals p ≡ on.arrivals.more = on.arrivals.after_is ∙ ap (λ (queue : List ℕ). queue ++ on.arrivals.more) none in
          let time = has_time parts parameters t.arrivals s.links event many (has_front parts parameters s event enabled) in
          let from_bound = first_late bound (queue_at t.arrivals p) time.0 time.1 (subst (λ (queue : List ℕ). AllByRecursion (λ arrival. bound ≤ arrival) queue) (sym all) on.arrivals.late) in
          omega (arith, from_bound)

  -- ---- it starts alike

  woken_alike : (n : ℕ) (slot : Option ℕ) → Sees parts n bound s t s' t' → SlotFits parts slot → woken_at parts t n slot ≡ woken_at parts t' n slot
  woken_alike n None sees fits = refl
  woken_alike n (Some slot) sees fits = (sees.wakes (n * parts.contexts + slot) (slot, (fits, refl))).here

  begin_alike : (slot : Option ℕ) (f : Event) → Sees parts (node_of f) bound s t s' t' → SlotFits parts slot → arrival_of parts t f ≡ arrival_of parts t' f → begin_by parts t slot f ≡ begin_by parts t' slot f
  begin_alike slot (Instr at) sees fits arrival = λ x. max (sees.processors.here x) (woken_alike at.0 slot sees fits x)
  begin_alike slot (Handle at) sees fits arrival = λ x. max (sees.processors.here x) (arrival x)
  begin_alike slot (Deliver from to) sees fits arrival = λ x. max (sees.controllers.here x) (arrival x)
  begin_alike slot (Evict at set) sees fits arrival = sees.controllers.here

  pub start_alike : (costs : Costs) (slot : Option ℕ) (f : Event) → Sees parts (node_of f) bound s t s' t' → SlotFits parts slot → arrival_of parts t f ≡ arrival_of parts t' f →
      start_by parts costs t slot f ≡ start_by parts costs t' slot f
  start_alike costs slot f sees fits arrival = λ x. max (sees.starts.here x) (work_before costs f + begin_alike slot f sees fits arrival x)

  -- the slot that would run
  pub slot_alike : (n : ℕ) → Sees parts n bound s t s' t' → running (node_at s n).slots (node_at s n).current ≡ running (node_at s' n).slots (node_at s' n).current
  slot_alike n sees = ap (λ (node : NodeState). running node.slots node.current) sees.nodes.here
