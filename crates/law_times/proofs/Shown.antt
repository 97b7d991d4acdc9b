-- What is told of accesses, of deliveries and of what nodes spent, after an event: changes at places of its own, and times more.
use Rattle.std.proofs.Common.{◌≡◌, ◌≢◌, ◌<◌, ℕ, zero, suc, ◌+◌, ◌-◌, ◌*◌, max, Bool, true, false, cond, Option, Some, None, List, [], ◌∷◌, slice_index_or, unwrap_or, refl, sym, ap, ◌∙◌, arith}
use Rattle.alw_msg.specs.declared.messages.Msg.{Msg}
use Rattle.alw_msg.specs.declared.events.Event.{Event}
use Rattle.alw_msg.specs.declared.events.Event.TheVariants.{Instr, Handle, Deliver, Evict}
use Rattle.alw_msg.specs.Events.{node_of}
use Rattle.alw_image.specs.declared.parts.Parts.{Parts}
use Rattle.alw_image.specs.Parameters.{Parameters}
use Rattle.alw_model.specs.declared.steps.Did.{Did}
use Rattle.alw_model.specs.declared.steps.Did.TheVariants.{Turn, Missed, Took, Packet, Handled, Evicted}
use Rattle.alw_model.specs.Runs.{Moment}
use Rattle.alw_times.specs.declared.costs.Costs.{Costs}
use Rattle.alw_times.specs.declared.happenings.TimedMoment.{TimedMoment}
use Rattle.alw_times.specs.Happening.{happened_of}
use Rattle.alw_times.specs.Times.{Times}
use Rattle.alw_waits.specs.declared.totals.Total.{Total}
use Rattle.alw_waits.specs.declared.totals.Spent.{Spent}
use Rattle.alw_waits.specs.declared.misses.Access.{Access}
use Rattle.alw_waits.specs.declared.misses.Miss.{Miss}
use Rattle.alw_waits.specs.declared.misses.EndedBy.{EndedBy}
use Rattle.alw_waits.specs.declared.waits.Waited.{Waited}
use Rattle.alw_waits.specs.Waits.{WaitsSoFar, with_time, nothing_spent, with_turn, with_miss, with_handler, with_controller, spent_at, with_spent, access_ended, first_of, missed, instr_told, miss_ended, ended_at, ended_below, ended_of, is_request, is_answer, request_traps, answered, received, told_with, waited_in, waited}
use Rattle.law_times.proofs.Changes.{changed_all, AllAt, all_and_all, read_apart}
use Rattle.law_times.proofs.Effects.{Is, IsContextOf}
use Rattle.law_times.proofs.Apart.{contexts_apart, nodes_apart}

-- what is told but for misses
pub record Shown : Type 0 where
  pub accesses : Total
  pub queued : Total
  pub spent : List Spent
  pub firsts : List (Option ℕ)

-- it, of all that is told
abbrev pub shown : WaitsSoFar → Shown
shown waits = record { accesses = waits.accesses; queued = waits.queued; spent = waits.spent; firsts = waits.firsts }

-- ---- what is told of a message leaves this

module _ (parts : Parts) where
  miss_shown : (waits : WaitsSoFar) (node context : ℕ) (ended : EndedBy) (finish : ℕ) (miss : Option Miss) → shown (miss_ended parts waits node context ended finish miss) ≡ shown waits
  miss_shown waits node context ended finish None = refl
  miss_shown waits node context ended finish (Some miss) = refl

  slot_shown : (flag : Bool) (waits : WaitsSoFar) (node context : ℕ) (ended : EndedBy) (finish : ℕ) → shown (cond flag (ended_at parts waits node context ended finish) waits) ≡ shown waits
  slot_shown true waits node context ended finish = miss_shown waits node context ended finish (slice_index_or waits.misses context None)
  slot_shown false waits node context ended finish = refl

  below_shown : (woken : List Bool) (node : ℕ) (ended : EndedBy) (finish count : ℕ) (waits : WaitsSoFar) → shown (ended_below parts woken node ended finish count waits) ≡ shown waits
  below_shown woken node ended finish zero waits = refl
  below_shown woken node ended finish (suc slot) waits =
      slot_shown (slice_index_or woken slot false) (ended_below parts woken node ended finish slot waits) node (node * parts.contexts + slot) ended finish
      ∙ below_shown woken node ended finish slot waits

  either_shown : (test : Bool) (one other : WaitsSoFar) → shown one ≡ shown other → shown (cond test one other) ≡ shown other
  either_shown true one other same = same
  either_shown false one other same = refl

  traps_shown : (waits : WaitsSoFar) (from : ℕ) (msg : Msg) (did : Did) → shown (request_traps waits from msg did) ≡ shown waits
  traps_shown waits from msg (Turn slot outcome) = refl
  traps_shown waits from msg (Missed slot) = refl
  traps_shown waits from msg Took = refl
  traps_shown waits from msg Packet = either_shown (is_request msg.kind) _ waits refl
  traps_shown waits from msg (Handled kind state) = refl
  traps_shown waits from msg Evicted = refl

  answered_shown : (waits : WaitsSoFar) (to : ℕ) (woken : List Bool) (finish : ℕ) (msg : Msg) → shown (answered parts waits to woken finish msg) ≡ shown waits
  answered_shown waits to woken finish msg =
      either_shown (is_answer msg.kind) _ (ended_below parts woken to (ended_of waits to msg) finish parts.contexts waits) refl
      ∙ below_shown woken to (ended_of waits to msg) finish parts.contexts waits

  -- a message that is received leaves it
  pub received_shown : (waits : WaitsSoFar) (from to : ℕ) (happened : TimedMoment) (finish : ℕ) (taken : Option Msg) → shown (received parts waits from to happened finish taken) ≡ shown waits
  received_shown waits from to happened finish None = refl
  received_shown waits from to happened finish (Some msg) =
      answered_shown (request_traps waits from msg happened.did) to happened.woken finish msg ∙ traps_shown waits from msg happened.did

-- ---- times more

-- a total with these times
abbrev pub total_after : List ℕ → Total → Total
total_after [] total = total
total_after (time ∷ rest) total = total_after rest (with_time total time)

-- two times in either order
pub time_and_time : (total : Total) (one other : ℕ) → with_time (with_time total one) other ≡ with_time (with_time total other) one
time_and_time total one other =
    let sum : total.sum + one + other ≡ total.sum + other + one = omega arith in
    let most : max (max total.most one) other ≡ max (max total.most other) one = omega arith in
    λ x. record { count = total.count + 1 + 1; sum = sum x; most = most x }

time_and_all : (times : List ℕ) (time : ℕ) (total : Total) → total_after times (with_time total time) ≡ with_time (total_after times total) time
time_and_all [] time total = refl
time_and_all (first ∷ rest) time total = ap (total_after rest) (time_and_time total time first) ∙ time_and_all rest time (with_time total first)

-- times in either order
pub times_and_times : (one other : List ℕ) (total : Total) → total_after other (total_after one total) ≡ total_after one (total_after other total)
times_and_times one [] total = refl
times_and_times one (time ∷ rest) total = ap (total_after rest) (sym (time_and_all one time total)) ∙ times_and_times one rest (with_time total time)

-- ---- an event

-- the slot that an instruction was of is one of its node's
abbrev pub DidFits : Parts → Event → Did → Type 0
DidFits parts (Instr at) (Turn slot outcome) = slot < parts.contexts
DidFits parts (Instr at) (Missed slot) = slot < parts.contexts
DidFits parts event did = Unit {0}

module _ (parts : Parts) (costs : Costs) where
  -- the first miss of the access under way that an instruction reads
  abbrev instr_first : ℕ → Did → List (Option ℕ) → Option ℕ
  instr_first at (Turn slot outcome) firsts = slice_index_or firsts (at * parts.contexts + slot) None
  instr_first at (Missed slot) firsts = slice_index_or firsts (at * parts.contexts + slot) None
  instr_first at _ firsts = None

  -- what an event reads of it
  abbrev pub first_read : Event → Did → List (Option ℕ) → Option ℕ
  first_read (Instr at) did firsts = instr_first at.0 did firsts
  first_read _ did firsts = None

  -- the times and changes of an event
  abbrev pub turn_times : ℕ → Option ℕ → List ℕ
  turn_times start None = []
  turn_times start (Some first) = (start - first) ∷ []

  abbrev pub instr_times : Did → ℕ → Option ℕ → List ℕ
  instr_times (Turn slot outcome) start first = turn_times start first
  instr_times _ start first = []

  abbrev pub access_times : Event → Did → Waited → Option ℕ → List ℕ
  access_times (Instr at) did told first = instr_times did told.span.start first
  access_times _ did told first = []

  abbrev pub queue_times : Event → Waited → List ℕ
  queue_times (Deliver from to) told = (told.span.start - told.arrival) ∷ []
  queue_times _ told = []

  abbrev pub instr_spends : ℕ → Did → ℕ → List (ℕ × (Spent → Spent))
  instr_spends at (Turn slot outcome) cost = (at, λ spent. with_turn spent costs.hit (cost - costs.hit)) ∷ []
  instr_spends at (Missed slot) cost = (at, λ spent. with_miss spent costs.hit (cost - costs.hit)) ∷ []
  instr_spends at _ cost = []

  abbrev pub spends : Event → Did → ℕ → List (ℕ × (Spent → Spent))
  spends (Instr at) did cost = instr_spends at.0 did cost
  spends (Handle at) did cost = (at.0, λ spent. with_handler spent costs.trap cost) ∷ []
  spends (Deliver from to) did cost = (to.0, λ spent. with_controller spent cost) ∷ []
  spends (Evict at set) did cost = (at.0, λ spent. with_controller spent cost) ∷ []

  abbrev pub turn_firsts : ℕ → Option ℕ → List (ℕ × (Option ℕ → Option ℕ))
  turn_firsts context None = []
  turn_firsts context (Some first) = (context, λ old. None) ∷ []

  abbrev pub miss_firsts : ℕ → ℕ → Option ℕ → Option Access → List (ℕ × (Option ℕ → Option ℕ))
  miss_firsts context start first None = []
  miss_firsts context start first (Some access) = (context, λ old. Some (unwrap_or first start)) ∷ []

  abbrev pub instr_firsts : ℕ → Did → Waited → Option ℕ → List (ℕ × (Option ℕ → Option ℕ))
  instr_firsts at (Turn slot outcome) told first = turn_firsts (at * parts.contexts + slot) first
  instr_firsts at (Missed slot) told first = miss_firsts (at * parts.contexts + slot) told.span.start first told.asked
  instr_firsts at _ told first = []

  abbrev pub first_changes : Event → Did → Waited → Option ℕ → List (ℕ × (Option ℕ → Option ℕ))
  first_changes (Instr at) did told first = instr_firsts at.0 did told first
  first_changes _ did told first = []

  -- what is told once an event has happened, with what it reads given
  abbrev pub shown_after : Event → Did → Waited → ℕ → Option ℕ → Shown → Shown
  shown_after event did told cost first s = record {
    accesses = total_after (access_times event did told first) s.accesses;
    queued = total_after (queue_times event told) s.queued;
    spent = changed_all nothing_spent (spends event did cost) s.spent;
    firsts = changed_all None (first_changes event did told first) s.firsts;
  }

  turn_shown : (waits : WaitsSoFar) (at slot cost start : ℕ) (first : Option ℕ) →
      shown (with_spent (access_ended waits (at * parts.contexts + slot) start first) at (with_turn (spent_at waits at) costs.hit (cost - costs.hit)))
      ≡ record {
        accesses = total_after (turn_times start first) waits.accesses;
        queued = waits.queued;
        spent = changed_all nothing_spent ((at, λ spent. with_turn spent costs.hit (cost - costs.hit)) ∷ []) waits.spent;
        firsts = changed_all None (turn_firsts (at * parts.contexts + slot) first) waits.firsts;
      }
  turn_shown waits at slot cost start None = refl
  turn_shown waits at slot cost start (Some first) = refl

  missed_shown : (waits : WaitsSoFar) (at slot cost start : ℕ) (asked : Option Access) →
      shown (with_spent (missed waits (at * parts.contexts + slot) start asked) at (with_miss (spent_at waits at) costs.hit (cost - costs.hit)))
      ≡ record {
        accesses = waits.accesses;
        queued = waits.queued;
        spent = changed_all nothing_spent ((at, λ spent. with_miss spent costs.hit (cost - costs.hit)) ∷ []) waits.spent;
        firsts = changed_all None (miss_firsts (at * parts.contexts + slot) start (first_of waits (at * parts.contexts + slot)) asked) waits.firsts;
      }
  missed_shown waits at slot cost start None = refl
  missed_shown waits at slot cost start (Some access) = refl

  instr_shown : (waits : WaitsSoFar) (at cost : ℕ) (did : Did) (told : Waited) →
      shown (instr_told parts costs waits at did told cost) ≡ record {
        accesses = total_after (instr_times did told.span.start (instr_first at did waits.firsts)) waits.accesses;
        queued = waits.queued;
        spent = changed_all nothing_spent (instr_spends at did cost) waits.spent;
        firsts = changed_all None (instr_firsts at did told (instr_first at did waits.firsts)) waits.firsts;
      }
  instr_shown waits at cost (Turn slot outcome) told = turn_shown waits at slot cost told.span.start (first_of waits (at * parts.contexts + slot))
  instr_shown waits at cost (Missed slot) told = missed_shown waits at slot cost told.span.start told.asked
  instr_shown waits at cost Took told = refl
  instr_shown waits at cost Packet told = refl
  instr_shown waits at cost (Handled kind state) told = refl
  instr_shown waits at cost Evicted told = refl

  -- an event tells so
  pub told_shown : (waits : WaitsSoFar) (happened : TimedMoment) (told : Waited) (cost : ℕ) (event : Event) →
      shown (told_with parts costs waits happened told cost event) ≡ shown_after event happened.did told cost (first_read event happened.did waits.firsts) (shown waits)
  told_shown waits happened told cost (Instr at) = instr_shown waits at.0 cost happened.did told
  told_shown waits happened told cost (Handle at) = refl
  told_shown waits happened told cost (Deliver from to) =
      let queued : WaitsSoFar = record waits { queued = with_time waits.queued (told.span.start - told.arrival) } in
      ap (λ (s : Shown). record { accesses = s.accesses; queued = s.queued; spent = changed_all nothing_spent ((to.0, λ spent. with_controller spent cost) ∷ []) s.spent; firsts = s.firsts })
      (received_shown parts queued from.0 to.0 happened told.span.finish told.taken)
  told_shown waits happened told cost (Evict at set) = refl

  -- ---- two events

  spends_at : (event : Event) (did : Did) (cost : ℕ) → AllAt nothing_spent (Is (node_of event)) (spends event did cost)
  spends_at (Instr at) (Turn slot outcome) cost = (refl, tt)
  spends_at (Instr at) (Missed slot) cost = (refl, tt)
  spends_at (Instr at) Took cost = tt
  spends_at (Instr at) Packet cost = tt
  spends_at (Instr at) (Handled kind state) cost = tt
  spends_at (Instr at) Evicted cost = tt
  spends_at (Handle at) did cost = (refl, tt)
  spends_at (Deliver from to) did cost = (refl, tt)
  spends_at (Evict at set) did cost = (refl, tt)

  turn_firsts_at : (at slot : ℕ) (first : Option ℕ) → slot < parts.contexts → AllAt None (IsContextOf parts at) (turn_firsts (at * parts.contexts + slot) first)
  turn_firsts_at at slot None less = tt
  turn_firsts_at at slot (Some first) less = ((slot, (less, refl)), tt)

  miss_firsts_at : (at slot start : ℕ) (first : Option ℕ) (asked : Option Access) → slot < parts.contexts → AllAt None (IsContextOf parts at) (miss_firsts (at * parts.contexts + slot) start first asked)
  miss_firsts_at at slot start first None less = tt
  miss_firsts_at at slot start first (Some access) less = ((slot, (less, refl)), tt)

  firsts_at : (event : Event) (did : Did) (told : Waited) (first : Option ℕ) → DidFits parts event did → AllAt None (IsContextOf parts (node_of event)) (first_changes event did told first)
  firsts_at (Instr at) (Turn slot outcome) told first fits = turn_firsts_at at.0 slot first fits
  firsts_at (Instr at) (Missed slot) told first fits = miss_firsts_at at.0 slot told.span.start first told.asked fits
  firsts_at (Instr at) Took told first fits = tt
  firsts_at (Instr at) Packet told first fits = tt
  firsts_at (Instr at) (Handled kind state) told first fits = tt
  firsts_at (Instr at) Evicted told first fits = tt
  firsts_at (Handle at) did told first fits = tt
  firsts_at (Deliver from to) did told first fits = tt
  firsts_at (Evict at set) did told first fits = tt

  context_kept : (e f : Event) (did other : Did) (told : Waited) (first : Option ℕ) (firsts : List (Option ℕ)) (slot : ℕ) → node_of f ≢ node_of e → DidFits parts e did → slot < parts.contexts →
      slice_index_or (changed_all None (first_changes e did told first) firsts) (node_of f * parts.contexts + slot) None ≡ slice_index_or firsts (node_of f * parts.contexts + slot) None
  context_kept e f did other told first firsts slot apart fits less =
      read_apart None (IsContextOf parts (node_of e)) (first_changes e did told first) firsts (node_of f * parts.contexts + slot)
      (λ q is. contexts_apart parts (node_of f) (node_of e) apart (node_of f * parts.contexts + slot) q (slot, (less, refl)) is) (firsts_at e did told first fits)

  -- an event of another node reads the same
  first_kept : (e f : Event) (did other : Did) (told : Waited) (first : Option ℕ) (firsts : List (Option ℕ)) → node_of f ≢ node_of e → DidFits parts e did → DidFits parts f other →
      first_read f other (changed_all None (first_changes e did told first) firsts) ≡ first_read f other firsts
  first_kept e (Instr at) did (Turn slot outcome) told first firsts apart fits fit = context_kept e (Instr at) did (Turn slot outcome) told first firsts slot apart fits fit
  first_kept e (Instr at) did (Missed slot) told first firsts apart fits fit = context_kept e (Instr at) did (Missed slot) told first firsts slot apart fits fit
  first_kept e (Instr at) did Took told first firsts apart fits fit = refl
  first_kept e (Instr at) did Packet told first firsts apart fits fit = refl
  first_kept e (Instr at) did (Handled kind state) told first firsts apart fits fit = refl
  first_kept e (Instr at) did Evicted told first firsts apart fits fit = refl
  first_kept e (Handle at) did other told first firsts apart fits fit = refl
  first_kept e (Deliver from to) did other told first firsts apart fits fit = refl
  first_kept e (Evict at set) did other told first firsts apart fits fit = refl

  -- what an event tells, with what it reads of it
  abbrev pub shown_by : Event → Did → Waited → ℕ → Shown → Shown
  shown_by event did told cost s = shown_after event did told cost (first_read event did s.firsts) s

  -- two events of different nodes in either order
  pub shown_apart : (e f : Event) (did other : Did) (one two : Waited) (cost price : ℕ) (s : Shown) → node_of f ≢ node_of e → DidFits parts e did → DidFits parts f other →
      shown_by f other two price (shown_by e did one cost s) ≡ shown_by e did one cost (shown_by f other two price s)
  shown_apart e f did other one two cost price s apart fits fit =
      let back : node_of e ≢ node_of f = λ same. apart (sym same) in
      let first = first_read e did s.firsts in
      let second = first_read f other s.firsts in
      ap (λ (r : Option ℕ). shown_after f other two price r (shown_by e did one cost s)) (first_kept e f did other one first s.firsts apart fits fit)
      ∙ ((λ x. record {
        accesses = times_and_times (access_times e did one first) (access_times f other two second) s.accesses x;
        queued = times_and_times (queue_times e one) (queue_times f two) s.queued x;
        spent = all_and_all nothing_spent (Is (node_of e)) (Is (node_of f)) (spends e did cost) (spends f other price) s.spent
            (nodes_apart parts (node_of e) (node_of f) back) (spends_at e did cost) (spends_at f other price) x;
        firsts = all_and_all None (IsContextOf parts (node_of e)) (IsContextOf parts (node_of f)) (first_changes e did one first) (first_changes f other two second) s.firsts
            (contexts_apart parts (node_of e) (node_of f) back) (firsts_at e did one first fits) (firsts_at f other two second fit) x;
      })
      ∙ sym (ap (λ (r : Option ℕ). shown_after e did one cost r (shown_by f other two price s)) (first_kept f e other did two second s.firsts back fit fits)))

-- ---- over a run

module _ (parts : Parts) (parameters : Parameters) (costs : Costs) where
  -- what a moment tells
  abbrev pub tells : Times → Moment → Shown → Shown
  tells times moment s = let told = waited_in parts costs times moment in shown_by parts costs moment.entry.event moment.stepped.did told (told.span.finish - told.span.start) s

  -- a moment tells so
  pub waited_shown : (times : Times) (waits : WaitsSoFar) (moment : Moment) → shown (waited parts costs times waits moment) ≡ tells times moment (shown waits)
  unfolding waited
  waited_shown times waits moment =
      let told = waited_in parts costs times moment in
      told_shown parts costs waits (happened_of moment) told (told.span.finish - told.span.start) moment.entry.event
