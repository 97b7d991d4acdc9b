-- What a node spent comes to no more than when it is free, and so to no more than the latest finish.
use Rattle.std.proofs.Common.{◌≡◌, ℕ, zero, suc, ◌+◌, ◌-◌, ◌*◌, ◌≤◌, max, Option, Some, None, List, [], ◌∷◌, replicate, slice_index_or, slice_set, refl, subst, sym, ap, arith}
use Rattle.alw_msg.specs.declared.messages.Msg.{Msg}
use Rattle.alw_msg.specs.declared.events.Event.{Event}
use Rattle.alw_msg.specs.declared.events.Event.TheVariants.{Instr, Handle, Deliver, Evict}
use Rattle.alw_msg.specs.declared.events.Entry.{Entry}
use Rattle.alw_image.specs.declared.parts.Parts.{Parts}
use Rattle.alw_image.specs.Images.{node_count}
use Rattle.alw_image.specs.Parameters.{Parameters}
use Rattle.alw_model.specs.declared.steps.Did.{Did}
use Rattle.alw_model.specs.declared.steps.Did.TheVariants.{Turn, Missed, Took, Packet, Handled, Evicted}
use Rattle.alw_model.specs.Runs.{Moment, moments}
use Rattle.alw_times.specs.declared.costs.Costs.{Costs}
use Rattle.alw_times.specs.declared.happenings.TimedMoment.{TimedMoment}
use Rattle.alw_times.specs.Happening.{happened_of}
use Rattle.alw_times.specs.Laws.{start_in, finish_in}
use Rattle.alw_times.specs.Times.{Times, times_start, time_at, start_by, turn_cost, cost_by, processors_after, controllers_after, timed, timed_all, times_of}
use Rattle.alw_waits.specs.declared.totals.Spent.{Spent}
use Rattle.alw_waits.specs.declared.misses.Access.{Access}
use Rattle.alw_waits.specs.declared.waits.Waited.{Waited}
use Rattle.alw_waits.specs.Waits.{WaitsSoFar, waits_start, with_time, nothing_spent, with_turn, with_miss, with_handler, with_controller, spent_at, access_ended, first_of, missed, instr_told, received, told_with, told_by, waited_in, waited, waited_all, waits_of}
use Rattle.law_times.specs.Sums.{processor_spent}
use Rattle.law_times.proofs.Shown.{Shown, received_shown}
use Rattle.law_times.proofs.Beside.{Beside, beside_at, beside_set, beside_left, beside_right, beside_start}

-- ---- what is told of accesses and misses leaves what was spent

ended_spent : (waits : WaitsSoFar) (context start : ℕ) (first : Option ℕ) → (access_ended waits context start first).spent ≡ waits.spent
ended_spent waits context start None = refl
ended_spent waits context start (Some first) = refl

missed_spent : (waits : WaitsSoFar) (context start : ℕ) (asked : Option Access) → (missed waits context start asked).spent ≡ waits.spent
missed_spent waits context start None = refl
missed_spent waits context start (Some access) = refl

-- ---- an event

-- what a processor or a controller spent is no more than when it is free
abbrev BusyBy : Spent → ℕ → Type 0
BusyBy spent time = processor_spent spent ≤ time

abbrev KeptBy : Spent → ℕ → Type 0
KeptBy spent time = spent.controller ≤ time

record IsSpent (spent : List Spent) (processors controllers : List ℕ) : Type 0 where
  processor : Beside BusyBy spent processors
  controller : Beside KeptBy spent controllers

module _ (parts : Parts) (costs : Costs) where
  hit_first : (last : ℕ) (slot : Option ℕ) → costs.hit ≤ turn_cost costs last slot
  hit_first last None = omega arith
  hit_first last (Some slot) = omega arith

  module _ (times : Times) (waits : WaitsSoFar) (are : IsSpent waits.spent times.processors times.controllers) (happened : TimedMoment) (sends : List (ℕ × Msg)) (told : Waited) where
    busy_at : (n : ℕ) → processor_spent (spent_at waits n) ≤ time_at times.processors n
    busy_at n = beside_at BusyBy waits.spent times.processors n nothing_spent 0 (omega arith) are.processor

    kept_at : (n : ℕ) → (spent_at waits n).controller ≤ time_at times.controllers n
    kept_at n = beside_at KeptBy waits.spent times.controllers n nothing_spent 0 (omega arith) are.controller

    -- the processor of a node was busy, and is free at a time
    busy_more : (n : ℕ) (spent : Spent) (finish : ℕ) → processor_spent spent ≤ finish → spent.controller ≡ (spent_at waits n).controller →
        IsSpent (slice_set waits.spent n spent) (slice_set times.processors n finish) times.controllers
    busy_more n spent finish busy same = record {
      processor = beside_set BusyBy waits.spent times.processors n spent finish busy are.processor;
      controller = beside_left KeptBy waits.spent times.controllers n spent 0 (let kept = kept_at n in omega (arith, same, kept)) are.controller;
    }

    -- and its controller
    kept_more : (n : ℕ) (spent : Spent) (finish : ℕ) → spent.controller ≤ finish → processor_spent spent ≡ processor_spent (spent_at waits n) →
        IsSpent (slice_set waits.spent n spent) times.processors (slice_set times.controllers n finish)
    kept_more n spent finish kept same = record {
      processor = beside_left BusyBy waits.spent times.processors n spent 0 (let busy = busy_at n in omega (arith, same, busy)) are.processor;
      controller = beside_set KeptBy waits.spent times.controllers n spent finish kept are.controller;
    }

    -- nothing more was spent
    busy_same : (n finish : ℕ) → processor_spent (spent_at waits n) ≤ finish → IsSpent waits.spent (slice_set times.processors n finish) times.controllers
    busy_same n finish busy = record { processor = beside_right BusyBy waits.spent times.processors n nothing_spent finish busy are.processor; controller = are.controller }

    instr_sums : (at start cost : ℕ) (did : Did) → time_at times.processors at ≤ start → costs.hit ≤ cost →
        IsSpent (instr_told parts costs waits at did told cost).spent (slice_set times.processors at (start + cost)) times.controllers
    instr_sums at start cost (Turn slot outcome) late some =
        let context = at * parts.contexts + slot in
        let new = with_turn (spent_at waits at) costs.hit (cost - costs.hit) in
        let busy = busy_at at in
        subst (λ (s : List Spent). IsSpent (slice_set s at new) (slice_set times.processors at (start + cost)) times.controllers)
        (sym (ended_spent waits context told.span.start (first_of waits context)))
        (busy_more at new (start + cost) (omega (arith, busy, late, some)) refl)
    instr_sums at start cost (Missed slot) late some =
        let context = at * parts.contexts + slot in
        let new = with_miss (spent_at waits at) costs.hit (cost - costs.hit) in
        let busy = busy_at at in
        subst (λ (s : List Spent). IsSpent (slice_set s at new) (slice_set times.processors at (start + cost)) times.controllers)
        (sym (missed_spent waits context told.span.start told.asked))
        (busy_more at new (start + cost) (omega (arith, busy, late, some)) refl)
    instr_sums at start cost Took late some = let busy = busy_at at in busy_same at (start + cost) (omega (arith, busy, late))
    instr_sums at start cost Packet late some = let busy = busy_at at in busy_same at (start + cost) (omega (arith, busy, late))
    instr_sums at start cost (Handled kind state) late some = let busy = busy_at at in busy_same at (start + cost) (omega (arith, busy, late))
    instr_sums at start cost Evicted late some = let busy = busy_at at in busy_same at (start + cost) (omega (arith, busy, late))

    controller_sums : (at start cost : ℕ) (after : WaitsSoFar) → after.spent ≡ waits.spent → time_at times.controllers at ≤ start →
        IsSpent (slice_set after.spent at (with_controller (spent_at after at) cost)) times.processors (slice_set times.controllers at (start + cost))
    controller_sums at start cost after same late =
        let kept = kept_at at in
        subst (λ (s : List Spent). IsSpent (slice_set s at (with_controller (slice_index_or s at nothing_spent) cost)) times.processors (slice_set times.controllers at (start + cost)))
        (sym same)
        (kept_more at (with_controller (spent_at waits at) cost) (start + cost) (omega (arith, kept, late)) refl)

    told_sums : (event : Event) (start cost : ℕ) → start_by parts costs times happened.slot event ≤ start → cost ≡ cost_by costs happened sends event →
        IsSpent (told_with parts costs waits happened told cost event).spent (processors_after event (start + cost) times.processors) (controllers_after event (start + cost) times.controllers)
    told_sums (Instr at) start cost late is =
        instr_sums at.0 start cost happened.did (omega (arith, late)) (let some = hit_first happened.last happened.slot in omega (arith, is, some))
    told_sums (Handle at) start cost late is =
        let busy = busy_at at.0 in
        busy_more at.0 (with_handler (spent_at waits at.0) costs.trap cost) (start + cost) (omega (arith, busy, late)) refl
    told_sums (Deliver from to) start cost late is =
        let queued : WaitsSoFar = record waits { queued = with_time waits.queued (told.span.start - told.arrival) } in
        controller_sums to.0 start cost (received parts queued from.0 to.0 happened told.span.finish told.taken)
        (ap (λ (s : Shown). s.spent) (received_shown parts queued from.0 to.0 happened told.span.finish told.taken)) (omega (arith, late))
    told_sums (Evict at set) start cost late is = controller_sums at.0 start cost waits refl (omega (arith, late))

  -- ---- journals

  -- what is spent, and the latest finish
  record SumsUp (times : Times) (waits : WaitsSoFar) : Type 0 where
    spent : IsSpent waits.spent times.processors times.controllers
    processors : (n : ℕ) → time_at times.processors n ≤ times.latest
    controllers : (n : ℕ) → time_at times.controllers n ≤ times.latest

  -- a time that is put, and the latest one
  put_latest : (times : List ℕ) (k time latest : ℕ) → ((n : ℕ) → time_at times n ≤ latest) → (n : ℕ) → time_at (slice_set times k time) n ≤ max latest time
  put_latest [] k time latest all n = omega arith
  put_latest (t ∷ ts) zero time latest all zero = omega arith
  put_latest (t ∷ ts) zero time latest all (suc n) = let old = all (suc n) in omega (arith, old)
  put_latest (t ∷ ts) (suc k) time latest all zero = let old = all 0 in omega (arith, old)
  put_latest (t ∷ ts) (suc k) time latest all (suc n) = put_latest ts k time latest (λ m. all (suc m)) n

  old_latest : (times : List ℕ) (time latest : ℕ) → ((n : ℕ) → time_at times n ≤ latest) → (n : ℕ) → time_at times n ≤ max latest time
  old_latest times time latest all n = let old = all n in omega (arith, old)

  processors_latest : (event : Event) (finish latest : ℕ) (times : List ℕ) → ((n : ℕ) → time_at times n ≤ latest) → (n : ℕ) → time_at (processors_after event finish times) n ≤ max latest finish
  processors_latest (Instr at) finish latest times all = put_latest times at.0 finish latest all
  processors_latest (Handle at) finish latest times all = put_latest times at.0 finish latest all
  processors_latest (Deliver from to) finish latest times all = old_latest times finish latest all
  processors_latest (Evict at set) finish latest times all = old_latest times finish latest all

  controllers_latest : (event : Event) (finish latest : ℕ) (times : List ℕ) → ((n : ℕ) → time_at times n ≤ latest) → (n : ℕ) → time_at (controllers_after event finish times) n ≤ max latest finish
  controllers_latest (Instr at) finish latest times all = old_latest times finish latest all
  controllers_latest (Handle at) finish latest times all = old_latest times finish latest all
  controllers_latest (Deliver from to) finish latest times all = put_latest times to.0 finish latest all
  controllers_latest (Evict at set) finish latest times all = put_latest times at.0 finish latest all

  event_sums : (times : Times) (waits : WaitsSoFar) (moment : Moment) → SumsUp times waits → SumsUp (timed parts costs times moment) (waited parts costs times waits moment)
  unfolding timed waited
  event_sums times waits moment sums =
      let event = moment.entry.event in
      let happened = happened_of moment in
      let sends = moment.stepped.sends in
      let start = start_in parts costs times moment in
      let finish = finish_in parts costs times moment in
      let cost : finish - start ≡ cost_by costs happened sends event = omega arith in
      let whole : start + (finish - start) ≡ finish = omega arith in
      record {
        spent = subst (λ (f : ℕ). IsSpent (told_by parts costs waits happened (waited_in parts costs times moment) event).spent (processors_after event f times.processors) (controllers_after event f times.controllers))
            whole (told_sums times waits sums.spent happened sends (waited_in parts costs times moment) event start (finish - start) (omega arith) cost);
        processors = processors_latest event finish times.latest times.processors sums.processors;
        controllers = controllers_latest event finish times.latest times.controllers sums.controllers;
      }

  all_sums : (times : Times) (waits : WaitsSoFar) (run : List Moment) → SumsUp times waits → SumsUp (timed_all parts costs times run) (waited_all parts costs times waits run)
  all_sums times waits [] sums = sums
  all_sums times waits (moment ∷ rest) sums = all_sums (timed parts costs times moment) (waited parts costs times waits moment) rest (event_sums times waits moment sums)

  zero_at : (n k : ℕ) → time_at (replicate n 0) k ≤ 0
  zero_at zero k = omega arith
  zero_at (suc n) zero = omega arith
  zero_at (suc n) (suc k) = zero_at n k

  start_sums : SumsUp (times_start parts costs) (waits_start parts)
  start_sums = record {
    spent = record {
      processor = beside_start BusyBy (node_count parts) nothing_spent 0 (omega arith);
      controller = beside_start KeptBy (node_count parts) nothing_spent 0 (omega arith);
    };
    processors = zero_at (node_count parts);
    controllers = zero_at (node_count parts);
  }

module _ (parts : Parts) (parameters : Parameters) (costs : Costs) (journal : List Entry) where
  sums : SumsUp parts costs (times_of parts parameters costs journal) (waits_of parts parameters costs journal)
  unfolding times_of waits_of
  sums = all_sums parts costs (times_start parts costs) (waits_start parts) (moments parts parameters journal) (start_sums parts costs)

  -- what a node's processor and its controller spent is no more than the latest finish
  pub processor_sums : (n : ℕ) → processor_spent (spent_at (waits_of parts parameters costs journal) n) ≤ (times_of parts parameters costs journal).latest
  processor_sums n =
      let busy = beside_at BusyBy (waits_of parts parameters costs journal).spent (times_of parts parameters costs journal).processors n nothing_spent 0 (omega arith) sums.spent.processor in
      let free = sums.processors n in
      omega (arith, busy, free)

  -- and its controller
  pub controller_sums_up : (n : ℕ) → (spent_at (waits_of parts parameters costs journal) n).controller ≤ (times_of parts parameters costs journal).latest
  controller_sums_up n =
      let kept = beside_at KeptBy (waits_of parts parameters costs journal).spent (times_of parts parameters costs journal).controllers n nothing_spent 0 (omega arith) sums.spent.controller in
      let free = sums.controllers n in
      omega (arith, kept, free)
