-- No time is above a bound.
use Rattle.std.proofs.Common.{ℕ, ◌<◌, zero, suc, ◌+◌, ◌*◌, ◌≤◌, ◌^◌, max, Option, Some, None, List, [], ◌∷◌, ◌++◌, replicate, slice_index_or, slice_set, arith}
use Rattle.std.specs.List.{AllByRecursion}
use Rattle.alw_msg.specs.declared.messages.Msg.{Msg}
use Rattle.alw_msg.specs.declared.events.Event.{Event}
use Rattle.alw_msg.specs.declared.events.Event.TheVariants.{Instr, Handle, Deliver, Evict}
use Rattle.alw_msg.specs.Lists.{behind}
use Rattle.alw_msg.specs.Events.{node_of}
use Rattle.alw_image.specs.declared.parts.Parts.{Parts}
use Rattle.alw_image.specs.Images.{node_count, context_count}
use Rattle.alw_model.specs.declared.steps.Did.{Did}
use Rattle.alw_model.specs.declared.steps.Did.TheVariants.{Turn, Missed, Took, Packet, Handled, Evicted}
use Rattle.alw_model.specs.Machine.{link_place}
use Rattle.alw_times.specs.declared.costs.Costs.{Costs}
use Rattle.alw_times.specs.declared.happenings.TimedMoment.{TimedMoment}
use Rattle.alw_times.specs.Times.{Times, times_start, time_at, queue_at, first_time, begin_by, arrival_of, woken_at, work_before, start_by, processors_after, controllers_after, arrivals_taken, packets_taken, packets_given, outgoing_at, sent, leaves_at, taken_after, left_by}
use Rattle.alw_times.specs.Within.{AreWithin, QueuesAreWithin, TimesAreWithin}
use Rattle.alw_num.proofs.Alls.{all_weaker}

-- ---- lists whose members all have a property

module _ {X : Type 0} (P : X → Type 0) where
  pub all_at : (xs : List X) (k : ℕ) (d : X) → AllByRecursion P xs → P d → P (slice_index_or xs k d)
  all_at [] k d all one = one
  all_at (x ∷ xs) zero d all one = all.0
  all_at (x ∷ xs) (suc k) d all one = all_at xs k d all.1 one

  pub all_set : (xs : List X) (k : ℕ) (y : X) → AllByRecursion P xs → P y → AllByRecursion P (slice_set xs k y)
  all_set [] k y all one = tt
  all_set (x ∷ xs) zero y all one = (one, all.1)
  all_set (x ∷ xs) (suc k) y all one = (all.0, all_set xs k y all.1 one)

  -- a write of which what is read then has the property
  pub all_set_read : (xs : List X) (k : ℕ) (y d : X) → AllByRecursion P xs → P (slice_index_or (slice_set xs k y) k d) → AllByRecursion P (slice_set xs k y)
  all_set_read [] k y d all one = tt
  all_set_read (x ∷ xs) zero y d all one = (one, all.1)
  all_set_read (x ∷ xs) (suc k) y d all one = (all.0, all_set_read xs k y d all.1 one)

  all_push : (xs : List X) (y : X) → AllByRecursion P xs → P y → AllByRecursion P (xs ++ y ∷ [])
  all_push [] y all one = (one, tt)
  all_push (x ∷ xs) y all one = (all.0, all_push xs y all.1 one)

  all_behind : (xs : List X) → AllByRecursion P xs → AllByRecursion P (behind xs)
  all_behind [] all = tt
  all_behind (x ∷ xs) all = all.1

-- ---- times and queues

module _ (most : ℕ) where
  pub time_within : (times : List ℕ) (k : ℕ) → AreWithin most times → time_at times k ≤ most
  time_within times k all = all_at (λ time. time ≤ most) times k 0 all (omega arith)

  pub put_within : (times : List ℕ) (k time : ℕ) → AreWithin most times → time ≤ most → AreWithin most (slice_set times k time)
  put_within times k time all le = all_set (λ t. t ≤ most) times k time all le

  first_within : (queue : List ℕ) → AreWithin most queue → first_time queue ≤ most
  first_within [] all = omega arith
  first_within (time ∷ rest) all = all.0

  queue_within : (queues : List (List ℕ)) (k : ℕ) → QueuesAreWithin most queues → AreWithin most (queue_at queues k)
  queue_within queues k all = all_at (AreWithin most) queues k [] all tt

  both_within : (a b : ℕ) → a ≤ most → b ≤ most → max a b ≤ most
  both_within a b p q = omega arith

  pub join_within : (queues : List (List ℕ)) (k time : ℕ) → QueuesAreWithin most queues → time ≤ most → QueuesAreWithin most (slice_set queues k (queue_at queues k ++ time ∷ []))
  join_within queues k time all le =
      all_set (AreWithin most) queues k (queue_at queues k ++ time ∷ []) all (all_push (λ t. t ≤ most) (queue_at queues k) time (queue_within queues k all) le)

  pop_within : (queues : List (List ℕ)) (k : ℕ) → QueuesAreWithin most queues → QueuesAreWithin most (slice_set queues k (behind (queue_at queues k)))
  pop_within queues k all = all_set (AreWithin most) queues k (behind (queue_at queues k)) all (all_behind (λ t. t ≤ most) (queue_at queues k) (queue_within queues k all))

  -- ---- what an event leaves

  processors_within : (event : Event) (finish : ℕ) (times : List ℕ) → AreWithin most times → finish ≤ most → AreWithin most (processors_after event finish times)
  processors_within (Instr at) finish times all le = put_within times at.0 finish all le
  processors_within (Handle at) finish times all le = put_within times at.0 finish all le
  processors_within (Deliver from to) finish times all le = all
  processors_within (Evict at set) finish times all le = all

  controllers_within : (event : Event) (finish : ℕ) (times : List ℕ) → AreWithin most times → finish ≤ most → AreWithin most (controllers_after event finish times)
  controllers_within (Instr at) finish times all le = all
  controllers_within (Handle at) finish times all le = all
  controllers_within (Deliver from to) finish times all le = put_within times to.0 finish all le
  controllers_within (Evict at set) finish times all le = put_within times at.0 finish all le

  pub taken_within : (parts : Parts) (event : Event) (queues : List (List ℕ)) → QueuesAreWithin most queues → QueuesAreWithin most (arrivals_taken parts event queues)
  taken_within parts (Instr at) queues all = all
  taken_within parts (Handle at) queues all = all
  taken_within parts (Deliver from to) queues all = pop_within queues (link_place parts from.0 to.0) all
  taken_within parts (Evict at set) queues all = all

  packets_taken_within : (event : Event) (queues : List (List ℕ)) → QueuesAreWithin most queues → QueuesAreWithin most (packets_taken event queues)
  packets_taken_within (Instr at) queues all = all
  packets_taken_within (Handle at) queues all = pop_within queues at.0 all
  packets_taken_within (Deliver from to) queues all = all
  packets_taken_within (Evict at set) queues all = all

  given_within : (did : Did) (at finish : ℕ) (queues : List (List ℕ)) → QueuesAreWithin most queues → finish ≤ most → QueuesAreWithin most (packets_given did at finish queues)
  given_within (Turn slot outcome) at finish queues all le = all
  given_within (Missed slot) at finish queues all le = all
  given_within Took at finish queues all le = all
  given_within Packet at finish queues all le = join_within queues at finish all le
  given_within (Handled kind state) at finish queues all le = all
  given_within Evicted at finish queues all le = all

  -- ---- when an event begins

  pub woken_within : (parts : Parts) (times : Times) (at : ℕ) (slot : Option ℕ) → TimesAreWithin most times → woken_at parts times at slot ≤ most
  woken_within parts times at None are = omega arith
  woken_within parts times at (Some slot) are = time_within times.wakes (at * parts.contexts + slot) are.wakes

  pub arrival_within : (parts : Parts) (times : Times) (event : Event) → TimesAreWithin most times → arrival_of parts times event ≤ most
  arrival_within parts times (Instr at) are = omega arith
  arrival_within parts times (Handle at) are = first_within (queue_at times.packets at.0) (queue_within times.packets at.0 are.packets)
  arrival_within parts times (Deliver from to) are =
      let place = link_place parts from.0 to.0 in first_within (queue_at times.arrivals place) (queue_within times.arrivals place are.arrivals)
  arrival_within parts times (Evict at set) are = omega arith

  pub begin_within : (parts : Parts) (times : Times) (slot : Option ℕ) (event : Event) → TimesAreWithin most times → begin_by parts times slot event ≤ most
  begin_within parts times slot (Instr at) are =
      both_within (time_at times.processors at.0) (woken_at parts times at.0 slot) (time_within times.processors at.0 are.processors) (woken_within parts times at.0 slot are)
  begin_within parts times slot (Handle at) are =
      both_within (time_at times.processors at.0) (arrival_of parts times (Handle at)) (time_within times.processors at.0 are.processors) (arrival_within parts times (Handle at) are)
  begin_within parts times slot (Deliver from to) are =
      both_within (time_at times.controllers to.0) (arrival_of parts times (Deliver from to)) (time_within times.controllers to.0 are.controllers)
      (arrival_within parts times (Deliver from to) are)
  begin_within parts times slot (Evict at set) are = time_within times.controllers at.0 are.controllers

  pub start_within : (parts : Parts) (costs : Costs) (times : Times) (slot : Option ℕ) (event : Event) → TimesAreWithin most times → work_before costs event < 2 ^ 16 →
      start_by parts costs times slot event ≤ most + 2 ^ 16
  start_within parts costs times slot event are few =
      omega (arith, few, begin_within parts times slot event are, time_within times.starts (node_of event) are.starts)

  -- what an event leaves, where the port, the arrivals and the wakes that it leaves are within the bound
  pub left_within : (parts : Parts) (costs : Costs) (times : Times) (happened : TimedMoment) (sends : List (ℕ × Msg)) (start finish : ℕ) → TimesAreWithin most times →
      start ≤ most → finish ≤ most → time_at (left_by parts costs times happened sends start finish).ports (node_of happened.event) ≤ most →
      QueuesAreWithin most (left_by parts costs times happened sends start finish).arrivals → AreWithin most (left_by parts costs times happened sends start finish).wakes →
      TimesAreWithin most (left_by parts costs times happened sends start finish)
  left_within parts costs times happened sends start finish are early late port arrivals wakes =
      let event = happened.event in
      let at = node_of event in
      record {
        starts = put_within times.starts at start are.starts early;
        processors = processors_within event finish times.processors are.processors late;
        controllers = controllers_within event finish times.controllers are.controllers late;
        ports = all_set_read (λ t. t ≤ most) times.ports at
            (sent parts costs at (leaves_at event start finish) (outgoing_at (taken_after parts event times) at) sends).port 0 are.ports port;
        wakes = wakes;
        arrivals = arrivals;
        packets = given_within happened.did at finish (packets_taken event times.packets) (packets_taken_within event times.packets are.packets) late;
        latest = both_within times.latest finish are.latest late;
      }

-- what an event sends leaves no later than its finish
pub leaves_early : (event : Event) (start finish : ℕ) → start ≤ finish → leaves_at event start finish ≤ finish
leaves_early (Instr at) start finish le = omega arith
leaves_early (Handle at) start finish le = le
leaves_early (Deliver from to) start finish le = omega arith
leaves_early (Evict at set) start finish le = omega arith

-- a greater bound is one too
pub wider : (most more : ℕ) → most ≤ more → (times : Times) → TimesAreWithin most times → TimesAreWithin more times
wider most more le times are = record {
  starts = times_wider times.starts are.starts;
  processors = times_wider times.processors are.processors;
  controllers = times_wider times.controllers are.controllers;
  ports = times_wider times.ports are.ports;
  wakes = times_wider times.wakes are.wakes;
  arrivals = all_weaker (AreWithin most) (AreWithin more) times_wider times.arrivals are.arrivals;
  packets = all_weaker (AreWithin most) (AreWithin more) times_wider times.packets are.packets;
  latest = omega (arith, le, are.latest);
}
  where
    times_wider : (xs : List ℕ) → AreWithin most xs → AreWithin more xs
    times_wider xs all = all_weaker (λ t. t ≤ most) (λ t. t ≤ more) (λ t p. omega (arith, le, p)) xs all

-- the times at the start are 0
all_replicate : {X : Type 0} (P : X → Type 0) (n : ℕ) (x : X) → P x → AllByRecursion P (replicate n x)
all_replicate P zero x one = tt
all_replicate P (suc n) x one = (one, all_replicate P n x one)

pub times_within : (parts : Parts) (costs : Costs) → TimesAreWithin 0 (times_start parts costs)
times_within parts costs = record {
  starts = all_replicate (λ t. t ≤ 0) (node_count parts) 0 (omega arith);
  processors = all_replicate (λ t. t ≤ 0) (node_count parts) 0 (omega arith);
  controllers = all_replicate (λ t. t ≤ 0) (node_count parts) 0 (omega arith);
  ports = all_replicate (λ t. t ≤ 0) (node_count parts) 0 (omega arith);
  wakes = all_replicate (λ t. t ≤ 0) (context_count parts) 0 (omega arith);
  arrivals = all_replicate (AreWithin 0) (node_count parts * node_count parts) [] tt;
  packets = all_replicate (AreWithin 0) (node_count parts) [] tt;
  latest = omega arith;
}
