-- Times of a node only rise along a journal.
use Rattle.std.proofs.Common.{◌≡◌, ◌<◌, ℕ, zero, suc, ◌+◌, ◌≤◌, Option, List, [], ◌∷◌, ◌++◌, length, replicate, slice_set, refl, sym, ap, subst, ◌∙◌, arith}
use Rattle.alw_msg.specs.declared.events.Event.{Event}
use Rattle.alw_msg.specs.declared.events.Event.TheVariants.{Instr, Handle, Deliver, Evict}
use Rattle.alw_msg.specs.declared.events.Entry.{Entry}
use Rattle.alw_msg.specs.Events.{node_of}
use Rattle.alw_image.specs.declared.parts.Parts.{Parts}
use Rattle.alw_image.specs.Images.{node_count}
use Rattle.alw_image.specs.Parameters.{Parameters}
use Rattle.alw_model.specs.Machine.{machine_start, state, after_step}
use Rattle.alw_model.specs.Runs.{Moment, moment_of, moments_from, moments}
use Rattle.alw_model.proofs.Journals.{moments_from-append}
use Rattle.alw_times.specs.declared.costs.Costs.{Costs}
use Rattle.alw_times.specs.Happening.{happened_of}
use Rattle.alw_times.specs.Times.{Times, times_start, time_at, work_before, start_by, processors_after, controllers_after, timed, timed_all, times_of}
use Rattle.alw_times.specs.Laws.{EveryTwo, start_in, begin_in, finish_in, started, begun, finished, is_of_processor}

-- ---- a place of a list of times

put_length : (times : List ℕ) (k time : ℕ) → length (slice_set times k time) ≡ length times
put_length [] k time = refl
put_length (t ∷ ts) zero time = refl
put_length (t ∷ ts) (suc k) time = ap suc (put_length ts k time)

put_read : (times : List ℕ) (k time : ℕ) → k < length times → time_at (slice_set times k time) k ≡ time
put_read [] k time less = absurd (omega (arith, less))
put_read (t ∷ ts) zero time less = refl
put_read (t ∷ ts) (suc k) time less = put_read ts k time (omega (arith, less))

put_rises : (times : List ℕ) (k time place : ℕ) → time_at times k ≤ time → time_at times place ≤ time_at (slice_set times k time) place
put_rises [] k time place le = omega arith
put_rises (t ∷ ts) zero time zero le = le
put_rises (t ∷ ts) zero time (suc place) le = omega arith
put_rises (t ∷ ts) (suc k) time zero le = omega arith
put_rises (t ∷ ts) (suc k) time (suc place) le = put_rises ts k time place le

replicate_length : (n time : ℕ) → length (replicate n time) ≡ n
replicate_length zero time = refl
replicate_length (suc n) time = ap suc (replicate_length n time)

-- ---- the side that an event keeps

abbrev side_of : Event → Times → List ℕ
side_of (Instr at) times = times.processors
side_of (Handle at) times = times.processors
side_of (Deliver from to) times = times.controllers
side_of (Evict at set) times = times.controllers

same_side : (one other : Event) (times : Times) → is_of_processor one ≡ is_of_processor other → side_of one times ≡ side_of other times
same_side (Instr at) (Instr b) times same = refl
same_side (Instr at) (Handle b) times same = refl
same_side (Instr at) (Deliver from to) times same = absurd (cc)
same_side (Instr at) (Evict b set) times same = absurd (cc)
same_side (Handle at) (Instr b) times same = refl
same_side (Handle at) (Handle b) times same = refl
same_side (Handle at) (Deliver from to) times same = absurd (cc)
same_side (Handle at) (Evict b set) times same = absurd (cc)
same_side (Deliver from to) (Instr b) times same = absurd (cc)
same_side (Deliver from to) (Handle b) times same = absurd (cc)
same_side (Deliver from to) (Deliver a b) times same = refl
same_side (Deliver from to) (Evict b set) times same = refl
same_side (Evict at set) (Instr b) times same = absurd (cc)
same_side (Evict at set) (Handle b) times same = absurd (cc)
same_side (Evict at set) (Deliver a b) times same = refl
same_side (Evict at set) (Evict b other) times same = refl

module _ (parts : Parts) (costs : Costs) where
  -- an event begins when its side is free, or later
  side_first : (times : Times) (slot : Option ℕ) (event : Event) → work_before costs event + time_at (side_of event times) (node_of event) ≤ start_by parts costs times slot event
  side_first times slot (Instr at) = omega arith
  side_first times slot (Handle at) = omega arith
  side_first times slot (Deliver from to) = omega arith
  side_first times slot (Evict at set) = omega arith

  processors_rise : (times : Times) (slot : Option ℕ) (event : Event) (finish place : ℕ) → start_by parts costs times slot event ≤ finish →
      time_at times.processors place ≤ time_at (processors_after event finish times.processors) place
  processors_rise times slot (Instr at) finish place le = put_rises times.processors at.0 finish place (omega (arith, le, side_first times slot (Instr at)))
  processors_rise times slot (Handle at) finish place le = put_rises times.processors at.0 finish place (omega (arith, le, side_first times slot (Handle at)))
  processors_rise times slot (Deliver from to) finish place le = omega arith
  processors_rise times slot (Evict at set) finish place le = omega arith

  controllers_rise : (times : Times) (slot : Option ℕ) (event : Event) (finish place : ℕ) → start_by parts costs times slot event ≤ finish →
      time_at times.controllers place ≤ time_at (controllers_after event finish times.controllers) place
  controllers_rise times slot (Instr at) finish place le = omega arith
  controllers_rise times slot (Handle at) finish place le = omega arith
  controllers_rise times slot (Deliver from to) finish place le = put_rises times.controllers to.0 finish place (omega (arith, le, side_first times slot (Deliver from to)))
  controllers_rise times slot (Evict at set) finish place le = put_rises times.controllers at.0 finish place (omega (arith, le, side_first times slot (Evict at set)))

  -- ---- an event

  -- the sides are as long as they were, and no time of them is earlier than it was
  record Rises (before after : Times) : Type 0 where
    starts_long : length after.starts ≡ length before.starts
    processors_long : length after.processors ≡ length before.processors
    controllers_long : length after.controllers ≡ length before.controllers
    starts : (place : ℕ) → time_at before.starts place ≤ time_at after.starts place
    processors : (place : ℕ) → time_at before.processors place ≤ time_at after.processors place
    controllers : (place : ℕ) → time_at before.controllers place ≤ time_at after.controllers place

  rises_none : (times : Times) → Rises times times
  rises_none times = record {
    starts_long = refl;
    processors_long = refl;
    controllers_long = refl;
    starts = λ place. omega arith;
    processors = λ place. omega arith;
    controllers = λ place. omega arith;
  }

  rises_then : (one two three : Times) → Rises one two → Rises two three → Rises one three
  rises_then one two three r s = record {
    starts_long = s.starts_long ∙ r.starts_long;
    processors_long = s.processors_long ∙ r.processors_long;
    controllers_long = s.controllers_long ∙ r.controllers_long;
    starts = λ place. omega (arith, r.starts place, s.starts place);
    processors = λ place. omega (arith, r.processors place, s.processors place);
    controllers = λ place. omega (arith, r.controllers place, s.controllers place);
  }

  processors_long : (event : Event) (finish : ℕ) (times : List ℕ) → length (processors_after event finish times) ≡ length times
  processors_long (Instr at) finish times = put_length times at.0 finish
  processors_long (Handle at) finish times = put_length times at.0 finish
  processors_long (Deliver from to) finish times = refl
  processors_long (Evict at set) finish times = refl

  controllers_long : (event : Event) (finish : ℕ) (times : List ℕ) → length (controllers_after event finish times) ≡ length times
  controllers_long (Instr at) finish times = refl
  controllers_long (Handle at) finish times = refl
  controllers_long (Deliver from to) finish times = put_length times to.0 finish
  controllers_long (Evict at set) finish times = put_length times at.0 finish

  started_last : (times : Times) (slot : Option ℕ) (event : Event) → time_at times.starts (node_of event) ≤ start_by parts costs times slot event
  started_last times slot event = omega arith

  timed_rises : (times : Times) (moment : Moment) → Rises times (timed parts costs times moment)
  unfolding timed
  timed_rises times moment =
      let event = moment.entry.event in
      let slot = (happened_of moment).slot in
      let start = start_in parts costs times moment in
      let finish = finish_in parts costs times moment in
      record {
        starts_long = put_length times.starts (node_of event) start;
        processors_long = processors_long event finish times.processors;
        controllers_long = controllers_long event finish times.controllers;
        starts = λ place. put_rises times.starts (node_of event) start place (started_last times slot event);
        processors = λ place. processors_rise times slot event finish place (omega arith);
        controllers = λ place. controllers_rise times slot event finish place (omega arith);
      }

  all_rise : (times : Times) (run : List Moment) → Rises times (timed_all parts costs times run)
  all_rise times [] = rises_none times
  all_rise times (moment ∷ rest) =
      rises_then times (timed parts costs times moment) (timed_all parts costs (timed parts costs times moment) rest) (timed_rises times moment) (all_rise (timed parts costs times moment) rest)

  -- ---- two events of a node

  started_stands : (times : Times) (moment : Moment) → node_of moment.entry.event < length times.starts →
      time_at (timed parts costs times moment).starts (node_of moment.entry.event) ≡ start_in parts costs times moment
  unfolding timed
  started_stands times moment less = put_read times.starts (node_of moment.entry.event) (start_in parts costs times moment) less

  kept_stands : (event : Event) (times after : Times) (finish : ℕ) → after.processors ≡ processors_after event finish times.processors →
      after.controllers ≡ controllers_after event finish times.controllers → node_of event < length times.processors → node_of event < length times.controllers →
      time_at (side_of event after) (node_of event) ≡ finish
  kept_stands (Instr at) times after finish p c more less = ap (λ (ts : List ℕ). time_at ts at.0) p ∙ put_read times.processors at.0 finish more
  kept_stands (Handle at) times after finish p c more less = ap (λ (ts : List ℕ). time_at ts at.0) p ∙ put_read times.processors at.0 finish more
  kept_stands (Deliver from to) times after finish p c more less = ap (λ (ts : List ℕ). time_at ts to.0) c ∙ put_read times.controllers to.0 finish less
  kept_stands (Evict at set) times after finish p c more less = ap (λ (ts : List ℕ). time_at ts at.0) c ∙ put_read times.controllers at.0 finish less

  finished_stands : (times : Times) (moment : Moment) → node_of moment.entry.event < length times.processors → node_of moment.entry.event < length times.controllers →
      time_at (side_of moment.entry.event (timed parts costs times moment)) (node_of moment.entry.event) ≡ finish_in parts costs times moment
  unfolding timed
  finished_stands times moment more less =
      kept_stands moment.entry.event times (timed parts costs times moment) (finish_in parts costs times moment) refl refl more less

  sides_rise : (event : Event) (before after : Times) (place : ℕ) → Rises before after → time_at (side_of event before) place ≤ time_at (side_of event after) place
  sides_rise (Instr at) before after place rises = rises.processors place
  sides_rise (Handle at) before after place rises = rises.processors place
  sides_rise (Deliver from to) before after place rises = rises.controllers place
  sides_rise (Evict at set) before after place rises = rises.controllers place

  starts_two : (times : Times) (one other : Moment) (middle : List Moment) → node_of one.entry.event < length times.starts → node_of other.entry.event ≡ node_of one.entry.event →
      start_in parts costs times one ≤ start_in parts costs (timed_all parts costs (timed parts costs times one) middle) other
  starts_two times one other middle less same =
      let after = timed parts costs times one in
      let later = timed_all parts costs after middle in
      let stands = started_stands times one less in
      let rises = (all_rise after middle).starts (node_of one.entry.event) in
      let last : time_at later.starts (node_of one.entry.event) ≤ start_in parts costs later other =
      subst (λ (n : ℕ). time_at later.starts n ≤ start_in parts costs later other) same (started_last later (happened_of other).slot other.entry.event) in
      omega (arith, stands, rises, last)

  sides_two : (times : Times) (one other : Moment) (middle : List Moment) → node_of one.entry.event < length times.processors → node_of one.entry.event < length times.controllers →
      node_of other.entry.event ≡ node_of one.entry.event → is_of_processor other.entry.event ≡ is_of_processor one.entry.event →
      finish_in parts costs times one ≤ begin_in parts costs (timed_all parts costs (timed parts costs times one) middle) other
  sides_two times one other middle more less same alike =
      let after = timed parts costs times one in
      let later = timed_all parts costs after middle in
      let stands = finished_stands times one more less in
      let rises = sides_rise one.entry.event after later (node_of one.entry.event) (all_rise after middle) in
      let side : time_at (side_of other.entry.event later) (node_of other.entry.event) ≡ time_at (side_of one.entry.event later) (node_of one.entry.event) =
      ap (λ (ts : List ℕ). time_at ts (node_of other.entry.event)) (same_side other.entry.event one.entry.event later alike)
      ∙ ap (time_at (side_of one.entry.event later)) same in
      let first = side_first later (happened_of other).slot other.entry.event in
      omega (arith, stands, rises, side, first)

-- ---- journals

module _ (parts : Parts) (parameters : Parameters) (costs : Costs) where
  timed_all_append : (times : Times) (run more : List Moment) → timed_all parts costs times (run ++ more) ≡ timed_all parts costs (timed_all parts costs times run) more
  timed_all_append times [] more = refl
  timed_all_append times (moment ∷ rest) more = timed_all_append (timed parts costs times moment) rest more

  -- the times of a journal's front, and then those of what follows
  pub times_go_on : (front more : List Entry) → times_of parts parameters costs (front ++ more) ≡
      timed_all parts costs (times_of parts parameters costs front) (moments_from parts parameters (state parts parameters front) more)
  unfolding times_of moments state
  times_go_on front more =
      ap (timed_all parts costs (times_start parts costs)) (moments_from-append parts parameters (machine_start parts) front more)
      ∙ timed_all_append (times_start parts costs) (moments parts parameters front) (moments_from parts parameters (state parts parameters front) more)

  pub times_none : times_of parts parameters costs [] ≡ times_start parts costs
  unfolding times_of moments
  times_none = refl

  pub times_push : (journal : List Entry) (entry : Entry) → times_of parts parameters costs (journal ++ entry ∷ []) ≡
      timed parts costs (times_of parts parameters costs journal) (moment_of parts parameters (state parts parameters journal) entry)
  times_push journal entry = times_go_on journal (entry ∷ [])

  -- each node has its times
  record AreOfNodes (times : Times) : Type 0 where
    starts : length times.starts ≡ node_count parts
    processors : length times.processors ≡ node_count parts
    controllers : length times.controllers ≡ node_count parts

  of_nodes : (journal : List Entry) → AreOfNodes (times_of parts parameters costs journal)
  unfolding times_of
  of_nodes journal =
      let rises = all_rise parts costs (times_start parts costs) (moments parts parameters journal) in
      let long = replicate_length (node_count parts) 0 in
      record { starts = rises.starts_long ∙ long; processors = rises.processors_long ∙ long; controllers = rises.controllers_long ∙ long }

pub starts_rise : EveryTwo (λ parts parameters costs front first middle second.
    started parts parameters costs front first ≤ started parts parameters costs (front ++ first ∷ middle) second)
starts_rise parts parameters costs front middle first second less same =
    let before = state parts parameters front in
    let one = moment_of parts parameters before first in
    let other = moment_of parts parameters (state parts parameters (front ++ first ∷ middle)) second in
    let times = times_of parts parameters costs front in
    let rest = moments_from parts parameters (after_step parts before first.event one.stepped) middle in
    let long = (of_nodes parts parameters costs front).starts in
    subst (λ (later : Times). start_in parts costs times one ≤ start_in parts costs later other) (sym (times_go_on parts parameters costs front (first ∷ middle)))
    (starts_two parts costs times one other rest (omega (arith, long, less)) same)

pub one_at_a_time : EveryTwo (λ parts parameters costs front first middle second. is_of_processor second.event ≡ is_of_processor first.event →
    finished parts parameters costs front first ≤ begun parts parameters costs (front ++ first ∷ middle) second)
one_at_a_time parts parameters costs front middle first second less same alike =
    let before = state parts parameters front in
    let one = moment_of parts parameters before first in
    let other = moment_of parts parameters (state parts parameters (front ++ first ∷ middle)) second in
    let times = times_of parts parameters costs front in
    let rest = moments_from parts parameters (after_step parts before first.event one.stepped) middle in
    let are = of_nodes parts parameters costs front in
    subst (λ (later : Times). finish_in parts costs times one ≤ begin_in parts costs later other) (sym (times_go_on parts parameters costs front (first ∷ middle)))
    (sides_two parts costs times one other rest (omega (arith, are.processors, less)) (omega (arith, are.controllers, less)) same alike)
