-- What is told of two legal journals of the same entries: a relation that each event keeps, and that neighbours which change places have.
use Rattle.std.proofs.Common.{◌≡◌, ◌≢◌, ◌≤◌, ◌+◌, ◌-◌, Bool, true, false, cond, List, [], ◌∷◌, IsTrue, refl, sym, subst, ap, ◌∙◌, arith}
use Rattle.std.specs.List.Sorted.{IsPermutation}
use Rattle.alw_msg.specs.declared.events.Entry.{Entry}
use Rattle.alw_msg.specs.Events.{node_of}
use Rattle.alw_image.specs.declared.parts.Parts.{Parts}
use Rattle.alw_image.specs.Parameters.{Parameters}
use Rattle.alw_model.specs.Machine.{MachineState, machine_start, stamp_at, is_enabled, step, IsNext, AreLegal, IsLegal}
use Rattle.alw_model.specs.Runs.{Moment, moment_of, moments_from, moments}
use Rattle.alw_model.specs.Threads.{is_before, placed, in_order}
use Rattle.law_lines.proofs.Steps.{enabled_is}
use Rattle.law_order.proofs.Aimed.{sends_below, step_aimed}
use Rattle.law_order.proofs.Clocks.{nodes_rise}
use Rattle.law_order.proofs.Keys.{stamps_le}
use Rattle.law_order.proofs.Local.{has_front}
use Rattle.law_order.proofs.Sorting.{swap_legal, sorted_legal}
use Rattle.law_order.proofs.Swaps.{enabled_before, swapped}
use Rattle.alw_times.specs.declared.costs.Costs.{Costs}
use Rattle.alw_times.specs.Happening.{happened_of}
use Rattle.alw_times.specs.Times.{Times, times_start, timed, cost_of}
use Rattle.alw_waits.specs.declared.waits.Waited.{Waited}
use Rattle.alw_waits.specs.Waits.{WaitsSoFar, waits_start, waited_in, waited, waited_all, waits_of}
use Rattle.law_times.proofs.Apart.{start_kept, arrival_kept}
use Rattle.law_times.proofs.Counted.{has_time, runs_within, did_within}
use Rattle.law_times.proofs.Orders.{AreTimesOf, start_are, timed_at, step_are, moment_before, moment_behind, swapped_times, one_order}
use Rattle.law_times.proofs.Shown.{Shown, shown, tells, waited_shown, shown_by, shown_apart}

module _ (parts : Parts) (parameters : Parameters) (costs : Costs) where
  -- two neighbours of different nodes, of which the later one may come first
  pub record MaySwap (times : Times) (s : MachineState) (e f : Entry) : Type 0 where
    pub are : AreTimesOf parts parameters costs times s
    pub first : IsTrue (is_enabled parts parameters s e.event)
    pub second : IsTrue (is_enabled parts parameters (step parts parameters s e.event) f.event)
    pub apart : node_of f.event ≢ node_of e.event
    pub low : stamp_at parts (step parts parameters s e.event) f.event ≤ stamp_at parts s e.event

  -- what is told once an entry has happened
  abbrev pub told_at : Times → MachineState → WaitsSoFar → Entry → WaitsSoFar
  told_at times s waits entry = waited parts costs times waits (moment_of parts parameters s entry)

  -- and another one
  abbrev pub two_told : Times → MachineState → WaitsSoFar → Entry → Entry → WaitsSoFar
  two_told times s waits e f = told_at (timed_at parts parameters costs times s e) (step parts parameters s e.event) (told_at times s waits e) f

  -- ---- a relation

  -- it is kept by events, and by neighbours that change places
  pub record IsKept (R : WaitsSoFar → WaitsSoFar → Type 0) (Keeps : MachineState → Type 0) : Type 0 where
    pub itself : (waits : WaitsSoFar) → R waits waits
    pub join : (one two three : WaitsSoFar) → R one two → R two three → R one three
    pub keeps : (s : MachineState) (entry : Entry) → IsNext parts parameters s entry → Keeps s → Keeps (step parts parameters s entry.event)
    pub goes_on : (times : Times) (s : MachineState) (entry : Entry) (one other : WaitsSoFar) → R one other → R (told_at times s one entry) (told_at times s other entry)
    pub swaps : (times : Times) (s : MachineState) (e f : Entry) (waits : WaitsSoFar) → Keeps s → MaySwap times s e f → R (two_told times s waits f e) (two_told times s waits e f)

  module _ (R : WaitsSoFar → WaitsSoFar → Type 0) (Keeps : MachineState → Type 0) (kept : IsKept R Keeps) where
    abbrev run_told : Times → MachineState → WaitsSoFar → List Entry → WaitsSoFar
    run_told times s waits journal = waited_all parts costs times waits (moments_from parts parameters s journal)

    run_goes_on : (times : Times) (s : MachineState) (journal : List Entry) (one other : WaitsSoFar) → R one other → R (run_told times s one journal) (run_told times s other journal)
    run_goes_on times s [] one other is = is
    run_goes_on times s (entry ∷ rest) one other is =
        run_goes_on (timed_at parts parameters costs times s entry) (step parts parameters s entry.event) rest (told_at times s one entry) (told_at times s other entry)
        (kept.goes_on times s entry one other is)

    swap_told : (times : Times) (s : MachineState) (e f : Entry) (rest : List Entry) (waits : WaitsSoFar) → AreTimesOf parts parameters costs times s → Keeps s →
        AreLegal parts parameters s (e ∷ f ∷ rest) → f.stamp ≤ e.stamp → R (run_told times s waits (f ∷ e ∷ rest)) (run_told times s waits (e ∷ f ∷ rest))
    swap_told times s e f rest waits are stands (first, (second, legal)) le =
        let next = step parts parameters s e.event in
        let other = step parts parameters s f.event in
        let apart : node_of f.event ≢ node_of e.event = λ same. absurd (let rise = (nodes_rise parts parameters s (e ∷ f ∷ []) are.aimed (first, (second, tt))).0.0 same in omega arith) in
        let low : stamp_at parts next f.event ≤ stamp_at parts s e.event = omega (arith, first.stamp, second.stamp, le) in
        let may : MaySwap times s e f = record { are = are; first = first.enabled; second = second.enabled; apart = apart; low = low } in
        let before = enabled_before parts parameters s e.event f.event first.enabled second.enabled apart low in
        let w = swapped parts parameters s e.event f.event first.enabled second.enabled apart low
        (sends_below parts parameters s e.event first.enabled are.aimed) (sends_below parts parameters s f.event before are.aimed) in
        let same = swapped_times parts parameters costs times s e f are first.enabled second.enabled apart low in
        let back = run_goes_on (timed_at parts parameters costs (timed_at parts parameters costs times s f) other e) (step parts parameters other e.event) rest
        (two_told times s waits f e) (two_told times s waits e f) (kept.swaps times s e f waits stands may) in
        subst (λ (m : MachineState). R (run_told times s waits (f ∷ e ∷ rest)) (run_told (timed_at parts parameters costs (timed_at parts parameters costs times s e) next f) m (two_told times s waits e f) rest)) w.state
        (subst (λ (t : Times). R (run_told times s waits (f ∷ e ∷ rest)) (run_told t (step parts parameters other e.event) (two_told times s waits e f) rest)) same back)

    placed_told : (times : Times) (s : MachineState) (e : Entry) (rest : List Entry) (waits : WaitsSoFar) → AreTimesOf parts parameters costs times s → Keeps s →
        AreLegal parts parameters s (e ∷ rest) → R (run_told times s waits (placed e rest)) (run_told times s waits (e ∷ rest))
    placed_told times s e [] waits are stands legal = kept.itself (run_told times s waits (e ∷ []))
    placed_told times s e (first ∷ rest) waits are stands legal =
        go (is_before first e) refl (placed_told (timed_at parts parameters costs times s first) (step parts parameters s first.event) e rest (told_at times s waits first))
      where
        next : MachineState
        next = step parts parameters s first.event

        then : Times
        then = timed_at parts parameters costs times s first

        go : (b : Bool) → is_before first e ≡ b →
            (AreTimesOf parts parameters costs then next → Keeps next → AreLegal parts parameters next (e ∷ rest) →
            R (run_told then next (told_at times s waits first) (placed e rest)) (run_told then next (told_at times s waits first) (e ∷ rest))) →
            R (run_told times s waits (cond b (first ∷ placed e rest) (e ∷ first ∷ rest))) (run_told times s waits (e ∷ first ∷ rest))
        go false is deep = kept.itself (run_told times s waits (e ∷ first ∷ rest))
        go true is deep =
            let swap = swap_legal parts parameters s e first rest are.aimed legal (stamps_le first e is) in
            kept.join (run_told times s waits (first ∷ placed e rest)) (run_told times s waits (first ∷ e ∷ rest)) (run_told times s waits (e ∷ first ∷ rest))
            (deep (step_are parts parameters costs times s first swap.legal.0.enabled are) (kept.keeps s first swap.legal.0 stands) swap.legal.1)
            (swap_told times s e first rest waits are stands legal (stamps_le first e is))

    sorted_told : (times : Times) (s : MachineState) (journal : List Entry) (waits : WaitsSoFar) → AreTimesOf parts parameters costs times s → Keeps s → AreLegal parts parameters s journal →
        R (run_told times s waits (in_order journal)) (run_told times s waits journal)
    sorted_told times s [] waits are stands legal = kept.itself waits
    sorted_told times s (entry ∷ rest) waits are stands (next, legal) =
        let later = step parts parameters s entry.event in
        let sorted = sorted_legal parts parameters later rest (step_aimed parts parameters s entry.event next.enabled are.aimed) legal in
        kept.join (run_told times s waits (placed entry (in_order rest))) (run_told times s waits (entry ∷ in_order rest)) (run_told times s waits (entry ∷ rest))
        (placed_told times s entry (in_order rest) waits are stands (next, sorted.legal))
        (sorted_told (timed_at parts parameters costs times s entry) later rest (told_at times s waits entry) (step_are parts parameters costs times s entry next.enabled are)
        (kept.keeps s entry next stands) legal)

    in_order_told : Keeps (machine_start parts) → (journal : List Entry) → IsLegal parts parameters journal →
        R (waits_of parts parameters costs (in_order journal)) (waits_of parts parameters costs journal)
    unfolding waits_of moments
    in_order_told stands journal legal =
        sorted_told (times_start parts costs) (machine_start parts) journal (waits_start parts) (start_are parts parameters costs) stands legal

    -- what is told of two legal journals of the same entries has the relation
    pub same_told : ((one other : WaitsSoFar) → R one other → R other one) → Keeps (machine_start parts) → (one other : List Entry) → IsLegal parts parameters one → IsLegal parts parameters other →
        IsPermutation one other → R (waits_of parts parameters costs one) (waits_of parts parameters costs other)
    same_told back stands one other legal also same =
        let tell = waits_of parts parameters costs in
        kept.join (tell one) (tell (in_order one)) (tell other) (back (tell (in_order one)) (tell one) (in_order_told stands one legal))
        (subst (λ (journal : List Entry). R (tell journal) (tell other)) (sym (one_order parts parameters costs one other legal also same)) (in_order_told stands other also))

  -- ---- what is told but for misses

  module _ (times : Times) (s : MachineState) (e f : Entry) (may : MaySwap times s e f) where
    abbrev one : Moment
    one = moment_of parts parameters s e

    abbrev other : Moment
    other = moment_of parts parameters s f

    -- what is told of each doesn't depend on the one before it
    pub second_told : waited_in parts costs (timed parts costs times one) other ≡ waited_in parts costs times other
    unfolding timed
    second_told =
        let l = (enabled_is parts parameters s e.event may.first).here in
        let is = enabled_before parts parameters s e.event f.event may.first may.second may.apart may.low in
        let m = (enabled_is parts parameters s f.event is).here in
        let has = has_time parts parameters times.arrivals s.links f.event may.are.arrivals (has_front parts parameters s f.event is) in
        let start = start_kept parts costs (happened_of one) (happened_of other) one.stepped.sends times l m may.apart (runs_within parts s (node_of f.event) may.are.slots) has in
        let arrival = arrival_kept parts costs (happened_of one) (happened_of other) one.stepped.sends times l m may.apart has in
        λ x. record {
          asked = (waited_in parts costs times other).asked;
          taken = other.taken;
          arrival = arrival x;
          span = record { start = start x; finish = start x + cost_of costs (happened_of other) other.stepped.sends };
        }

    pub first_told : waited_in parts costs (timed parts costs times other) one ≡ waited_in parts costs times one
    unfolding timed
    first_told =
        let l = (enabled_is parts parameters s e.event may.first).here in
        let is = enabled_before parts parameters s e.event f.event may.first may.second may.apart may.low in
        let m = (enabled_is parts parameters s f.event is).here in
        let back : node_of e.event ≢ node_of f.event = λ same. may.apart (sym same) in
        let has = has_time parts parameters times.arrivals s.links e.event may.are.arrivals (has_front parts parameters s e.event may.first) in
        let start = start_kept parts costs (happened_of other) (happened_of one) other.stepped.sends times m l back (runs_within parts s (node_of e.event) may.are.slots) has in
        let arrival = arrival_kept parts costs (happened_of other) (happened_of one) other.stepped.sends times m l back has in
        λ x. record {
          asked = (waited_in parts costs times one).asked;
          taken = one.taken;
          arrival = arrival x;
          span = record { start = start x; finish = start x + cost_of costs (happened_of one) one.stepped.sends };
        }

    abbrev tells_as : Moment → Waited → Shown → Shown
    tells_as moment told shows = shown_by parts costs moment.entry.event moment.stepped.did told (told.span.finish - told.span.start) shows

    two_shown : (waits : WaitsSoFar) → shown (two_told times s waits e f) ≡ tells_as other (waited_in parts costs times other) (tells_as one (waited_in parts costs times one) (shown waits))
    two_shown waits =
        let then = timed parts costs times one in
        ap (λ (m : Moment). shown (waited parts costs then (told_at times s waits e) m)) (moment_before parts parameters costs times s e f may.are may.first may.second may.apart may.low)
        ∙ (waited_shown parts parameters costs then (told_at times s waits e) other
        ∙ (ap (λ (told : Waited). tells_as other told (shown (told_at times s waits e))) second_told
        ∙ ap (tells_as other (waited_in parts costs times other)) (waited_shown parts parameters costs times waits one)))

    back_shown : (waits : WaitsSoFar) → shown (two_told times s waits f e) ≡ tells_as one (waited_in parts costs times one) (tells_as other (waited_in parts costs times other) (shown waits))
    back_shown waits =
        let then = timed parts costs times other in
        ap (λ (m : Moment). shown (waited parts costs then (told_at times s waits f) m)) (moment_behind parts parameters costs times s e f may.are may.first may.second may.apart may.low)
        ∙ (waited_shown parts parameters costs then (told_at times s waits f) one
        ∙ (ap (λ (told : Waited). tells_as one told (shown (told_at times s waits f))) first_told
        ∙ ap (tells_as one (waited_in parts costs times one)) (waited_shown parts parameters costs times waits other)))

    swaps_shown : (waits : WaitsSoFar) → shown (two_told times s waits f e) ≡ shown (two_told times s waits e f)
    swaps_shown waits =
        let told = waited_in parts costs times one in
        let tale = waited_in parts costs times other in
        back_shown waits
        ∙ (sym (shown_apart parts costs e.event f.event one.stepped.did other.stepped.did told tale (told.span.finish - told.span.start) (tale.span.finish - tale.span.start) (shown waits) may.apart
        (did_within parts parameters s e.event may.are.slots) (did_within parts parameters s f.event may.are.slots))
        ∙ sym (two_shown waits))

  shown_kept : IsKept (λ one other. shown one ≡ shown other) (λ s. Unit {0})
  shown_kept = record {
    itself = λ waits. refl;
    join = λ one two three r t. r ∙ t;
    keeps = λ s entry next stands. tt;
    goes_on = λ times s entry one other is.
        let moment = moment_of parts parameters s entry in
        waited_shown parts parameters costs times one moment ∙ (ap (tells parts parameters costs times moment) is ∙ sym (waited_shown parts parameters costs times other moment));
    swaps = λ times s e f waits stands may. swaps_shown times s e f may waits;
  }

  -- accesses, deliveries, and what nodes spent
  pub same_shown : (one other : List Entry) → IsLegal parts parameters one → IsLegal parts parameters other → IsPermutation one other →
      shown (waits_of parts parameters costs one) ≡ shown (waits_of parts parameters costs other)
  same_shown one other legal also same = same_told (λ u v. shown u ≡ shown v) (λ s. Unit {0}) shown_kept (λ u v is. sym is) tt one other legal also same
