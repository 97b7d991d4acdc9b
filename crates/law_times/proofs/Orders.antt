-- Two legal journals of the same entries have the same times: neighbours change places, as they are sorted.
use Rattle.std.proofs.Common.{◌≡◌, ◌≢◌, ◌≤◌, Bool, true, false, cond, List, [], ◌∷◌, IsTrue, refl, sym, ap, ◌∙◌, arith}
use Rattle.std.specs.List.{AllByRecursion}
use Rattle.std.specs.List.Sorted.{IsPermutation}
use Rattle.std.proofs.lemmas.List.Sorted.{IsPermutation-trans}
use Rattle.alw_msg.specs.declared.events.Entry.{Entry}
use Rattle.alw_msg.specs.Events.{node_of}
use Rattle.alw_image.specs.declared.parts.Parts.{Parts}
use Rattle.alw_image.specs.Parameters.{Parameters}
use Rattle.alw_model.specs.Machine.{MachineState, machine_start, stamp_at, is_enabled, stepped_by, step, AreLegal, IsLegal}
use Rattle.alw_model.specs.Runs.{moment_of, moments_from, moments}
use Rattle.alw_model.specs.Threads.{is_before, placed, in_order}
use Rattle.law_lines.proofs.Steps.{enabled_is}
use Rattle.law_order.specs.Orders.{SeesAlike}
use Rattle.law_order.specs.Aims.{IsAimed}
use Rattle.law_order.proofs.Aimed.{start_aimed, sends_below, step_aimed}
use Rattle.law_order.proofs.Clocks.{nodes_rise}
use Rattle.law_order.proofs.Keys.{stamps_le}
use Rattle.law_order.proofs.Local.{has_front, stepped_alike, node_kept, taken_kept}
use Rattle.law_order.proofs.Orders.{sorted_same}
use Rattle.law_order.proofs.Reached.{in_order_ascends}
use Rattle.law_order.proofs.Sorting.{swap_legal, sorted_legal}
use Rattle.law_order.proofs.Swaps.{sees_before, enabled_before, swapped}
use Rattle.law_order.proofs.Unique.{count_alike, one_list}
use Rattle.alw_times.specs.declared.costs.Costs.{Costs}
use Rattle.alw_times.specs.Happening.{happened_of}
use Rattle.alw_times.specs.Times.{Times, times_start, timed, timed_all, times_of}
use Rattle.law_times.proofs.Beside.{Beside}
use Rattle.law_times.proofs.Apart.{passed_apart}
use Rattle.law_times.proofs.Counted.{AreAsMany, step_many, start_many, has_time, SlotsFit, start_fits, step_fits, runs_within}

module _ (parts : Parts) (parameters : Parameters) (costs : Costs) where
  -- what times and a machine keep along a legal journal
  pub record AreTimesOf (times : Times) (s : MachineState) : Type 0 where
    pub aimed : IsAimed parts s
    pub arrivals : Beside AreAsMany times.arrivals s.links
    pub slots : AllByRecursion (SlotsFit parts) s.nodes

  pub start_are : AreTimesOf (times_start parts costs) (machine_start parts)
  start_are = record { aimed = start_aimed parts parameters; arrivals = start_many parts costs; slots = start_fits parts }

  -- the times once an entry has happened
  abbrev pub timed_at : Times → MachineState → Entry → Times
  timed_at times s entry = timed parts costs times (moment_of parts parameters s entry)

  -- an event keeps it
  pub step_are : (times : Times) (s : MachineState) (entry : Entry) → IsTrue (is_enabled parts parameters s entry.event) → AreTimesOf times s → AreTimesOf (timed_at times s entry) (step parts parameters s entry.event)
  step_are times s entry enabled are = record {
    aimed = step_aimed parts parameters s entry.event enabled are.aimed;
    arrivals = step_many parts parameters costs times s entry are.arrivals;
    slots = step_fits parts parameters s entry.event are.slots;
  }

  -- an event that sees the same is the same moment
  pub moment_alike : (one other : MachineState) (entry : Entry) → SeesAlike parts entry.event one other → moment_of parts parameters one entry ≡ moment_of parts parameters other entry
  moment_alike one other entry alike = λ x. record {
    entry = entry;
    before = alike.node x;
    taken = alike.taken x;
    stepped = stepped_alike parts parameters one other entry.event alike x;
  }

  module _ (times : Times) (s : MachineState) (e f : Entry) (are : AreTimesOf times s) (first : IsTrue (is_enabled parts parameters s e.event))
      (second : IsTrue (is_enabled parts parameters (step parts parameters s e.event) f.event)) (apart : node_of f.event ≢ node_of e.event)
      (low : stamp_at parts (step parts parameters s e.event) f.event ≤ stamp_at parts s e.event) where
    -- the later one may come first
    abbrev pub enabled : IsTrue (is_enabled parts parameters s f.event)
    enabled = enabled_before parts parameters s e.event f.event first second apart low

    -- the earlier one sees the same behind the later one
    pub sees_behind : SeesAlike parts e.event (step parts parameters s f.event) s
    sees_behind =
        let l = (enabled_is parts parameters s e.event first).here in
        let m = (enabled_is parts parameters s f.event enabled).here in
        let back : node_of e.event ≢ node_of f.event = λ same. apart (sym same) in
        let w = stepped_by parts parameters s f.event in
        record {
          node = node_kept parts parameters s f.event w (node_of e.event) back;
          taken = taken_kept parts parameters s f.event e.event w m l back (has_front parts parameters s e.event first);
        }

    pub moment_before : moment_of parts parameters (step parts parameters s e.event) f ≡ moment_of parts parameters s f
    moment_before = moment_alike (step parts parameters s e.event) s f (sees_before parts parameters s e.event f.event first second apart low)

    pub moment_behind : moment_of parts parameters (step parts parameters s f.event) e ≡ moment_of parts parameters s e
    moment_behind = moment_alike (step parts parameters s f.event) s e sees_behind

    both_timed : timed_at (timed_at times s e) s f ≡ timed_at (timed_at times s f) s e
    unfolding timed
    both_timed =
        let one = moment_of parts parameters s e in
        let other = moment_of parts parameters s f in
        passed_apart parts costs (happened_of one) (happened_of other) one.stepped.sends other.stepped.sends times
        (enabled_is parts parameters s e.event first).here (enabled_is parts parameters s f.event enabled).here apart
        (runs_within parts s (node_of e.event) are.slots) (runs_within parts s (node_of f.event) are.slots)
        (sends_below parts parameters s e.event first are.aimed) (sends_below parts parameters s f.event enabled are.aimed)
        (has_time parts parameters times.arrivals s.links e.event are.arrivals (has_front parts parameters s e.event first))
        (has_time parts parameters times.arrivals s.links f.event are.arrivals (has_front parts parameters s f.event enabled))

    -- two neighbours in either order
    pub swapped_times : timed_at (timed_at times s f) (step parts parameters s f.event) e ≡ timed_at (timed_at times s e) (step parts parameters s e.event) f
    swapped_times =
        ap (timed parts costs (timed_at times s f)) moment_behind ∙ (sym both_timed ∙ sym (ap (timed parts costs (timed_at times s e)) moment_before))

  -- the times of a journal from a machine on
  abbrev pub run_times : Times → MachineState → List Entry → Times
  run_times times s journal = timed_all parts costs times (moments_from parts parameters s journal)

  swap_times : (times : Times) (s : MachineState) (e f : Entry) (rest : List Entry) → AreTimesOf times s → AreLegal parts parameters s (e ∷ f ∷ rest) → f.stamp ≤ e.stamp →
      run_times times s (f ∷ e ∷ rest) ≡ run_times times s (e ∷ f ∷ rest)
  swap_times times s e f rest are (first, (second, legal)) le =
      let next = step parts parameters s e.event in
      let apart : node_of f.event ≢ node_of e.event = λ same. absurd (let rise = (nodes_rise parts parameters s (e ∷ f ∷ []) are.aimed (first, (second, tt))).0.0 same in omega arith) in
      let low : stamp_at parts next f.event ≤ stamp_at parts s e.event = omega (arith, first.stamp, second.stamp, le) in
      let enabled = enabled_before parts parameters s e.event f.event first.enabled second.enabled apart low in
      let w = swapped parts parameters s e.event f.event first.enabled second.enabled apart low
      (sends_below parts parameters s e.event first.enabled are.aimed) (sends_below parts parameters s f.event enabled are.aimed) in
      let same = swapped_times times s e f are first.enabled second.enabled apart low in
      λ x. run_times (same x) (w.state x) rest

  placed_times : (times : Times) (s : MachineState) (e : Entry) (rest : List Entry) → AreTimesOf times s → AreLegal parts parameters s (e ∷ rest) →
      run_times times s (placed e rest) ≡ run_times times s (e ∷ rest)
  placed_times times s e [] are legal = refl
  placed_times times s e (first ∷ rest) are legal = go (is_before first e) refl (placed_times (timed_at times s first) (step parts parameters s first.event) e rest)
    where
      next : MachineState
      next = step parts parameters s first.event

      go : (b : Bool) → is_before first e ≡ b →
          (AreTimesOf (timed_at times s first) next → AreLegal parts parameters next (e ∷ rest) → run_times (timed_at times s first) next (placed e rest) ≡ run_times (timed_at times s first) next (e ∷ rest)) →
          run_times times s (cond b (first ∷ placed e rest) (e ∷ first ∷ rest)) ≡ run_times times s (e ∷ first ∷ rest)
      go false is deep = refl
      go true is deep =
          let swap = swap_legal parts parameters s e first rest are.aimed legal (stamps_le first e is) in
          deep (step_are times s first swap.legal.0.enabled are) swap.legal.1 ∙ swap_times times s e first rest are legal (stamps_le first e is)

  sorted_times : (times : Times) (s : MachineState) (journal : List Entry) → AreTimesOf times s → AreLegal parts parameters s journal →
      run_times times s (in_order journal) ≡ run_times times s journal
  sorted_times times s [] are legal = refl
  sorted_times times s (entry ∷ rest) are (next, legal) =
      let sorted = sorted_legal parts parameters (step parts parameters s entry.event) rest (step_aimed parts parameters s entry.event next.enabled are.aimed) legal in
      placed_times times s entry (in_order rest) are (next, sorted.legal)
      ∙ sorted_times (timed_at times s entry) (step parts parameters s entry.event) rest (step_are times s entry next.enabled are) legal

  in_order_times : (journal : List Entry) → IsLegal parts parameters journal → times_of parts parameters costs (in_order journal) ≡ times_of parts parameters costs journal
  unfolding times_of moments
  in_order_times journal legal = sorted_times (times_start parts costs) (machine_start parts) journal start_are legal

  -- two legal journals of the same entries are one list once they are sorted
  pub one_order : (one other : List Entry) → IsLegal parts parameters one → IsLegal parts parameters other → IsPermutation one other → in_order one ≡ in_order other
  one_order one other legal also same =
      let all : IsPermutation one (in_order other) = IsPermutation-trans one other (in_order other) same (sorted_same other) in
      one_list (in_order one) (in_order other) (λ value. sym (count_alike one (in_order one) (sorted_same one) value) ∙ count_alike one (in_order other) all value)
      (in_order_ascends parts parameters one legal) (in_order_ascends parts parameters other also)

  -- two legal journals of the same entries have the same times
  pub same_times : (one other : List Entry) → IsLegal parts parameters one → IsLegal parts parameters other → IsPermutation one other → times_of parts parameters costs one ≡ times_of parts parameters costs other
  same_times one other legal also same =
      sym (in_order_times one legal) ∙ (ap (times_of parts parameters costs) (one_order one other legal also same) ∙ in_order_times other also)
