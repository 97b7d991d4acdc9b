-- What an event does, which journals are legal, how a run ends and what is told of it are the same however often evictions are tried.
use Rattle.std.proofs.Common.{◌≡◌, ℕ, ◌-◌, ◌<◌, ◌≤◌, ◌^◌, ◌==◌, ◌&&◌, Bool, IsTrue, cond, nat_lt, None, Some, List, [], ◌∷◌, map, refl, sym, ap, subst, ◌∙◌, arith}
use Rattle.std.specs.Prelude.{Option, find}
use Rattle.std.specs.List.{list_any, flat_map, AllByRecursion}
use Rattle.std.proofs.lemmas.Bool.{ltb-true}
use Rattle.alw_num.specs.Maps.{passes}
use Rattle.alw_msg.specs.declared.messages.Msg.{Msg}
use Rattle.alw_msg.specs.declared.events.Event.{Event}
use Rattle.alw_msg.specs.declared.events.Event.TheVariants.{Instr, Handle, Deliver, Evict}
use Rattle.alw_msg.specs.declared.events.Entry.{Entry}
use Rattle.alw_msg.specs.Contents.{Content, ForMemory, ForCache, content}
use Rattle.alw_msg.specs.Events.{node_of}
use Rattle.alw_msg.specs.Lists.{front}
use Rattle.alw_msg.specs.Stretches.{stretches}
use Rattle.alw_image.specs.declared.parts.Parts.{Parts}
use Rattle.alw_image.specs.Images.{node_count, line_count, sizes_of}
use Rattle.alw_image.specs.Parameters.{Parameters}
use Rattle.alw_model.specs.declared.ends.Ended.{Ended}
use Rattle.alw_model.specs.declared.ends.Ended.TheVariants as ended
use Rattle.alw_model.specs.Messages.{is_fit}
use Rattle.alw_model.specs.NodeStates.{NodeState, stamp_of, may_reach, may_deliver, may}
use Rattle.alw_model.specs.NodeSteps.{deliver_by, deliver, event_at, clocked, Stepped}
use Rattle.alw_model.specs.Machine.{MachineState, machine_start, node_at, link_at, taken_by, stamp_at, is_enabled, is_within_limit, stepped_by, after_step, step, after, state, IsNext, AreLegal, IsLegal, main_events, any_trapped, has_halted, is_settled, goes_on, end_of}
use Rattle.alw_model.specs.Machine as machine
use Rattle.alw_model.specs.Runs.{Moment, moment_of, number_of, moments_from, moments, turn_in, turns_of, prints_of}
use Rattle.alw_model.specs.Flat.{print_of}
use Rattle.alw_model.specs.Counts.{counts_of, memory_words, directory_lines}
use Rattle.alw_model.specs.Ends.{IsEnd, first_trap}
use Rattle.alw_model.proofs.Journals.{and_parts}
use Rattle.alw_report.specs.declared.values.Report.{Report}
use Rattle.alw_report.specs.Reports.{report_text, summary_text, head_text, sizes_line, params_line, lists_text, told_of, report_of}
use Rattle.alw_trace.specs.Readings.{IsOfMachine, EntryIsStamped}

-- the same parameters, where none is tried
abbrev pub calm : Parameters → Parameters
calm p = record { pointers = p.pointers; sets = p.sets; limit = p.limit; evict = 0 }

module _ (parts : Parts) (p : Parameters) where
  -- ---- an event

  deliver_by_same : (number stamp : ℕ) (node : NodeState) (msg : Msg) (said : Content) →
      deliver_by parts (calm p) number stamp node msg said ≡ deliver_by parts p number stamp node msg said
  deliver_by_same number stamp node msg (ForMemory said) = refl
  deliver_by_same number stamp node msg (ForCache said) = refl

  deliver_same : (number stamp : ℕ) (node : NodeState) (taken : Option Msg) →
      deliver parts (calm p) number stamp node taken ≡ deliver parts p number stamp node taken
  deliver_same number stamp node None = refl
  deliver_same number stamp node (Some msg) = deliver_by_same number stamp node msg (content msg)

  event_same : (number stamp : ℕ) (node : NodeState) (event : Event) (taken : Option Msg) →
      event_at parts (calm p) number stamp node event taken ≡ event_at parts p number stamp node event taken
  event_same number stamp node (Instr at) taken = refl
  event_same number stamp node (Handle at) taken = refl
  event_same number stamp node (Deliver from to) taken = deliver_same number stamp node taken
  event_same number stamp node (Evict at set) taken = refl

  reach_same : (node : NodeState) (line : ℕ) (said : Content) → may_reach parts (calm p) node line said ≡ may_reach parts p node line said
  reach_same node line (ForMemory said) = refl
  reach_same node line (ForCache said) = refl

  passes_same : (from to : ℕ) (node : NodeState) (head : Option Msg) →
      passes (may_deliver parts (calm p) from to node) head ≡ passes (may_deliver parts p from to node) head
  passes_same from to node None = refl
  passes_same from to node (Some msg) = ap (λ b. is_fit parts from to msg && b) (reach_same node msg.line.0 (content msg))

  may_same : (node : NodeState) (event : Event) (head : Option Msg) → may parts (calm p) node event head ≡ may parts p node event head
  may_same node (Instr at) head = refl
  may_same node (Handle at) head = refl
  may_same node (Deliver from to) head = ap (λ b. nat_lt from.0 (node_count parts) && b) (passes_same from.0 to.0 node head)
  may_same node (Evict at set) head = refl

  enabled_same : (m : MachineState) (event : Event) → is_enabled parts (calm p) m event ≡ is_enabled parts p m event
  enabled_same m event =
      let n = node_of event in
      ap (λ b. n == n && (nat_lt n (node_count parts) && (nat_lt (node_at m n).clock (2 ^ 32 - 1) && b))) (may_same (node_at m n) event (taken_by parts m event))

  stepped_same : (m : MachineState) (event : Event) → stepped_by parts (calm p) m event ≡ stepped_by parts p m event
  stepped_same m event =
      let n = node_of event in
      let stamp = stamp_of (node_at m n).clock (taken_by parts m event) in
      ap (clocked stamp) (event_same n stamp (node_at m n) event (taken_by parts m event))

  step_same : (m : MachineState) (event : Event) → step parts (calm p) m event ≡ step parts p m event
  step_same m event = ap (after_step parts m event) (stepped_same m event)

  -- ---- a journal

  after_same : (m : MachineState) (journal : List Entry) → after parts (calm p) m journal ≡ after parts p m journal
  after_same m [] = refl
  after_same m (entry ∷ rest) = ap (λ (s : MachineState). after parts (calm p) s rest) (step_same m entry.event) ∙ after_same (step parts p m entry.event) rest

  pub state_same : (journal : List Entry) → state parts (calm p) journal ≡ state parts p journal
  unfolding state
  state_same journal = after_same (machine_start parts) journal

  are_legal_same : (m : MachineState) (journal : List Entry) → AreLegal parts p m journal → AreLegal parts (calm p) m journal
  are_legal_same m [] legal = tt
  are_legal_same m (entry ∷ rest) (next, legal) = (
    record { enabled = subst IsTrue (sym (enabled_same m entry.event)) next.enabled; within = next.within; stamp = next.stamp },
    subst (λ (s : MachineState). AreLegal parts (calm p) s rest) (sym (step_same m entry.event)) (are_legal_same (step parts p m entry.event) rest legal),
  )

  are_legal_back : (m : MachineState) (journal : List Entry) → AreLegal parts (calm p) m journal → AreLegal parts p m journal
  are_legal_back m [] legal = tt
  are_legal_back m (entry ∷ rest) (next, legal) = (
    record { enabled = subst IsTrue (enabled_same m entry.event) next.enabled; within = next.within; stamp = next.stamp },
    are_legal_back (step parts p m entry.event) rest (subst (λ (s : MachineState). AreLegal parts (calm p) s rest) (step_same m entry.event) legal),
  )

  pub legal_back : (journal : List Entry) → IsLegal parts (calm p) journal → IsLegal parts p journal
  legal_back journal legal = are_legal_back (machine_start parts) journal legal

  pub legal_same : (journal : List Entry) → IsLegal parts p journal → IsLegal parts (calm p) journal
  legal_same journal legal = are_legal_same (machine_start parts) journal legal

  moments_from_same : (m : MachineState) (journal : List Entry) → moments_from parts (calm p) m journal ≡ moments_from parts p m journal
  moments_from_same m [] = refl
  moments_from_same m (entry ∷ rest) =
      ap (λ (stepped : Stepped). record { entry = entry; before = node_at m (node_of entry.event); taken = taken_by parts m entry.event; stepped = stepped }
      ∷ moments_from parts (calm p) (after_step parts m entry.event stepped) rest) (stepped_same m entry.event)
      ∙ ap (λ (run : List Moment). moment_of parts p m entry ∷ run) (moments_from_same (step parts p m entry.event) rest)

  pub moments_same : (journal : List Entry) → moments parts (calm p) journal ≡ moments parts p journal
  unfolding moments
  moments_same journal = moments_from_same (machine_start parts) journal

  -- ---- its end

  goes_on_same : (m : MachineState) → goes_on parts (calm p) m ≡ goes_on parts p m
  goes_on_same m = ap (λ (test : Event → Bool). list_any test (main_events parts)) (λ i. λ event. enabled_same m event i && is_within_limit parts p m event)

  end_same : (m : MachineState) → end_of parts (calm p) m ≡ end_of parts p m
  end_same m =
      ap (λ (b : Bool). cond (any_trapped m) (Some machine.Trapped) (cond (has_halted m && is_settled m) (Some machine.Halted) (cond b None (Some machine.Limit))))
      (goes_on_same m)

  pub end_after_same : (journal : List Entry) → end_of parts (calm p) (state parts (calm p) journal) ≡ end_of parts p (state parts p journal)
  end_after_same journal = ap (end_of parts (calm p)) (state_same journal) ∙ end_same (state parts p journal)

  first_same : (journal : List Entry) →
      find (λ e. is_enabled parts (calm p) (state parts (calm p) journal) e) (main_events parts) ≡ find (λ e. is_enabled parts p (state parts p journal) e) (main_events parts)
  first_same journal =
      ap (λ (m : MachineState). find (λ e. is_enabled parts (calm p) m e) (main_events parts)) (state_same journal)
      ∙ ap (λ (test : Event → Bool). find test (main_events parts)) (λ i. λ e. enabled_same (state parts p journal) e i)

  pub ends_so : (journal : List Entry) (e : Ended) → IsEnd parts (calm p) journal e → IsEnd parts p journal e
  ends_so journal ended.Halted is = sym (end_after_same journal) ∙ is
  ends_so journal (ended.Trapped at) is = (sym (end_after_same journal) ∙ is.0, sym (ap (first_trap 0) (moments_same journal)) ∙ is.1)
  ends_so journal (ended.Limit event) is = (sym (end_after_same journal) ∙ is.0, sym (first_same journal) ∙ is.1)

  -- a journal has one end
  pub one_end : (journal : List Entry) (one other : Ended) → IsEnd parts p journal one → IsEnd parts p journal other → one ≡ other
  one_end journal ended.Halted ended.Halted is are = refl
  one_end journal ended.Halted (ended.Trapped at) is are = absurd (let e : Some machine.Halted ≡ Some machine.Trapped = sym is ∙ are.0 in cc)
  one_end journal ended.Halted (ended.Limit event) is are = absurd (let e : Some machine.Halted ≡ Some machine.Limit = sym is ∙ are.0 in cc)
  one_end journal (ended.Trapped at) ended.Halted is are = absurd (let e : Some machine.Trapped ≡ Some machine.Halted = sym is.0 ∙ are in cc)
  one_end journal (ended.Trapped at) (ended.Trapped place) is are = let e : Some at ≡ Some place = sym is.1 ∙ are.1 in cc
  one_end journal (ended.Trapped at) (ended.Limit event) is are = absurd (let e : Some machine.Trapped ≡ Some machine.Limit = sym is.0 ∙ are.0 in cc)
  one_end journal (ended.Limit event) ended.Halted is are = absurd (let e : Some machine.Limit ≡ Some machine.Halted = sym is.0 ∙ are in cc)
  one_end journal (ended.Limit event) (ended.Trapped at) is are = absurd (let e : Some machine.Limit ≡ Some machine.Trapped = sym is.0 ∙ are.0 in cc)
  one_end journal (ended.Limit event) (ended.Limit first) is are = let e : Some event ≡ Some first = sym is.1 ∙ are.1 in cc

  -- an end holds where one is named
  pub some_end : (journal : List Entry) (e : Ended) → IsEnd parts p journal e → end_of parts p (state parts p journal) ≡ None → ⊥
  some_end journal ended.Halted is none = absurd (let e : Some machine.Halted ≡ None = sym is ∙ none in cc)
  some_end journal (ended.Trapped at) is none = absurd (let e : Some machine.Trapped ≡ None = sym is.0 ∙ none in cc)
  some_end journal (ended.Limit event) is none = absurd (let e : Some machine.Limit ≡ None = sym is.0 ∙ none in cc)

  -- ---- what is told of it

  turns_same : (journal : List Entry) → turns_of parts (calm p) journal ≡ turns_of parts p journal
  turns_same journal = λ i. map (λ turn. turn.0) (flat_map (λ moment. turn_in parts (number_of moment) moment.stepped.did) (moments_same journal i))

  prints_same : (journal : List Entry) → prints_of parts (calm p) journal ≡ prints_of parts p journal
  prints_same journal = λ i.
      flat_map (λ turn. print_of turn.0 turn.1) (flat_map (λ moment. turn_in parts (number_of moment) moment.stepped.did) (moments_same journal i))

  told_same : (journal : List Entry) (e : Ended) →
      told_of parts (calm p) journal e ≡ record (told_of parts p journal e) { params = calm p }
  told_same journal e = λ i. record {
    sizes = sizes_of parts;
    params = calm p;
    ended = e;
    counts = counts_of parts (moments_same journal i);
    runs = stretches (turns_same journal i);
    prints = prints_same journal i;
    memory = memory_words parts p (state_same journal i);
    directory = directory_lines parts (state_same journal i);
  }

  told_calm : (r : Report) → report_text (record r { params = calm r.params }) ≡ report_text r
  unfolding report_text summary_text head_text sizes_line params_line lists_text
  told_calm r = refl

  pub report_same : (journal : List Entry) (e : Ended) → report_of parts (calm p) journal e ≡ report_of parts p journal e
  report_same journal e = ap report_text (told_same journal e) ∙ told_calm (told_of parts p journal e)

  -- ---- its numbers

  of_machine : (node : NodeState) (event : Event) (head : Option Msg) → node_of event < node_count parts → IsTrue (may parts p node event head) →
      IsOfMachine (node_count parts) p.sets event
  of_machine node (Instr at) head here is = here
  of_machine node (Handle at) head here is = here
  of_machine node (Deliver from to) head here is = (ltb-true from.0 (node_count parts) (and_parts (nat_lt from.0 (node_count parts)) _ is).0, here)
  of_machine node (Evict at set) head here is = (here, ltb-true set p.sets (and_parts (nat_lt set p.sets) _ is).0)

  some_stamp : (clock : ℕ) (taken : Option Msg) → 1 ≤ stamp_of clock taken
  some_stamp clock None = omega arith
  some_stamp clock (Some msg) = omega arith

  delivered_stamp : (from to : ℕ) (node : NodeState) (head : Option Msg) → node.clock < 2 ^ 32 - 1 → IsTrue (passes (may_deliver parts p from to node) head) →
      stamp_of node.clock head < 2 ^ 32
  delivered_stamp from to node None low is = omega (arith, low)
  delivered_stamp from to node (Some msg) low is =
      let fit = (and_parts (is_fit parts from to msg) _ is).0 in
      let line = (and_parts (msg.src.0 == from) _ fit).1 in
      let stamp = (and_parts (nat_lt msg.line.0 (line_count parts)) _ line).1 in
      let few = ltb-true msg.stamp (2 ^ 32 - 1) (and_parts (nat_lt msg.stamp (2 ^ 32 - 1)) _ stamp).0 in
      omega (arith, low, few)

  short_stamp : (m : MachineState) (event : Event) → (node_at m (node_of event)).clock < 2 ^ 32 - 1 →
      IsTrue (may parts p (node_at m (node_of event)) event (taken_by parts m event)) → stamp_at parts m event < 2 ^ 32
  short_stamp m (Instr at) low is = omega (arith, low)
  short_stamp m (Handle at) low is = omega (arith, low)
  short_stamp m (Deliver from to) low is =
      delivered_stamp from.0 to.0 (node_at m to.0) (front (link_at parts m from.0 to.0)) low (and_parts (nat_lt from.0 (node_count parts)) _ is).1
  short_stamp m (Evict at set) low is = omega (arith, low)

  entry_stamped : (m : MachineState) (entry : Entry) → IsNext parts p m entry → EntryIsStamped (node_count parts) p.sets entry
  entry_stamped m entry next =
      let n = node_of entry.event in
      let a = and_parts (n == n) _ next.enabled in
      let b = and_parts (nat_lt n (node_count parts)) _ a.1 in
      let c = and_parts (nat_lt (node_at m n).clock (2 ^ 32 - 1)) _ b.1 in
      let here = ltb-true n (node_count parts) b.0 in
      let low = ltb-true (node_at m n).clock (2 ^ 32 - 1) c.0 in (
        rw next.stamp (some_stamp (node_at m n).clock (taken_by parts m entry.event)),
        (
          rw next.stamp (short_stamp m entry.event low c.1),
          of_machine (node_at m n) entry.event (taken_by parts m entry.event) here c.1,
        ),
      )

  are_stamped : (m : MachineState) (journal : List Entry) → AreLegal parts p m journal → AllByRecursion (EntryIsStamped (node_count parts) p.sets) journal
  are_stamped m [] legal = tt
  are_stamped m (entry ∷ rest) (next, legal) = (entry_stamped m entry next, are_stamped (step parts p m entry.event) rest legal)

  -- the entries of a legal journal have stamps of 32 bits, and are of the machine
  pub stamped : (journal : List Entry) → IsLegal parts p journal → AllByRecursion (EntryIsStamped (node_count parts) p.sets) journal
  stamped journal legal = are_stamped (machine_start parts) journal legal
