-- The line of an entry that may be next tells the entry.
use Rattle.std.proofs.Common.{◌≡◌, ℕ, ◌-◌, ◌^◌, ◌<◌, ◌==◌, Bool, false, not, Option, Some, None, List, [], ◌∷◌, ◌++◌, drop, slice_index, nat_lt, codes, IsTrue, refl, sym, ap, ◌∙◌, arith, append_assoc}
use Rattle.std.specs.Prelude.{is_some}
use Rattle.std.specs.Fmt.{decimal}
use Rattle.std.proofs.lemmas.Bool.{false≢true, ltb-true}
use Rattle.std.proofs.lemmas.Bool.Decides.{nat_tests}
use Rattle.alw_num.specs.Maps.{passes, value_at}
use Rattle.alw_msg.specs.declared.messages.Msg.{Msg}
use Rattle.alw_msg.specs.declared.events.Event.{Event}
use Rattle.alw_msg.specs.declared.events.Event.TheVariants.{Instr, Handle, Deliver, Evict}
use Rattle.alw_msg.specs.declared.events.Entry.{Entry}
use Rattle.alw_msg.specs.Events.{node_of}
use Rattle.alw_msg.specs.Lists.{front, is_nonempty}
use Rattle.alw_image.specs.declared.parts.Parts.{Parts}
use Rattle.alw_image.specs.Images.{node_count, line_count, IsImage}
use Rattle.alw_image.specs.Parameters.{Parameters, AreParameters}
use Rattle.alw_model.specs.declared.steps.Did.{Did}
use Rattle.alw_model.specs.Caches.{Copy}
use Rattle.alw_model.specs.Contexts.{is_held, running}
use Rattle.alw_model.specs.Messages.{is_fit}
use Rattle.alw_model.specs.NodeStates.{NodeState, stamp_of, may, may_deliver}
use Rattle.alw_model.specs.NodeSteps.{Stepped}
use Rattle.alw_model.specs.Machine.{MachineState, node_at, link_at, taken_by, stamp_at, stepped_by, step, IsNext}
use Rattle.alw_model.proofs.Journals.{and_parts}
use Rattle.law_lines.proofs.Steps.{enabled_is}
use Rattle.alw_trace.specs.Texts.{event_text}
use Rattle.alw_trace.specs.Lines.{IsNumber, HasNumbers, IsEntry}
use Rattle.alw_trace.proofs.Numbers.{one_number}
use Rattle.alw_trace.proofs.OneTrace.{few_nodes}
use Rattle.alw_trace.proofs.ParamRanges.{sets_within}
use Rattle.alw_turns.specs.Pieces.{slot_text}
use Rattle.alw_turns.specs.Turns.{running_did}
use Rattle.alw_log.specs.Pieces.{sends_text}
use Rattle.alw_log.specs.Events.{delivery_text, handler_text, eviction_text}
use Rattle.alw_log.specs.Entries.{deed_text, line_by, event_line}

-- ---- an entry that may be next has numbers of 64 bits

clock_stamp : (clock : ℕ) → clock < 2 ^ 32 - 1 → IsNumber (stamp_of clock None)
clock_stamp clock low = omega (arith, low)

module _ (parts : Parts) (image : IsImage parts) (parameters : Parameters) (are : AreParameters parameters) (machine : MachineState) where
  head_stamp : (from to : ℕ) (node : NodeState) (head : Option Msg) (clock : ℕ) → clock < 2 ^ 32 - 1 → IsTrue (passes (may_deliver parts parameters from to node) head)
      → IsNumber (stamp_of clock head)
  head_stamp from to node None clock low is = absurd (false≢true is)
  head_stamp from to node (Some msg) clock low is =
      let fit = (and_parts (is_fit parts from to msg) _ is).0 in
      let line = (and_parts (msg.src.0 == from) _ fit).1 in
      let stamp = (and_parts (nat_lt msg.line.0 (line_count parts)) _ line).1 in
      let few = ltb-true msg.stamp (2 ^ 32 - 1) (and_parts (nat_lt msg.stamp (2 ^ 32 - 1)) _ stamp).0 in
      omega (arith, low, few)

  stamp_fits : (event : Event) → (node_at machine (node_of event)).clock < 2 ^ 32 - 1
      → IsTrue (may parts parameters (node_at machine (node_of event)) event (taken_by parts machine event)) → IsNumber (stamp_at parts machine event)
  stamp_fits (Instr at) low is = clock_stamp (node_at machine at.0).clock low
  stamp_fits (Handle at) low is = clock_stamp (node_at machine at.0).clock low
  stamp_fits (Deliver from to) low is =
      head_stamp from.0 to.0 (node_at machine to.0) (front (link_at parts machine from.0 to.0)) (node_at machine to.0).clock low (and_parts _ _ is).1
  stamp_fits (Evict at set) low is = clock_stamp (node_at machine at.0).clock low

  event_fits : (event : Event) → node_of event < node_count parts
      → IsTrue (may parts parameters (node_at machine (node_of event)) event (taken_by parts machine event)) → HasNumbers event
  event_fits (Instr at) here is = omega (arith, here, few_nodes parts image)
  event_fits (Handle at) here is = omega (arith, here, few_nodes parts image)
  event_fits (Deliver from to) here is =
      let first = ltb-true from.0 (node_count parts) (and_parts _ _ is).0 in
      (omega (arith, first, few_nodes parts image), omega (arith, here, few_nodes parts image))
  event_fits (Evict at set) here is =
      let first = ltb-true set parameters.sets (and_parts _ _ is).0 in
      (omega (arith, here, few_nodes parts image), omega (arith, first, sets_within parameters are))

  entry_fits : (entry : Entry) → IsNext parts parameters machine entry → IsEntry entry
  entry_fits entry next =
      let enabled = enabled_is parts parameters machine entry.event next.enabled in
      let low = (and_parts _ _ (and_parts _ _ (and_parts _ _ next.enabled).1).1).0 in
      let clock = ltb-true (node_at machine (node_of entry.event)).clock (2 ^ 32 - 1) low in
      (rw next.stamp (stamp_fits entry.event clock enabled.may_be), event_fits entry.event enabled.here enabled.may_be)

-- ---- what stands behind an event begins with a blank

abbrev Begins : List ℕ → Type 0
Begins text = (rest : List ℕ) × (text ≡ 32 ∷ rest)

module _ (parts : Parts) (parameters : Parameters) (machine after : MachineState) (did : Did) where
  slot_begins : (before next : NodeState) (slot : Option ℕ) → IsTrue (is_some slot) → Begins (running_did parts parameters before next did slot)
  unfolding slot_text
  slot_begins before next None is = absurd (false≢true is)
  slot_begins before next (Some slot) is = (_, refl)

  handler_begins : (packets : List Msg) → IsTrue (is_nonempty packets) → Begins (handler_text parts machine after did (front packets))
  handler_begins [] is = absurd (false≢true is)
  handler_begins (packet ∷ rest) is = (_, refl)

  delivery_begins : (to : ℕ) (test : Msg → Bool) (head : Option Msg) → IsTrue (passes test head) → Begins (delivery_text parts parameters machine after to did head)
  delivery_begins to test None is = absurd (false≢true is)
  delivery_begins to test (Some msg) is = (_, refl)

  eviction_begins : (test : Copy → Bool) (copy : Option Copy) → IsTrue (passes test copy) → Begins (eviction_text copy)
  eviction_begins test None is = absurd (false≢true is)
  eviction_begins test (Some copy) is = (_, refl)

  deed_begins : (event : Event) → IsTrue (may parts parameters (node_at machine (node_of event)) event (taken_by parts machine event))
      → Begins (deed_text parts parameters machine after did event)
  deed_begins (Instr at) is =
      slot_begins (node_at machine at.0) (node_at after at.0) (running (node_at machine at.0).slots (node_at machine at.0).current) is
  deed_begins (Handle at) is = handler_begins (node_at machine at.0).packets is
  deed_begins (Deliver from to) is =
      delivery_begins to.0 (may_deliver parts parameters from.0 to.0 (node_at machine to.0)) (taken_by parts machine (Deliver from to)) (and_parts _ _ is).1
  deed_begins (Evict at set) is =
      eviction_begins (λ copy. not (is_held (node_at machine at.0).slots copy.line)) (value_at (node_at machine at.0).cache set) (and_parts _ _ is).1

-- ---- an event before a blank

apart : {P : Type 0} (a b : ℕ) (u v : List ℕ) → (a == b) ≡ false → 32 ∷ a ∷ u ≡ 32 ∷ b ∷ v → P
apart a b u v other e = absurd (let same : a ≡ b = ap (λ (t : List ℕ). slice_index t 1) e in grind (arith, nat_tests))

-- two numbers before a blank
two : (a b c d : ℕ) (u v : List ℕ) → IsNumber a → IsNumber b → IsNumber c → IsNumber d
    → (decimal a ++ 32 ∷ decimal b) ++ 32 ∷ u ≡ (decimal c ++ 32 ∷ decimal d) ++ 32 ∷ v → (a ≡ c) × (b ≡ d)
two a b c d u v la lb lc ld e =
    let first = one_number a c 32 (decimal b ++ 32 ∷ u) (decimal d ++ 32 ∷ v) la lc (omega arith)
    (sym (append_assoc (decimal a) (32 ∷ decimal b) (32 ∷ u)) ∙ e ∙ append_assoc (decimal c) (32 ∷ decimal d) (32 ∷ v)) in
    (first.0, (one_number b d 32 u v lb ld (omega arith) first.1).0)

same_event : (a b : Event) (u v : List ℕ) → HasNumbers a → HasNumbers b → event_text a ++ 32 ∷ u ≡ event_text b ++ 32 ∷ v → a ≡ b
same_event (Instr a) (Instr b) u v l k e = ap (λ (n : ℕ). Instr (record { 0 = n })) (one_number a.0 b.0 32 u v l k (omega arith) (ap (drop 3) e)).0
same_event (Instr a) (Handle b) u v l k e = apart 73 72 _ _ refl e
same_event (Instr a) (Deliver b c) u v l k e = apart 73 68 _ _ refl e
same_event (Instr a) (Evict b c) u v l k e = apart 73 69 _ _ refl e
same_event (Handle a) (Instr b) u v l k e = apart 72 73 _ _ refl e
same_event (Handle a) (Handle b) u v l k e = ap (λ (n : ℕ). Handle (record { 0 = n })) (one_number a.0 b.0 32 u v l k (omega arith) (ap (drop 3) e)).0
same_event (Handle a) (Deliver b c) u v l k e = apart 72 68 _ _ refl e
same_event (Handle a) (Evict b c) u v l k e = apart 72 69 _ _ refl e
same_event (Deliver a d) (Instr b) u v l k e = apart 68 73 _ _ refl e
same_event (Deliver a d) (Handle b) u v l k e = apart 68 72 _ _ refl e
same_event (Deliver a d) (Deliver b c) u v l k e =
    let r = two a.0 d.0 b.0 c.0 u v l.0 l.1 k.0 k.1 (ap (drop 3) e) in
    ap (λ (n : ℕ). Deliver (record { 0 = n }) d) r.0 ∙ ap (λ (n : ℕ). Deliver b (record { 0 = n })) r.1
same_event (Deliver a d) (Evict b c) u v l k e = apart 68 69 _ _ refl e
same_event (Evict a d) (Instr b) u v l k e = apart 69 73 _ _ refl e
same_event (Evict a d) (Handle b) u v l k e = apart 69 72 _ _ refl e
same_event (Evict a d) (Deliver b c) u v l k e = apart 69 68 _ _ refl e
same_event (Evict a d) (Evict b c) u v l k e =
    let r = two a.0 d b.0 c u v l.0 l.1 k.0 k.1 (ap (drop 3) e) in
    ap (λ (n : ℕ). Evict (record { 0 = n }) d) r.0 ∙ ap (λ (n : ℕ). Evict b n) r.1

-- ---- an entry

-- an event's text begins with a blank
event_begins : (event : Event) → Begins (event_text event)
event_begins (Instr node) = (_, refl)
event_begins (Handle node) = (_, refl)
event_begins (Deliver from to) = (_, refl)
event_begins (Evict node set) = (_, refl)

-- a stamp, an event and a blank
same_entry : (a b : Entry) (u v : List ℕ) → IsEntry a → IsEntry b
    → decimal a.stamp ++ (event_text a.event ++ 32 ∷ u) ≡ decimal b.stamp ++ (event_text b.event ++ 32 ∷ v) → a ≡ b
same_entry a b u v l k e =
    let one = event_begins a.event in
    let other = event_begins b.event in
    let left : event_text a.event ++ 32 ∷ u ≡ 32 ∷ (one.0 ++ 32 ∷ u) = ap (λ (t : List ℕ). t ++ 32 ∷ u) one.1 in
    let right : event_text b.event ++ 32 ∷ v ≡ 32 ∷ (other.0 ++ 32 ∷ v) = ap (λ (t : List ℕ). t ++ 32 ∷ v) other.1 in
    let first = one_number a.stamp b.stamp 32 (one.0 ++ 32 ∷ u) (other.0 ++ 32 ∷ v) l.0 k.0 (omega arith)
    (ap (λ (t : List ℕ). decimal a.stamp ++ t) (sym left) ∙ e ∙ ap (λ (t : List ℕ). decimal b.stamp ++ t) right) in
    let event = same_event a.event b.event u v l.1 k.1 (left ∙ ap (λ (t : List ℕ). 32 ∷ t) first.1 ∙ sym right) in
    ap (λ (n : ℕ). record { stamp = n; event = a.event }) first.0 ∙ ap (λ (it : Event). record { stamp = b.stamp; event = it }) event

module _ (parts : Parts) (parameters : Parameters) (machine : MachineState) (entry : Entry) where
  -- a text begins with an entry, whose numbers are of 64 bits, and a blank
  pub record BeginsWithEntry (text : List ℕ) : Type 0 where
    pub fits : IsEntry entry
    pub rest : List ℕ
    pub whole : text ≡ decimal entry.stamp ++ (event_text entry.event ++ 32 ∷ rest)

  line_front : (stepped : Stepped) → IsEntry entry → Begins (deed_text parts parameters machine (step parts parameters machine entry.event) stepped.did entry.event)
      → BeginsWithEntry (line_by parts parameters machine entry stepped)
  line_front stepped fits deed = record {
    fits = fits;
    rest = deed.0 ++ (sends_text stepped.sends ++ codes "\n");
    whole = ap (λ (t : List ℕ). decimal entry.stamp ++ (event_text entry.event ++ (t ++ (sends_text stepped.sends ++ codes "\n")))) deed.1;
  }

  -- the line of an entry that may be next has such a front
  pub event_front : IsImage parts → AreParameters parameters → IsNext parts parameters machine entry → BeginsWithEntry (event_line parts parameters machine entry)
  unfolding event_line
  event_front image are next =
      let stepped = stepped_by parts parameters machine entry.event in
      line_front stepped (entry_fits parts image parameters are machine entry next)
      (deed_begins parts parameters machine (step parts parameters machine entry.event) stepped.did entry.event
      (enabled_is parts parameters machine entry.event next.enabled).may_be)

-- two entries with one line are the same
pub told_entry : (parts other_parts : Parts) (parameters other_parameters : Parameters) (machine other_machine : MachineState) (a b : Entry) (text : List ℕ)
    → BeginsWithEntry parts parameters machine a text → BeginsWithEntry other_parts other_parameters other_machine b text → a ≡ b
told_entry parts other_parts parameters other_parameters machine other_machine a b text one other =
    same_entry a b one.rest other.rest one.fits other.fits (sym one.whole ∙ other.whole)
