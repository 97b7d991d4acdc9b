-- What an event did fits what was read of its node before it: a slot that ran, and a front packet.
use Rattle.std.proofs.Common.{◌≡◌, ℕ, ◌+◌, ◌/◌, ◌<◌, ◌==◌, nat_lt, not, Bool, true, false, cond, Option, Some, None, List, [], ◌∷◌, length, refl, sym, ◌∙◌, arith}
use Rattle.std.specs.Option.{option_map}
use Rattle.std.specs.List.{AllByRecursion, slice_get}
use Rattle.std.proofs.lemmas.Bool.{lt-ltb}
use Rattle.std.proofs.lemmas.Option.{slice_get_within}
use Rattle.alw_num.specs.Weights.{digit, weigh}
use Rattle.alw_num.specs.declared.addresses.LineNo.{LineNo}
use Rattle.alw_num.specs.declared.states.Mode.{Mode}
use Rattle.alw_num.specs.declared.states.Mode.TheVariants.{Read, Write}
use Rattle.alw_num.specs.declared.states.State.{State}
use Rattle.sparc_table.specs.Turns.{fetched, need_of, need_at, or_no_access}
use Rattle.sparc_table.specs.declared.registers.Regs.{Regs}
use Rattle.sparc_table.specs.declared.outcomes.Need.{Need}
use Rattle.sparc_table.specs.declared.outcomes.Need.TheVariants as needs
use Rattle.sparc_table.specs.declared.outcomes.Outcome.{Outcome}
use Rattle.alw_msg.specs.declared.events.Entry.{Entry}
use Rattle.alw_msg.specs.declared.events.Event.{Event}
use Rattle.alw_msg.specs.declared.events.Event.TheVariants.{Instr, Handle, Deliver, Evict}
use Rattle.alw_msg.specs.declared.messages.Kind.{Kind}
use Rattle.alw_msg.specs.declared.messages.Msg.{Msg}
use Rattle.alw_msg.specs.Contents.{ToMemory, Content, ForMemory, ForCache, content}
use Rattle.alw_msg.specs.Events.{node_of}
use Rattle.alw_msg.specs.Lists.{front}
use Rattle.alw_image.specs.declared.parts.Parts.{Parts}
use Rattle.alw_image.specs.Images.{line_count}
use Rattle.alw_image.specs.Parameters.{Parameters}
use Rattle.alw_model.specs.declared.steps.Did.{Did}
use Rattle.alw_model.specs.declared.steps.Did.TheVariants.{Turn, Missed, Took, Packet, Handled, Evicted}
use Rattle.alw_model.specs.Caches.{Copy, granted_copy}
use Rattle.alw_model.specs.Contexts.{slot_at, running}
use Rattle.alw_model.specs.Counts.{is_turn, is_miss, is_handling, is_spill}
use Rattle.alw_model.specs.LimitLess.{is_trapped}
use Rattle.alw_model.specs.NodeStates.{NodeState, home_at, stamp_of}
use Rattle.alw_model.specs.NodeSteps.{access, instr_by, instr, at_home, deliver_by, deliver, handle_by, handle_front, event_at}
use Rattle.alw_model.specs.Machine.{MachineState, machine_start, node_at, taken_by, step}
use Rattle.alw_model.specs.Runs.{Moment, moments_from, moments}
use Rattle.alw_profile.specs.declared.sights.Ran.{Ran}
use Rattle.alw_profile.specs.Events.{ran_of, seen_of, ran_marks, handled_marks, slot_marks}
use Rattle.law_profiles.specs.Sums.{is_outside}
use Rattle.law_profiles.proofs.Rows.{in_column, inside}

-- what it adds to the columns of misses, turns and actions of the handler
pub record AddsColumns (image : Parts) (node : NodeState) (ran : Option Ran) (packet : Option Msg) (did : Did) : Type 0 where
  pub misses : weigh (in_column 1) (ran_marks did ran) + weigh (in_column 3) (ran_marks did ran) ≡ digit (is_miss did)
  pub handlers : weigh (in_column 7) (handled_marks did packet) ≡ digit (is_handling did)
  pub spills : weigh (in_column 8) (handled_marks did packet) ≡ digit (is_spill did)
  pub word_turns : weigh (inside (length image.code) 0) (slot_marks did ran) + digit (is_outside image node did) ≡ digit (is_turn did)
  pub word_misses : weigh (inside (length image.code) 1) (slot_marks did ran) ≡ digit (is_miss did)

-- ---- what adds nothing

no_miss : (did : Did) (ran : Option Ran) → digit (is_miss did) ≡ 0 → weigh (in_column 1) (ran_marks did ran) + weigh (in_column 3) (ran_marks did ran) ≡ 0
no_miss did None none = refl
no_miss did (Some ran) none = by_need ran.need
  where
    by_need : (need : Need) → weigh (in_column 1) (ran_marks did (Some (record ran { need = need }))) + weigh (in_column 3) (ran_marks did (Some (record ran { need = need }))) ≡ 0
    by_need (needs.Copy line Read) = omega (arith, none)
    by_need (needs.Copy line Write) = omega (arith, none)
    by_need needs.Nothing = refl
    by_need (needs.Trap type) = refl

no_handler : (did : Did) (packet : Option Msg) → digit (is_handling did) ≡ 0 → weigh (in_column 7) (handled_marks did packet) ≡ 0
no_handler did None none = refl
no_handler did (Some packet) none = omega (arith, none)

no_spill : (did : Did) (packet : Option Msg) → digit (is_spill did) ≡ 0 → weigh (in_column 8) (handled_marks did packet) ≡ 0
no_spill did None none = refl
no_spill did (Some packet) none = omega (arith, none)

no_word : (n column : ℕ) (did : Did) (ran : Option Ran) → digit (is_turn did) ≡ 0 → digit (is_miss did) ≡ 0 → weigh (inside n column) (slot_marks did ran) ≡ 0
no_word n column did None turn miss = refl
no_word n column did (Some ran) turn miss = go (nat_lt (ran.pc / 4) n) (0 == column) (1 == column)
  where
    go : (b zeroth first : Bool) → cond b (cond zeroth (digit (is_turn did)) 0) 0 + (cond b (cond first (digit (is_miss did)) 0) 0 + 0) ≡ 0
    go true true true = omega (arith, turn, miss)
    go true true false = omega (arith, turn)
    go true false true = omega (arith, miss)
    go true false false = refl
    go false zeroth first = refl

module _ (image : Parts) (node : NodeState) (ran : Option Ran) (packet : Option Msg) where
  -- an event that is no turn, no miss and no action of the handler
  quiet : (did : Did) → digit (is_turn did) ≡ 0 → digit (is_miss did) ≡ 0 → digit (is_handling did) ≡ 0 → digit (is_spill did) ≡ 0 → digit (is_outside image node did) ≡ 0
      → AddsColumns image node ran packet did
  quiet did turn miss handler spill outside = record {
    misses = no_miss did ran miss ∙ sym miss;
    handlers = no_handler did packet handler ∙ sym handler;
    spills = no_spill did packet spill ∙ sym spill;
    word_turns = omega (arith, no_word (length image.code) 0 did ran turn miss, turn, outside);
    word_misses = no_word (length image.code) 1 did ran turn miss ∙ sym miss;
  }

-- ---- an instruction

-- only a word of the code needs a line
fetched_there : (code : List ℕ) (regs : Regs) (lines : ℕ) (line : LineNo) (mode : Mode) → need_of code regs lines ≡ needs.Copy line mode → regs.pc / 4 < length code
unfolding need_of fetched
fetched_there code regs lines line mode is = go (slice_get code (regs.pc / 4)) refl is
  where
    go : (word : Option ℕ) → slice_get code (regs.pc / 4) ≡ word → need_at (or_no_access word) regs lines ≡ needs.Copy line mode → regs.pc / 4 < length code
    go (Some word) found is = slice_get_within code (regs.pc / 4) word found
    go None found is = cc

module _ (image : Parts) (parameters : Parameters) (n stamp : ℕ) (node : NodeState) (packet : Option Msg) where
  abbrev words : ℕ
  words = length image.code

  module _ (slot : ℕ) where
    abbrev regs : Regs
    regs = (slot_at node.slots slot).regs

    abbrev needing : Need → Option Ran
    needing need = Some (record { pc = regs.pc; need = need })

    turned : (need : Need) (outcome : Outcome) → AddsColumns image node (needing need) packet (Turn slot outcome)
    turned need outcome = record {
      misses = no_miss (Turn slot outcome) (needing need) refl;
      handlers = no_handler (Turn slot outcome) packet refl;
      spills = no_spill (Turn slot outcome) packet refl;
      word_turns = turn (nat_lt (regs.pc / 4) words);
      word_misses = miss (nat_lt (regs.pc / 4) words);
    }
      where
        turn : (b : Bool) → (cond b 1 0 + (cond b 0 0 + 0)) + digit (not b) ≡ 1
        turn true = refl
        turn false = refl

        miss : (b : Bool) → cond b 0 0 + (cond b 0 0 + 0) ≡ 0
        miss true = refl
        miss false = refl

    missed : (line : LineNo) (mode : Mode) → nat_lt (regs.pc / 4) words ≡ true → AddsColumns image node (needing (needs.Copy line mode)) packet (Missed slot)
    missed line mode there = record {
      misses = by_mode mode;
      handlers = no_handler (Missed slot) packet refl;
      spills = no_spill (Missed slot) packet refl;
      word_turns = turn (nat_lt (regs.pc / 4) words);
      word_misses = miss (nat_lt (regs.pc / 4) words) there;
    }
      where
        by_mode : (mode : Mode) → weigh (in_column 1) (ran_marks (Missed slot) (needing (needs.Copy line mode))) + weigh (in_column 3) (ran_marks (Missed slot) (needing (needs.Copy line mode))) ≡ 1
        by_mode Read = refl
        by_mode Write = refl

        turn : (b : Bool) → (cond b 0 0 + (cond b 0 0 + 0)) + 0 ≡ 0
        turn true = refl
        turn false = refl

        miss : (b : Bool) → b ≡ true → cond b 0 0 + (cond b 1 0 + 0) ≡ 1
        miss true there = refl
        miss false there = cc

    by_need : (need : Need) → need_of image.code regs (line_count image) ≡ need → AddsColumns image node (needing need) packet (instr_by image parameters n stamp node slot need).did
    by_need (needs.Copy line mode) is = by_copy (granted_copy parameters.sets node.cache line.0 mode)
      where
        by_copy : (o : Option Copy) → AddsColumns image node (needing (needs.Copy line mode)) packet (access image parameters n stamp node slot line.0 mode o).did
        by_copy None = missed line mode (lt-ltb (regs.pc / 4) words (fetched_there image.code regs (line_count image) line mode is))
        by_copy (Some copy) = turned (needs.Copy line mode) _
    by_need needs.Nothing is = turned needs.Nothing _
    by_need (needs.Trap type) is = turned (needs.Trap type) _

  instr_acts : (o : Option ℕ) → AddsColumns image node (option_map (λ slot. ran_of image (slot_at node.slots slot)) o) packet (instr image parameters n stamp node o).did
  instr_acts None = quiet image node None packet Took refl refl refl refl refl
  instr_acts (Some slot) = by_need slot (need_of image.code (slot_at node.slots slot).regs (line_count image)) refl

-- ---- a message, and an action of the handler

module _ (image : Parts) (parameters : Parameters) (n stamp : ℕ) (node : NodeState) (ran : Option Ran) where
  home_acts : (packet : Option Msg) (msg : Msg) (said : ToMemory) (traps : Bool) → AddsColumns image node ran packet (at_home image parameters n stamp node msg said traps).did
  home_acts packet msg said true = quiet image node ran packet Packet refl refl refl refl refl
  home_acts packet msg said false = quiet image node ran packet Took refl refl refl refl refl

  message_acts : (packet : Option Msg) (msg : Msg) (said : Content) → AddsColumns image node ran packet (deliver_by image parameters n stamp node msg said).did
  message_acts packet msg (ForMemory said) = home_acts packet msg said (is_trapped parameters.pointers (home_at image node msg.line.0) msg.src.0 said)
  message_acts packet msg (ForCache said) = quiet image node ran packet Took refl refl refl refl refl

  delivery_acts : (packet taken : Option Msg) → AddsColumns image node ran packet (deliver image parameters n stamp node taken).did
  delivery_acts packet None = quiet image node ran packet Took refl refl refl refl refl
  delivery_acts packet (Some msg) = message_acts packet msg (content msg)

  handled : (packet : Msg) (kind : Kind) (state : State) → AddsColumns image node ran (Some packet) (Handled kind state)
  handled packet kind state = record {
    misses = no_miss (Handled kind state) ran refl;
    handlers = refl;
    spills = omega arith;
    word_turns = omega (arith, no_word (length image.code) 0 (Handled kind state) ran refl refl);
    word_misses = no_word (length image.code) 1 (Handled kind state) ran refl refl;
  }

  packet_acts : (rest : List Msg) (packet : Msg) (said : Content) → AddsColumns image node ran (Some packet) (handle_by image parameters n stamp (record node { packets = rest }) packet said).did
  packet_acts rest packet (ForCache said) = quiet image node ran (Some packet) Took refl refl refl refl refl
  packet_acts rest packet (ForMemory said) = handled packet packet.kind _

  queue_acts : (queue : List Msg) → AddsColumns image node ran (front queue) (handle_front image parameters n stamp node queue).did
  queue_acts [] = quiet image node ran None Took refl refl refl refl refl
  queue_acts (packet ∷ rest) = packet_acts rest packet (content packet)

-- ---- any event

event_acts : (image : Parts) (parameters : Parameters) (n stamp : ℕ) (node : NodeState) (event : Event) (taken : Option Msg)
    → AddsColumns image node (seen_of image node).ran (seen_of image node).front (event_at image parameters n stamp node event taken).did
event_acts image parameters n stamp node (Instr at) taken = instr_acts image parameters n stamp node (front node.packets) (running node.slots node.current)
event_acts image parameters n stamp node (Handle at) taken = queue_acts image parameters n stamp node (seen_of image node).ran node.packets
event_acts image parameters n stamp node (Deliver from to) taken = delivery_acts image parameters n stamp node (seen_of image node).ran (front node.packets) taken
event_acts image parameters n stamp node (Evict at set) taken = quiet image node (seen_of image node).ran (front node.packets) Evicted refl refl refl refl refl

-- ---- a run

abbrev pub HasActs : Parts → Moment → Type 0
HasActs image moment = AddsColumns image moment.before (seen_of image moment.before).ran (seen_of image moment.before).front moment.stepped.did

acts_from : (image : Parts) (parameters : Parameters) (s : MachineState) (journal : List Entry) → AllByRecursion (HasActs image) (moments_from image parameters s journal)
acts_from image parameters s [] = tt
acts_from image parameters s (entry ∷ rest) =
    let n = node_of entry.event in
    let taken = taken_by image s entry.event in
    (event_acts image parameters n (stamp_of (node_at s n).clock taken) (node_at s n) entry.event taken, acts_from image parameters (step image parameters s entry.event) rest)

pub all_act : (image : Parts) (parameters : Parameters) (journal : List Entry) → AllByRecursion (HasActs image) (moments image parameters journal)
unfolding moments
all_act image parameters journal = acts_from image parameters (machine_start image) journal
