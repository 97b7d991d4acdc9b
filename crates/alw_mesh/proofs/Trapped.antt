-- A journal that leaves no context trapped has no trapping turn, and the first trapping turn of a front is the whole journal's.
use Rattle.std.proofs.Common.{◌≡◌, ℕ, ◌+◌, ◌≤◌, ◌==◌, Bool, true, false, not, Option, Some, None, is_some, List, [], ◌∷◌, take, drop, length, refl, sym, ap, subst, ◌∙◌, arith}
use Rattle.std.proofs.lemmas.Bool.{eqb-true, true≢false}
use Rattle.std.proofs.lemmas.List.{take-append-drop}
use Rattle.sparc_table.specs.declared.outcomes.Outcome.TheVariants as outcomes
use Rattle.alw_msg.specs.declared.messages.Msg.{Msg}
use Rattle.alw_msg.specs.declared.events.Entry.{Entry}
use Rattle.alw_msg.specs.declared.events.Event.{Event}
use Rattle.alw_msg.specs.declared.events.Event.TheVariants.{Instr, Handle, Deliver, Evict}
use Rattle.alw_msg.specs.Contents.{Content, ForMemory, ForCache, content}
use Rattle.alw_image.specs.declared.parts.Parts.{Parts}
use Rattle.alw_image.specs.Images.{node_count}
use Rattle.alw_image.specs.Parameters.{Parameters}
use Rattle.alw_model.specs.declared.ends.TrapAt.{TrapAt}
use Rattle.alw_model.specs.declared.steps.Did.{Did}
use Rattle.alw_model.specs.declared.steps.Did.TheVariants.{Turn, Missed, Took, Packet, Handled, Evicted}
use Rattle.alw_model.specs.NodeStates.{NodeState}
use Rattle.alw_model.specs.NodeSteps.{handle_by, handle_front}
use Rattle.alw_model.specs.Machine.{MachineState, machine_start, node_at, stamp_at, step, stepped_by, after, state, any_trapped, AreLegal, IsLegal}
use Rattle.alw_model.specs.Runs.{Moment, moment_of, moments_from, moments}
use Rattle.alw_model.specs.Ends.{trap_in, or_else, first_trap}
use Rattle.alw_model.proofs.Journals.{moments_from-append}
use Rattle.alw_tally.specs.declared.remains.Remains.{Remains}
use Rattle.alw_tally.specs.Remaining.{remains_of, left_by, remains_after}
use Rattle.alw_tally.proofs.Following.{remains_are}
use Rattle.alw_tally.proofs.Ending.{trapped_is}
use Rattle.alw_tally.proofs.Telling.{first_trap-append}
use Rattle.alw_mesh.proofs.Remaining.{size_kept, start_size}

-- trapped contexts stay so
left_stays : (all : Remains) (did : Did) → all.trapped ≤ (left_by all did).trapped
left_stays all (Turn slot outcomes.Halt) = omega arith
left_stays all (Turn slot (outcomes.Trap type)) = omega arith
left_stays all (Turn slot outcomes.Done) = omega arith
left_stays all (Turn slot (outcomes.Miss line mode)) = omega arith
left_stays all (Turn slot (outcomes.Out word)) = omega arith
left_stays all (Missed slot) = omega arith
left_stays all Took = omega arith
left_stays all Packet = omega arith
left_stays all (Handled kind state) = omega arith
left_stays all Evicted = omega arith

stays : (all : Remains) (event : Event) (did : Did) → all.trapped ≤ (remains_after all event did).trapped
stays all (Handle node) did = omega arith
stays all (Instr node) did = left_stays all did
stays all (Deliver from to) did = left_stays all did
stays all (Evict node emptied) did = left_stays all did

-- what traps is counted
untrapped_by : (all : Remains) (k : ℕ) (moment : Moment) (did : Did) → (left_by all did).trapped ≡ 0 → trap_in k moment did ≡ None
untrapped_by all k moment (Turn slot (outcomes.Trap type)) none = absurd (omega arith)
untrapped_by all k moment (Turn slot outcomes.Halt) none = refl
untrapped_by all k moment (Turn slot outcomes.Done) none = refl
untrapped_by all k moment (Turn slot (outcomes.Miss line mode)) none = refl
untrapped_by all k moment (Turn slot (outcomes.Out word)) none = refl
untrapped_by all k moment (Missed slot) none = refl
untrapped_by all k moment Took none = refl
untrapped_by all k moment Packet none = refl
untrapped_by all k moment (Handled kind state) none = refl
untrapped_by all k moment Evicted none = refl

-- the handler takes no turn
module _ (parts : Parts) (parameters : Parameters) (n stamp : ℕ) (node : NodeState) (k : ℕ) (moment : Moment) where
  packet_quiet : (rest : List Msg) (packet : Msg) (said : Content) → trap_in k moment (handle_by parts parameters n stamp (record node { packets = rest }) packet said).did ≡ None
  packet_quiet rest packet (ForCache said) = refl
  packet_quiet rest packet (ForMemory said) = refl

  queue_quiet : (queue : List Msg) → trap_in k moment (handle_front parts parameters n stamp node queue).did ≡ None
  queue_quiet [] = refl
  queue_quiet (packet ∷ rest) = packet_quiet rest packet (content packet)

module _ (parts : Parts) (parameters : Parameters) where
  untrapped_at : (s : MachineState) (k : ℕ) (moment : Moment) (all : Remains) (event : Event) → (remains_after all event (stepped_by parts parameters s event).did).trapped ≡ 0
      → trap_in k moment (stepped_by parts parameters s event).did ≡ None
  untrapped_at s k moment all (Handle node) none = queue_quiet parts parameters node.0 (stamp_at parts s (Handle node)) (node_at s node.0) k moment (node_at s node.0).packets
  untrapped_at s k moment all (Instr node) none = untrapped_by all k moment (stepped_by parts parameters s (Instr node)).did none
  untrapped_at s k moment all (Deliver from to) none = untrapped_by all k moment (stepped_by parts parameters s (Deliver from to)).did none
  untrapped_at s k moment all (Evict node emptied) none = untrapped_by all k moment (stepped_by parts parameters s (Evict node emptied)).did none

  abbrev trapped_at : MachineState → ℕ
  trapped_at s = (remains_of s.nodes).trapped

  trapped_stays : (s : MachineState) (journal : List Entry) → length s.nodes ≡ node_count parts → AreLegal parts parameters s journal → trapped_at s ≤ trapped_at (after parts parameters s journal)
  trapped_stays s [] size legal = omega arith
  trapped_stays s (entry ∷ rest) size (next, legal) =
      let did = (stepped_by parts parameters s entry.event).did in
      let one : trapped_at s ≤ trapped_at (step parts parameters s entry.event)
      = subst (λ (all : Remains). trapped_at s ≤ all.trapped) (sym (remains_are parts parameters s entry.event size next.enabled)) (stays (remains_of s.nodes) entry.event did) in
      omega (arith, one, trapped_stays (step parts parameters s entry.event) rest (size_kept parts parameters s entry.event size) legal)

  none_told : (s : MachineState) (journal : List Entry) (k : ℕ) → length s.nodes ≡ node_count parts → AreLegal parts parameters s journal → trapped_at (after parts parameters s journal) ≡ 0
      → first_trap k (moments_from parts parameters s journal) ≡ None
  none_told s [] k size legal none = refl
  none_told s (entry ∷ rest) k size (next, legal) none =
      let t = step parts parameters s entry.event in
      let sized = size_kept parts parameters s entry.event size in
      let now : trapped_at t ≡ 0 = omega (arith, none, trapped_stays t rest sized legal) in
      let here = untrapped_at s k (moment_of parts parameters s entry) (remains_of s.nodes) entry.event
      (ap (λ (all : Remains). all.trapped) (sym (remains_are parts parameters s entry.event size next.enabled)) ∙ now) in
      ap (λ (o : Option TrapAt). or_else o (first_trap (k + 1) (moments_from parts parameters t rest))) here ∙ none_told t rest (k + 1) sized legal none

  -- no context has trapped, so that no turn was a trapping one
  pub none_trapped : (journal : List Entry) → IsLegal parts parameters journal → any_trapped (state parts parameters journal) ≡ false → None ≡ first_trap 0 (moments parts parameters journal)
  unfolding state moments
  none_trapped journal legal none =
      let s = after parts parameters (machine_start parts) journal in
      sym (none_told (machine_start parts) journal 0 (start_size parts parameters) legal (zero_of (trapped_at s) (trapped_is (remains_of s.nodes) s refl ∙ none)))
    where
      zero_of : (n : ℕ) → (not (n == 0)) ≡ false → n ≡ 0
      zero_of n is = go (n == 0) refl is
        where
          go : (b : Bool) → (n == 0) ≡ b → not b ≡ false → n ≡ 0
          go true same not_so = eqb-true n 0 same
          go false other not_so = absurd (true≢false not_so)

  -- the first trapping turn of a front is that of the whole
  pub front_trapped : (journal : List Entry) (k : ℕ) (at : TrapAt) → first_trap 0 (moments parts parameters (take k journal)) ≡ Some at → first_trap 0 (moments parts parameters journal) ≡ Some at
  unfolding moments
  front_trapped journal k at is =
      let s = machine_start parts in
      let front = moments_from parts parameters s (take k journal) in
      let more = moments_from parts parameters (after parts parameters s (take k journal)) (drop k journal) in
      ap (λ (entries : List Entry). first_trap 0 (moments_from parts parameters s entries)) (sym (take-append-drop k journal))
      ∙ (ap (first_trap 0) (moments_from-append parts parameters s (take k journal) (drop k journal))
      ∙ (first_trap-append 0 front more ∙ ap (λ (o : Option TrapAt). or_else o (first_trap (0 + length front) more)) is))

  -- nothing has trapped before the first entry
  pub nothing_told : first_trap 0 (moments parts parameters []) ≡ None
  unfolding moments
  nothing_told = refl

  -- what a front tells
  pub told_early : (journal : List Entry) (k : ℕ) (o : Option TrapAt) → is_some o ≡ true → o ≡ first_trap 0 (moments parts parameters (take k journal)) → o ≡ first_trap 0 (moments parts parameters journal)
  told_early journal k None some is = absurd (true≢false (sym some))
  told_early journal k (Some at) some is = sym (front_trapped journal k at (sym is))

pub none_of : (o : Option TrapAt) → is_some o ≡ false → o ≡ None
none_of None is = refl
none_of (Some at) is = absurd (true≢false is)
