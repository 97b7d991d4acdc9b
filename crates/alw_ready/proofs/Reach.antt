-- What keeps messages on their links to a node stays as it is, where an event isn't wide.
use Rattle.std.proofs.Common.{◌≡◌, ◌≢◌, ℕ, zero, suc, ◌==◌, nat_lt, not, Bool, true, false, cond, ◌&&◌, ◌||◌, Option, Some, None, List, [], ◌∷◌, length, map, get_or, set, IsTrue, is_some, refl, sym, ap, ◌∙◌, ⊎_elim, arith}
use Rattle.std.specs.List.{list_any}
use Rattle.std.proofs.lemmas.Bool.{true≢false, not-false, eq-eqb, ne_eqb, eqb-true, cases_lt}
use Rattle.std.proofs.lemmas.List.{get_or-set_same, get_or-set_other, set_past}
use Rattle.alw_num.specs.declared.addresses.Line.{Line}
use Rattle.alw_num.specs.declared.states.Mode.{Mode}
use Rattle.alw_num.specs.declared.states.Mode.TheVariants.{Read, Write}
use Rattle.alw_num.specs.Maps.{kept_if, passes, value_at, with_value, without_value}
use Rattle.alw_num.proofs.MapLaws.{value-with, value-without}
use Rattle.alw_num.specs.Weights.{digit}
use Rattle.alw_num.proofs.Weigh.{is_node}
use Rattle.sparc_table.specs.Turns.{need_of, turn_of}
use Rattle.sparc_table.specs.declared.registers.Regs.{Regs}
use Rattle.sparc_table.specs.declared.outcomes.Need.{Need}
use Rattle.sparc_table.specs.declared.outcomes.Need.TheVariants as needs
use Rattle.sparc_table.specs.declared.outcomes.Outcome.{Outcome}
use Rattle.alw_msg.specs.declared.contexts.Status.{Status}
use Rattle.alw_msg.specs.declared.contexts.Status.TheVariants.{Ready, Waiting}
use Rattle.alw_msg.specs.declared.messages.Msg.{Msg}
use Rattle.alw_msg.specs.declared.events.Event.{Event}
use Rattle.alw_msg.specs.declared.events.Event.TheVariants.{Instr, Handle, Deliver, Evict}
use Rattle.alw_msg.specs.Statuses.{waits_on}
use Rattle.alw_msg.specs.Contents.{ToMemory, ToCache, RDATA, WDATA, INV, BUSY, Content, ForMemory, ForCache, content, brings_line}
use Rattle.alw_image.specs.declared.parts.Parts.{Parts}
use Rattle.alw_image.specs.Images.{node_count, line_count, zero_line}
use Rattle.alw_image.specs.Parameters.{Parameters}
use Rattle.alw_model.specs.LimitLess.{Directory, directory_start, is_trapped, is_in_progress, hardware_act}
use Rattle.alw_model.specs.Caches.{Copy, Cache, Transaction, set_of, copy_at, grants, granted_copy, replaced, invalidate, ended_by}
use Rattle.alw_model.specs.Contexts.{Slot, slot_at, no_slot, running, ran, woken, wake, is_held}
use Rattle.alw_model.specs.NodeStates.{NodeState, home_at, with_home, place_of, may, may_deliver, may_reach, may_reach_cache}
use Rattle.alw_model.specs.ProcessorSteps.{status_after, written, slots_after}
use Rattle.alw_model.specs.NodeSteps.{take_turn, miss, access, instr_by, instr, at_home, at_cache, deliver_by, deliver, handle_by, handle_front, evict_from, event_at}
use Rattle.alw_model.proofs.Journals.{and_parts}
use Rattle.law_lines.proofs.Instructions.{kept_is}
use Rattle.law_lines.proofs.Steps.{not_is}
use Rattle.alw_ready.specs.Changes.{brings, hold_count, is_wide_step}

-- a copy of a held line
abbrev pub is_guarded : List Slot → Option Copy → Bool
is_guarded slots o = passes (λ copy. is_held slots copy.line) o

-- a node keeps what keeps messages on their links: which home lines are Trans-In-Progress, which lines are held, and in which sets a held line stands in another's way
pub record KeepsReach (parts : Parts) (parameters : Parameters) (node after : NodeState) : Type 0 where
  pub homes : (line : ℕ) → is_in_progress (home_at parts after line).meta ≡ is_in_progress (home_at parts node line).meta
  pub held : (line : ℕ) → is_held after.slots line ≡ is_held node.slots line
  pub guarded : (line : ℕ) → is_guarded node.slots (replaced parameters.sets after.cache line) ≡ is_guarded node.slots (replaced parameters.sets node.cache line)

module _ (parts : Parts) (parameters : Parameters) (node after : NodeState) (keeps : KeepsReach parts parameters node after) where
  same_guards : (o : Option Copy) → is_guarded after.slots o ≡ is_guarded node.slots o
  same_guards None = refl
  same_guards (Some copy) = keeps.held copy.line

  unguarded : (line : ℕ) → not (is_guarded after.slots (replaced parameters.sets after.cache line)) ≡ not (is_guarded node.slots (replaced parameters.sets node.cache line))
  unguarded line = ap not (same_guards (replaced parameters.sets after.cache line) ∙ keeps.guarded line)

  pub reach_kept : (line : ℕ) (said : Content) → may_reach parts parameters after line said ≡ may_reach parts parameters node line said
  reach_kept line (ForMemory said) = ap not (keeps.homes line)
  reach_kept line (ForCache INV) = ap not (keeps.held line)
  reach_kept line (ForCache BUSY) = refl
  reach_kept line (ForCache (RDATA body)) = unguarded line
  reach_kept line (ForCache (WDATA body)) = unguarded line

-- ---- slots

any_set : {X : Type 0} (test : X → Bool) (xs : List X) (i : ℕ) (x d : X) → test x ≡ test (get_or xs i d) → list_any test (set xs i x) ≡ list_any test xs
any_set test [] i x d same = refl
any_set test (y ∷ rest) zero x d same = ap (λ b. b || list_any test rest) same
any_set test (y ∷ rest) (suc i) x d same = ap (λ b. test y || b) (any_set test rest i x d same)

any_map : {X : Type 0} (test : X → Bool) (f : X → X) → ((x : X) → test (f x) ≡ test x) → (xs : List X) → list_any test (map f xs) ≡ list_any test xs
any_map test f same [] = refl
any_map test f same (x ∷ xs) = λ i. same x i || any_map test f same xs i

no_hold : (line : ℕ) (o : Option ℕ) → is_some o ≡ false → passes (λ (held : ℕ). held == line) o ≡ false
no_hold line None none = refl
no_hold line (Some held) none = absurd (true≢false none)

-- an instruction of a slot without a hold
held_ran : (slots : List Slot) (slot : ℕ) (regs : Regs) (status : Status) → is_some (slot_at slots slot).hold ≡ false → (line : ℕ) → is_held (ran slots slot regs status) line ≡ is_held slots line
held_ran slots slot regs status none line = any_set (λ (s : Slot). passes (λ held. held == line) s.hold) slots slot (record { regs = regs; status = status; hold = None }) no_slot (sym (no_hold line (slot_at slots slot).hold none))

-- it leaves as many holds as there were
unheld : (slots : List Slot) (slot : ℕ) (regs : Regs) (status : Status) → not (hold_count (ran slots slot regs status) == hold_count slots) ≡ false → is_some (slot_at slots slot).hold ≡ false
unheld slots slot regs status same = freed slots slot (eqb-true _ _ (not-false _ same))
  where
    none : (b : Bool) → digit b ≡ 0 → b ≡ false
    none true is = absurd (omega arith)
    none false is = refl

    freed : (slots : List Slot) (slot : ℕ) → hold_count (set slots slot (record { regs = regs; status = status; hold = None })) ≡ hold_count slots → is_some (slot_at slots slot).hold ≡ false
    freed [] slot same = refl
    freed (s ∷ rest) zero same = none (is_some s.hold) (omega arith)
    freed (s ∷ rest) (suc slot) same = freed rest slot (omega arith)

held_woken : (slots : List Slot) (line k : ℕ) → is_held (wake line slots) k ≡ is_held slots k
held_woken slots line k = any_map (λ (s : Slot). passes (λ held. held == k) s.hold) (woken line) (λ s. go s (waits_on line s.status)) slots
  where
    go : (s : Slot) (b : Bool) → passes (λ held. held == k) (cond b (record s { status = Ready }) s).hold ≡ passes (λ held. held == k) s.hold
    go s true = refl
    go s false = refl

held_after : (slots : List Slot) (line : ℕ) (o : Option Transaction) (k : ℕ) → is_held (slots_after slots line false o) k ≡ is_held slots k
held_after slots line None k = refl
held_after slots line (Some transaction) k = held_woken slots line k

-- ---- sets

module _ (parameters : Parameters) (slots : List Slot) (cache : Cache) where
  -- the set of a line with this copy in it, or nothing
  abbrev guard : ℕ → Option Copy → Bool
  guard line o = is_guarded slots (kept_if (λ copy. not (copy.line == line)) o)

  free_guard : (line : ℕ) (o : Option Copy) → is_guarded slots o ≡ false → guard line o ≡ false
  free_guard line None free = refl
  free_guard line (Some copy) free = go (not (copy.line == line))
    where
      go : (b : Bool) → is_guarded slots (cond b (Some copy) None) ≡ false
      go true = free
      go false = refl

  -- a copy of no held line leaves its set
  guarded_left : (emptied : ℕ) → is_guarded slots (value_at cache emptied) ≡ false → (line : ℕ) → is_guarded slots (replaced parameters.sets (without_value cache emptied) line) ≡ is_guarded slots (replaced parameters.sets cache line)
  guarded_left emptied free line = ap (guard line) (value-without cache emptied (set_of parameters.sets line)) ∙ is_node _ (set_of parameters.sets line) emptied
      (λ same. rw (eq-eqb (set_of parameters.sets line) emptied same, same) (sym (free_guard line (value_at cache emptied) free)))
      (λ other. rw (ne_eqb (set_of parameters.sets line) emptied other) refl)

  -- a copy is replaced by one of its line
  guarded_stored : (copy next : Copy) (at : ℕ) → value_at cache at ≡ Some copy → next.line ≡ copy.line → (line : ℕ) → is_guarded slots (replaced parameters.sets (with_value cache at next) line) ≡ is_guarded slots (replaced parameters.sets cache line)
  guarded_stored copy next at is same line = ap (guard line) (value-with cache at next (set_of parameters.sets line)) ∙ is_node _ (set_of parameters.sets line) at
      (λ here. rw (eq-eqb (set_of parameters.sets line) at here, here, is) alike)
      (λ other. rw (ne_eqb (set_of parameters.sets line) at other) refl)
    where
      one : (c : Copy) → guard line (Some c) ≡ (not (c.line == line) && is_held slots c.line)
      one c = go (not (c.line == line))
        where
          go : (b : Bool) → is_guarded slots (cond b (Some c) None) ≡ (b && is_held slots c.line)
          go true = refl
          go false = refl

      alike : guard line (Some next) ≡ guard line (Some copy)
      alike = one next ∙ (ap (λ l. not (l == line) && is_held slots l) same ∙ sym (one copy))

-- ---- events

module _ (parts : Parts) (parameters : Parameters) (number stamp : ℕ) (node : NodeState) (taken : Option Msg) where
  same_reach : KeepsReach parts parameters node node
  same_reach = record { homes = λ line. refl; held = λ line. refl; guarded = λ line. refl }

  -- a turn without a hold, which leaves this cache
  turn_keeps : (slot : ℕ) (cache : Cache) (regs : Regs) (outcome : Outcome) → not (hold_count (ran node.slots slot regs (status_after regs outcome)) == hold_count node.slots) ≡ false → ((line : ℕ) → is_guarded node.slots (replaced parameters.sets cache line) ≡ is_guarded node.slots (replaced parameters.sets node.cache line))
      → KeepsReach parts parameters node (take_turn parts parameters number node slot cache regs outcome).node
  turn_keeps slot cache regs outcome none guarded = record { homes = λ line. refl; held = held_ran node.slots slot regs (status_after regs outcome) (unheld node.slots slot regs (status_after regs outcome) none); guarded = guarded }

  miss_keeps : (slot line : ℕ) (mode : Mode) → not (hold_count (ran node.slots slot (slot_at node.slots slot).regs (Waiting (record { 0 = line }))) == hold_count node.slots) ≡ false → KeepsReach parts parameters node (miss parts parameters number stamp node slot line mode).node
  miss_keeps slot line mode none = record { homes = λ k. refl; held = held_ran node.slots slot (slot_at node.slots slot).regs (Waiting (record { 0 = line })) (unheld node.slots slot (slot_at node.slots slot).regs (Waiting (record { 0 = line })) none); guarded = λ k. refl }

  written_guards : (copy : Copy) (mode : Mode) (body : Line) → value_at node.cache (set_of parameters.sets copy.line) ≡ Some copy
      → (line : ℕ) → is_guarded node.slots (replaced parameters.sets (written parameters.sets node.cache copy mode body) line) ≡ is_guarded node.slots (replaced parameters.sets node.cache line)
  written_guards copy Read body stands line = refl
  written_guards copy Write body stands line = guarded_stored parameters node.slots node.cache copy (record copy { body = body }) (set_of parameters.sets copy.line) stands refl line

  -- a copy that grants an access stands in its line's set
  granted_stands : (line : ℕ) (mode : Mode) (copy : Copy) → granted_copy parameters.sets node.cache line mode ≡ Some copy → value_at node.cache (set_of parameters.sets copy.line) ≡ Some copy
  granted_stands line mode copy e =
      let a = kept_is (λ (c : Copy). grants c.mode mode) (copy_at parameters.sets node.cache line) copy e in
      let b = kept_is (λ (c : Copy). c.line == line) (value_at node.cache (set_of parameters.sets line)) copy a.0 in
      ap (λ l. value_at node.cache (set_of parameters.sets l)) (eqb-true copy.line line b.1) ∙ b.0

  access_keeps : (slot line : ℕ) (mode : Mode) (o : Option Copy) → granted_copy parameters.sets node.cache line mode ≡ o → is_wide_step node taken (access parts parameters number stamp node slot line mode o) ≡ false → KeepsReach parts parameters node (access parts parameters number stamp node slot line mode o).node
  access_keeps slot line mode None e narrow = miss_keeps slot line mode narrow
  access_keeps slot line mode (Some copy) e narrow =
      let after = turn_of parts.code (slot_at node.slots slot).regs (line_count parts) copy.body in
      turn_keeps slot (written parameters.sets node.cache copy mode after.1) after.0 after.2 narrow (written_guards copy mode after.1 (granted_stands line mode copy e))

  need_keeps : (slot : ℕ) (need : Need) → is_wide_step node taken (instr_by parts parameters number stamp node slot need) ≡ false → KeepsReach parts parameters node (instr_by parts parameters number stamp node slot need).node
  need_keeps slot (needs.Copy line mode) narrow = access_keeps slot line.0 mode (granted_copy parameters.sets node.cache line.0 mode) refl narrow
  need_keeps slot needs.Nothing narrow =
      let after = turn_of parts.code (slot_at node.slots slot).regs (line_count parts) zero_line in
      turn_keeps slot node.cache after.0 after.2 narrow (λ line. refl)
  need_keeps slot (needs.Trap tt') narrow =
      let after = turn_of parts.code (slot_at node.slots slot).regs (line_count parts) zero_line in
      turn_keeps slot node.cache after.0 after.2 narrow (λ line. refl)

  instr_keeps : (slot : Option ℕ) → is_wide_step node taken (instr parts parameters number stamp node slot) ≡ false → KeepsReach parts parameters node (instr parts parameters number stamp node slot).node
  instr_keeps None narrow = record { homes = λ line. refl; held = λ line. refl; guarded = λ line. refl }
  instr_keeps (Some slot) narrow = need_keeps slot (need_of parts.code (slot_at node.slots slot).regs (line_count parts)) narrow

  -- the home table leaves a meta state
  meta_kept : (line : ℕ) (d : Directory) → d.meta ≡ (home_at parts node line).meta → (k : ℕ) → is_in_progress (home_at parts (with_home parts node line d) k).meta ≡ is_in_progress (home_at parts node k).meta
  meta_kept line d same k = is_node _ (place_of parts k) (place_of parts line)
      (λ here. ap (λ (p : ℕ). is_in_progress (entry (set node.homes (place_of parts line) d) p).meta) here ∙ (set_here ∙ sym (ap (λ (p : ℕ). is_in_progress (entry node.homes p).meta) here)))
      (λ other. ap (λ (e : Directory). is_in_progress e.meta) (get_or-set_other node.homes (place_of parts line) (place_of parts k) d (directory_start zero_line false) other))
    where
      entry : List Directory → ℕ → Directory
      entry homes place = get_or homes place (directory_start zero_line false)

      set_here : is_in_progress (entry (set node.homes (place_of parts line) d) (place_of parts line)).meta ≡ is_in_progress (entry node.homes (place_of parts line)).meta
      set_here = ⊎_elim
          (λ l. ap (λ (e : Directory). is_in_progress e.meta) (get_or-set_same node.homes (place_of parts line) d (directory_start zero_line false) l) ∙ ap is_in_progress same)
          (λ l. ap (λ (homes : List Directory). is_in_progress (entry homes (place_of parts line)).meta) (set_past node.homes (place_of parts line) d l))
          (cases_lt (place_of parts line) (length node.homes))

  home_keeps : (msg : Msg) (said : ToMemory) (traps : Bool) → is_wide_step node (Some msg) (at_home parts parameters number stamp node msg said traps) ≡ false → KeepsReach parts parameters node (at_home parts parameters number stamp node msg said traps).node
  home_keeps msg said true narrow = absurd (true≢false narrow)
  home_keeps msg said false narrow = record {
    homes = meta_kept msg.line.0 (hardware_act (home_at parts node msg.line.0) msg.src.0 said).0 refl;
    held = λ line. refl;
    guarded = λ line. refl;
  }

  -- a copy of a line that isn't held leaves its set
  invalid_guards : (line : ℕ) (o : Option Copy) → copy_at parameters.sets node.cache line ≡ o → is_held node.slots line ≡ false
      → (k : ℕ) → is_guarded node.slots (replaced parameters.sets (invalidate parameters.sets node.cache line o).0 k) ≡ is_guarded node.slots (replaced parameters.sets node.cache k)
  invalid_guards line None e free k = refl
  invalid_guards line (Some copy) e free k =
      let b = kept_is (λ (c : Copy). c.line == line) (value_at node.cache (set_of parameters.sets line)) copy e in
      guarded_left parameters node.slots node.cache (set_of parameters.sets line) (ap (is_guarded node.slots) b.0 ∙ (ap (is_held node.slots) (eqb-true copy.line line b.1) ∙ free)) k

  cache_keeps : (line : ℕ) (said : ToCache) → IsTrue (may_reach_cache parameters.sets node.slots node.cache line said) → brings_line said ≡ false → KeepsReach parts parameters node (at_cache parts parameters number stamp node line said).node
  cache_keeps line (RDATA body) may narrow = absurd (true≢false narrow)
  cache_keeps line (WDATA body) may narrow = absurd (true≢false narrow)
  cache_keeps line BUSY may narrow = record { homes = λ k. refl; held = held_after node.slots line (ended_by node.transactions line BUSY); guarded = λ k. refl }
  cache_keeps line INV may narrow = record {
    homes = λ k. refl;
    held = held_after node.slots line (ended_by node.transactions line INV);
    guarded = invalid_guards line (copy_at parameters.sets node.cache line) refl (not_is (is_held node.slots line) may);
  }

  message_keeps : (msg : Msg) (said : Content) → IsTrue (may_reach parts parameters node msg.line.0 said) → (brings said ≡ false) → is_wide_step node (Some msg) (deliver_by parts parameters number stamp node msg said) ≡ false → KeepsReach parts parameters node (deliver_by parts parameters number stamp node msg said).node
  message_keeps msg (ForMemory said) may brought narrow = home_keeps msg said (is_trapped parameters.pointers (home_at parts node msg.line.0) msg.src.0 said) narrow
  message_keeps msg (ForCache said) may brought narrow = cache_keeps msg.line.0 said may brought

  -- what a delivery brings makes it wide
  brought_is : (msg : Msg) (said : Content) → is_wide_step node (Some msg) (deliver_by parts parameters number stamp node msg said) ≡ false → content msg ≡ said → brings said ≡ false
  brought_is msg (ForMemory said) narrow is = refl
  brought_is msg (ForCache said) narrow is = sym (ap brings is) ∙ narrow

  delivery_keeps : (from to : ℕ) (head : Option Msg) → IsTrue (passes (may_deliver parts parameters from to node) head) → is_wide_step node head (deliver parts parameters number stamp node head) ≡ false → KeepsReach parts parameters node (deliver parts parameters number stamp node head).node
  delivery_keeps from to None may narrow = same_reach
  delivery_keeps from to (Some msg) may narrow = message_keeps msg (content msg) (and_parts _ (may_reach parts parameters node msg.line.0 (content msg)) may).1 (brought_is msg (content msg) narrow refl) narrow

  packet_keeps : (rest : List Msg) (packet : Msg) (said : Content) → is_wide_step node taken (handle_by parts parameters number stamp (record node { packets = rest }) packet said) ≡ false → KeepsReach parts parameters node (handle_by parts parameters number stamp (record node { packets = rest }) packet said).node
  packet_keeps rest packet (ForCache said) narrow = record { homes = λ line. refl; held = λ line. refl; guarded = λ line. refl }
  packet_keeps rest packet (ForMemory said) narrow = absurd (true≢false narrow)

  queue_keeps : (queue : List Msg) → is_wide_step node taken (handle_front parts parameters number stamp node queue) ≡ false → KeepsReach parts parameters node (handle_front parts parameters number stamp node queue).node
  queue_keeps [] narrow = record { homes = λ line. refl; held = λ line. refl; guarded = λ line. refl }
  queue_keeps (packet ∷ rest) narrow = packet_keeps rest packet (content packet) narrow

  evict_keeps : (emptied : ℕ) → IsTrue (passes (λ copy. not (is_held node.slots copy.line)) (value_at node.cache emptied)) → KeepsReach parts parameters node (evict_from parts parameters number stamp node emptied).node
  evict_keeps emptied may = record { homes = λ line. refl; held = λ line. refl; guarded = guarded_left parameters node.slots node.cache emptied (free (value_at node.cache emptied) may) }
    where
      free : (o : Option Copy) → IsTrue (passes (λ copy. not (is_held node.slots copy.line)) o) → is_guarded node.slots o ≡ false
      free None may = refl
      free (Some copy) may = not_is (is_held node.slots copy.line) may

  -- an event that may happen, and isn't wide, keeps what keeps messages on their links
  pub event_keeps : (event : Event) → IsTrue (may parts parameters node event taken) → is_wide_step node taken (event_at parts parameters number stamp node event taken) ≡ false → KeepsReach parts parameters node (event_at parts parameters number stamp node event taken).node
  event_keeps (Instr at) may narrow = instr_keeps (running node.slots node.current) narrow
  event_keeps (Handle at) may narrow = queue_keeps node.packets narrow
  event_keeps (Deliver from to) may narrow = delivery_keeps from.0 to.0 taken (and_parts (nat_lt from.0 (node_count parts)) _ may).1 narrow
  event_keeps (Evict at emptied) may narrow = evict_keeps emptied (and_parts (nat_lt emptied parameters.sets) _ may).1
