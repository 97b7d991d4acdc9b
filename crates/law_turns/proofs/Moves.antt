-- While one context is served and a message is left, a delivery or an action of the handler is enabled.
use Rattle.std.proofs.Common.{◌≡◌, ℕ, zero, suc, ◌+◌, ◌*◌, ◌-◌, ◌^◌, ◌/◌, ◌%◌, ◌<◌, ◌≤◌, ◌==◌, nat_lt, not, Bool, true, false, Option, Some, None, List, [], ◌∷◌, length, get_or, refl, sym, subst, ap, ◌∙◌, arith}
use Rattle.std.proofs.lemmas.Bool.{eq-eqb, eqb-true, lt-ltb, false≢true}
use Rattle.std.proofs.lemmas.Nat.{row_below_turned, mod_below}
use Rattle.std.proofs.Math.Nat.{mod-add-div'}
use Rattle.alw_num.specs.Weights.{digit, weigh}
use Rattle.alw_num.specs.Maps.{passes}
use Rattle.alw_num.proofs.Weigh.{is_node, cases_lt_then}
use Rattle.alw_msg.specs.declared.messages.Msg.{Msg}
use Rattle.alw_msg.specs.declared.events.Event.{Event}
use Rattle.alw_msg.specs.declared.events.Event.TheVariants.{Handle, Deliver}
use Rattle.alw_msg.specs.Contents.{ToMemory, ToCache, RDATA, WDATA, INV, BUSY, Content, ForMemory, ForCache, content}
use Rattle.alw_msg.specs.Events.{node_of}
use Rattle.alw_msg.specs.Lists.{is_nonempty, front, behind}
use Rattle.alw_image.specs.declared.parts.Parts.{Parts}
use Rattle.alw_image.specs.Images.{node_count, line_count, IsImage}
use Rattle.alw_image.specs.Parameters.{Parameters}
use Rattle.alw_model.specs.LimitLess.{is_in_progress}
use Rattle.alw_model.specs.Caches.{Copy, replaced}
use Rattle.alw_model.specs.Contexts.{Slot, slot_at, is_held}
use Rattle.alw_model.specs.Messages.{home_node, is_at_home, is_fit}
use Rattle.alw_model.specs.NodeStates.{NodeState, home_at, may, may_reach, may_reach_cache, may_deliver}
use Rattle.alw_model.specs.Machine.{MachineState, no_node, node_at, link_at, link_place, taken_by, is_enabled}
use Rattle.alw_model.specs.Lines.{LineNode, ups, downs}
use Rattle.alw_model.proofs.Journals.{and_is}
use Rattle.law_lines.proofs.CacheSide.{old_part}
use Rattle.law_machine.proofs.ContextRuns.{down_at}
use Rattle.law_machine.proofs.Sends.{MsgStands}
use Rattle.law_machine.proofs.Progress.{held_slot, nonempty_by, not_false}
use Rattle.law_machine.proofs.Timing.{each_front}
use Rattle.law_machine.proofs.MachineRuns.{IsKept}
use Rattle.law_turns.proofs.Hefts.{heft, packet_heft}
use Rattle.law_turns.proofs.Means.{AreMeans, clocks_small, fit_on}
use Rattle.law_turns.proofs.Stages.{heft_of, own, SlotHolds, IsServing, no_others, nobody_waits, nothing_down}
use Rattle.law_turns.specs.Orders.{is_quiet}

-- a list that weighs something has a member that does
pub heavy : {X : Type 0} (f : X → ℕ) (d : X) (xs : List X) → 1 ≤ weigh f xs → (i : ℕ) × ((i < length xs) × (1 ≤ f (get_or xs i d)))
heavy f d [] some = absurd (omega arith)
heavy f d (x ∷ rest) some = cases_lt_then (f x) 0
    (λ here. (0, (omega arith, here)))
    (λ none. let r = heavy f d rest (omega arith) in (suc r.0, (omega (arith, r.1.0), r.1.1)))

some_front : (f : Msg → ℕ) (xs : List Msg) → 1 ≤ weigh f xs → (msg : Msg) × (front xs ≡ Some msg)
some_front f [] some = absurd (omega arith)
some_front f (msg ∷ rest) some = (msg, refl)

nonempty_weighed : (f : Msg → ℕ) (xs : List Msg) → 1 ≤ weigh f xs → is_nonempty xs ≡ true
nonempty_weighed f [] some = absurd (omega arith)
nonempty_weighed f (msg ∷ rest) some = refl

-- nothing for a cache is kept on its link
abbrev pub MayReach : Parts → Parameters → MachineState → Type 0
MayReach parts parameters s = (from n : ℕ) → from < node_count parts → n < node_count parts → (msg : Msg) (said : ToCache) → front (link_at parts s from n) ≡ Some msg → content msg ≡ ForCache said
    → may_reach_cache parameters.sets (node_at s n).slots (node_at s n).cache msg.line.0 said ≡ false → ⊥

module _ (parts : Parts) (image : IsImage parts) (parameters : Parameters) (are : AreMeans parameters) (s : MachineState) (kept : IsKept parts parameters s) (reaches : MayReach parts parameters s) where
  -- a quiet event is enabled
  abbrev pub Moves : Type 0
  Moves = (event : Event) × ((is_quiet event ≡ true) × (is_enabled parts parameters s event ≡ true))

  enabled_by : (event : Event) → node_of event < node_count parts → may parts parameters (node_at s (node_of event)) event (taken_by parts s event) ≡ true → is_enabled parts parameters s event ≡ true
  enabled_by event here is = let n = node_of event in
      and_is (n == n) _ (eq-eqb n n refl) (and_is (nat_lt n (node_count parts)) _ (lt-ltb n (node_count parts) here)
      (and_is (nat_lt (node_at s n).clock (2 ^ 32 - 1)) _ (lt-ltb (node_at s n).clock (2 ^ 32 - 1) (clocks_small parts image parameters are s kept n here)) is))

  queue_moves : (n : ℕ) → n < node_count parts → is_nonempty (node_at s n).packets ≡ true → Moves
  queue_moves n here is = (Handle (record { 0 = n }), (refl, enabled_by (Handle (record { 0 = n })) here is))

  deliver_moves : (from n : ℕ) → from < node_count parts → n < node_count parts → passes (may_deliver parts parameters from n (node_at s n)) (front (link_at parts s from n)) ≡ true → Moves
  deliver_moves from n f here is = (Deliver (record { 0 = from }) (record { 0 = n }), (refl, enabled_by (Deliver (record { 0 = from }) (record { 0 = n })) here (and_is (nat_lt from (node_count parts)) _ (lt-ltb from (node_count parts) f) is)))

  -- what keeps a message from memory is a packet
  packet_moves : (n l : ℕ) → n < node_count parts → l < line_count parts → home_node parts l ≡ n → is_in_progress (home_at parts (node_at s n) l).meta ≡ true → Moves
  packet_moves n l here lines home busy = queue_moves n here (nonempty_by (node_at s n).packets (λ none.
      let one_is : length (ups l (node_at s n).packets) ≡ 1 = (kept.has.sound.standing.each n here).pending l lines home ∙ ap digit busy in
      let zero_is : length (ups l (node_at s n).packets) ≡ 0 = ap (λ (q : List Msg). length (ups l q)) none in
      omega arith))

  head_moves : (from n : ℕ) → from < node_count parts → n < node_count parts → (msg : Msg) → front (link_at parts s from n) ≡ Some msg → Moves
  head_moves from n f here msg e = by_content (content msg) refl
    where
      m : MsgStands parts from n (node_at s from).clock msg
      m = each_front (MsgStands parts from n (node_at s from).clock) (link_at parts s from n) msg (kept.times.links from n f here) e

      goes : may_reach parts parameters (node_at s n) msg.line.0 (content msg) ≡ true → Moves
      goes free = deliver_moves from n f here (ap (passes (may_deliver parts parameters from n (node_at s n))) e ∙ and_is (is_fit parts from n msg) _ (fit_on parts image parameters are s kept from n msg m f) free)

      memory_moves : (said : ToMemory) → content msg ≡ ForMemory said → (b : Bool) → is_in_progress (home_at parts (node_at s n) msg.line.0).meta ≡ b → Moves
      memory_moves said is true busy = packet_moves n msg.line.0 here m.exists (eqb-true (home_node parts msg.line.0) n (sym (ap (λ t. is_at_home t (home_node parts msg.line.0) from n) is) ∙ m.home)) busy
      memory_moves said is false free = goes (ap (may_reach parts parameters (node_at s n) msg.line.0) is ∙ ap not free)

      cache_moves : (said : ToCache) → content msg ≡ ForCache said → (b : Bool) → may_reach_cache parameters.sets (node_at s n).slots (node_at s n).cache msg.line.0 said ≡ b → Moves
      cache_moves said is true free = goes (ap (may_reach parts parameters (node_at s n) msg.line.0) is ∙ free)
      cache_moves said is false stays = absurd (reaches from n f here msg said e is stays)

      by_content : (t : Content) → content msg ≡ t → Moves
      by_content (ForMemory said) is = memory_moves said is (is_in_progress (home_at parts (node_at s n) msg.line.0).meta) refl
      by_content (ForCache said) is = cache_moves said is (may_reach_cache parameters.sets (node_at s n).slots (node_at s n).cache msg.line.0 said) refl

  some_link_moves : 1 ≤ weigh (weigh (heft (node_count parts))) s.links → Moves
  some_link_moves some =
      let at = heavy (weigh (heft (node_count parts))) [] s.links some in
      let p = at.0 in
      let n = node_count parts in
      let below : p < n * n = subst (λ k. p < k) kept.has.sound.standing.links at.1.0 in
      let from : p / n < n = (row_below_turned p n n n below (omega arith)).1 in
      let to : p % n < n = mod_below p n (omega arith) in
      let place : link_place parts (p / n) (p % n) ≡ p = turn (p % n) (p / n * n) p (mod-add-div' p n) in
      let weighs : 1 ≤ weigh (heft n) (link_at parts s (p / n) (p % n)) = subst (λ k. 1 ≤ weigh (heft n) (get_or s.links k [])) (sym place) at.1.1 in
      let h = some_front (heft n) (link_at parts s (p / n) (p % n)) weighs in
      head_moves (p / n) (p % n) from to h.0 h.1
    where
      turn : (a b c : ℕ) → a + b ≡ c → b + a ≡ c
      turn a b c e = omega arith

  some_queue_moves : 1 ≤ weigh (λ (node : NodeState). weigh (packet_heft (node_count parts)) node.packets) s.nodes → Moves
  some_queue_moves some =
      let at = heavy (λ (node : NodeState). weigh (packet_heft (node_count parts)) node.packets) no_node s.nodes some in
      queue_moves at.0 (subst (λ k. at.0 < k) kept.has.sound.standing.nodes at.1.0) (nonempty_weighed (packet_heft (node_count parts)) (node_at s at.0).packets at.1.1)

  -- so it does while anything is left
  pub left_moves : 1 ≤ heft_of parts s → Moves
  left_moves some = cases_lt_then (weigh (weigh (heft (node_count parts))) s.links) 0
      some_link_moves
      (λ none. some_queue_moves (omega arith))

-- ---- nothing is kept

module _ (parts : Parts) (one : parts.contexts ≡ 1) (parameters : Parameters) (s : MachineState) (kept : IsKept parts parameters s) where
  -- what is kept is so by a hold of a node's one slot
  holder_is : (n line : ℕ) → n < node_count parts → is_held (node_at s n).slots line ≡ true → SlotHolds (own s n)
  holder_is n line here is =
      let h = held_slot (node_at s n).slots line is in
      by_slot h.0 h.1
    where
      by_slot : (i : ℕ) → (slot_at (node_at s n).slots i).hold ≡ Some line → SlotHolds (own s n)
      by_slot zero e = (line, e)
      by_slot (suc i) e = absurd (let none : None ≡ Some line = sym (ap (λ (u : Slot). u.hold) (no_others parts one parameters s kept.has n i here)) ∙ e in cc)

  replaced_held : (n : ℕ) → n < node_count parts → (o : Option Copy) → passes (λ (copy : Copy). is_held (node_at s n).slots copy.line) o ≡ true → SlotHolds (own s n)
  replaced_held n here None is = absurd (false≢true is)
  replaced_held n here (Some copy) is = holder_is n copy.line here is

  blocked : (n l : ℕ) → n < node_count parts → (said : ToCache) → may_reach_cache parameters.sets (node_at s n).slots (node_at s n).cache l said ≡ false → SlotHolds (own s n)
  blocked n l here INV e = holder_is n l here (not_false (is_held (node_at s n).slots l) e)
  blocked n l here BUSY e = absurd (false≢true (sym e))
  blocked n l here (RDATA body) e = replaced_held n here (replaced parameters.sets (node_at s n).cache l) (not_false _ e)
  blocked n l here (WDATA body) e = replaced_held n here (replaced parameters.sets (node_at s n).cache l) (not_false _ e)

  -- where no slot has a hold
  pub free_reaches : ((n : ℕ) → n < node_count parts → (own s n).hold ≡ None) → MayReach parts parameters s
  free_reaches free from n f here msg said e is stays = let h = blocked n msg.line.0 here said stays in let none : None ≡ Some h.0 = sym (free n here) ∙ h.1 in cc

  -- and where c is being served: once it has its line, nothing is on its way to a cache
  pub serving_reaches : (c : ℕ) → IsServing c s → MayReach parts parameters s
  serving_reaches c serving from n f here msg said e is stays =
      let h = blocked n msg.line.0 here said stays in
      let l = msg.line.0 in
      let m = each_front (MsgStands parts from n (node_at s from).clock) (link_at parts s from n) msg (kept.times.links from n f here) e in
      let home : home_node parts l ≡ from = eqb-true (home_node parts l) from (sym (ap (λ t. is_at_home t (home_node parts l) from n) is) ∙ m.home) in
      let down = ap (λ (v : LineNode). v.down) (old_part parts parameters s n l here) ∙ down_at parts parameters s kept.has.values kept.has.sound from n msg said e home is in
      let holds : SlotHolds (own s c) = is_node (SlotHolds (own s c)) n c (λ same. (h.0, ap (λ k. (own s k).hold) (sym same) ∙ h.1)) (λ other. absurd (let none : None ≡ Some h.0 = sym (serving.free n other) ∙ h.1 in cc)) in
      let none = nothing_down parts one parameters s kept.has (nobody_waits parts one parameters s kept.has c serving holds) l n m.exists in
      let size : length (said ∷ downs l (behind (link_at parts s from n))) ≡ 0 = ap length (sym down ∙ none) in
      absurd (omega arith)
