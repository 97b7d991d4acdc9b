-- No machine is stuck: while a context can go on, or a message is left, a main event is enabled.
use Rattle.std.proofs.Common.{◌≡◌, ℕ, suc, ◌+◌, ◌*◌, ◌/◌, ◌%◌, ◌<◌, ◌≤◌, ◌==◌, not, ◌&&◌, ◌||◌, Bool, true, false, Option, Some, None, List, [], ◌∷◌, ◌++◌, length, get_or, refl, sym, subst, ap, ◌∙◌, arith}
use Rattle.std.specs.Prelude.{is_some}
use Rattle.std.specs.List.{list_any}
use Rattle.std.proofs.lemmas.Bool.{eq-eqb, eqb-true, false≢true}
use Rattle.std.proofs.lemmas.Nat.{row_below_turned, mod_below}
use Rattle.std.proofs.Math.Nat.{mod-add-div'}
use Rattle.law_machine.proofs.Vocabulary.{passes, value_at, digit, Msg, Status, Ready, Waiting, Halted, Trapped, Parts, node_count, line_count, IsImage, Parameters, AreParameters, ToMemory}
use Rattle.law_machine.proofs.Vocabulary.{ToCache, RDATA, WDATA, INV, BUSY, Content, ForMemory, ForCache, content, is_in_progress, Copy, Transaction, replaced, is_ready, waits_on, Slot, slot_at}
use Rattle.law_machine.proofs.Vocabulary.{is_held, home_node, is_at_home, is_fit, is_nonempty, front, NodeState, home_at, may_reach, may_reach_cache, may_deliver, MachineState, no_node, node_at}
use Rattle.law_machine.proofs.Vocabulary.{link_at, link_place, is_settled, LineNode, ups, downs, sent_by, line_of}
use Rattle.alw_model.proofs.Journals.{and_is}
use Rattle.law_line.proofs.Consequences.{moves}
use Rattle.law_lines.proofs.CacheSide.{old_part}
use Rattle.law_lines.proofs.Following.{home_below}
use Rattle.law_lines.proofs.Views.{seen_transaction}
use Rattle.law_machine.specs.Endings.{has_ended, may_go_on}
use Rattle.law_machine.proofs.ContextTests.{waited_exists}
use Rattle.law_machine.proofs.Sends.{MsgStands}
use Rattle.law_machine.proofs.Timing.{each_front}
use Rattle.law_machine.proofs.MachineRuns.{IsKept, clocks_small, fit_on}
use Rattle.law_machine.proofs.MainEvents.{ready_runs, instr_goes, handle_goes, deliver_goes}

-- ---- lists

-- a held line has a slot that holds it
pub held_slot : (slots : List Slot) (line : ℕ) → is_held slots line ≡ true → (i : ℕ) × ((slot_at slots i).hold ≡ Some line)
held_slot [] line is = absurd (false≢true is)
held_slot (slot ∷ rest) line is = go slot.hold refl is (held_slot rest line)
  where
    go : (o : Option ℕ) → slot.hold ≡ o → (passes (λ held. held == line) o || is_held rest line) ≡ true → (is_held rest line ≡ true → (i : ℕ) × ((slot_at rest i).hold ≡ Some line)) → (i : ℕ) × ((slot_at (slot ∷ rest) i).hold ≡ Some line)
    go None e is more = let r = more is in (suc r.0, r.1)
    go (Some held) e is more = by_test (held == line) refl is
      where
        by_test : (b : Bool) → (held == line) ≡ b → (b || is_held rest line) ≡ true → (i : ℕ) × ((slot_at (slot ∷ rest) i).hold ≡ Some line)
        by_test true same is = (0, e ∙ ap Some (eqb-true held line same))
        by_test false other is = let r = more is in (suc r.0, r.1)

-- where a test passes, it does at a place
any_place : {X : Type 0} (test : X → Bool) (d : X) (xs : List X) → list_any test xs ≡ true → (i : ℕ) × ((i < length xs) × (test (get_or xs i d) ≡ true))
any_place test d [] is = absurd (false≢true is)
any_place test d (x ∷ rest) is = go (test x) refl is (any_place test d rest)
  where
    go : (b : Bool) → test x ≡ b → (b || list_any test rest) ≡ true → (list_any test rest ≡ true → (i : ℕ) × ((i < length rest) × (test (get_or rest i d) ≡ true))) → (i : ℕ) × ((i < length (x ∷ rest)) × (test (get_or (x ∷ rest) i d) ≡ true))
    go true e is more = (0, (omega arith, e))
    go false e is more = let r = more is in (suc r.0, (omega (arith, r.1.0), r.1.1))

some_front : (xs : List Msg) → is_nonempty xs ≡ true → (msg : Msg) × (front xs ≡ Some msg)
some_front [] is = absurd (false≢true is)
some_front (msg ∷ rest) is = (msg, refl)

pub nonempty_by : (xs : List Msg) → (xs ≡ [] → ⊥) → is_nonempty xs ≡ true
nonempty_by [] isnt = absurd (isnt refl)
nonempty_by (msg ∷ rest) isnt = refl

pub not_false : (b : Bool) → not b ≡ false → b ≡ true
not_false true e = refl
not_false false e = absurd (false≢true (sym e))

module _ (parts : Parts) (image : IsImage parts) (parameters : Parameters) (are : AreParameters parameters) (s : MachineState) (kept : IsKept parts parameters s) where
  -- some main event is enabled
  abbrev Goes : Type 0
  Goes = may_go_on parts parameters s ≡ true

  ready_goes : (n slot : ℕ) → n < node_count parts → (slot_at (node_at s n).slots slot).status ≡ Ready → Goes
  ready_goes n slot here ready = let contexts = kept.has.contexts n here in
      instr_goes parts parameters s (clocks_small parts image parameters are s kept) n here (ready_runs (node_at s n).slots (node_at s n).current slot (subst (λ k. (node_at s n).current < k) (sym contexts.size) contexts.chosen) (ap is_ready ready))

  -- who holds a line is Ready
  held_goes : (n line : ℕ) → n < node_count parts → is_held (node_at s n).slots line ≡ true → Goes
  held_goes n line here is =
      let h = held_slot (node_at s n).slots line is in
      ready_goes n h.0 here (((kept.has.contexts n here).each h.0).holds line h.1).ready

  -- ---- the head of a link

  replaced_goes : (n : ℕ) → n < node_count parts → (o : Option Copy) → passes (λ (copy : Copy). is_held (node_at s n).slots copy.line) o ≡ true → Goes
  replaced_goes n here None is = absurd (false≢true is)
  replaced_goes n here (Some copy) is = held_goes n copy.line here is

  -- what keeps a message from a cache is a hold
  blocked_goes : (n l : ℕ) → n < node_count parts → (said : ToCache) → may_reach_cache parameters.sets (node_at s n).slots (node_at s n).cache l said ≡ false
      → Goes
  blocked_goes n l here INV e = held_goes n l here (not_false (is_held (node_at s n).slots l) e)
  blocked_goes n l here BUSY e = absurd (false≢true (sym e))
  blocked_goes n l here (RDATA body) e = replaced_goes n here (replaced parameters.sets (node_at s n).cache l) (not_false _ e)
  blocked_goes n l here (WDATA body) e = replaced_goes n here (replaced parameters.sets (node_at s n).cache l) (not_false _ e)

  -- what keeps one from memory is a packet
  packet_goes : (n l : ℕ) → n < node_count parts → l < line_count parts → home_node parts l ≡ n → is_in_progress (home_at parts (node_at s n) l).meta ≡ true → Goes
  packet_goes n l here lines home busy = handle_goes parts parameters s (clocks_small parts image parameters are s kept) n here (nonempty_by (node_at s n).packets (λ none.
      let one : length (ups l (node_at s n).packets) ≡ 1 = (kept.has.sound.standing.each n here).pending l lines home ∙ ap digit busy in
      let zero_of : length (ups l (node_at s n).packets) ≡ 0 = ap (λ (q : List Msg). length (ups l q)) none in
      omega arith))

  head_goes : (from n : ℕ) → from < node_count parts → n < node_count parts → (msg : Msg) → front (link_at parts s from n) ≡ Some msg → Goes
  head_goes from n f here msg e = by_content (content msg) refl
    where
      m : MsgStands parts from n (node_at s from).clock msg
      m = each_front (MsgStands parts from n (node_at s from).clock) (link_at parts s from n) msg (kept.times.links from n f here) e

      goes : may_reach parts parameters (node_at s n) msg.line.0 (content msg) ≡ true → Goes
      goes free = deliver_goes parts parameters s (clocks_small parts image parameters are s kept) from n f here (ap (passes (may_deliver parts parameters from n (node_at s n))) e ∙ and_is (is_fit parts from n msg) _ (fit_on parts image parameters are s kept from n msg m f) free)

      memory_goes : (said : ToMemory) → content msg ≡ ForMemory said → (b : Bool) → is_in_progress (home_at parts (node_at s n) msg.line.0).meta ≡ b → Goes
      memory_goes said is true busy = packet_goes n msg.line.0 here m.exists (eqb-true (home_node parts msg.line.0) n (sym (ap (λ c. is_at_home c (home_node parts msg.line.0) from n) is) ∙ m.home)) busy
      memory_goes said is false free = goes (ap (may_reach parts parameters (node_at s n) msg.line.0) is ∙ ap not free)

      cache_goes : (said : ToCache) → content msg ≡ ForCache said → (b : Bool)
          → may_reach_cache parameters.sets (node_at s n).slots (node_at s n).cache msg.line.0 said ≡ b → Goes
      cache_goes said is true free = goes (ap (may_reach parts parameters (node_at s n) msg.line.0) is ∙ free)
      cache_goes said is false blocked = blocked_goes n msg.line.0 here said blocked

      by_content : (c : Content) → content msg ≡ c → Goes
      by_content (ForMemory said) is = memory_goes said is (is_in_progress (home_at parts (node_at s n) msg.line.0).meta) refl
      by_content (ForCache said) is = cache_goes said is (may_reach_cache parameters.sets (node_at s n).slots (node_at s n).cache msg.line.0 said) refl

  link_goes : (from n : ℕ) → from < node_count parts → n < node_count parts → is_nonempty (link_at parts s from n) ≡ true → Goes
  link_goes from n f here some = let h = some_front (link_at parts s from n) some in head_goes from n f here h.0 h.1

  queue_goes : (n : ℕ) → n < node_count parts → is_nonempty (node_at s n).packets ≡ true → Goes
  queue_goes = handle_goes parts parameters s (clocks_small parts image parameters are s kept)

  -- ---- a context that waits

  -- where a node has something on its way, a link or a queue has
  traffic_goes : (l k : ℕ) → l < line_count parts → k < node_count parts → 1 ≤ length ((line_of parts parameters s l).node k).up + length ((line_of parts parameters s l).node k).down → Goes
  traffic_goes l k lines below some = go (node_at s (home_node parts l)).packets (link_at parts s k (home_node parts l)) (link_at parts s (home_node parts l) k) refl refl refl
    where
      go : (q u d : List Msg) → (node_at s (home_node parts l)).packets ≡ q → link_at parts s k (home_node parts l) ≡ u → link_at parts s (home_node parts l) k ≡ d → Goes
      go (packet ∷ rest) u d e f g = queue_goes (home_node parts l) (home_below parts l lines) (ap is_nonempty e)
      go [] (msg ∷ rest) d e f g = link_goes k (home_node parts l) below (home_below parts l lines) (ap is_nonempty f)
      go [] [] (msg ∷ rest) e f g = link_goes (home_node parts l) k (home_below parts l lines) below (ap is_nonempty g)
      go [] [] [] e f g = absurd (
          let none : length ((line_of parts parameters s l).node k).up + length ((line_of parts parameters s l).node k).down ≡ 0 = ap (λ (v : LineNode). length v.up + length v.down) (old_part parts parameters s k l below) ∙ (λ x. length (ups l (sent_by k (e x)) ++ ups l (f x)) + length (downs l (g x))) in
          omega arith
          )

  waiting_goes : (n slot line : ℕ) → n < node_count parts → waits_on line (slot_at (node_at s n).slots slot).status ≡ true → Goes
  waiting_goes n slot line here waits =
      let contexts = kept.has.contexts n here in
      let some : is_some (value_at (node_at s n).transactions line) ≡ true = (contexts.each slot).waits line waits in
      let lines = waited_exists parts parameters (node_at s n) contexts line some in
      let k = moves (node_count parts) (kept.has.values line) (line_of parts parameters s line) (kept.has.sound.lines line lines) n (ap (λ (v : LineNode). is_some v.transaction) (old_part parts parameters s n line here) ∙ seen_some (value_at (node_at s n).transactions line) some) in
      traffic_goes line k.0 lines k.1.0 k.1.1
    where
      seen_some : (o : Option Transaction) → is_some o ≡ true → is_some (seen_transaction o) ≡ true
      seen_some None is = absurd (false≢true is)
      seen_some (Some t) is = refl

  pub live_goes : (n slot : ℕ) → n < node_count parts → has_ended (slot_at (node_at s n).slots slot).status ≡ false → Goes
  live_goes n slot here live = go (slot_at (node_at s n).slots slot).status refl
    where
      go : (status : Status) → (slot_at (node_at s n).slots slot).status ≡ status → Goes
      go Ready e = ready_goes n slot here e
      go (Waiting line) e = waiting_goes n slot line.0 here (ap (waits_on line.0) e ∙ eq-eqb line.0 line.0 refl)
      go Halted e = absurd (false≢true (sym live ∙ ap has_ended e))
      go (Trapped pc type) e = absurd (false≢true (sym live ∙ ap has_ended e))

  -- ---- a machine that isn't settled

  some_link_goes : list_any is_nonempty s.links ≡ true → Goes
  some_link_goes is =
      let at = any_place is_nonempty [] s.links is in
      let p = at.0 in
      let n = node_count parts in
      let below : p < n * n = subst (λ k. p < k) kept.has.sound.standing.links at.1.0 in
      let from : p / n < n = (row_below_turned p n n n below (omega arith)).1 in
      let to : p % n < n = mod_below p n (omega arith) in
      let place : link_place parts (p / n) (p % n) ≡ p = turn (p % n) (p / n * n) p (mod-add-div' p n) in
      link_goes (p / n) (p % n) from to (ap (λ k. is_nonempty (get_or s.links k [])) place ∙ at.1.1)
    where
      turn : (a b c : ℕ) → a + b ≡ c → b + a ≡ c
      turn a b c e = omega arith

  some_queue_goes : list_any (λ (node : NodeState). is_nonempty node.packets) s.nodes ≡ true → Goes
  some_queue_goes is =
      let at = any_place (λ (node : NodeState). is_nonempty node.packets) no_node s.nodes is in
      queue_goes at.0 (subst (λ k. at.0 < k) kept.has.sound.standing.nodes at.1.0) at.1.1

  pub unsettled_goes : is_settled s ≡ false → Goes
  unsettled_goes isnt = go (list_any is_nonempty s.links) (list_any (λ (node : NodeState). is_nonempty node.packets) s.nodes) refl refl isnt
    where
      go : (b c : Bool) → list_any is_nonempty s.links ≡ b → list_any (λ (node : NodeState). is_nonempty node.packets) s.nodes ≡ c → (not b && not c) ≡ false → Goes
      go true c e f isnt = some_link_goes e
      go false true e f isnt = some_queue_goes f
      go false false e f isnt = absurd (false≢true (sym isnt))
