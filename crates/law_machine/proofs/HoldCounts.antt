-- Over a journal: data delivered are turns that ended a hold and holds at the end, and each such turn needed the held line.
use Rattle.std.proofs.Common.{◌≡◌, ℕ, ◌+◌, ◌<◌, ◌≤◌, nat_lt, true, Option, Some, None, List, [], ◌∷◌, length, set, IsTrue, refl, sym, subst, ap, ◌∙◌, arith}
use Rattle.std.specs.Prelude.{is_some}
use Rattle.std.specs.List.{AllByRecursion}
use Rattle.std.proofs.lemmas.Bool.{eqb-true, false≢true}
use Rattle.law_machine.proofs.Vocabulary.{digit, weigh, value_at, passes, Msg, Event, Instr, Handle, Deliver, Evict, Entry, Parts, node_count, Parameters, ToCache, RDATA, WDATA, INV, BUSY}
use Rattle.law_machine.proofs.Vocabulary.{is_reply, brings_line, Content, ForMemory, ForCache, content, Transaction, Slot, slot_at, no_slot, slot_start, home_node, is_fit, node_of, NodeState}
use Rattle.law_machine.proofs.Vocabulary.{node_start, may_deliver, front, behind, MachineState, machine_start, no_node, node_at, link_at, taken_by, stamp_at, is_enabled, step, stepped_by, after}
use Rattle.law_machine.proofs.Vocabulary.{state, AreLegal, IsLegal, LineNode, downs, line_of, Moment, moments_from, moments, uses_hold, is_data, counts_of, count_holds}
use Rattle.alw_model.proofs.Journals.{and_parts}
use Rattle.law_line.proofs.Consequences.{reply_meets}
use Rattle.law_lines.proofs.CacheSide.{old_part}
use Rattle.law_lines.proofs.Views.{seen_transaction}
use Rattle.law_lines.proofs.Steps.{Fit, fit_is, enabled_is}
use Rattle.law_machine.specs.Holds.{UsesHold}
use Rattle.law_machine.proofs.Runs.{node_at_start, stands_at_start}
use Rattle.law_machine.proofs.ContextRuns.{HasContexts, down_at, mapped, entry_contexts, start_contexts}
use Rattle.law_machine.proofs.HoldEvents.{HoldsGo, holds_of, MeetsOne, HeadMeets, TakesRightly, data_in, event_goes}
use Rattle.law_machine.proofs.Sums.{weigh_set, weigh_most}

reply_by : (said : ToCache) → brings_line said ≡ true → is_reply said ≡ true
reply_by (RDATA body) is = refl
reply_by (WDATA body) is = refl
reply_by INV is = absurd (false≢true is)
reply_by BUSY is = absurd (false≢true is)

seen_some : (o : Option Transaction) → is_some (seen_transaction o) ≡ true → is_some o ≡ true
seen_some None is = is
seen_some (Some t) is = refl

module _ (parts : Parts) (parameters : Parameters) where
  -- ---- a message that brings a line meets a transaction

  module _ (s : MachineState) (has : HasContexts parts parameters s) where
    message_meets : (from n : ℕ) → n < node_count parts → (msg : Msg) (c : Content) → front (link_at parts s from n) ≡ Some msg → Fit parts from n msg c → content msg ≡ c → MeetsOne (node_at s n) msg.line.0 c
    message_meets from n here msg (ForMemory said) e fit is = tt
    message_meets from n here msg (ForCache said) e fit is = λ brings.
        let l = msg.line.0 in
        let down = ap (λ (v : LineNode). v.down) (old_part parts parameters s n l here) ∙ down_at parts parameters s has.values has.sound from n msg said e (eqb-true (home_node parts l) from fit.home) is in
        let meets : is_some ((line_of parts parameters s l).node n).transaction ≡ true = reply_meets (node_count parts) (has.values l) (line_of parts parameters s l) (has.sound.lines l fit.exists) n said (downs l (behind (link_at parts s from n))) down (reply_by said brings) in
        seen_some (value_at (node_at s n).transactions l) (sym (ap (λ (v : LineNode). is_some v.transaction) (old_part parts parameters s n l here)) ∙ meets)

    head_meets : (from n : ℕ) → n < node_count parts → (head : Option Msg) → front (link_at parts s from n) ≡ head → IsTrue (passes (may_deliver parts parameters from n (node_at s n)) head) → HeadMeets (node_at s n) head
    head_meets from n here None e may_be = tt
    head_meets from n here (Some msg) e may_be = message_meets from n here msg (content msg) e (fit_is parts from n msg (and_parts (is_fit parts from n msg) _ may_be).0) refl

    takes_rightly : (event : Event) → IsTrue (is_enabled parts parameters s event) → (m : ℕ) (contexts : _) → TakesRightly parts parameters m (stamp_at parts s event) (node_at s (node_of event)) contexts event (taken_by parts s event)
    takes_rightly (Instr at) enabled m contexts = refl
    takes_rightly (Handle at) enabled m contexts = refl
    takes_rightly (Evict at set) enabled m contexts = refl
    takes_rightly (Deliver from to) enabled m contexts =
        let en = enabled_is parts parameters s (Deliver from to) enabled in
        head_meets from.0 to.0 en.here (front (link_at parts s from.0 to.0)) refl (and_parts (nat_lt from.0 (node_count parts)) _ en.may_be).1

    -- ---- one event

    pub holds_go : (event : Event) → IsTrue (is_enabled parts parameters s event) → HoldsGo parts (node_at s (node_of event)) (data_in (taken_by parts s event)) (stepped_by parts parameters s event)
    holds_go event enabled =
        let n = node_of event in
        let contexts = has.contexts n (enabled_is parts parameters s event enabled).here in
        event_goes parts parameters n (stamp_at parts s event) (node_at s n) contexts event (taken_by parts s event) (takes_rightly event enabled n contexts)

    holds_step : (event : Event) → IsTrue (is_enabled parts parameters s event)
        → data_in (taken_by parts s event) + count_holds s ≡ digit (uses_hold (node_at s (node_of event)) (stepped_by parts parameters s event).did) + count_holds (step parts parameters s event)
    holds_step event enabled =
        let n = node_of event in
        let fits : n < length s.nodes = rw has.sound.standing.nodes (enabled_is parts parameters s event enabled).here in
        omega (arith, (holds_go event enabled).count, weigh_set (λ (node : NodeState). holds_of node.slots) s.nodes n (stepped_by parts parameters s event).node no_node fits)

  -- ---- a journal

  abbrev replies_from : MachineState → List Entry → ℕ
  replies_from s journal = weigh (λ (moment : Moment). digit (passes (λ (msg : Msg). is_data (content msg)) moment.taken)) (moments_from parts parameters s journal)

  abbrev used_from : MachineState → List Entry → ℕ
  used_from s journal = weigh (λ (moment : Moment). digit (uses_hold moment.before moment.stepped.did)) (moments_from parts parameters s journal)

  module _ (some : 1 ≤ parameters.pointers) where
    run_counts : (s : MachineState) (journal : List Entry) → AreLegal parts parameters s journal → HasContexts parts parameters s → replies_from s journal + count_holds s ≡ used_from s journal + count_holds (after parts parameters s journal)
    run_counts s [] legal has = refl
    run_counts s (entry ∷ rest) (next, legal) has =
        let now = holds_step s has entry.event next.enabled in
        let more = run_counts (step parts parameters s entry.event) rest legal (entry_contexts parts parameters some s entry next has) in
        omega arith

    run_uses : (s : MachineState) (journal : List Entry) → AreLegal parts parameters s journal → HasContexts parts parameters s → AllByRecursion (UsesHold parts) (moments_from parts parameters s journal)
    run_uses s [] legal has = tt
    run_uses s (entry ∷ rest) (next, legal) has = ((holds_go s has entry.event next.enabled).uses, run_uses (step parts parameters s entry.event) rest legal (entry_contexts parts parameters some s entry next has))

  -- ---- from the start

  no_hold : (n i : ℕ) → digit (is_some (slot_at (node_start parts n).slots i).hold) ≤ 0
  no_hold n i = mapped (λ (slot : Slot). digit (is_some slot.hold) ≤ 0) (slot_start parts n) 0 parts.contexts i (λ k. omega arith) (omega arith)

  none_at_start : count_holds (machine_start parts) ≡ 0
  none_at_start =
      let s = machine_start parts in
      let all = weigh_most (λ (node : NodeState). holds_of node.slots) 0 s.nodes no_node (λ i l.
      subst (λ (u : NodeState). holds_of u.slots ≤ 0) (sym (node_at_start parts i (subst (λ k. i < k) (stands_at_start parts parameters).nodes l)))
      (let few = weigh_most (λ (slot : Slot). digit (is_some slot.hold)) 0 (node_start parts i).slots no_slot (λ j m. no_hold i j) in omega arith)) in
      omega arith

  module _ (some : 1 ≤ parameters.pointers) (slots : 1 ≤ parts.contexts) (journal : List Entry) (legal : IsLegal parts parameters journal) where
    pub replies_used : (counts_of parts (moments parts parameters journal)).replies ≡ (counts_of parts (moments parts parameters journal)).used + count_holds (state parts parameters journal)
    unfolding moments state
    replies_used = let run = run_counts some (machine_start parts) journal legal (start_contexts parts parameters some slots) in omega (arith, none_at_start)

    pub turns_use : AllByRecursion (UsesHold parts) (moments parts parameters journal)
    unfolding moments
    turns_use = run_uses some (machine_start parts) journal legal (start_contexts parts parameters some slots)
