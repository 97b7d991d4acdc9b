-- What is told of misses is of the order at each node: neighbours that change places end misses alike.
use Rattle.std.proofs.Common.{◌≡◌, ◌≢◌, ℕ, ◌≤◌, ◌-◌, ◌&&◌, ◌||◌, Bool, true, false, cond, Option, Some, None, List, map, slice_index_or, refl, sym, subst, ap, ◌∙◌}
use Rattle.std.specs.List.{range_with_len}
use Rattle.std.specs.List.Sorted.{IsPermutation}
use Rattle.std.proofs.lemmas.Bool.{eq-eqb, ne_eqb}
use Rattle.alw_num.specs.declared.addresses.Line.{Line}
use Rattle.alw_num.specs.declared.addresses.LineNo.{LineNo}
use Rattle.alw_msg.specs.declared.messages.Msg.{Msg}
use Rattle.alw_msg.specs.declared.events.Event.{Event}
use Rattle.alw_msg.specs.declared.events.Event.TheVariants.{Instr, Handle, Deliver, Evict}
use Rattle.alw_msg.specs.declared.events.Entry.{Entry}
use Rattle.alw_msg.specs.Events.{node_of}
use Rattle.alw_msg.specs.Lists.{front}
use Rattle.alw_image.specs.declared.parts.Parts.{Parts}
use Rattle.alw_image.specs.Images.{body_of}
use Rattle.alw_image.specs.Parameters.{Parameters}
use Rattle.alw_model.specs.declared.steps.Did.{Did}
use Rattle.alw_model.specs.NodeStates.{stamp_of}
use Rattle.alw_model.specs.NodeSteps.{deliver}
use Rattle.alw_model.specs.Machine.{MachineState, node_at, link_at, taken_by, stepped_by, IsLegal}
use Rattle.alw_model.specs.Runs.{Moment, moment_of}
use Rattle.law_order.proofs.Swaps.{enabled_before}
use Rattle.law_machine.specs.Values.{MachineIsSoundWith}
use Rattle.law_machine.proofs.Runs.{step_sound, start_sound_with}
use Rattle.alw_times.specs.declared.costs.Costs.{Costs}
use Rattle.alw_times.specs.Happening.{happened_of, becomes_ready}
use Rattle.alw_times.specs.Times.{Times, timed}
use Rattle.alw_waits.specs.declared.waits.Waited.{Waited}
use Rattle.alw_waits.specs.Waits.{WaitsSoFar, is_answer, waited_in, waited, waits_of}
use Rattle.law_times.proofs.Orders.{moment_before, moment_behind}
use Rattle.law_times.proofs.Counted.{did_within}
use Rattle.law_times.proofs.Lines.{has, came, is_of, is_there, moved, moved_long, had_came, had_apart, Apart}
use Rattle.law_times.proofs.Misses.{Missing, missing, came_of, coming, leaving, ending, ended_with, told_missing, AreAlike, alike_back, alike_then, missing_on, EndAlike, Telling, tell, AreApart, tell_apart}
use Rattle.law_times.proofs.Requests.{events_apart, flags_none, none_ready, slots_stay}
use Rattle.law_times.proofs.Tellings.{MaySwap, IsKept, told_at, two_told, second_told, first_told, same_told}

-- ---- how one event ends misses behind another

not_of : (e : Event) (took : Option Msg) (node : ℕ) (line : LineNo) → node ≢ node_of e → is_of (leaving e took) node line ≡ false
not_of (Instr at) took node line apart = refl
not_of (Handle at) took node line apart = refl
not_of (Evict at set) took node line apart = refl
not_of (Deliver from to) None node line apart = refl
not_of (Deliver from to) (Some msg) node line apart = go (is_answer msg.kind)
  where
    go : (b : Bool) → is_of (cond b (Some (to.0, msg.line)) None) node line ≡ false
    go true = rw (ne_eqb node to.0 apart) refl
    go false = refl

and_true : (b : Bool) → (b && true) ≡ b
and_true true = refl
and_true false = refl

module _ (parts : Parts) (parameters : Parameters) (s : MachineState) where
  abbrev flags : Event → List Bool
  flags event = map (becomes_ready (node_at s (node_of event)).slots (stepped_by parts parameters s event).node.slots) (range_with_len 0 4)

  -- a message that is no answer wakes no slot
  none_woken : (event : Event) (to : ℕ) (msg : Msg) (o : Option Msg) → (stepped_by parts parameters s event).node.slots ≡ (deliver parts parameters to (stamp_of (node_at s to).clock o) (node_at s to) o).node.slots →
      node_of event ≡ to → o ≡ Some msg → is_answer msg.kind ≡ false → (slot : ℕ) → slice_index_or (flags event) slot false ≡ false
  none_woken event to msg o steps node is free slot =
      let stays = steps ∙ (ap (λ (p : Option Msg). (deliver parts parameters to (stamp_of (node_at s to).clock p) (node_at s to) p).node.slots) is
      ∙ (slots_stay parts parameters to (stamp_of (node_at s to).clock (Some msg)) (node_at s to) msg free ∙ sym (ap (λ (k : ℕ). (node_at s k).slots) node))) in
      flags_none (becomes_ready (node_at s (node_of event)).slots (stepped_by parts parameters s event).node.slots) (range_with_len 0 4) slot
      (λ k. none_ready (node_at s (node_of event)).slots (stepped_by parts parameters s event).node.slots k stays)

  ends_alike : (e f : Event) (did other : Did) (took : Option Msg) (trapped : List (List LineNo)) → node_of f ≢ node_of e → Apart (coming e did took) (leaving f (taken_by parts s f)) →
      EndAlike parts (flags f) (ending f other (taken_by parts s f) (moved (coming e did took) (leaving e took) trapped)) (ending f other (taken_by parts s f) trapped)
  ends_alike e (Instr at) did other took trapped nodes apart = EndAlike.same refl
  ends_alike e (Handle at) did other took trapped nodes apart = EndAlike.same refl
  ends_alike e (Evict at set) did other took trapped nodes apart = EndAlike.same refl
  ends_alike e (Deliver from to) did other took trapped nodes apart = go (front (link_at parts s from.0 to.0)) refl
    where
      after : List (List LineNo)
      after = moved (coming e did took) (leaving e took) trapped

      go : (o : Option Msg) → front (link_at parts s from.0 to.0) ≡ o → EndAlike parts (flags (Deliver from to)) (ending (Deliver from to) other o after) (ending (Deliver from to) other o trapped)
      go None is = EndAlike.same refl
      go (Some msg) is = by (is_answer msg.kind) refl
        where
          kept : is_answer msg.kind ≡ true → has after to.0 msg.line ≡ has trapped to.0 msg.line
          kept tells =
              let all : is_of (leaving (Deliver from to) (Some msg)) to.0 msg.line ≡ true =
              ap (λ (b : Bool). is_of (cond b (Some (to.0, msg.line)) None) to.0 msg.line) tells
              ∙ (λ x. eq-eqb to.0 to.0 refl x && eq-eqb msg.line.0 msg.line.0 refl x) in
              let meets : (is_of (coming e did took) to.0 msg.line && is_of (leaving (Deliver from to) (Some msg)) to.0 msg.line) ≡ false =
              ap (λ (o : Option Msg). is_of (coming e did took) to.0 msg.line && is_of (leaving (Deliver from to) o) to.0 msg.line) (sym is) ∙ apart to.0 msg.line in
              let comes = sym (and_true (is_of (coming e did took) to.0 msg.line)) ∙ (ap (λ (b : Bool). is_of (coming e did took) to.0 msg.line && b) (sym all) ∙ meets) in
              had_apart (coming e did took) (leaving e took) trapped to.0 msg.line comes (not_of e took to.0 msg.line nodes)

          by : (b : Bool) → is_answer msg.kind ≡ b → EndAlike parts (flags (Deliver from to)) (ending (Deliver from to) other (Some msg) after) (ending (Deliver from to) other (Some msg) trapped)
          by false free = EndAlike.none (none_woken (Deliver from to) to.0 msg (front (link_at parts s from.0 to.0)) refl refl is free)
          by true tells =
              let new = came_of from.0 other msg in
              let long = moved_long (coming e did took) (leaving e took) trapped in
              let same : has (came new after) to.0 msg.line ≡ has (came new trapped) to.0 msg.line =
              had_came new after to.0 msg.line
              ∙ ((λ x. kept tells x || (is_there new (long x) && is_of new to.0 msg.line)) ∙ sym (had_came new trapped to.0 msg.line)) in
              EndAlike.same (ap (λ (b : Bool). ended_with b msg.kind) same)

-- ---- over a run

-- a machine whose lines are sound
pub record IsSound (parts : Parts) (parameters : Parameters) (s : MachineState) : Type 0 where
  pub values : ℕ → Line
  pub sound : MachineIsSoundWith parts parameters values s

module _ (parts : Parts) (parameters : Parameters) (costs : Costs) where
  abbrev telling : Times → Moment → Telling parts
  telling times moment = record { event = moment.entry.event; did = moment.stepped.did; woken = (happened_of moment).woken; told = waited_in parts costs times moment }

  abbrev tells_as : Moment → Waited → Missing → Missing
  tells_as moment told m = tell parts (record { event = moment.entry.event; did = moment.stepped.did; woken = (happened_of moment).woken; told = told }) m

  waited_missing : (times : Times) (waits : WaitsSoFar) (moment : Moment) → missing (waited parts costs times waits moment) ≡ tell parts (telling times moment) (missing waits)
  unfolding waited
  waited_missing times waits moment =
      let told = waited_in parts costs times moment in
      told_missing parts costs waits (happened_of moment) told (told.span.finish - told.span.start) moment.entry.event

  module _ (times : Times) (s : MachineState) (e f : Entry) (stands : IsSound parts parameters s) (may : MaySwap parts parameters costs times s e f) (waits : WaitsSoFar) where
    abbrev one : Moment
    one = moment_of parts parameters s e

    abbrev other : Moment
    other = moment_of parts parameters s f

    two_missing : missing (two_told parts parameters costs times s waits e f) ≡ tell parts (telling times other) (tell parts (telling times one) (missing waits))
    two_missing =
        let then = timed parts costs times one in
        let told = told_at parts parameters costs times s waits e in
        ap (λ (m : Moment). missing (waited parts costs then told m)) (moment_before parts parameters costs times s e f may.are may.first may.second may.apart may.low)
        ∙ (waited_missing then told other
        ∙ (ap (λ (tale : Waited). tells_as other tale (missing told)) (second_told parts parameters costs times s e f may)
        ∙ ap (tell parts (telling times other)) (waited_missing times waits one)))

    back_missing : missing (two_told parts parameters costs times s waits f e) ≡ tell parts (telling times one) (tell parts (telling times other) (missing waits))
    back_missing =
        let then = timed parts costs times other in
        let told = told_at parts parameters costs times s waits f in
        ap (λ (m : Moment). missing (waited parts costs then told m)) (moment_behind parts parameters costs times s e f may.are may.first may.second may.apart may.low)
        ∙ (waited_missing then told one
        ∙ (ap (λ (tale : Waited). tells_as one tale (missing told)) (first_told parts parameters costs times s e f may)
        ∙ ap (tell parts (telling times one)) (waited_missing times waits other)))

    are_apart : AreApart parts (telling times one) (telling times other) (missing waits)
    are_apart =
        let enabled = enabled_before parts parameters s e.event f.event may.first may.second may.apart may.low in
        let back : node_of e.event ≢ node_of f.event = λ same. may.apart (sym same) in
        let leaves = events_apart parts parameters s stands.values stands.sound e.event f.event one.stepped.did may.first enabled in
        let comes = events_apart parts parameters s stands.values stands.sound f.event e.event other.stepped.did enabled may.first in
        record {
          nodes = may.apart;
          first = did_within parts parameters s e.event may.are.slots;
          second = did_within parts parameters s f.event may.are.slots;
          leaves = leaves;
          comes = comes;
          ends = ends_alike parts parameters s e.event f.event one.stepped.did other.stepped.did one.taken waits.trapped may.apart leaves;
          back = ends_alike parts parameters s f.event e.event other.stepped.did one.stepped.did other.taken waits.trapped back comes;
        }

    swaps_missing : AreAlike (missing (two_told parts parameters costs times s waits f e)) (missing (two_told parts parameters costs times s waits e f))
    swaps_missing =
        let alike = tell_apart parts (telling times one) (telling times other) (missing waits) are_apart in
        subst (λ (m : Missing). AreAlike m (missing (two_told parts parameters costs times s waits e f))) (sym back_missing)
        (subst (λ (m : Missing). AreAlike (tell parts (telling times one) (tell parts (telling times other) (missing waits))) m) (sym two_missing)
        (alike_back (tell parts (telling times other) (tell parts (telling times one) (missing waits))) (tell parts (telling times one) (tell parts (telling times other) (missing waits))) alike))

  module _ (some : 1 ≤ parameters.pointers) where
    alike_itself : (m : Missing) → AreAlike m m
    alike_itself m = record { ends = refl; misses = refl; trapped = record { long = refl; lines = λ node line. refl } }

    missing_kept : IsKept parts parameters costs (λ one other. AreAlike (missing one) (missing other)) (IsSound parts parameters)
    missing_kept = record {
      itself = λ waits. alike_itself (missing waits);
      join = λ one two three r t. alike_then (missing one) (missing two) (missing three) r t;
      keeps = λ s entry next stands. record { values = _; sound = step_sound parts parameters some s entry.event next.enabled stands.values stands.sound };
      goes_on = λ times s entry one other are.
          let moment = moment_of parts parameters s entry in
          let on = missing_on parts moment.entry.event moment.stepped.did (happened_of moment).woken (waited_in parts costs times moment) (missing one) (missing other) are in
          subst (λ (m : Missing). AreAlike m (missing (waited parts costs times other moment))) (sym (waited_missing times one moment))
          (subst (λ (m : Missing). AreAlike (tell parts (telling times moment) (missing one)) m) (sym (waited_missing times other moment)) on);
      swaps = λ times s e f waits stands may. swaps_missing times s e f stands may waits;
    }

    -- misses that ended
    pub same_missing : (one other : List Entry) → IsLegal parts parameters one → IsLegal parts parameters other → IsPermutation one other →
        AreAlike (missing (waits_of parts parameters costs one)) (missing (waits_of parts parameters costs other))
    same_missing one other legal also same =
        same_told parts parameters costs (λ u v. AreAlike (missing u) (missing v)) (IsSound parts parameters) missing_kept (λ u v are. alike_back (missing u) (missing v) are)
        (record { values = body_of parts; sound = start_sound_with parts parameters some }) one other legal also same

-- the totals of misses
pub same_ends : (parts : Parts) (parameters : Parameters) (costs : Costs) (one other : List Entry) → IsLegal parts parameters one → IsLegal parts parameters other → IsPermutation one other →
    1 ≤ parameters.pointers → (waits_of parts parameters costs one).ends ≡ (waits_of parts parameters costs other).ends
same_ends parts parameters costs one other legal also same some = (same_missing parts parameters costs some one other legal also same).ends
