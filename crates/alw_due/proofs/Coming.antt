-- While no end holds an event is due, and the first of all that are due is the one that comes next.
use Rattle.std.proofs.Common.{◌≡◌, Bool, true, false, not, ◌||◌, Some, None, refl}
use Rattle.alw_msg.specs.declared.events.Event.{Event}
use Rattle.alw_msg.specs.declared.events.Event.TheVariants.{Instr, Handle, Deliver, Evict}
use Rattle.alw_mesh.specs.Histories.{History, may_be_next}
use Rattle.alw_mesh.specs.Ends.{next_events}
use Rattle.alw_times.specs.declared.costs.Costs.{Costs}
use Rattle.alw_times.specs.Times.{Times, queue_at, is_later}
use Rattle.alw_sched.proofs.Picking.{some_event}
use Rattle.alw_due.specs.declared.keys.Due.{Due}
use Rattle.alw_due.specs.Due.{end_in, start_for, is_due_for, IsFirstDue}
use Rattle.alw_due.specs.Picks.{IsBestOf}
use Rattle.alw_due.proofs.Mains.{in_next}
use Rattle.alw_due.proofs.Members.{IsIn, kept, of_kept, some_in}

module _ (h : History) (costs : Costs) (times : Times) where
  -- an instruction that isn't due leaves the handler of its node, which is
  some_due : (event : Event) → IsIn (next_events h) event → (b : Bool) → is_due_for h costs times event ≡ b → (other : Event) × (IsIn (next_events h) other × (is_due_for h costs times other ≡ true))
  some_due event within true is = (event, (within, is))
  some_due (Instr at) within false is =
      let may = handler_may (may_be_next h (Handle at)) (is_later (queue_at times.packets at.0) (start_for h costs times (Instr at))) is in
      (Handle at, (in_next h (Handle at) refl may, refl))
    where
      handler_may : (may later : Bool) → (not may || later) ≡ false → may ≡ true
      handler_may true later none = refl
      handler_may false later none = absurd (cc)
  some_due (Handle at) within false is = absurd (cc)
  some_due (Deliver from to) within false is = absurd (cc)
  some_due (Evict at set) within false is = absurd (cc)

  -- while no end holds an event is due
  pub never_none : (In : Event → Type 0) → ((e : Event) → IsIn (next_events h) e → In e) → end_in h ≡ None → IsBestOf h costs times In None → ⊥
  never_none In have going best =
      let some = some_in (next_events h) (some_event h going) in
      let due = some_due some.0 some.1 (is_due_for h costs times some.0) refl in
      best.first due.0 (have due.0 due.1.0) due.1.1

  -- what is the first of all that are due
  pub first_is : (In : Event → Type 0) (due : Due) → ((e : Event) → In e → IsIn (next_events h) e) → ((e : Event) → IsIn (next_events h) e → In e) → IsBestOf h costs times In (Some due) →
      IsFirstDue h costs times due.event
  first_is In due are have best =
      let there = kept (is_due_for h costs times) (next_events h) due.event (are due.event best.one.1) best.one.0.due_is in
      record {
        place = there.place;
        stands = there.stands;
        first = λ k other got. let member = of_kept (is_due_for h costs times) (next_events h) other (record { place = k; stands = got }) in
            best.first other (have other member.0) member.1;
      }
