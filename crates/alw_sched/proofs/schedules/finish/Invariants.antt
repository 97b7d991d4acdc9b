-- The events so far are drawn from the seed, and behind a quiet turn no end holds; no machine's journal has 2^32 entries.
use Rattle.std.proofs.Common.{◌≡◌, true, None, ◌-◌, List, length}
use Rattle.alw_msg.specs.declared.events.Event.{Event}
use Rattle.alw_sched.specs.Schedules.{end_in, EventsAreDrawn}
use Rattle.alw_sched.proofs.schedules.finish.Given as goal

abbrev pub invariant-loop-is_quiet : goal.invariant-loop-is_quiet
invariant-loop-is_quiet l = record {
  events : List Event;
  drawn_are : EventsAreDrawn l.fn.machine l.fn.seed events l.machine l.draws.state;
  going : l.is_quiet ≡ true → end_in l.machine ≡ None;
}

abbrev pub decreases-loop-is_quiet : goal.decreases-loop-is_quiet
decreases-loop-is_quiet l = 4294967296 - length l.machine.journal
