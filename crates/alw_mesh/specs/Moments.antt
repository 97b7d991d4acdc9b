-- An event that has happened to a machine, as a moment of its run.
use Rattle.std.specs.Prelude.{◌≡◌, Result, Ok, Err}
use Rattle.alw_num.specs.declared.memory.NoMemory.{NoMemory}
use Rattle.alw_msg.specs.declared.events.Event.{Event}
use Rattle.alw_model.specs.Runs as runs
use Rattle.alw_tally.specs.declared.moments.Moment.{Moment}
use Rattle.alw_mesh.specs.Histories.{History, state_of, entry_of, last_sends}
use Rattle.alw_mesh.specs.Ends.{HasPassed}

-- the moment of a machine's run that an event is, where it comes next
abbrev pub moment_in : History → Event → runs.Moment
moment_in h event = runs.moment_of h.image h.parameters (state_of h) (entry_of h event)

-- what is known of an event that has happened is its moment of the run, but for the node before it
pub record IsMomentOf (before : History) (event : Event) (after : History) (moment : Moment) : Type 0 where
  pub entry : moment.entry ≡ (moment_in before event).entry
  pub taken : moment.taken ≡ (moment_in before event).taken
  pub did : moment.did ≡ (moment_in before event).stepped.did
  pub sends : last_sends after ≡ (moment_in before event).stepped.sends

-- what taking an event that may be next leaves and answers: it has happened, and its moment is that of the run; or memory was refused, and all is as it was
abbrev pub Takes : History → Event → History → Result Moment NoMemory → Type 0
Takes before event after (Ok moment) = HasPassed before event after moment.quiet × IsMomentOf before event after moment
Takes before event after (Err refused) = after ≡ before
