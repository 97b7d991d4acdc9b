-- A tally: what it tells, and room for events to come.
use Rattle.std.specs.Prelude.{ℕ, ◌+◌, ◌*◌, ◌<◌, ◌≤◌, ◌^◌, false, List, ◌++◌, length}
use Rattle.alw_msg.specs.declared.messages.Msg.{Msg}
use Rattle.alw_msg.specs.Events.{node_of}
use Rattle.alw_image.specs.declared.parts.Parts.{Parts}
use Rattle.alw_model.specs.Runs.{turn_in}
use Rattle.alw_tally.specs.declared.moments.Moment.{Moment}
use Rattle.alw_tally.specs.Told.{Told, contexts_of, words_printed, sum_of}
use Rattle.alw_tally.specs.Counted.{counts_of_event, CountsAreAtMost}

-- what a tally tells, and the number of events that it can be told of without memory
pub record Tallied : Type 0 where
  pub told : Told
  pub room : ℕ

-- an event is one entry, at most one turn with one print, and at most 2^25 of anything else that is counted: 256 messages of less than 2^17 hops each
pub record EventIsWithin (told : Told) : Type 0 where
  pub entries : told.counts.entries < 2 ^ 32
  pub turns : length told.turns ≤ told.counts.entries
  pub prints : length told.prints ≤ told.counts.entries
  pub counts : CountsAreAtMost (2 ^ 25 * told.counts.entries) told.counts

-- room for so many events: for the entry, the turn and the print of each
abbrev pub HasRoomForEvents : ℕ → ℕ → ℕ → ℕ → Type 0
HasRoomForEvents entries turns prints room = (entries + room < 2 ^ 32) × (room ≤ turns) × (room ≤ prints)

-- what is told with one event more, by what it did, took and sent; where it trapped isn't, and it doesn't count as having ended a hold
abbrev pub told_logged : Parts → Told → Moment → List (ℕ × Msg) → Told
told_logged parts told moment sends = record told {
  turns = told.turns ++ contexts_of (turn_in parts (node_of moment.entry.event) moment.did);
  prints = told.prints ++ words_printed (turn_in parts (node_of moment.entry.event) moment.did);
  counts = sum_of told.counts (counts_of_event parts moment false sends);
}
