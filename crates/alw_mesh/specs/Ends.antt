-- The main events of a machine that may happen next, those of one node, the end that holds, and where it stays.
use Rattle.std.specs.Prelude.{◌≡◌, ℕ, Bool, true, Option, None, MatchOption, List, ◌∷◌, map, filter}
use Rattle.std.specs.List.{range_with_len}
use Rattle.alw_msg.specs.declared.events.Event.{Event}
use Rattle.alw_msg.specs.declared.events.Event.TheVariants.{Instr, Handle, Deliver}
use Rattle.alw_image.specs.declared.parts.Parts.{Parts}
use Rattle.alw_image.specs.Images.{node_count}
use Rattle.alw_model.specs.declared.ends.Ended.{Ended}
use Rattle.alw_model.specs.Machine.{main_events, end_of}
use Rattle.alw_model.specs.Ends.{IsEnd}
use Rattle.alw_mesh.specs.Histories.{History, may_be_next, state_of, grown, IsRun}

-- the main events that are enabled and within the limit, in the schedule's order
abbrev pub next_events : History → List Event
next_events h = filter (may_be_next h) (main_events h.image)

-- the main events of a node, in that order
abbrev pub node_events : Parts → ℕ → List Event
node_events parts at =
    Instr (record { 0 = at }) ∷ Handle (record { 0 = at }) ∷ map (λ from. Deliver (record { 0 = from }) (record { 0 = at })) (range_with_len 0 (node_count parts))

-- the end that holds, or None where a machine goes on
abbrev pub Ends : History → Option Ended → Type 0
Ends h result = MatchOption result (end_of h.image h.parameters (state_of h) ≡ None) (λ ended. IsEnd h.image h.parameters h.journal ended)

-- the end that holds after is the one before, or none as before
abbrev pub EndStays : History → History → Type 0
EndStays before after = end_of after.image after.parameters (state_of after) ≡ end_of before.image before.parameters (state_of before)

-- an event has happened; and where it is known to have been a quiet turn within the limit, the end stays
pub record HasPassed (before : History) (event : Event) (after : History) (quiet : Bool) : Type 0 where
  pub after_is : after ≡ grown before event
  pub run : IsRun after
  pub stays : quiet ≡ true → EndStays before after
