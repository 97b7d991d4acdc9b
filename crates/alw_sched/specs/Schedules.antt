-- The schedule of a seed: the event that a drawn number picks, and the run that the draws make up to an end.
use Rattle.std.specs.Prelude.{◌≡◌, ℕ, ◌/◌, ◌%◌, ◌^◌, Bool, cond, not, ◌&&◌, nat_lt, Option, None, Some, Result, Ok, Err, List, [], ◌∷◌, length, slice_get}
use Rattle.alw_num.specs.declared.memory.NoMemory.{NoMemory}
use Rattle.alw_msg.specs.declared.events.Event.{Event}
use Rattle.alw_msg.specs.declared.events.Event.TheVariants.{Evict}
use Rattle.alw_msg.specs.declared.events.Entry.{Entry}
use Rattle.alw_image.specs.declared.parts.Parts.{Parts}
use Rattle.alw_image.specs.Images.{node_count}
use Rattle.alw_image.specs.Parameters.{Parameters}
use Rattle.alw_model.specs.declared.ends.Ended.{Ended}
use Rattle.alw_model.specs.Contexts.{all_halted}
use Rattle.alw_model.specs.Machine.{End, end_of, node_at}
use Rattle.alw_model.specs.Ends.{IsEnd}
use Rattle.alw_mesh.specs.Histories.{History, begun, state_of, may_be_next, grown, IsRun}
use Rattle.alw_mesh.specs.Ends.{next_events}
use Rattle.alw_num.specs.Draws.{drawn, drawn_number}

-- the end that holds
abbrev pub end_in : History → Option End
end_in h = end_of h.image h.parameters (state_of h)

-- ---- what a drawn number picks

-- the node and the set of the eviction that a number asks for
abbrev pub asked_node : History → ℕ → ℕ
asked_node h number = number / 2 ^ 8 % node_count h.image

abbrev pub asked_set : History → ℕ → ℕ
asked_set h number = number / 2 ^ 16 % h.parameters.sets

abbrev pub asked_eviction : History → ℕ → Event
asked_eviction h number = Evict (record { 0 = asked_node h number }) (asked_set h number)

-- it is made where the number's low byte says so, some context of the node hasn't halted, and the eviction is enabled and within the limit
abbrev pub is_evicted : History → ℕ → Bool
is_evicted h number =
    nat_lt (number % 256) h.parameters.evict && (not (all_halted (node_at (state_of h) (asked_node h number)).slots) && may_be_next h (asked_eviction h number))

-- and else a number r picks number r mod m of the m main events that are enabled within the limit
abbrev pub picked : History → ℕ → Option Event
picked h number = cond (is_evicted h number) (Some (asked_eviction h number)) (slice_get (next_events h) (number % length (next_events h)))

-- ---- the run of a seed

-- an event is drawn next: no end holds, and the number drawn picks it
pub record EventIsDrawn (h : History) (x : ℕ) (event : Event) : Type 0 where
  pub going : end_in h ≡ None
  pub pick : picked h (drawn_number (drawn x)) ≡ Some event

-- events are drawn, one after another, from a machine and a state of the draws on, and leave a machine and a state of the draws
abbrev pub EventsAreDrawn : History → ℕ → List Event → History → ℕ → Type 0
EventsAreDrawn h x [] after y = (h ≡ after) × (x ≡ y)
EventsAreDrawn h x (event ∷ rest) after y = EventIsDrawn h x event × EventsAreDrawn (grown h event) (drawn x) rest after y

-- a seed takes a machine to another
pub record MachineIsSeeded (before : History) (seed : ℕ) (after : History) : Type 0 where
  pub events : List Event
  pub last : ℕ
  pub drawn_are : EventsAreDrawn before seed events after last

-- a journal is what a seed makes of an image from its start on
abbrev pub IsSeededRun : Parts → Parameters → ℕ → List Entry → Type 0
IsSeededRun image parameters seed journal = MachineIsSeeded (begun image parameters) seed (record { image = image; parameters = parameters; journal = journal; joined = 0 })

-- a seed has taken a machine to an end
pub record RunIsFinished (before : History) (seed : ℕ) (after : History) (ended : Ended) : Type 0 where
  pub seeded : MachineIsSeeded before seed after
  pub run : IsRun after
  pub end : IsEnd after.image after.parameters after.journal ended

-- what the schedule of a seed leaves and answers: an end; or memory was refused before one
abbrev pub Finishes : History → ℕ → History → Result Ended NoMemory → Type 0
Finishes before seed after (Ok ended) = RunIsFinished before seed after ended
Finishes before seed after (Err e) = MachineIsSeeded before seed after
