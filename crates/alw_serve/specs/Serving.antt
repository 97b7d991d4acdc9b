-- What it is to take turns one after the other on a machine, and what stands against one.
use Rattle.std.specs.Prelude.{◌≡◌, ◌≢◌, ℕ, ◌+◌, ◌/◌, ◌%◌, ◌<◌, ◌≤◌, ◌⊎◌, Bool, true, false, Option, Some, None, Result, Ok, Err, List, [], ◌∷◌, ◌++◌, find, length, take, slice_get}
use Rattle.std.specs.List.{AllByRecursion}
use Rattle.alw_num.specs.declared.memory.NoMemory.{NoMemory}
use Rattle.alw_msg.specs.declared.events.Event.TheVariants.{Instr}
use Rattle.alw_msg.specs.declared.events.Entry.{Entry}
use Rattle.alw_msg.specs.Events.{is_evict}
use Rattle.alw_msg.specs.Statuses.{is_ready, has_trapped}
use Rattle.alw_image.specs.declared.parts.Parts.{Parts}
use Rattle.alw_image.specs.Images.{context_count}
use Rattle.alw_image.specs.Parameters.{Parameters}
use Rattle.alw_model.specs.Contexts.{running}
use Rattle.alw_model.specs.declared.ends.Ended.{Ended}
use Rattle.alw_model.specs.Ends.{IsEnd}
use Rattle.alw_model.specs.Machine.{Halted, Trapped, is_settled, end_of}
use Rattle.alw_places.specs.Outcomes.{flat_halted}
use Rattle.alw_model.specs.Flat.{AreReady, flat_after, context_at}
use Rattle.alw_mesh.specs.declared.errors.FitErr.{FitErr}
use Rattle.alw_mesh.specs.declared.errors.FitErr.TheVariants as fits
use Rattle.alw_mesh.specs.Limits.{most_steps}
use Rattle.alw_mesh.specs.Histories.{History, IsRun, state_of, stamps_of, may_be_next}
use Rattle.alw_mesh.specs.Ends.{next_events}
use Rattle.alw_mesh.specs.Readings.{node_in, slot_of, turns_in, flat_in}
use Rattle.law_turns.specs.Turns.{AllServe, IsAtRest, greatest_clock, turn_events, NoneTrapsEarly, ServesTurn, IsServedRun}
use Rattle.law_turns.specs.Limits.{IsKeptBack, StopsAtLimit}
use Rattle.law_turns.specs.Orders.{is_quiet, AllQuiet}
use Rattle.alw_serve.specs.declared.errors.Hindrance.{Hindrance}
use Rattle.alw_serve.specs.declared.errors.Hindrance.TheVariants.{NotReady, NotCurrent, AboveLimit}
use Rattle.alw_serve.specs.declared.errors.ServeErr.{ServeErr}
use Rattle.alw_serve.specs.declared.serving.Served.{Served}
use Rattle.alw_serve.specs.declared.errors.ServeErr.TheVariants as errors

-- a refusal of a machine's start, as one of turns
abbrev pub err_of : FitErr → ServeErr
err_of (fits.DoesNotFit number most) = errors.DoesNotFit number most
err_of fits.NoMemory = errors.NoMemory

-- a machine with more entries
abbrev pub with_more : History → List Entry → History
with_more h more = record h { journal = h.journal ++ more }

-- ---- what turns are taken by

-- a machine's journal serves turns from the start of an image: exactly these, in this order, none of which comes behind a trap; and with one
-- context a node it serves one after the other, and stops nowhere before its last entry
pub record HasTaken (image : Parts) (parameters : Parameters) (turns : List ℕ) (machine : History) : Type 0 where
  pub begun : machine ≡ record { image = image; parameters = parameters; journal = machine.journal; joined = 0 }
  pub run : IsRun machine
  pub taken : turns_in machine ≡ turns
  pub evicts : AllByRecursion (λ (entry : Entry). is_evict entry.event ≡ false) machine.journal
  pub early : NoneTrapsEarly image turns
  pub ended : (end_of image parameters (state_of machine) ≡ Some Halted) ⊎ (end_of image parameters (state_of machine) ≡ Some Trapped)
  pub served : image.contexts ≡ 1 → IsServedRun image parameters turns machine.journal

-- on the flat memory a context isn't Ready behind turns, or one has trapped
abbrev pub IsNotReady : Parts → List ℕ → ℕ → Type 0
IsNotReady image turns context = (is_ready (context_at (flat_after image turns) context).status ≡ false) ⊎ ((other : ℕ) × (has_trapped (context_at (flat_after image turns) other).status ≡ true))

-- a legal journal serves the turns before one, and the limit keeps an event of this one back
pub record LimitStands (image : Parts) (parameters : Parameters) (turns : List ℕ) (turn : ℕ) : Type 0 where
  pub journal : List Entry
  pub stops : StopsAtLimit image parameters turns journal
  pub front : stops.front ≡ take turn turns
  pub ready : AreReady image (stops.front ++ stops.next ∷ [])

-- what stands against the turn with this number: of one context a node it isn't Ready on the flat memory, or the limit stands against it; of
-- several another slot of the node may run before it
abbrev pub StandsAgainst : Parts → Parameters → List ℕ → ℕ → Hindrance → Type 0
StandsAgainst image parameters turns turn NotReady = image.contexts ≡ 1 → (context : ℕ) → slice_get turns turn ≡ Some context → IsNotReady image (take turn turns) context
StandsAgainst image parameters turns turn NotCurrent = image.contexts ≢ 1
StandsAgainst image parameters turns turn AboveLimit = image.contexts ≡ 1 → LimitStands image parameters turns turn

-- behind turns the flat memory is at no end: with one context a node neither have all contexts halted, nor has one trapped
abbrev pub IsUnfinished : Parts → Parameters → List ℕ → Type 0
IsUnfinished image parameters turns = image.contexts ≡ 1 → (flat_halted (flat_after image turns) ≡ false) × ((context : ℕ) → has_trapped (context_at (flat_after image turns) context).status ≡ false)

-- what is answered: the machine that has taken the turns, with the end that holds behind them, or why there is none
abbrev pub Serves : Parts → Parameters → List ℕ → Result Served ServeErr → Type 0
Serves image parameters turns (Ok served) =
    HasTaken image parameters turns served.machine × IsEnd served.machine.image served.machine.parameters served.machine.journal served.ended × (stamps_of image parameters ≤ most_steps)
Serves image parameters turns (Err (errors.DoesNotFit number most)) = (most_steps < number) × (number ≡ stamps_of image parameters) × (most ≡ most_steps)
Serves image parameters turns (Err (errors.NotTaken turn why)) = (turn < length turns) × StandsAgainst image parameters turns turn why
Serves image parameters turns (Err errors.NotFinished) = IsUnfinished image parameters turns
Serves image parameters turns (Err errors.NoMemory) = stamps_of image parameters ≤ most_steps

-- ---- turn by turn

-- a machine before the first event, of the image and under the parameters that it has
abbrev pub HasBegun : History → Type 0
HasBegun h = h ≡ record { image = h.image; parameters = h.parameters; journal = []; joined = 0 }

-- what turns leave and answer: all were taken, and the machine is at an end; or one wasn't, or no end holds behind them
abbrev pub TakesTurns : History → List ℕ → History → Result Ended ServeErr → Type 0
TakesTurns before turns after (Ok ended) = HasTaken before.image before.parameters turns after × IsEnd after.image after.parameters after.journal ended
TakesTurns before turns after (Err (errors.NotTaken turn why)) = (turn < length turns) × StandsAgainst before.image before.parameters turns turn why
TakesTurns before turns after (Err errors.NotFinished) = IsUnfinished before.image before.parameters turns
TakesTurns before turns after (Err (errors.DoesNotFit number most)) = ⊥
TakesTurns before turns after (Err errors.NoMemory) = Unit {0}

-- all contexts have halted and nothing is on its way, or one has trapped; or neither
abbrev pub IsOver : History → Bool → Type 0
IsOver h true = (end_of h.image h.parameters (state_of h) ≡ Some Halted) ⊎ (end_of h.image h.parameters (state_of h) ≡ Some Trapped)
IsOver h false = (end_of h.image h.parameters (state_of h) ≡ Some Halted → ⊥) × (end_of h.image h.parameters (state_of h) ≡ Some Trapped → ⊥)

-- entries that are of one turn of a context: of its node's instructions, or deliveries or actions of the handler; with them these turns are taken
pub record GoesOnBy (before : History) (context : ℕ) (taken : List ℕ) (after : History) (more : List Entry) : Type 0 where
  pub after_is : after ≡ with_more before more
  pub own : AllServe (context / before.image.contexts) more
  pub turns : turns_in after ≡ turns_in before ++ taken

-- a turn was taken, before which no context had trapped; with one context a node it was served
pub record TurnIsTaken (before : History) (context : ℕ) (after : History) : Type 0 where
  pub more : List Entry
  pub goes : GoesOnBy before context (context ∷ []) after more
  pub run : IsRun after
  pub calm : (other : ℕ) → has_trapped (context_at (flat_in before) other).status ≡ false
  pub served : before.image.contexts ≡ 1 → IsAtRest before.image (state_of before) → ServesTurn before.image before.parameters (state_of before) context more

-- the limit keeps an event of a context's turn back
pub record TurnIsLate (before : History) (context : ℕ) (after : History) : Type 0 where
  pub ready : is_ready (context_at (flat_in before) context).status ≡ true
  pub back : IsKeptBack before.image before.parameters (state_of after) context (greatest_clock (state_of before) + turn_events before.image)

-- why a turn wasn't taken
abbrev pub IsHindered : History → ℕ → History → Hindrance → Type 0
IsHindered before context after NotReady = before.image.contexts ≡ 1 → IsAtRest before.image (state_of before) → IsNotReady before.image (turns_in before) context
IsHindered before context after NotCurrent = before.image.contexts ≢ 1
IsHindered before context after AboveLimit = before.image.contexts ≡ 1 → IsAtRest before.image (state_of before) → TurnIsLate before context after

pub record TurnIsHindered (before : History) (context : ℕ) (after : History) (why : Hindrance) : Type 0 where
  pub more : List Entry
  pub goes : GoesOnBy before context [] after more
  pub run : IsRun after
  pub stands : IsHindered before context after why

abbrev pub TakesTurn : History → ℕ → History → Result (Option Hindrance) NoMemory → Type 0
TakesTurn before context after (Ok None) = TurnIsTaken before context after
TakesTurn before context after (Ok (Some why)) = TurnIsHindered before context after why
TakesTurn before context after (Err refused) = Unit {0}

-- ---- event by event

-- a context's instruction may be next: it is Ready and runs next, and no context has trapped
pub record MayGo (h : History) (context : ℕ) : Type 0 where
  pub here : context < context_count h.image
  pub ready : is_ready (slot_of h context).status ≡ true
  pub flat : is_ready (context_at (flat_in h) context).status ≡ true
  pub runs : running (node_in h (context / h.image.contexts)).slots (node_in h (context / h.image.contexts)).current ≡ Some (context % h.image.contexts)
  pub may : may_be_next h (Instr (record { 0 = context / h.image.contexts })) ≡ true
  pub calm : (other : ℕ) → has_trapped (context_at (flat_in h) other).status ≡ false

-- it is Ready and may not be next
pub record IsLate (h : History) (context : ℕ) : Type 0 where
  pub here : context < context_count h.image
  pub ready : is_ready (slot_of h context).status ≡ true
  pub flat : is_ready (context_at (flat_in h) context).status ≡ true
  pub not : may_be_next h (Instr (record { 0 = context / h.image.contexts })) ≡ false

-- what stands against it
abbrev pub Hinders : History → ℕ → Option Hindrance → Type 0
Hinders h context None = MayGo h context
Hinders h context (Some NotReady) = h.image.contexts ≡ 1 → is_settled (state_of h) ≡ true → IsNotReady h.image (turns_in h) context
Hinders h context (Some NotCurrent) = h.image.contexts ≢ 1
Hinders h context (Some AboveLimit) = IsLate h context

-- deliveries and actions of the handler were taken, until nothing is on its way, or none may be next any more
pub record HasSettled (before after : History) (settled : Bool) : Type 0 where
  pub more : List Entry
  pub after_is : after ≡ with_more before more
  pub run : IsRun after
  pub quiet : AllQuiet more
  pub is : is_settled (state_of after) ≡ settled
  pub none : settled ≡ false → find is_quiet (next_events after) ≡ None

abbrev pub Settles : History → History → Result Bool NoMemory → Type 0
Settles before after (Ok settled) = HasSettled before after settled
Settles before after (Err refused) = Unit {0}
