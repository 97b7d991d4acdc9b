-- Turns that the machine takes until the limit keeps an event back.
use Rattle.std.specs.Prelude.{◌≡◌, ℕ, ◌<◌, ◌≤◌, ◌*◌, true, ◌⊎◌, List, ◌∷◌, ◌++◌, length}
use Rattle.alw_image.specs.declared.parts.Parts.{Parts}
use Rattle.alw_image.specs.Images.{IsImage}
use Rattle.alw_image.specs.Parameters.{Parameters, AreParameters}
use Rattle.alw_msg.specs.declared.events.Event.{Event}
use Rattle.alw_msg.specs.declared.events.Entry.{Entry}
use Rattle.alw_model.specs.Machine.{MachineState, machine_start, state, IsLegal, is_enabled, stamp_at}
use Rattle.alw_model.specs.Flat.{AreReady}
use Rattle.alw_model.specs.Runs.{turns_of}
use Rattle.law_turns.specs.Turns.{turn_events, serves, AllServe, ServesTurns, RunsTurns}

-- an event that serves a context's turn is enabled, and its stamp is above the limit, but not above this
pub record IsKeptBack (parts : Parts) (parameters : Parameters) (machine : MachineState) (context most : ℕ) : Type 0 where
  pub event : Event
  pub own : serves context event ≡ true
  pub enabled : is_enabled parts parameters machine event ≡ true
  pub above : parameters.limit < stamp_at parts machine event
  pub stamp : stamp_at parts machine event ≤ most

-- a legal journal serves the first of these turns and begins the next one, of which the limit keeps an event back
pub record StopsAtLimit (parts : Parts) (parameters : Parameters) (turns : List ℕ) (journal : List Entry) : Type 0 where
  pub front : List ℕ
  pub next : ℕ
  pub left : List ℕ
  pub split : front ++ next ∷ left ≡ turns
  pub legal : IsLegal parts parameters journal
  pub taken : turns_of parts parameters journal ≡ front
  pub first : List Entry
  pub begun : List Entry
  pub all : first ++ begun ≡ journal
  pub served : ServesTurns parts parameters (machine_start parts) front first
  pub own : AllServe next begun
  pub back : IsKeptBack parts parameters (state parts parameters journal) next (length turns * turn_events parts)

-- the machine runs the first of these turns, and then the limit stands against the next one
pub record PassesLimit (parts : Parts) (parameters : Parameters) (turns : List ℕ) : Type 0 where
  pub journal : List Entry
  pub stops : StopsAtLimit parts parameters turns journal

-- with one context a node, turns of Ready contexts are a run of the machine, or the limit alone stands against it
abbrev pub EveryTurnIsServedOrLate : Type 0
EveryTurnIsServedOrLate = (parts : Parts) → IsImage parts → parts.contexts ≡ 1 → (parameters : Parameters) → AreParameters parameters → (turns : List ℕ) → AreReady parts turns → RunsTurns parts parameters turns ⊎ PassesLimit parts parameters turns
