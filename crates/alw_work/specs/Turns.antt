-- One turn of a worker at a node: messages come in, the cell takes one step, and messages are given out.
use Rattle.std.specs.Prelude.{◌≡◌, ℕ, zero, suc, ◌≤◌, Bool, true, false, ◌||◌, Result, Ok, Err, Some}
use Rattle.alw_num.specs.declared.memory.NoMemory.{NoMemory}
use Rattle.alw_cells.specs.declared.cells.Stepped.{Stepped}
use Rattle.alw_cells.specs.declared.cells.Stepped.TheVariants.{Did, Idle}
use Rattle.alw_cells.specs.Cells.{Cell}
use Rattle.alw_msg.specs.declared.events.Event.TheVariants.{Instr}
use Rattle.alw_cells.specs.Choice.{picked_event, StepsCell}
use Rattle.alw_work.specs.Works.{is_trap}
use Rattle.alw_work.specs.Seats.{Seat}
use Rattle.alw_work.specs.Ties.{IsSameButCome, IsSameButGiven}

-- whether a step did anything
abbrev pub has_acted : Result Stepped NoMemory → Result Bool NoMemory
has_acted (Ok (Did entry did)) = Ok true
has_acted (Ok Idle) = Ok false
has_acted (Err refused) = Err refused

-- a step was a trapping turn
abbrev pub has_trapped : Result Stepped NoMemory → Bool
has_trapped (Ok (Did entry did)) = is_trap did
has_trapped (Ok Idle) = false
has_trapped (Err refused) = false

-- a cell took one step: the event that a number picks, with its record in the log, or none; a trapping turn is marked
pub record StepsOnce (pick : ℕ) (before : Cell) (was : Bool) (after : Cell) (now : Bool) (result : Result Bool NoMemory) : Type 0 where
  pub answer : Result Stepped NoMemory
  pub steps : StepsCell before pick after answer
  pub told : result ≡ has_acted answer
  pub marked : now ≡ (was || has_trapped answer)

-- number and mark are the same
abbrev pub IsSameButCell : Seat → Seat → Type 0
IsSameButCell before after = (after.number ≡ before.number) × (after.trapped ≡ before.trapped)

-- the cell behind a lock took one step
abbrev pub CellActs : ℕ → Seat → Seat → Result Bool NoMemory → Type 0
CellActs pick before after result = (after.number ≡ before.number) × StepsOnce pick before.cell before.trapped after.cell after.trapped result

-- a turn: messages came into in lists alone, the cell took one step from there, and messages were then given out alone
pub record Turns (pick : ℕ) (before after : Seat) (result : Result Bool NoMemory) : Type 0 where
  pub come : Cell
  pub stepped : Cell
  pub number : after.number ≡ before.number
  pub comes : IsSameButCome before.cell come
  pub steps : StepsOnce pick come before.trapped stepped after.trapped result
  pub gives : IsSameButGiven stepped after.cell

-- each number picks an instruction of a cell
abbrev pub PicksNoOther : Cell → Type 0
PicksNoOther cell = (pick : ℕ) → picked_event cell pick ≡ Some (Instr (record { 0 = cell.node.number }))

-- the cell behind a lock took so many steps in a row, each of an instruction that every number picks, and each was taken
abbrev pub ActsAlone : ℕ → Seat → Seat → Type 0
ActsAlone zero before after = after ≡ before
ActsAlone (suc steps) before after = (between : Seat) × (ActsAlone steps before between × PicksNoOther between.cell × CellActs 0 between after (Ok true))

-- what a run tells behind its last step: how many there were, and nothing else happened; or memory was refused to one more, and all is as it was
abbrev pub EndsRun : ℕ → Seat → Seat → Result ℕ NoMemory → Type 0
EndsRun steps last after (Ok count) = (count ≡ steps) × (after ≡ last)
EndsRun steps last after (Err refused) = (after.number ≡ last.number) × (after.cell ≡ last.cell) × (after.trapped ≡ last.trapped)

-- a run: at most so many such steps, and what it tells behind the last
pub record TakesSteps (most : ℕ) (before after : Seat) (result : Result ℕ NoMemory) : Type 0 where
  pub steps : ℕ
  pub few : steps ≤ most
  pub last : Seat
  pub acts : ActsAlone steps before last
  pub told : EndsRun steps last after result
