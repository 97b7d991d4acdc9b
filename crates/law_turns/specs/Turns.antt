-- Turns on the flat memory, served one after the other by the machine.
use Rattle.std.specs.Prelude.{◌≡◌, ℕ, ◌+◌, ◌*◌, ◌<◌, ◌≤◌, ◌==◌, Bool, true, false, max, fold, map, Some, None, List, [], ◌∷◌, ◌++◌, length}
use Rattle.std.specs.List.{AllByRecursion, flat_map}
use Rattle.sparc_table.specs.declared.outcomes.Outcome.{Outcome}
use Rattle.alw_image.specs.declared.parts.Parts.{Parts}
use Rattle.alw_image.specs.Images.{node_count, IsImage}
use Rattle.alw_image.specs.Parameters.{Parameters, AreParameters}
use Rattle.alw_msg.specs.declared.events.Event.{Event}
use Rattle.alw_msg.specs.declared.events.Event.TheVariants.{Instr, Handle, Deliver, Evict}
use Rattle.alw_msg.specs.declared.events.Entry.{Entry}
use Rattle.alw_msg.specs.Statuses.{has_trapped}
use Rattle.alw_model.specs.Contexts.{slot_at}
use Rattle.alw_model.specs.Headline.{IsScheduled}
use Rattle.alw_model.specs.NodeStates.{NodeState}
use Rattle.alw_model.specs.Machine.{MachineState, machine_start, node_at, after, state, AreLegal, IsLegal, is_settled, end_of, Halted, Trapped}
use Rattle.alw_model.specs.Flat.{AreReady, flat_after, context_at}
use Rattle.alw_model.specs.Runs.{Moment, number_of, moments_from, turn_in, turns_of}
use Rattle.alw_places.specs.Outcomes.{flat_halted}

-- nothing is under way: no message on a link, no packet, and no slot with a hold
pub record IsAtRest (parts : Parts) (machine : MachineState) : Type 0 where
  pub settled : is_settled machine ≡ true
  pub free : (n slot : ℕ) → n < node_count parts → (slot_at (node_at machine n).slots slot).hold ≡ None

-- the greatest clock
abbrev pub greatest_clock : MachineState → ℕ
greatest_clock machine = fold max 0 (map (λ (node : NodeState). node.clock) machine.nodes)

-- the turns of entries from a machine on
abbrev pub turns_from : Parts → Parameters → MachineState → List Entry → List (ℕ × Outcome)
turns_from parts parameters machine journal = flat_map (λ (moment : Moment). turn_in parts (number_of moment) moment.stepped.did) (moments_from parts parameters machine journal)

-- no more events than these are taken for one turn: a miss, what a request brings about, and the turn
abbrev pub turn_events : Parts → ℕ
turn_events parts = 6 * node_count parts + 4

-- an event that serves the turn of a node's one context: an instruction of this node, an action of the handler or a delivery, and no eviction
abbrev pub serves : ℕ → Event → Bool
serves context (Instr at) = at.0 == context
serves context (Handle at) = true
serves context (Deliver from to) = true
serves context (Evict at its) = false

abbrev pub AllServe : ℕ → List Entry → Type 0
AllServe context entries = AllByRecursion (λ (entry : Entry). serves context entry.event ≡ true) entries

-- these entries serve one turn of a context, from a machine at rest to one at rest: the last entry is the turn, and none before it is one
pub record ServesTurn (parts : Parts) (parameters : Parameters) (machine : MachineState) (context : ℕ) (entries : List Entry) : Type 0 where
  pub before : List Entry
  pub last : Entry
  pub all : before ++ last ∷ [] ≡ entries
  pub legal : AreLegal parts parameters machine entries
  pub own : AllServe context entries
  pub none : turns_from parts parameters machine before ≡ []
  pub turn : map (λ (turn : ℕ × Outcome). turn.0) (turns_from parts parameters machine entries) ≡ context ∷ []
  pub rests : IsAtRest parts (after parts parameters machine entries)
  pub clocks : greatest_clock (after parts parameters machine entries) ≤ greatest_clock machine + turn_events parts

-- entries serve these turns one after the other
abbrev pub ServesTurns : Parts → Parameters → MachineState → List ℕ → List Entry → Type 0
ServesTurns parts parameters machine [] entries = entries ≡ []
ServesTurns parts parameters machine (context ∷ rest) entries =
    (first : List Entry) × ((more : List Entry) × ((first ++ more ≡ entries) × (ServesTurn parts parameters machine context first × ServesTurns parts parameters (after parts parameters machine first) rest more)))

-- before the last of these turns no context has trapped on the flat memory
abbrev pub NoneTrapsEarly : Parts → List ℕ → Type 0
NoneTrapsEarly parts turns = (front rest : List ℕ) (next context : ℕ) → front ++ next ∷ rest ≡ turns → has_trapped (context_at (flat_after parts front) context).status ≡ false

-- a legal journal that has exactly these turns, in this order, serves one after the other, and leaves the machine at rest
pub record IsServedRun (parts : Parts) (parameters : Parameters) (turns : List ℕ) (journal : List Entry) : Type 0 where
  pub legal : IsLegal parts parameters journal
  pub taken : turns_of parts parameters journal ≡ turns
  pub served : ServesTurns parts parameters (machine_start parts) turns journal
  pub rests : IsAtRest parts (state parts parameters journal)
  -- all halted on the flat memory, or one trapped: so the run has ended
  pub halted : flat_halted (flat_after parts turns) ≡ true → end_of parts parameters (state parts parameters journal) ≡ Some Halted
  pub trapped : (context : ℕ) → has_trapped (context_at (flat_after parts turns) context).status ≡ true → end_of parts parameters (state parts parameters journal) ≡ Some Trapped
  -- and it hasn't ended before its last entry
  pub scheduled : NoneTrapsEarly parts turns → IsScheduled parts parameters journal

-- the machine runs these turns
pub record RunsTurns (parts : Parts) (parameters : Parameters) (turns : List ℕ) : Type 0 where
  pub journal : List Entry
  pub run : IsServedRun parts parameters turns journal

-- the law: with one context a node, turns of Ready contexts are a run of the machine, where the limit is large enough for them
abbrev pub EveryTurnIsServed : Type 0
EveryTurnIsServed = (parts : Parts) → IsImage parts → parts.contexts ≡ 1 → (parameters : Parameters) → AreParameters parameters → (turns : List ℕ) → AreReady parts turns
    → length turns * turn_events parts ≤ parameters.limit → RunsTurns parts parameters turns
