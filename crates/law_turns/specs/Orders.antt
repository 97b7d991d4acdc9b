-- Turns that are served whatever order deliveries and actions of the handler come in.
use Rattle.std.specs.Prelude.{◌≡◌, ℕ, ◌+◌, ◌*◌, ◌≤◌, Bool, true, false, List, [], ◌∷◌, ◌++◌, length}
use Rattle.std.specs.List.{AllByRecursion}
use Rattle.alw_image.specs.declared.parts.Parts.{Parts}
use Rattle.alw_image.specs.Images.{node_count, IsImage}
use Rattle.alw_image.specs.Parameters.{Parameters, AreParameters}
use Rattle.alw_msg.specs.declared.events.Event.{Event}
use Rattle.alw_msg.specs.declared.events.Event.TheVariants.{Instr, Handle, Deliver}
use Rattle.alw_msg.specs.declared.events.Entry.{Entry}
use Rattle.alw_model.specs.Machine.{MachineState, state, after, IsNext, AreLegal, IsLegal, is_enabled, is_settled, stamp_at}
use Rattle.law_turns.specs.Turns.{IsAtRest, greatest_clock, turns_from, ServesTurn}

-- a delivery, or an action of the handler
abbrev pub is_quiet : Event → Bool
is_quiet (Handle at) = true
is_quiet (Deliver from to) = true
is_quiet _ = false

abbrev pub AllQuiet : List Entry → Type 0
AllQuiet entries = AllByRecursion (λ (entry : Entry). is_quiet entry.event ≡ true) entries

-- an instruction of a context, and then deliveries and actions of the handler alone
abbrev pub BeginsTurn : ℕ → List Entry → Type 0
BeginsTurn context [] = ⊥
BeginsTurn context (entry ∷ rest) = (entry.event ≡ Instr (record { 0 = context })) × AllQuiet rest

-- the entry of an event
abbrev pub entry_for : Parts → MachineState → Event → Entry
entry_for parts machine event = record { event = event; stamp = stamp_at parts machine event }

-- a delivery or an action of the handler is enabled
pub record HasQuiet (parts : Parts) (parameters : Parameters) (machine : MachineState) : Type 0 where
  pub event : Event
  pub quiet : is_quiet event ≡ true
  pub enabled : is_enabled parts parameters machine event ≡ true

-- a context's instruction is enabled, and where it may come next it is the turn that entries were begun for
pub record EndsTurn (parts : Parts) (parameters : Parameters) (machine : MachineState) (context : ℕ) (begun : List Entry) : Type 0 where
  pub enabled : is_enabled parts parameters (after parts parameters machine begun) (Instr (record { 0 = context })) ≡ true
  pub serves : IsNext parts parameters (after parts parameters machine begun) (entry_for parts (after parts parameters machine begun) (Instr (record { 0 = context })))
      → ServesTurn parts parameters machine context (begun ++ entry_for parts (after parts parameters machine begun) (Instr (record { 0 = context })) ∷ [])

-- entries that begin a context's turn are few, and no clock rises by more; while anything is on its way one more may come, and then the turn
pub record GoesToTurn (parts : Parts) (parameters : Parameters) (machine : MachineState) (context : ℕ) (begun : List Entry) : Type 0 where
  pub few : length begun ≤ 6 * node_count parts + 3
  pub clocks : greatest_clock (after parts parameters machine begun) ≤ greatest_clock machine + length begun
  pub moves : is_settled (after parts parameters machine begun) ≡ false → HasQuiet parts parameters (after parts parameters machine begun)
  pub turn : is_settled (after parts parameters machine begun) ≡ true → EndsTurn parts parameters machine context begun

-- the law: with one context a node, a context that misses in a machine at rest comes to its turn, whatever order they come in
abbrev pub EveryOrderServes : Type 0
EveryOrderServes = (parts : Parts) → IsImage parts → parts.contexts ≡ 1 → (parameters : Parameters) → AreParameters parameters → (journal : List Entry) → IsLegal parts parameters journal → IsAtRest parts (state parts parameters journal)
    → (context : ℕ) → (begun : List Entry) → BeginsTurn context begun → AreLegal parts parameters (state parts parameters journal) begun → turns_from parts parameters (state parts parameters journal) begun ≡ []
    → GoesToTurn parts parameters (state parts parameters journal) context begun
