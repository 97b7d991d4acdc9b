-- The protocol of one line as a machine of its own: the line's full-map entry, what each node has of the line, and the five events that touch them.
use Rattle.std.specs.Prelude.{◌≡◌, ℕ, ◌<◌, Bool, true, false, cond, ◌==◌, Option, Some, None, List, [], ◌∷◌, ◌++◌}
use Rattle.alw_num.specs.declared.addresses.Line.{Line}
use Rattle.alw_num.specs.declared.states.Mode.{Mode}
use Rattle.alw_num.specs.declared.states.Mode.TheVariants.{Read, Write}
use Rattle.alw_msg.specs.Contents.{ToMemory, REPM, ACKC, ToCache, RDATA, WDATA, INV, BUSY}
use Rattle.alw_model.specs.FullMap.{Home, Sends, home_start, act}
use Rattle.alw_model.specs.Caches.{grants, inv_answer, request}
use Rattle.alw_model.specs.Lines.{LineState, absent, LineNode}

-- a node opens a transaction, stores a value in its copy, gives up its copy, or receives the message in front of its `down`; the home acts on the message in front of a node's `up`
pub data LineEvent : Type 0 where
  Opens : ℕ → Mode → LineEvent
  Stores : ℕ → Line → LineEvent
  Leaves : ℕ → LineEvent
  Comes : ℕ → LineEvent
  Acts : ℕ → LineEvent

-- the start: the home has the line's first value, and no node has anything of the line
abbrev pub start : Line → LineState
start body = record { home = home_start body; node = λ i. absent }

-- ---- what an event makes of a node's part

-- a transaction is opened, and its request is sent
abbrev pub opened : LineNode → Mode → LineNode
opened v mode = record v { transaction = Some mode; up = v.up ++ request mode ∷ [] }

-- a value is stored in the copy, which is Read-Write
abbrev pub stored : LineNode → Line → LineNode
stored v body = record v { copy = Some (Write, body) }

-- what is sent where a copy is given up: REPM from a Read-Write one
abbrev pub given_up : Option (Mode × Line) → List ToMemory
given_up None = []
given_up (Some copy) = given copy.0 copy.1
  where
    given : Mode → Line → List ToMemory
    given Write body = REPM body ∷ []
    given Read body = []

-- the copy is given up
abbrev pub left : LineNode → LineNode
left v = record v { copy = None; up = v.up ++ given_up v.copy }

-- the answer to an INV
abbrev pub answer : Option (Mode × Line) → ToMemory
answer None = ACKC
answer (Some copy) = inv_answer copy.0 copy.1

-- the front message of `down`, given `down`, has been received: RDATA and WDATA end the transaction and bring a copy, BUSY ends the transaction, and an INV takes the copy and is answered
abbrev pub received : LineNode → List ToCache → LineNode
received v [] = v
received v (RDATA body ∷ rest) = record v { copy = Some (Read, body); transaction = None; down = rest }
received v (WDATA body ∷ rest) = record v { copy = Some (Write, body); transaction = None; down = rest }
received v (BUSY ∷ rest) = record v { transaction = None; down = rest }
received v (INV ∷ rest) = record v { copy = None; up = v.up ++ answer v.copy ∷ []; down = rest }

-- messages have been sent to the node
abbrev pub receives : LineNode → List ToCache → LineNode
receives v messages = record v { down = v.down ++ messages }

-- the home has taken the front message, which leaves the rest
abbrev pub taken_from : LineNode → List ToMemory → LineNode
taken_from v rest = record v { up = rest }

-- ---- what an event makes of the line

-- the messages that are for a node, in order
abbrev pub sent_to : ℕ → Sends → List ToCache
sent_to k [] = []
sent_to k (x ∷ xs) = cond (k == x.0) (x.1 ∷ sent_to k xs) (sent_to k xs)

-- one node's part changes
abbrev pub changed : LineState → ℕ → LineNode → LineState
changed s i v = record s { node = λ k. cond (k == i) v (s.node k) }

-- the home has acted on a message of a node, with what that leaves of its entry and what it sends
abbrev pub acted : LineState → ℕ → List ToMemory → Home × Sends → LineState
acted s i rest after = record {
  home = after.0;
  node = λ k. receives (cond (k == i) (taken_from (s.node i) rest) (s.node k)) (sent_to k after.1);
}

-- the home acts on the front message of a node's `up`, given `up`, as a full-map entry
abbrev pub acts : LineState → ℕ → List ToMemory → LineState
acts s i [] = s
acts s i (message ∷ rest) = acted s i rest (act s.home i message)

-- the line after an event; where there is no message to receive or to act on, nothing happens
abbrev pub step : LineState → LineEvent → LineState
step s (Opens i mode) = changed s i (opened (s.node i) mode)
step s (Stores i body) = changed s i (stored (s.node i) body)
step s (Leaves i) = changed s i (left (s.node i))
step s (Comes i) = changed s i (received (s.node i) (s.node i).down)
step s (Acts i) = acts s i (s.node i).up

-- ---- runs

-- a copy grants an access in a mode
abbrev pub is_granted : Mode → Option (Mode × Line) → Bool
is_granted mode None = false
is_granted mode (Some copy) = grants copy.0 mode

-- an event is legal among n nodes: a transaction is opened by a node that has none and whose copy doesn't grant its mode, and a value is stored in a copy that grants to write
abbrev pub IsLegal : ℕ → LineState → LineEvent → Type 0
IsLegal n s (Opens i mode) = (i < n) × ((s.node i).transaction ≡ None) × (is_granted mode (s.node i).copy ≡ false)
IsLegal n s (Stores i body) = (i < n) × (is_granted Write (s.node i).copy ≡ true)
IsLegal n s (Leaves i) = i < n
IsLegal n s (Comes i) = i < n
IsLegal n s (Acts i) = i < n

-- the line after events
abbrev pub run : LineState → List LineEvent → LineState
run s [] = s
run s (e ∷ es) = run (step s e) es

-- each of the events is legal where it comes
abbrev pub IsLegalRun : ℕ → LineState → List LineEvent → Type 0
IsLegalRun n s [] = Unit {0}
IsLegalRun n s (e ∷ es) = IsLegal n s e × IsLegalRun n (step s e) es

-- the line's value after an event, by what it was before
abbrev pub value_after : Line → LineEvent → Line
value_after value (Stores i body) = body
value_after value _ = value

-- the value that the last store of a run left, or the first value
abbrev pub last_stored : Line → List LineEvent → Line
last_stored value [] = value
last_stored value (e ∷ es) = last_stored (value_after value e) es

-- a fact of n nodes, a value and a line holds after every legal run from every start, with the value that was stored last
abbrev pub AfterEveryRun : (ℕ → Line → LineState → Type 0) → Type 0
AfterEveryRun Fact = (n : ℕ) → (first : Line) → (es : List LineEvent) → IsLegalRun n (start first) es → Fact n (last_stored first es) (run (start first) es)
