-- Messages that an event sends: those for a node, and those about a line.
use Rattle.std.specs.Prelude.{ℕ, ◌<◌, cond, ◌==◌, List, [], ◌∷◌}
use Rattle.alw_msg.specs.declared.messages.Msg.{Msg}
use Rattle.alw_msg.specs.Contents.{ToMemory}
use Rattle.alw_model.specs.Caches.{Requests}

-- the messages for a node, in order
abbrev pub msgs_to : ℕ → List (ℕ × Msg) → List Msg
msgs_to k [] = []
msgs_to k (send ∷ rest) = cond (k == send.0) (send.1 ∷ msgs_to k rest) (msgs_to k rest)

-- each goes to a node below a number
abbrev pub GoBelow : ℕ → List (ℕ × Msg) → Type 0
GoBelow n [] = Unit {0}
GoBelow n (send ∷ rest) = (send.0 < n) × GoBelow n rest

-- what is asked of a line's home, in order
abbrev pub asked : ℕ → Requests → List ToMemory
asked k [] = []
asked k (request ∷ rest) = cond (k == request.0) (request.1 ∷ asked k rest) (asked k rest)
