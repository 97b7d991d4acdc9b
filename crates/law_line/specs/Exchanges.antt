-- The messages of a run: those that the line's home acts on, each with its sender, and those that come to nodes.
use Rattle.std.specs.Prelude.{ℕ, List, [], ◌∷◌, ◌++◌, map, take, IsSome, IsTrue}
use Rattle.std.specs.List.{AllByRecursion}
use Rattle.alw_msg.specs.Contents.{ToMemory, ToCache, is_reply}
use Rattle.alw_model.specs.Lines.{LineState, LineNode}
use Rattle.law_line.specs.Protocol.{LineEvent, Acts, Comes, step}

-- the message that the home acts on at an event
abbrev pub acted_at : LineState → LineEvent → List (ℕ × ToMemory)
acted_at s (Acts i) = map (λ (message : ToMemory). (i, message)) (take 1 (s.node i).up)
acted_at s _ = []

-- the messages that the home acts on in a run, in order
abbrev pub acted_in : LineState → List LineEvent → List (ℕ × ToMemory)
acted_in s [] = []
acted_in s (e ∷ es) = acted_at s e ++ acted_in (step s e) es

-- a reply meets a transaction of the node that it comes to
abbrev pub Meets : LineNode → ToCache → Type 0
Meets v message = IsTrue (is_reply message) → IsSome v.transaction

-- the message that comes at an event does
abbrev pub MeetsAt : LineState → LineEvent → Type 0
MeetsAt s (Comes i) = AllByRecursion (Meets (s.node i)) (take 1 (s.node i).down)
MeetsAt s _ = Unit {0}

-- so do all that come in a run
abbrev pub MeetIn : LineState → List LineEvent → Type 0
MeetIn s [] = Unit {0}
MeetIn s (e ∷ es) = MeetsAt s e × MeetIn (step s e) es
