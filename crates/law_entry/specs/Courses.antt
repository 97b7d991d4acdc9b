-- What a LimitLESS entry goes through: messages to memory come one by one, and each is acted on by hardware, or traps and is acted on by the handler, or waits while another one is pending.
use Rattle.std.specs.Prelude.{◌≡◌, ℕ, Bool, true, false, Option, Some, None, List, [], ◌∷◌, ◌++◌, flat_map}
use Rattle.alw_num.specs.declared.addresses.Line.{Line}
use Rattle.alw_msg.specs.Contents.{ToMemory}
use Rattle.alw_model.specs.FullMap.{Home, Sends, home_start, act}
use Rattle.alw_model.specs.LimitLess.{Directory, directory_start, full_map_of, is_trapped, is_in_progress, hardware_act, trapped, handle}

-- what happens at a line's home: a message of a node stands at the head of its link and is taken if the home takes any, or the handler runs
pub data HomeEvent : Type 0 where
  Comes : ℕ → ToMemory → HomeEvent
  Handles : HomeEvent

-- an entry, the packet that waits for the handler, the messages acted on so far, each with its sender, and all that was sent, in order
pub record Course : Type 0 where
  pub entry : Directory
  pub packet : Option (ℕ × ToMemory)
  pub acted : List (ℕ × ToMemory)
  pub sent : Sends

-- before any message
abbrev pub course_start : Line → Bool → Course
course_start body always = record { entry = directory_start body always; packet = None; acted = []; sent = [] }

-- a message of node i was acted on, with this entry and these sends
abbrev pub acted_with : Course → ℕ → ToMemory → Directory × Sends → Course
acted_with c i message after = record { entry = after.0; packet = None; acted = c.acted ++ (i, message) ∷ []; sent = c.sent ++ after.1 }

-- a message of node i is taken: it traps, or hardware acts on it
abbrev pub take_in : Course → ℕ → ToMemory → Bool → Course
take_in c i message true = record c { entry = trapped c.entry; packet = Some (i, message) }
take_in c i message false = acted_with c i message (hardware_act c.entry i message)

-- a message of node i comes: it stays on its link where the line is Trans-In-Progress
abbrev pub come : ℕ → Course → ℕ → ToMemory → Bool → Course
come most c i message true = c
come most c i message false = take_in c i message (is_trapped most c.entry i message)

-- the handler acts on the packet, if there is one
abbrev pub run_handler : Course → Option (ℕ × ToMemory) → Course
run_handler c None = c
run_handler c (Some packet) = acted_with c packet.0 packet.1 (handle c.entry packet.0 packet.1)

-- one event, where an entry has `most` hardware pointers
abbrev pub happen : ℕ → Course → HomeEvent → Course
happen most c (Comes i message) = come most c i message (is_in_progress c.entry.meta)
happen most c Handles = run_handler c c.packet

-- events, one after the other
abbrev pub happen_all : ℕ → Course → List HomeEvent → Course
happen_all most c [] = c
happen_all most c (event ∷ rest) = happen_all most (happen most c event) rest

-- a full-map entry that acts on messages, and all that it sends, in order
abbrev pub reactions : Home → List (ℕ × ToMemory) → Home × Sends
reactions home [] = (home, [])
reactions home (message ∷ rest) =
    let after = act home message.0 message.1 in
    let later = reactions after.0 rest in
    (later.0, after.1 ++ later.1)

-- the entry stands for the full-map entry that acted on the same messages, and sent what that one sends
pub record ActsAsFullMap (body : Line) (c : Course) : Type 0 where
  pub entry : full_map_of c.entry ≡ (reactions (home_start body) c.acted).0
  pub sent : c.sent ≡ (reactions (home_start body) c.acted).1

-- the messages, each handled at once where it traps
abbrev pub one_by_one : List (ℕ × ToMemory) → List HomeEvent
one_by_one messages = flat_map (λ (message : ℕ × ToMemory). Comes message.0 message.1 ∷ Handles ∷ []) messages
