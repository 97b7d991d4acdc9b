-- Ends of lines, as the reader takes them: what stands in a line behind its first number.
use Rattle.std.specs.Prelude.{ℕ, List, [], ◌∷◌, ◌++◌, codes}
use Rattle.std.specs.Fmt.{decimal}
use Rattle.alw_msg.specs.declared.events.Event.{Event}
use Rattle.alw_msg.specs.declared.events.Event.TheVariants.{Instr, Handle, Deliver, Evict}

-- two numbers, up to the end of the line
abbrev pub pair_line : ℕ → ℕ → List ℕ
pair_line a b = decimal a ++ 32 ∷ (decimal b ++ 10 ∷ [])

-- an event behind its stamp and a blank, up to the end of the line
abbrev pub event_line : Event → List ℕ
event_line (Instr node) = codes "I " ++ (decimal node.0 ++ 10 ∷ [])
event_line (Handle node) = codes "H " ++ (decimal node.0 ++ 10 ∷ [])
event_line (Deliver from to) = codes "D " ++ pair_line from.0 to.0
event_line (Evict node set) = codes "E " ++ pair_line node.0 set
