-- Whether an event of a log is an instruction that took and sent nothing.
use Rattle.std.specs.Prelude.{Bool, true, false, not, ◌&&◌, ◌==◌, Option, Some, None, is_some, length}
use Rattle.alw_msg.specs.declared.events.Event.{Event}
use Rattle.alw_msg.specs.declared.events.Event.TheVariants.{Instr}
use Rattle.alw_model.specs.Threads.{Logged}

abbrev pub is_instr : Event → Bool
is_instr (Instr node) = true
is_instr _ = false

-- the event given last is there, and is one
abbrev pub is_plain : Option Logged → Bool
is_plain None = false
is_plain (Some logged) = is_instr logged.entry.event && (not (is_some logged.taken) && (length logged.sent == 0))
