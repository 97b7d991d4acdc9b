-- The names of modes and of messages, and what a context does, as a text spells them.
use Rattle.std.specs.Prelude.{ℕ, Option, None, Some, List, ◌++◌, codes}
use Rattle.std.specs.Fmt.{decimal}
use Rattle.alw_num.specs.declared.states.Mode.{Mode}
use Rattle.alw_num.specs.declared.states.Mode.TheVariants.{Read, Write}
use Rattle.alw_text.specs.Numbers.{hex_byte}
use Rattle.alw_msg.specs.declared.contexts.Status.{Status}
use Rattle.alw_msg.specs.declared.contexts.Status.TheVariants.{Ready, Waiting, Halted, Trapped}
use Rattle.alw_msg.specs.declared.messages.Kind.{Kind}
use Rattle.alw_msg.specs.declared.messages.Kind.TheVariants as kinds

abbrev pub mode_text : Mode → List ℕ
mode_text Read = codes "read"
mode_text Write = codes "write"

abbrev pub kind_text : Kind → List ℕ
kind_text kinds.RREQ = codes "RREQ"
kind_text kinds.WREQ = codes "WREQ"
kind_text kinds.REPM = codes "REPM"
kind_text kinds.UPDATE = codes "UPDATE"
kind_text kinds.ACKC = codes "ACKC"
kind_text kinds.RDATA = codes "RDATA"
kind_text kinds.WDATA = codes "WDATA"
kind_text kinds.INV = codes "INV"
kind_text kinds.BUSY = codes "BUSY"

-- what a context does: a hold comes before its status, which is then Ready
abbrev pub status_text : Option ℕ → Status → List ℕ
status_text (Some line) status = codes "hold " ++ decimal line
status_text None Ready = codes "ready"
status_text None (Waiting line) = codes "wait " ++ decimal line.0
status_text None Halted = codes "halted"
status_text None (Trapped pc tt) = codes "trapped " ++ hex_byte tt
