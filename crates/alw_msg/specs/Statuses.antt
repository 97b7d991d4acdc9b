-- Words on what a context does (the papers on Alewife; the trap is that of the SPARC V8 manual, chapter 7).
use Rattle.std.specs.Prelude.{ℕ, Bool, true, false, ◌==◌, Option, Some, None}
use Rattle.alw_msg.specs.declared.contexts.Status.{Status}
use Rattle.alw_msg.specs.declared.contexts.Status.TheVariants.{Ready, Waiting, Halted, Trapped}

-- the context can run
abbrev pub is_ready : Status → Bool
is_ready Ready = true
is_ready _ = false

-- the context has halted
abbrev pub is_halted : Status → Bool
is_halted Halted = true
is_halted _ = false

-- the context has trapped
abbrev pub has_trapped : Status → Bool
has_trapped (Trapped pc tt) = true
has_trapped _ = false

-- the slot waits on this line
abbrev pub waits_on : ℕ → Status → Bool
waits_on line (Waiting waited) = waited.0 == line
waits_on line _ = false

-- the line that a context waits on
abbrev pub waited : Status → Option ℕ
waited (Waiting line) = Some line.0
waited _ = None
