-- What is written so far, and what is left to write, is the whole.
use Rattle.std.proofs.Common.{◌≡◌, ◌++◌, drop}
use Rattle.alw_timing.specs.Texts.{moment_lines}
use Rattle.alw_timing.proofs.texts.put_moments.Given as goal

abbrev pub invariant-loop-entry : goal.invariant-loop-entry
invariant-loop-entry l = l.text ++ moment_lines (drop l.entry-index l.entries) l.rest ≡ l.fn.text ++ moment_lines l.entries l.spans
