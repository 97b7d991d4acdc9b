-- What is written so far, and what is left to write, is the whole.
use Rattle.std.proofs.Common.{◌≡◌, ◌++◌, drop}
use Rattle.std.specs.List.{flat_map}
use Rattle.alw_trace.specs.Texts.{entry_line}
use Rattle.alw_trace.proofs.entries.put_entries.Given as goal

abbrev pub invariant-loop-entry : goal.invariant-loop-entry
invariant-loop-entry l = l.text ++ flat_map entry_line (drop l.entry-index l.entries) ≡ l.fn.text ++ flat_map entry_line l.entries
