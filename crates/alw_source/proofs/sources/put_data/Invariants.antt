-- What is written so far, and what is left to write, is the whole.
use Rattle.std.proofs.Common.{◌≡◌, ◌++◌, drop}
use Rattle.std.specs.List.{flat_map}
use Rattle.alw_source.specs.Sources.{data_lines}
use Rattle.alw_source.proofs.sources.put_data.Given as goal

abbrev pub invariant-loop-entry : goal.invariant-loop-entry
invariant-loop-entry l = l.text ++ flat_map data_lines (drop l.entry-index l.bodies) ≡ l.fn.text ++ flat_map data_lines l.bodies
