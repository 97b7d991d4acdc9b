-- What is written so far, and what is left to write, is the whole.
use Rattle.std.proofs.Common.{◌≡◌, ◌++◌, drop}
use Rattle.std.specs.List.{flat_map}
use Rattle.alw_source.specs.Sources.{start_line}
use Rattle.alw_source.proofs.sources.put_starts.Given as goal

abbrev pub invariant-loop-start : goal.invariant-loop-start
invariant-loop-start l = l.text ++ flat_map start_line (drop l.start-index l.starts) ≡ l.fn.text ++ flat_map start_line l.starts
