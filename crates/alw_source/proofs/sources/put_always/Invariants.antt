-- What is written so far, and what is left to write, is the whole.
use Rattle.std.proofs.Common.{◌≡◌, ◌++◌, drop}
use Rattle.std.specs.List.{flat_map}
use Rattle.alw_source.specs.Sources.{always_line}
use Rattle.alw_source.proofs.sources.put_always.Given as goal

abbrev pub invariant-loop-line : goal.invariant-loop-line
invariant-loop-line l = l.text ++ flat_map always_line (drop l.line-index l.always) ≡ l.fn.text ++ flat_map always_line l.always
