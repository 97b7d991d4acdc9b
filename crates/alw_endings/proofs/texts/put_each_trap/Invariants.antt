-- What is written so far, and what is left to write, is the whole.
use Rattle.std.proofs.Common.{◌≡◌, ◌++◌, drop}
use Rattle.alw_endings.specs.Texts.{traps_from}
use Rattle.alw_endings.proofs.texts.put_each_trap.Given as goal

abbrev pub invariant-loop-number : goal.invariant-loop-number
invariant-loop-number l = l.text ++ traps_from l.number (drop l.number l.traps) ≡ l.fn.text ++ traps_from 0 l.traps
