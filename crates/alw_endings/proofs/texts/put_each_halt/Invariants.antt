-- What is written so far, and what is left to write, is the whole.
use Rattle.std.proofs.Common.{◌≡◌, ◌++◌, drop}
use Rattle.alw_endings.specs.Texts.{halts_from}
use Rattle.alw_endings.proofs.texts.put_each_halt.Given as goal

abbrev pub invariant-loop-number : goal.invariant-loop-number
invariant-loop-number l = l.text ++ halts_from l.number (drop l.number l.halts) ≡ l.fn.text ++ halts_from 0 l.halts
