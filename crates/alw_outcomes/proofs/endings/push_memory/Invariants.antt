-- The lines so far.
use Rattle.std.proofs.Common.{◌≡◌, ◌++◌, take}
use Rattle.alw_num.specs.declared.addresses.TheConstants.{SHARED_BASE}
use Rattle.alw_outcomes.specs.Endings.{words_from}
use Rattle.alw_outcomes.specs.Keys.{words_key}
use Rattle.alw_outcomes.proofs.endings.push_memory.Given as goal

abbrev pub invariant-loop-line : goal.invariant-loop-line
invariant-loop-line l = l.key.items ≡ l.fn.key.items ++ words_key (words_from SHARED_BASE (take l.line l.memory))
