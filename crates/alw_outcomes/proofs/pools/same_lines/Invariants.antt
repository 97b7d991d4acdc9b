-- The members so far are the same.
use Rattle.std.proofs.Common.{◌≡◌, take}
use Rattle.alw_outcomes.proofs.pools.same_lines.Given as goal

abbrev pub invariant-loop-i : goal.invariant-loop-i
invariant-loop-i l = take l.i l.one ≡ take l.i l.other
