use Rattle.std.proofs.Common.{◌≡◌, ◌-◌, length, take}
use Rattle.alw_cells.specs.Logs.{sent_of}
use Rattle.alw_merge.proofs.streams.collect.Given as goal

-- the messages so far
abbrev pub invariant-loop-to : goal.invariant-loop-to
invariant-loop-to l = l.sends.items ≡ take l.i (sent_of l.log.given)

abbrev pub decreases-loop-to : goal.decreases-loop-to
decreases-loop-to l = length (sent_of l.log.given) - l.i
