use Rattle.std.proofs.Common.{◌≡◌, take}
use Rattle.alw_merge.specs.Spans.{dids_behind}
use Rattle.alw_merge.proofs.spans.rests_of.Given as goal

-- the nodes so far
abbrev pub invariant-loop-n : goal.invariant-loop-n
invariant-loop-n l = l.rests.items ≡ take l.n (dids_behind l.events l.dids)
