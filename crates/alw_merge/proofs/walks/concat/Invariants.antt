use Rattle.std.proofs.Common.{◌≡◌, ◌++◌, take}
use Rattle.alw_merge.proofs.walks.concat.Given as goal

-- the members so far are behind the list
abbrev pub invariant-loop-member : goal.invariant-loop-member
invariant-loop-member g l = l.all ≡ l.fn.list ++ take l.member-index l.member-items
