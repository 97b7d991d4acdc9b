use Rattle.std.proofs.Common.{◌≡◌, ◌≤◌, ◌*◌, take}
use Rattle.alw_merge.specs.Joins.{holds_at}
use Rattle.alw_merge.proofs.joins.holds_of.Given as goal

-- the nodes so far are counted
abbrev pub invariant-loop-n : goal.invariant-loop-n
invariant-loop-n l = record {
  all : l.holds ≡ holds_at (take l.n l.nodes);
  few : l.holds ≤ 4294967295 * l.n;
}
