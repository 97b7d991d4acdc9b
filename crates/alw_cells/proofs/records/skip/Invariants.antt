use Rattle.std.proofs.Common.{◌≡◌}
use Rattle.alw_cells.specs.Records.{behind_sends, HasSends}
use Rattle.alw_cells.proofs.records.skip.Given as goal

-- what is behind those that are left is behind all
abbrev pub invariant-loop-left : goal.invariant-loop-left
invariant-loop-left l = record {
  same : behind_sends l.left l.rest ≡ behind_sends l.count l.bytes;
  has : HasSends l.left l.rest;
}

abbrev pub decreases-loop-left : goal.decreases-loop-left
decreases-loop-left l = l.left
