use Rattle.std.proofs.Common.{◌≡◌, ◌≤◌, length, map, take, vec_capacity}
use Rattle.alw_cells.specs.Logs.{logged}
use Rattle.alw_merge.specs.Spans.{logs_from}
use Rattle.alw_merge.specs.Streams.{left_of, StreamIsUnderWay}
use Rattle.alw_merge.proofs.streams.Stream.from.Given as goal

-- the logs so far are read, and their heads wait
abbrev pub invariant-loop-at : goal.invariant-loop-at
invariant-loop-at l = record {
  under : StreamIsUnderWay l.readings.items l.heads;
  lefts : map left_of l.readings.items ≡ logs_from l.stamp (logged (take l.at l.logs));
  place : length l.readings.items ≡ l.at;
  room : l.count ≤ vec_capacity l.readings;
  most : l.heads.most ≡ l.count;
}
