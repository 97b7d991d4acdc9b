use Rattle.std.proofs.Common.{◌≡◌, ◌+◌, ◌*◌, ◌≤◌, ◌++◌, length, take, flat_map, vec_capacity}
use Rattle.std.specs.List.{AllByRecursion}
use Rattle.alw_cells.specs.Layout.{half, sent_bytes}
use Rattle.alw_cells.specs.Records.{FitsSend}
use Rattle.alw_cells.proofs.writing.put_sends.Given as goal

abbrev pub invariant-loop-i : goal.invariant-loop-i
invariant-loop-i l = record {
  items : l.bytes.items ≡ l.fn.bytes.items ++ (half (length l.sent.messages) ++ flat_map sent_bytes (take l.i l.sent.messages));
  len : length l.bytes.items ≤ length l.fn.bytes.items + 2 + 23 * l.i;
  room : vec_capacity l.fn.bytes ≤ vec_capacity l.bytes;
  fits : AllByRecursion FitsSend (take l.i l.sent.messages);
}
