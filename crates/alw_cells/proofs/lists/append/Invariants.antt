use Rattle.std.proofs.Common.{◌≡◌, ◌+◌, ◌++◌, take, length}
use Rattle.std.specs.VecDeque.{deque_capacity}
use Rattle.alw_cells.proofs.lists.append.Given as goal

abbrev pub invariant-loop-i : goal.invariant-loop-i
invariant-loop-i l = record {
  items : l.pending.items ≡ l.fn.pending.items ++ take l.i l.sent.messages;
  count : length l.pending.items ≡ length l.fn.pending.items + l.i;
  room : deque_capacity l.pending ≡ deque_capacity l.fn.pending;
}
