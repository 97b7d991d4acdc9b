use Rattle.std.proofs.Common.{◌≡◌, ◌++◌, take}
use Rattle.alw_merge.specs.Spans.{sending_of}
use Rattle.alw_merge.proofs.spans.put_sent.Given as goal

-- the messages so far have been put behind the moves
abbrev pub invariant-loop-i : goal.invariant-loop-i
invariant-loop-i l = l.moves.items ≡ l.fn.moves.items ++ sending_of l.from.0 (take l.i l.sends)
