use Rattle.std.proofs.Common.{◌+◌, ◌≤◌, length}
use Rattle.alw_model.specs.Threads.{merged}
use Rattle.alw_cells.specs.Logs.{logged}
use Rattle.alw_merge.specs.Spans.{place_of, end_of}
use Rattle.alw_merge.proofs.Walking.{IsMerging}
use Rattle.alw_merge.proofs.spans.walk_span.Given as goal

-- the entries so far have been read, and are no more than the span has
abbrev pub invariant-loop-high : goal.invariant-loop-high
invariant-loop-high l =
    IsMerging l.image l.fn.params (merged (logged l.logs)) (place_of l.fn.low (merged (logged l.logs))) l.span.journal l.events l.rests.items l.span.moves.items l.span.tally.told
    × (place_of l.fn.low (merged (logged l.logs)) + length l.span.journal ≤ end_of l.high (merged (logged l.logs)))

abbrev pub decreases-loop-high : goal.decreases-loop-high
decreases-loop-high l = length (merged l.events)
