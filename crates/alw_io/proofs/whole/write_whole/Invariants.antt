use Rattle.std.proofs.Common.{◌≡◌, ℕ, ◌≤◌, List, ◌++◌, length}
use Rattle.std.specs.Io.KnownBytes.{Appends}
use Rattle.alw_io.proofs.whole.write_whole.Given as goal

-- what was sent stands before the rest, and was appended
abbrev pub invariant-loop-rest : goal.invariant-loop-rest
invariant-loop-rest g l = record {
  sent : List ℕ;
  parts : l.bytes ≡ sent ++ l.rest;
  appended : Appends (g.K.Sink.held l.fn.sink) (g.K.Sink.held l.sink) sent;
  later : g.K.Sink.faults l.fn.sink ≤ g.K.Sink.faults l.sink;
}

abbrev pub decreases-loop-rest : goal.decreases-loop-rest
decreases-loop-rest g l = length l.rest
