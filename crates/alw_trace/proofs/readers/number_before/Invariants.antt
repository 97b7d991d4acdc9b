-- What is read spells the number so far.
use Rattle.std.proofs.Common.{◌≡◌, ◌<◌, ◌^◌, ◌++◌, length}
use Rattle.std.specs.Fmt.{decimal}
use Rattle.alw_trace.proofs.readers.number_before.Given as goal

abbrev pub invariant-loop-byte : goal.invariant-loop-byte
invariant-loop-byte l = (l.text ≡ decimal l.number ++ l.rest) × (l.number < 2 ^ 64)

abbrev pub decreases-loop-byte : goal.decreases-loop-byte
decreases-loop-byte l = length l.rest
