-- No field so far is outside its range.
use Rattle.std.proofs.Common.{◌≡◌, drop}
use Rattle.alw_image.specs.Faults.{range_fault, fields, first_unfit}
use Rattle.alw_image.proofs.headers.Header.range_fault.Given as goal

abbrev pub invariant-loop-place : goal.invariant-loop-place
invariant-loop-place l = first_unfit (drop l.place-index (fields l.self)) ≡ range_fault l.self
