-- None so far is of the line.
use Rattle.std.proofs.Common.{◌≡◌, false, take}
use Rattle.std.specs.List.{list_any}
use Rattle.alw_waits.specs.Waits.{is_line}
use Rattle.alw_waits.proofs.requests.Requests.has.Given as goal

abbrev pub invariant-loop-other : goal.invariant-loop-other
invariant-loop-other l = list_any (is_line l.line) (take l.other-index l.self) ≡ false
