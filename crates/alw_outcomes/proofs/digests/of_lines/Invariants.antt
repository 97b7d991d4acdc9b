-- What is left gives what the whole gives.
use Rattle.std.proofs.Common.{◌≡◌, drop, map}
use Rattle.alw_outcomes.specs.Digests.{weighed, line_digest}
use Rattle.alw_outcomes.proofs.digests.of_lines.Given as goal

abbrev pub invariant-loop-line : goal.invariant-loop-line
invariant-loop-line l = weighed l.digest l.factor (map line_digest (drop l.line-index l.lines)) ≡ weighed 1 2654435761 (map line_digest l.lines)
