-- What is written so far, and what is left to write, is the whole.
use Rattle.std.proofs.Common.{◌≡◌, ◌++◌, drop}
use Rattle.std.specs.List.{flat_map}
use Rattle.alw_report.specs.Reports.{run_line}
use Rattle.alw_report.proofs.lists.put_run_lines.Given as goal

abbrev pub invariant-loop-run : goal.invariant-loop-run
invariant-loop-run l = l.text ++ flat_map run_line (drop l.run-index l.runs) ≡ l.fn.text ++ flat_map run_line l.runs
