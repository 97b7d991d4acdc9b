-- What is written so far, and what is left to write, is the whole.
use Rattle.std.proofs.Common.{◌≡◌, ◌++◌, drop}
use Rattle.std.specs.List.{flat_map}
use Rattle.alw_report.specs.Reports.{print_line}
use Rattle.alw_report.proofs.lists.put_print_lines.Given as goal

abbrev pub invariant-loop-print : goal.invariant-loop-print
invariant-loop-print l = l.text ++ flat_map print_line (drop l.print-index l.prints) ≡ l.fn.text ++ flat_map print_line l.prints
