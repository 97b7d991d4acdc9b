-- What is put so far, and the lines that are left, are the whole.
use Rattle.std.proofs.Common.{◌≡◌, ◌++◌, length}
use Rattle.alw_trace.specs.Texts.{hex_lines, line_number}
use Rattle.alw_trace.proofs.images.put_rows.Given as goal

abbrev pub invariant-loop-rest : goal.invariant-loop-rest
invariant-loop-rest l = l.text ++ hex_lines (line_number (length l.rest)) l.rest ≡ l.fn.text ++ hex_lines (line_number (length l.bytes)) l.bytes

abbrev pub decreases-loop-rest : goal.decreases-loop-rest
decreases-loop-rest l = length l.rest
