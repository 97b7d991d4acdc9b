use Rattle.std.proofs.Common.{◌≡◌, ◌+◌, ◌-◌, ◌≤◌, Some, length, drop}
use Rattle.alw_text.specs.Lines.{lines_of}
use Rattle.sparc_lex.specs.Cut.{tokens_of, tokens_of_lines, tokens_before}
use Rattle.sparc_lex.proofs.cut.tokens.Given as goal

abbrev pub invariant-loop-span : goal.invariant-loop-span
invariant-loop-span l = record {
  reads : tokens_of l.source ≡ tokens_before l.line (Some l.tokens) (tokens_of_lines (l.line + 1) l.from (lines_of (drop l.from l.source)));
  lines : l.line ≤ l.from;
  within : l.from ≤ length l.source;
  room : length l.tokens ≤ l.from;
}

abbrev pub decreases-loop-span : goal.decreases-loop-span
decreases-loop-span l = length l.source - l.from
