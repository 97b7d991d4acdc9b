use Rattle.std.proofs.Common.{◌≡◌, ◌+◌, ◌≤◌, ◌++◌, length}
use Rattle.std.specs.Option.{option_map}
use Rattle.sparc_lex.specs.Cut.{cut_from}
use Rattle.sparc_lex.proofs.cut.cut_code.Given as goal

abbrev pub invariant-loop-first : goal.invariant-loop-first
invariant-loop-first l = record {
  reads : option_map (λ tokens. l.fn.tokens ++ tokens) (cut_from l.line l.start 0 l.code) ≡ option_map (λ tokens. l.tokens ++ tokens) (cut_from l.line l.at 0 l.rest);
  place : l.at + length l.rest ≡ l.start + length l.code;
  room : length l.tokens + length l.rest ≤ length l.fn.tokens + length l.code;
}

abbrev pub decreases-loop-first : goal.decreases-loop-first
decreases-loop-first l = length l.rest
