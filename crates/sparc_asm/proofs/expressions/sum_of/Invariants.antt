use Rattle.std.proofs.Common.{◌≡◌, ◌-◌, ◌≤◌, ◌++◌, length, drop}
use Rattle.std.specs.Option.{option_map}
use Rattle.sparc_asm.specs.Expressions.{sum_of}
use Rattle.sparc_asm.proofs.expressions.sum_of.Given as goal

abbrev pub invariant-loop-first : goal.invariant-loop-first
invariant-loop-first l = record {
  read : sum_of l.minus-2 l.lexemes ≡ option_map (λ rest. l.terms ++ rest) (sum_of l.minus (drop l.at l.lexemes));
  few : length l.terms ≤ l.at;
  within : l.at ≤ length l.lexemes;
}

abbrev pub decreases-loop-first : goal.decreases-loop-first
decreases-loop-first l = length l.lexemes - l.at
