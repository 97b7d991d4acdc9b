use Rattle.std.proofs.Common.{◌≡◌, ◌-◌, ◌≤◌, ◌++◌, [], length, drop}
use Rattle.std.specs.Option.{option_map}
use Rattle.sparc_asm.specs.Statements.{values_of}
use Rattle.sparc_asm.proofs.operands.values_of.Given as goal

abbrev pub invariant-loop-front : goal.invariant-loop-front
invariant-loop-front l = record {
  read : values_of [] l.lexemes ≡ option_map (λ more. l.values ++ more) (values_of [] (drop l.at l.lexemes));
  few : length l.values ≤ l.at;
  within : l.at ≤ length l.lexemes;
}

abbrev pub decreases-loop-front : goal.decreases-loop-front
decreases-loop-front l = length l.lexemes - l.at
