use Rattle.std.proofs.Common.{◌≡◌, ◌++◌, length, drop}
use Rattle.std.specs.Option.{option_map}
use Rattle.sparc_asm.specs.Lexemes.{lexemes_of}
use Rattle.sparc_asm.proofs.lexemes.lexemes_of.Given as goal

abbrev pub invariant-loop-i : goal.invariant-loop-i
invariant-loop-i l = record {
  read : lexemes_of l.source l.tokens ≡ option_map (λ rest. l.lexemes ++ rest) (lexemes_of l.source (drop l.i l.tokens));
  count : length l.lexemes ≡ l.i;
}
