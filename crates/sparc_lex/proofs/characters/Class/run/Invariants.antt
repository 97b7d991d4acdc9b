use Rattle.std.proofs.Common.{◌≡◌, ◌+◌, drop}
use Rattle.sparc_lex.specs.Cut.{run_of}
use Rattle.sparc_lex.proofs.characters.Class.run.Given as goal

abbrev pub invariant-loop-byte : goal.invariant-loop-byte
invariant-loop-byte l = record {
  place : l.count ≡ l.byte-index;
  run : run_of l.self l.bytes ≡ l.count + run_of l.self (drop l.byte-index l.bytes);
}
