-- What is put so far, and what is left to put, is the whole.
use Rattle.std.proofs.Common.{◌≡◌, ◌+◌, ◌++◌, drop, map, length}
use Rattle.std.specs.List.{AllByRecursion}
use Rattle.sparc_table.specs.Table.{Fits}
use Rattle.sparc_asm.specs.Words.{instr_word}
use Rattle.alw_gen.proofs.workloads.put.Given as goal

abbrev pub invariant-loop-instr : goal.invariant-loop-instr
invariant-loop-instr l = record {
  words : l.code ++ map instr_word (drop l.instr-index l.instructions) ≡ l.fn.code ++ map instr_word l.instructions;
  count : length l.code ≡ length l.fn.code + l.instr-index;
  fits : AllByRecursion Fits (drop l.instr-index l.instructions);
}
