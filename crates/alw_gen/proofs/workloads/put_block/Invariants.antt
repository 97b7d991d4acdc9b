-- What is put so far, and what is left to put, are all operations.
use Rattle.std.proofs.Common.{◌≡◌, ◌+◌, ◌-◌, ◌*◌, ◌++◌, map, length}
use Rattle.alw_num.specs.Draws.{drawn_times}
use Rattle.sparc_asm.specs.Words.{instr_word}
use Rattle.alw_gen.specs.Workloads.{operations}
use Rattle.alw_gen.proofs.workloads.put_block.Given as goal

abbrev pub invariant-loop-operation : goal.invariant-loop-operation
invariant-loop-operation l = record {
  words : l.code ++ map instr_word (operations l.lines (l.size - l._operation) l.draws.state) ≡ l.fn.code ++ map instr_word (operations l.lines l.size l.fn.draws.state);
  draws : drawn_times (l.size - l._operation) l.draws.state ≡ drawn_times l.size l.fn.draws.state;
  count : length l.code ≡ length l.fn.code + 4 * l._operation;
}
