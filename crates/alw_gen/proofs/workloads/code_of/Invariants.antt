-- What is put so far, and what is left to put, are all blocks.
use Rattle.std.proofs.Common.{◌≡◌, ◌-◌, ◌*◌, ◌++◌, map}
use Rattle.sparc_asm.specs.Words.{instr_word}
use Rattle.alw_gen.specs.Workloads.{blocks}
use Rattle.alw_gen.proofs.workloads.code_of.Given as goal

abbrev pub invariant-loop-node : goal.invariant-loop-node
invariant-loop-node l = l.code ++ map instr_word (blocks (4 * l.nodes) l.size (l.nodes - l._node) l.draws.state) ≡ map instr_word (blocks (4 * l.nodes) l.size l.nodes l.seed)
