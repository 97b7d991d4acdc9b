use Rattle.std.proofs.Common.{◌+◌, ◌%◌, ◌^◌, refl, sym}
use Rattle.sparc_exec.proofs.Lines.{runs_load, runs_write, runs_trap}
use Rattle.sparc_exec.proofs.RunWords.{access_none, access_is}
use Rattle.sparc_exec.proofs.words.access.Goals as goal

pub returns-in_default-clause-run : goal.returns-in_default-clause-run
returns-in_default-clause-run g c = access_none _ _ _ _ c.requires.op c.requires.op3 c.requires.row c.in_default.ensures

pub returns-then-is_load-clause-run : goal.returns-then-is_load-clause-run
returns-then-is_load-clause-run g c = access_is _ _ _ _ ((c.first.result + c.in-Some.y) % 2 ^ 32) _ _ _ c.requires.op c.requires.op3 c.requires.row c.in-Some.ensures (rw c.first.ensures refl)
    (λ operand at. runs_load _ _ _ operand _ _ _ _ _ _ _ at (sym c.if-is_load.ensures) (rw c.lines.ensures at c.in-Ok.ensures.need) (rw c.rd.ensures at c.read.ensures.run))

pub returns-else-is_load-clause-run : goal.returns-else-is_load-clause-run
returns-else-is_load-clause-run g c = access_is _ _ _ _ ((c.first.result + c.in-Some.y) % 2 ^ 32) _ _ _ c.requires.op c.requires.op3 c.requires.row c.in-Some.ensures (rw c.first.ensures refl)
    (λ operand at. runs_write _ _ _ operand _ _ _ _ _ _ _ at (sym c.if-is_load.ensures) (rw c.lines.ensures at c.in-Ok.ensures.need) (rw c.rd-else-is_load.ensures at c.write.ensures.run))

pub returns-in-Err-clause-run : goal.returns-in-Err-clause-run
returns-in-Err-clause-run g c = access_is _ _ _ _ ((c.first.result + c.in-Some.y) % 2 ^ 32) _ _ _ c.requires.op c.requires.op3 c.requires.row c.in-Some.ensures (rw c.first.ensures refl)
    (λ operand at. runs_trap _ _ _ operand _ _ _ _ _ refl at (rw c.lines.ensures at c.in-Err.ensures.need))
