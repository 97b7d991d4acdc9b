use Rattle.sparc_exec.proofs.RunWords.{trap_not, trap_none, trap_is}
use Rattle.sparc_exec.proofs.words.trap.Goals as goal

pub returns-then-annul : goal.returns-then-annul
returns-then-annul c = trap_not _ _ c.requires.op c.requires.op3 c.if-annul.ensures

pub returns-in_default : goal.returns-in_default
returns-in_default c = trap_none _ _ c.requires.op c.requires.op3 c.if-annul.ensures c.in_default.ensures

pub returns : goal.returns
returns c = trap_is _ _ _ _ _ c.requires.op c.requires.op3 c.if-annul.ensures c.in-Some.ensures (rw (← c.first.ensures, ← c.cond.ensures) c.trap_on.ensures)
