use Rattle.std.proofs.Common.{refl}
use Rattle.sparc_exec.proofs.RunWords.{none, arith_row, arith_is}
use Rattle.sparc_exec.proofs.words.arith.Goals as goal

pub returns-in_default : goal.returns-in_default
returns-in_default c = none _ _ _ _ (arith_row _ _ c.requires.op c.requires.op3) c.in_default.ensures

pub returns : goal.returns
returns c = arith_is _ _ _ _ _ c.requires.op c.requires.op3 c.in-Some.ensures (rw (c.advance.ensures, c.calculate.ensures, c.rd.ensures, c.first.ensures) refl)
