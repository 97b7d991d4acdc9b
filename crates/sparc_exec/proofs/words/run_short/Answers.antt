use Rattle.sparc_exec.proofs.RunWords.{outside, outside_rows}
use Rattle.sparc_exec.proofs.words.run_short.Goals as goal

pub returns : goal.returns
returns c = outside _ _ (outside_rows _ _ c.requires.row c.requires.other c.if-row-eq2.false c.if-row-eq4.false c.if-row-eq1.false)
