use Rattle.sparc_asm.proofs.Grammar.{parted, unparted}
use Rattle.sparc_asm.proofs.operands.at_comma.Goals as goal

pub returns-in-Some-clause-parts : goal.returns-in-Some-clause-parts
returns-in-Some-clause-parts c = parted c.args.lexemes.now c.split_at.result.0.now c.split_at.result.1.now c.split_at-in-Some.result.1.now c.in-Some.at c.in-Some.ensures.found c.split_at.ensures.front c.split_at.ensures.back c.split_at-in-Some.ensures.back

pub returns-in-None-clause-parts : goal.returns-in-None-clause-parts
returns-in-None-clause-parts c = unparted c.args.lexemes.now c.in-None.ensures.found
