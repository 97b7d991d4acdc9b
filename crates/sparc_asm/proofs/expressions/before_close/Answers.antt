use Rattle.sparc_asm.specs.Expressions.{is_close}
use Rattle.sparc_asm.proofs.Grammar.{closed, not_closed}
use Rattle.sparc_asm.proofs.expressions.before_close.Goals as goal

pub returns-then-is_close-clause-inner : goal.returns-then-is_close-clause-inner
returns-then-is_close-clause-inner c = closed is_close c.args.lexemes.now c.in-Some.inner.now c.in-Some.last.now c.in-Some.ensures.cases.0 c.if-is_close.ensures

pub returns-else-is_close-clause-inner : goal.returns-else-is_close-clause-inner
returns-else-is_close-clause-inner c = not_closed is_close c.args.lexemes.now c.in-Some.inner.now c.in-Some.last.now c.in-Some.ensures.cases.0 c.if-is_close.ensures
