use Rattle.sparc_asm.specs.Expressions.{is_close_paren}
use Rattle.sparc_asm.proofs.Grammar.{closed, not_closed}
use Rattle.sparc_asm.proofs.expressions.before_close_paren.Goals as goal

pub returns-then-is_close_paren-clause-inner : goal.returns-then-is_close_paren-clause-inner
returns-then-is_close_paren-clause-inner c = closed is_close_paren c.args.lexemes.now c.in-Some.inner.now c.in-Some.last.now c.in-Some.ensures.cases.0 c.if-is_close_paren.ensures

pub returns-else-is_close_paren-clause-inner : goal.returns-else-is_close_paren-clause-inner
returns-else-is_close_paren-clause-inner c = not_closed is_close_paren c.args.lexemes.now c.in-Some.inner.now c.in-Some.last.now c.in-Some.ensures.cases.0 c.if-is_close_paren.ensures
