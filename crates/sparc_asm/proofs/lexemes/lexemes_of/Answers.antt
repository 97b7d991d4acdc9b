use Rattle.std.proofs.Common.{◌∙◌, sym, arith}
use Rattle.sparc_asm.proofs.Reading.{more_lexemes, no_lexeme, pushed_length}
use Rattle.sparc_asm.proofs.lexemes.lexemes_of.Goals as goal

pub returns-in-None-clause-lexemes : goal.returns-in-None-clause-lexemes
returns-in-None-clause-lexemes c = no_lexeme c.args.source.now c.args.tokens.now c.loop-i.i c.at-token.result c.text.result.now c.loop-i.lexemes c.at-token.ensures c.text.ensures (sym c.in-None.is ∙ c.lexeme_of.ensures) c.loop-i.invariant.read

pub loop-i-preserved : goal.loop-i-preserved
loop-i-preserved c = record {
  read = c.loop-i.invariant.read ∙ more_lexemes c.args.source.now c.args.tokens.now c.loop-i.i c.at-token.result c.text.result.now c.in-Some.lexeme c.loop-i.lexemes _ c.at-token.ensures c.text.ensures (sym c.in-Some.is ∙ c.lexeme_of.ensures) c.in_ok-push-in-Some.ensures.ok;
  count = omega (arith, pushed_length _ _ _ c.in_ok-push-in-Some.ensures.ok);
}
