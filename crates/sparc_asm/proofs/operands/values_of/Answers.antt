use Rattle.std.proofs.Common.{◌∙◌, ◌++◌, [], sym, ap, drop, arith}
use Rattle.std.specs.Option.{option_map}
use Rattle.sparc_asm.specs.Expressions.{expression_of}
use Rattle.sparc_asm.specs.Statements.{at_comma, values_of}
use Rattle.sparc_asm.proofs.Grammar.{more_values, next_value, rest_at, no_value, last_value, no_last}
use Rattle.sparc_asm.proofs.Reading.{pushed_length}
use Rattle.sparc_asm.proofs.operands.values_of.Goals as goal

pub returns-in-None : goal.returns-in-None
returns-in-None c = no_value c.args.lexemes.now (drop c.loop-front.at c.args.lexemes.now) c.in-Some.front.now c.in-Some._behind.now c.loop-front.values (ap at_comma (sym (rest_at c.args.lexemes.now c.loop-front.at)) ∙ c.in-Some.ensures.parts) (sym c.in-None.is ∙ c.in_ok-value.ensures) c.loop-front.invariant.read

pub loop-front-preserved : goal.loop-front-preserved
loop-front-preserved c =
    let parts = ap at_comma (sym (rest_at c.args.lexemes.now c.loop-front.at)) ∙ c.in-Some.ensures.parts in
    let behind = next_value c.args.lexemes.now c.in-Some.front.now c.in-Some._behind.now c.loop-front.at parts in
    record {
      read = c.loop-front.invariant.read ∙ more_values (drop c.loop-front.at c.args.lexemes.now) c.in-Some.front.now c.in-Some._behind.now c.in-Some-2.value c.loop-front.values _ parts (sym c.in-Some-2.is ∙ c.in_ok-value.ensures) c.in_ok-push-in-Some-2.ensures.ok ∙ ap (λ xs. option_map (λ more. c.push.new.self ++ more) (values_of [] xs)) behind;
      few = omega (arith, pushed_length _ _ _ c.in_ok-push-in-Some-2.ensures.ok, c.loop-front.invariant.few);
      within = omega (arith, c.in-Some.ensures.shorter, c.loop-front.invariant.within);
    }

pub returns-in-Some-3 : goal.returns-in-Some-3
returns-in-Some-3 c = last_value c.args.lexemes.now (drop c.loop-front.at c.args.lexemes.now) c.in-Some-3.value c.loop-front.values _ (ap at_comma (sym (rest_at c.args.lexemes.now c.loop-front.at)) ∙ c.in_default.ensures.parts) (sym c.in-Some-3.is ∙ c.in_ok-value-2.ensures ∙ ap expression_of (rest_at c.args.lexemes.now c.loop-front.at)) c.in_ok-push-in-Some-3.ensures.ok c.loop-front.invariant.read

pub returns : goal.returns
returns c = no_last c.args.lexemes.now (drop c.loop-front.at c.args.lexemes.now) c.loop-front.values (ap at_comma (sym (rest_at c.args.lexemes.now c.loop-front.at)) ∙ c.in_default.ensures.parts) (sym c.in-None-2.is ∙ c.in_ok-value-2.ensures ∙ ap expression_of (rest_at c.args.lexemes.now c.loop-front.at)) c.loop-front.invariant.read
