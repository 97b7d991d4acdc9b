use Rattle.std.proofs.Common.{◌∙◌, ◌+◌, ◌∷◌, sym, ap, drop, arith}
use Rattle.std.proofs.lemmas.List.{length-drop}
use Rattle.sparc_asm.proofs.Grammar.{more_terms, rest_at, two_off, two_on}
use Rattle.sparc_asm.proofs.Reading.{pushed_length}
use Rattle.sparc_asm.proofs.expressions.sum_of.Goals as goal

pub loop-first-preserved : goal.loop-first-preserved
loop-first-preserved c =
    let front = sym (rest_at c.args.lexemes.now c.loop-first.at) ∙ c.in-Some.ensures.cases.0 in
    let after = two_on c.args.lexemes.now c.in-Some.behind.now c.in-Some-split_first._after.now c.loop-first.at c.in-Some.first.now c.in-Some-split_first.sign.now front c.in-Some-split_first.ensures.cases.0 in
    record {
      read = c.loop-first.invariant.read ∙ more_terms c.loop-first.minus c.in-Some-minus_of.next (drop c.loop-first.at c.args.lexemes.now) c.in-Some.behind.now (drop (c.loop-first.at + 2) c.args.lexemes.now) c.in-Some.first.now c.in-Some-split_first.sign.now c.in-Some-term_of.term c.loop-first.terms _ front (c.in-Some-split_first.ensures.cases.0 ∙ ap (λ xs. c.in-Some-split_first.sign.now ∷ xs) after) (sym c.in-Some-term_of.is ∙ c.term_of.ensures) (sym c.in-Some-minus_of.is ∙ c.minus_of.ensures) c.in_ok-push.ensures.ok;
      few = omega (arith, pushed_length _ _ _ c.in_ok-push.ensures.ok, c.loop-first.invariant.few);
      within = omega (arith, two_off _ _ _ _ _ front c.in-Some-split_first.ensures.cases.0, length-drop c.loop-first.at c.args.lexemes.now);
    }
