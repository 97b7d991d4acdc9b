use Rattle.std.proofs.Common.{◌≡◌, ◌∙◌, ◌+◌, sym, length, rules, arith}
use Rattle.sparc_lex.proofs.Cuts.{token_step, pushed}
use Rattle.sparc_lex.proofs.cut.cut_code.Goals as goal

pub loop-first-preserved : goal.loop-first-preserved
loop-first-preserved c = let longer : length c.push.new.self ≡ length c.loop-first.tokens + 1 = pushed _ _ _ c.in_ok-push.ensures.ok in record {
  reads = c.loop-first.invariant.reads ∙ token_step c.args.line c.loop-first.at c.loop-first.rest.now c.in-Some.first.now c.in-Some.behind.now c.split_at.result.1.now c.in-Some-token_from.kind c.in-Some-token_from.length c.loop-first.tokens _ c.in-Some.ensures.cases.0 (sym c.if-has.ensures) (sym c.in-Some-token_from.ensures.token) c.in-Some-token_from.ensures.some c.in_ok-push.ensures.ok c.split_at.ensures.back;
  place = search rules;
  room = omega (arith, longer, c.split_at.ensures.back_len, c.in-Some-token_from.ensures.some);
}
