use Rattle.std.proofs.Common.{length, ap, arith}
use Rattle.sparc_lex.specs.Cut.{tokens_of}
use Rattle.sparc_lex.proofs.Cuts.{lines_start, lines_step, lines_refused}
use Rattle.sparc_lex.proofs.cut.tokens.Goals as goal

pub loop-span-init : goal.loop-span-init
unfolding tokens_of
loop-span-init c = record {
  reads = lines_start _ c.empty-tokens.result c.empty-tokens.ensures;
  lines = omega arith;
  within = omega arith;
  room = omega (arith, ap length c.empty-tokens.ensures);
}

pub loop-span-preserved : goal.loop-span-preserved
loop-span-preserved c =
    let order = c.in-Some.ensures.order in
    record {
      reads = lines_step c.args.source.now c.loop-span.from c.loop-span.line c.in-Some.span c.loop-span.tokens c.cut_line.new.tokens _ c.in-Some.ensures.line (omega (arith, order.2, order.3)) c.loop-span.invariant.reads c.in-Ok.ensures.cut;
      lines = omega (arith, order.2);
      within = order.3;
      room = omega (arith, order.1, c.in-Ok.ensures.room);
    }

pub returns-in-Err : goal.returns-in-Err
returns-in-Err c =
    let order = c.in-Some.ensures.order in
    lines_refused c.args.source.now c.loop-span.from c.loop-span.line c.in-Some.span c.loop-span.tokens c.cut_line.new.tokens _ c.in-Err.e c.in-Some.ensures.line (omega (arith, order.2, order.3)) c.loop-span.invariant.reads c.in-Err.ensures.cut
