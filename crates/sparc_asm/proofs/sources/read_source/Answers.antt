use Rattle.std.proofs.Common.{length, refl, ap, arith}
use Rattle.sparc_asm.proofs.Passes.{start_counted, step_counted, refused_counted, ended_counted}
use Rattle.sparc_asm.proofs.Reading.{pushed_length}
use Rattle.sparc_asm.proofs.sources.read_source.Goals as goal

pub loop-span-init : goal.loop-span-init
loop-span-init c = record {
  reads = start_counted c.args.source.now c.empty-lines.result c.empty-lines.ensures;
  within = omega arith;
  room = omega (arith, ap length c.empty-lines.ensures);
}

pub loop-span-preserved : goal.loop-span-preserved
loop-span-preserved c =
    let order = c.in-Some.ensures.order in
    record {
      reads = step_counted c.args.source.now c.loop-span.from c.len.result c.in-Some.span c.in-Ok.line c.loop-span.lines c.push.new.self _ c.len.ensures c.in-Some.ensures.line (omega (arith, order.2, order.3)) c.loop-span.invariant.reads c.in-Ok.ensures c.in_ok-push-in-Ok.ensures.ok;
      within = order.3;
      room = omega (arith, order.2, pushed_length _ _ _ c.in_ok-push-in-Ok.ensures.ok);
    }

pub returns-in-Err : goal.returns-in-Err
returns-in-Err c =
    let order = c.in-Some.ensures.order in
    refused_counted c.args.source.now c.loop-span.from c.len.result c.in-Some.span c.loop-span.lines _ c.in-Err.e c.len.ensures c.in-Some.ensures.line (omega (arith, order.2, order.3)) c.loop-span.invariant.reads c.in-Err.ensures

pub returns : goal.returns
returns c = ended_counted c.args.source.now c.loop-span.from c.loop-span.lines (c.in_default.ensures.none.0 refl) c.loop-span.invariant.reads
