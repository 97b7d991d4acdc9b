-- One operation more.
use Rattle.alw_gen.proofs.Programs.{operation_words, operation_draws, operation_count}
use Rattle.alw_gen.proofs.workloads.put_block.Goals as goal

pub loop-operation-preserved : goal.loop-operation-preserved
loop-operation-preserved c = record {
  words = operation_words c.args.lines c.args.size c.loop-operation._operation c.loop-operation.draws.state _ _ c.loop-operation.code _ _ _ c.loop-operation-test.true c.draw.ensures.state c.draw.ensures.number c.operation.ensures c.in_ok-put.ensures c.loop-operation.invariant.words;
  draws = operation_draws c.args.size c.loop-operation._operation c.loop-operation.draws.state _ _ c.loop-operation-test.true c.draw.ensures.state c.loop-operation.invariant.draws;
  count = operation_count c.args.lines c.loop-operation._operation c.draw.result c.loop-operation.code _ c.args.code.now _ c.operation.ensures c.in_ok-put.ensures c.loop-operation.invariant.count;
}
